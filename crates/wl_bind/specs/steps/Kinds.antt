-- The first symbol of another kind than its use asks for, one use after the other.
use Rattle.std.specs.Prelude.{ℕ, ◌+◌, ◌&&◌, Bool, false, not, List, [], ◌∷◌, Option, None, find}
use Rattle.std.specs.Option.{option_or, option_map, option_map_or}
use Rattle.wl_linking.specs.Object.{Object}
use Rattle.wl_custom.specs.RelocationTypes.{names_a_type}
use Rattle.wl_custom.specs.declared.infos.WasmInitFunc.{WasmInitFunc}
use Rattle.wl_symbols.specs.Entries.{symbol_in}
use Rattle.wl_symbols.specs.Input.{Input}
use Rattle.wl_bind.specs.Kinds.{is_wrong_use, is_wrong_init}
use Rattle.wl_bind.specs.Scan.{symbol_of}
use Rattle.wl_symbols.specs.declared.relocated.Relocated.{Relocated}

-- the relocation names a symbol, and doesn't take it
abbrev pub is_wrong_relocation : Input → Relocated → Bool
is_wrong_relocation input r =
    not (names_a_type r.relocation.ty)
    && option_map_or (is_wrong_use input r) (symbol_of input r) false

-- the symbol of that function of the object of that number isn't for one that runs at the start
abbrev pub is_wrong_at : Input → ℕ → WasmInitFunc → Bool
is_wrong_at input object f =
    option_map_or (is_wrong_init input object f.symbol_index)
    (symbol_in input.link.objects object f.symbol_index) false

-- the number of the object, and that of the symbol of one of its functions
abbrev pub init_place : ℕ → WasmInitFunc → ℕ × ℕ
init_place object f = (object, f.symbol_index)

-- the first such symbol of these objects, the first of which has that number
abbrev pub wrong_init_from : Input → ℕ → List Object → Option (ℕ × ℕ)
wrong_init_from input object [] = None
wrong_init_from input object (o ∷ objects) =
    option_or (option_map (init_place object) (find (is_wrong_at input object) o.init_funcs))
    (wrong_init_from input (object + 1) objects)
