-- The functions that run at the start have symbols.
use Rattle.std.proofs.Common.{◌≡◌, length, Some, true, slice_get}
use Rattle.std.specs.List.{Contains}
use Rattle.std.proofs.lemmas.Bool.{ltb-true}
use Rattle.std.proofs.lemmas.List.Elements.{All-contains}
use Rattle.std.proofs.lemmas.List.Sums.{AllPass-from_list_all}
use Rattle.wl_custom.specs.declared.infos.WasmInitFunc.{WasmInitFunc}
use Rattle.wl_linking.specs.Fitting.{IsWhole}
use Rattle.wl_linking.specs.Object.{Object}
use Rattle.wl_linking.specs.Spaces.{init_exists, spaces_of}
use Rattle.wl_custom.specs.Symbols.{Symbol}
use Rattle.wl_lists.proofs.Places.{there_is}

-- a function that runs at the start has one of the symbols
pub init_has_symbol : (o : Object) (f : WasmInitFunc) → IsWhole o → Contains o.init_funcs f → (s : Symbol) × (slice_get o.symbols f.symbol_index ≡ Some s)
init_has_symbol o f w among =
    let all = AllPass-from_list_all (init_exists (spaces_of o)) o.init_funcs w.object.fitting.names.init_funcs in
    let exists = All-contains (λ (g : WasmInitFunc). init_exists (spaces_of o) g ≡ true) o.init_funcs f all among in
    there_is o.symbols f.symbol_index (ltb-true f.symbol_index (length o.symbols) exists)
