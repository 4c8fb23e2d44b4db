-- What the GOT lists make of global slots that names leave unresolved, as they are walked through.
use Rattle.std.specs.Prelude.{ℕ, ◌==◌, ◌&&◌, Bool, true, false, not, List, length, codes, if◌then◌else◌, position}
use Rattle.std.specs.Option.{option_map_or}
use Rattle.std.specs.Str.{bytes_eq}
use Rattle.wl_module.specs.Imports.{Imported}
use Rattle.wl_linking.specs.Object.{Object}
use Rattle.wl_custom.specs.declared.symbols.WasmSymbolKind.TheVariants.{Global}
use Rattle.wl_symbols.specs.ImportSlots.{slot_imports}
use Rattle.wl_symbols.specs.Input.{Input, keeps_slot}
use Rattle.wl_symbols.specs.declared.entry.Definition.{Definition}
use Rattle.wl_bind.specs.Stepped.{stepped}
use Rattle.wl_bind.specs.declared.resolution.ObjectImportResolutions.{ObjectImportResolutions}
use Rattle.wl_bind.specs.declared.binding.FunctionTarget.{FunctionTarget}
use Rattle.wl_bind.specs.Scan.{Named, Scanned}
use Rattle.wl_bind.specs.declared.resolution.ImportResolution.{ImportResolution}
use Rattle.wl_bind.specs.declared.resolution.ImportResolution.TheVariants.{Unresolved, ResolvedFunction, ResolvedGlobal, LinkerDefined, WeakUndefStub, GotMemSlot, GotFuncSlot}

-- an entry has that name; an empty name is none
abbrev pub has_that_name : List ℕ → List ℕ → Bool
has_that_name name entry = not (length name == 0) && bytes_eq entry name

-- what an import of that module and field name is by the entries of the GOT lists
abbrev pub later_by_got : Scanned → List ℕ → List ℕ → ImportResolution
later_by_got scan origin name =
    if bytes_eq origin (codes "GOT.mem")
    then option_map_or GotMemSlot
    (position (λ (e : Named Definition). has_that_name name e.name) scan.got_mem) Unresolved
    else if bytes_eq origin (codes "GOT.func")
    then option_map_or GotFuncSlot
    (position (λ (e : Named (Definition × FunctionTarget)). has_that_name name e.name) scan.got_func) Unresolved
    else Unresolved

-- the slot isn't resolved yet
abbrev pub is_unresolved : ImportResolution → Bool
is_unresolved Unresolved = true
is_unresolved (ResolvedFunction object number) = false
is_unresolved (ResolvedGlobal object number) = false
is_unresolved (LinkerDefined m) = false
is_unresolved (WeakUndefStub place) = false
is_unresolved (GotMemSlot place) = false
is_unresolved (GotFuncSlot place) = false

-- the global slots of an object, and the lists for them
pub record Walk : Type 0 where
  pub input : Input
  pub scan : Scanned
  pub object : ℕ

abbrev pub walk_of : Input → Scanned → ℕ → Walk
walk_of input scan object = record { input = input; scan = scan; object = object }

-- the slot of that number by the lists, where it is kept and isn't resolved yet
abbrev pub walked_at : Walk → ℕ → Imported → ImportResolution → ImportResolution
walked_at w number i old =
    if is_unresolved old && keeps_slot w.input Global w.object number
    then later_by_got w.scan i.origin i.name else old

-- the globals that the object imports, one after the other, by the lists
abbrev pub walked : Walk → Object → List ImportResolution → List ImportResolution
walked w o olds = stepped (walked_at w) 0 (slot_imports Global o.imports) olds

-- the resolutions of an object, with the global slots by the lists
abbrev pub globals_walked : Input → Scanned → ℕ → Object → ObjectImportResolutions
    → ObjectImportResolutions
globals_walked input scan object o row =
    record row {
      global_resolutions = walked (walk_of input scan object) o row.global_resolutions;
    }

-- the resolutions of an object with these of its function slots
abbrev pub with_functions : ℕ → List ImportResolution → ObjectImportResolutions
    → ObjectImportResolutions
with_functions object functions row = record row { function_resolutions = functions }
