-- Functions while they are bound, and types while they are compared.
use Rattle.std.specs.Prelude.{◌≡◌, ◌⊎◌, ℕ, ◌&&◌, if◌then◌else◌, Bool, true, false, not, List, Option, None, slice_get, find, map}
use Rattle.std.specs.List.{filter_map}
use Rattle.std.specs.Option.{option_or, option_map_or, option_and_then}
use Rattle.std.specs.Str.{bytes_eq}
use Rattle.wl_module.specs.Imports.{Imported}
use Rattle.wl_module.specs.Types.{FunctionType, same_type}
use Rattle.wl_linking.specs.Object.{Object}
use Rattle.wl_custom.specs.RelocationTypes.{names_a_type}
use Rattle.wl_custom.specs.Symbols.{Symbol, is_weak, is_function}
use Rattle.wl_linking.specs.declared.error.LinkError.{LinkError}
use Rattle.wl_linking.specs.declared.error.LinkError.TheVariants.{SignatureMismatch}
use Rattle.wl_symbols.specs.Entries.{symbol_in}
use Rattle.wl_symbols.specs.ImportSlots.{ImportSlot}
use Rattle.wl_symbols.specs.Left.{HostImport, place_of_name, place_of_import}
use Rattle.wl_symbols.specs.Input.{Input}
use Rattle.wl_bind.specs.FunctionSymbols.{defined_function, own_function, fun}
use Rattle.wl_bind.specs.FunctionTypes.{type_number, declared_type, target_type}
use Rattle.wl_bind.specs.Signatures.{OnKeptSlot, NamedByInit}
use Rattle.wl_bind.specs.declared.binding.FunctionTarget.{FunctionTarget}
use Rattle.wl_bind.specs.declared.binding.FunctionTarget.TheVariants.{Host, Stub}
use Rattle.wl_bind.specs.declared.resolution.ImportResolution.{ImportResolution}
use Rattle.wl_bind.specs.declared.resolution.ImportResolution.TheVariants.{Unresolved, WeakUndefStub}
use Rattle.wl_symbols.specs.declared.relocated.Relocated.{Relocated}

-- ---- rows

-- what stands in the row of that object at that place
abbrev pub row_at : {X : Type 0} → List (List (Option X)) → ℕ → ℕ → Option X
row_at rows object slot =
    option_and_then (λ row. option_and_then (λ x. x) (slice_get row slot)) (slice_get rows object)

-- ---- slots to which names bind nothing

-- the first of these that has that field name
abbrev pub stub_named : List ℕ → List HostImport → Option HostImport
stub_named name stubs = find (λ (h : HostImport). bytes_eq name h.name) stubs

-- the first of these that has that module and that field name
abbrev pub host_named : List ℕ → List ℕ → List HostImport → Option HostImport
host_named origin name hosts =
    find (λ (h : HostImport). bytes_eq origin h.module_ && bytes_eq name h.name) hosts

-- the host import that the slot is, by its first slot
abbrev pub host_target : List HostImport → ImportSlot → FunctionTarget
host_target hosts t =
    option_map_or
    (λ (h : HostImport). Host h.object h.slot)
    (host_named t.item.origin t.item.name hosts) (Host t.object t.number)

-- the stub that the slot is, or else the host import
abbrev pub left_target : List HostImport → List HostImport → ImportSlot → FunctionTarget
left_target stubs hosts t =
    option_map_or
    (λ (h : HostImport). Stub h.object h.slot)
    (stub_named t.item.name stubs) (host_target hosts t)

-- what the slot is resolved to: its stub, or nothing
abbrev pub left_resolution : List HostImport → ImportSlot → ImportResolution
left_resolution stubs t =
    option_map_or (λ k. WeakUndefStub k) (place_of_name t.item.name stubs) Unresolved

-- the place of the host import that it is, unless it is a stub
abbrev pub left_place : List HostImport → List HostImport → ImportSlot → Option ℕ
left_place stubs hosts t =
    option_map_or
    (λ k. None)
    (place_of_name t.item.name stubs) (place_of_import t.item.origin t.item.name hosts)

-- ---- symbols

-- the function that a symbol leads to which its object defines
abbrev pub defined_target : Input → ℕ → ℕ → Object → Symbol → Option FunctionTarget
defined_target input object number o s =
    if is_weak s then option_or (defined_function input object number) (own_function object o s)
    else own_function object o s

-- ---- types of slots

-- the numbers of the types under which these imports have functions, in order
abbrev pub numbers_in : List Imported → List ℕ
numbers_in imports = filter_map (λ (i : Imported). type_number i.entity) imports

-- those of each object
abbrev pub slot_numbers : List Object → List (List ℕ)
slot_numbers objects = map (λ (o : Object). numbers_in o.imports) objects

-- the number of that place in the row of that object
abbrev pub number_at : List (List ℕ) → ℕ → ℕ → Option ℕ
number_at rows object slot =
    option_and_then (λ (row : List ℕ). slice_get row slot) (slice_get rows object)

-- ---- types that differ

-- what the function is has another type
abbrev pub is_other_type : List Object → FunctionType → FunctionTarget → Bool
is_other_type objects declared target =
    option_map_or (λ actual. not (same_type declared actual)) (target_type objects target) false

-- the function symbol leads to a function of another type
abbrev pub differs : Input → ℕ → Symbol → FunctionTarget → Bool
differs input object s target =
    option_map_or
    (λ declared. is_other_type input.link.objects declared target)
    (declared_type input.link.objects object s) false

-- the symbol of those numbers is a function's, and leads to one of another type
abbrev pub is_mismatch : Input → ℕ → ℕ → Bool
is_mismatch input object number =
    option_map_or
    (λ (s : Symbol). is_function s.kind
    && option_map_or (differs input object s) (fun input object number) false)
    (symbol_in input.link.objects object number) false

-- the relocation names such a symbol
abbrev pub names_mismatch : Input → Relocated → Bool
names_mismatch input r =
    not (names_a_type r.relocation.ty) && is_mismatch input r.object r.relocation.index

-- the refusal names such a symbol
pub record TellsMismatch (input : Input) (object number : ℕ) (e : LinkError) : Type 0 where
  pub so : is_mismatch input object number ≡ true
  pub told : e ≡ SignatureMismatch object number

-- no symbol of the object that it names without a relocation is such a one
abbrev pub AreOwnClear : Input → ℕ → Type 0
AreOwnClear input object =
    (number : ℕ) → OnKeptSlot input object number ⊎ NamedByInit input object number
    → is_mismatch input object number ≡ false
