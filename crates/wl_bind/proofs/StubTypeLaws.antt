-- Each stub has a type, since objects are whole.
use Rattle.std.proofs.Common.{◌≡◌, ◌∙◌, ℕ, ◌+◌, true, List, [], ◌∷◌, length, refl, ap, inl, inr, Option, Some, None, slice_get, nat_lt, Bool}
use Rattle.std.specs.List.{AllByRecursion}
use Rattle.std.proofs.lemmas.Bool.{ltb-true}
use Rattle.std.specs.Option.{option_and_then, is_none}
use Rattle.wl_module.specs.Imports.{Imported}
use Rattle.wl_module.specs.Types.{FunctionType}
use Rattle.wl_module.specs.declared.imports.ImportEntity.{ImportEntity}
use Rattle.wl_module.specs.declared.imports.ImportEntity.TheVariants as entity
use Rattle.wl_linking.specs.Fitting.{IsWhole, IsFitting}
use Rattle.wl_linking.specs.Object.{Object}
use Rattle.wl_linking.specs.Spaces.{spaces_of, import_exists}
use Rattle.wl_custom.specs.Symbols.{Symbol}
use Rattle.wl_custom.specs.declared.symbols.WasmSymbolKind.{WasmSymbolKind}
use Rattle.wl_custom.specs.declared.symbols.WasmSymbolKind.TheVariants.{Func}
use Rattle.wl_symbols.specs.ImportSlots.{ImportSlot, is_slot_of, slot_imports, numbered_slots}
use Rattle.wl_symbols.specs.Left.{same_field, is_stub, stub_slots}
use Rattle.wl_symbols.specs.SlotTargets.{slot_target}
use Rattle.wl_symbols.specs.Input.{Input}
use Rattle.wl_symbols.specs.KeptSlots.{slots_from, is_kept_slot, kept_slots}
use Rattle.wl_bind.specs.FunctionBinding.{left_functions, link_stubs}
use Rattle.wl_bind.specs.FunctionTypes.{type_in, type_number, slot_type, stub_types}
use Rattle.wl_lists.proofs.Firsts.{in_firsts}
use Rattle.wl_lists.proofs.In.{IsIn, in_filter, all_mapped}
use Rattle.wl_lists.proofs.Places.{all_at, there_is}
use Rattle.wl_bind.proofs.OnceParts.{passes}
use Rattle.wl_bind.proofs.ListLaws.{all_in}
use Rattle.wl_bind.proofs.HostLaws.{slot_in}

-- ---- what a slot is made of

-- a slot is made of an import
import_of : (i : ℕ) (kind : WasmSymbolKind) (symbols : List Symbol) (n : ℕ) (imports : List Imported) (t : ImportSlot)
    → IsIn (numbered_slots i kind symbols n imports) t → IsIn imports t.item
import_of i kind symbols n [] t h = absurd h
import_of i kind symbols n (m ∷ imports) t (inl e) = inl (ap (λ (s : ImportSlot). s.item) e)
import_of i kind symbols n (m ∷ imports) t (inr r) = inr (import_of i kind symbols (n + 1) imports t r)

-- ---- its type

-- an import that exists and is a function has a type
typed_import : (o : Object) (m : Imported) (e : ImportEntity) → m.entity ≡ e → is_slot_of Func e ≡ true
    → import_exists (spaces_of o) m ≡ true
    → (ty : FunctionType) × (option_and_then (slice_get o.types) (type_number e) ≡ Some ty)
typed_import o m (entity.Func n) is slot exists =
    let exists' : nat_lt n (length o.types) ≡ true = rw is at exists in
    there_is o.types n (ltb-true n (length o.types) exists')
typed_import o m _ is slot exists = absurd cc

types_there : (objects : List Object) (i : ℕ) (o : Object) (number : Option ℕ) → slice_get objects i ≡ Some o
    → option_and_then (type_in objects i) number ≡ option_and_then (slice_get o.types) number
types_there objects i o None at = refl
types_there objects i o (Some n) at = rw at refl

-- a function slot of whole objects has a type
pub slot_typed : (objects : List Object) (t : ImportSlot) → AllByRecursion IsWhole objects
    → ((o : Object) → IsWhole o → IsFitting o) → IsIn (slots_from Func 0 objects) t
    → (ty : FunctionType) × (slot_type objects t ≡ Some ty)
slot_typed objects t whole fitting h =
    let s = slot_in objects Func t h in
    let o : Object = s.object in
    let fits = fitting o (all_at IsWhole objects t.object o whole s.here) in
    let item = import_of t.object Func o.symbols 0 (slot_imports Func o.imports) t s.among in
    let is_slot : Imported → Bool = λ (i : Imported). is_slot_of Func i.entity in
    let exists = all_in (import_exists (spaces_of o)) o.imports t.item fits.names.imports (in_filter is_slot o.imports t.item item) in
    let typed = typed_import o t.item t.item.entity refl (passes is_slot o.imports t.item item) exists in
    (typed.0, types_there objects t.object o (type_number t.item.entity) s.here ∙ typed.1)

-- ---- stubs

-- there are as many types of stubs as stubs
pub stubs_typed : (input : Input) → AllByRecursion IsWhole input.link.objects → ((o : Object) → IsWhole o → IsFitting o)
    → length (stub_types input) ≡ length (link_stubs input)
stubs_typed input whole fitting =
    all_mapped (slot_type input.link.objects) (link_stubs input)
    (λ t h. slot_typed input.link.objects t whole fitting
    (in_filter (is_kept_slot input) (slots_from Func 0 input.link.objects) t
    (in_filter (λ (s : ImportSlot). is_none (slot_target input.link s)) (kept_slots input Func) t
    (in_filter (is_stub input.link.objects (left_functions input)) (left_functions input) t
    (in_firsts same_field (stub_slots input.link.objects (left_functions input)) t h)))))
