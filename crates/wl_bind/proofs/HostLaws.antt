-- Slots that are left to the host: those that are kept, and that no rule resolves.
use Rattle.std.proofs.Common.{◌≡◌, ◌∙◌, ℕ, zero, suc, ◌+◌, ◌&&◌, Bool, true, false, List, [], ◌∷◌, map, Option, Some, None, refl, sym, ap, arith, slice_get, if◌then◌else◌, subst, ◌++◌}
use Rattle.std.specs.Option.{option_map, option_map_or, option_and_then}
use Rattle.std.proofs.lemmas.Option.{slice_get-map}
use Rattle.wl_module.specs.Imports.{Imported}
use Rattle.wl_linking.specs.Object.{Object}
use Rattle.wl_custom.specs.Symbols.{Symbol as LinkedSymbol}
use Rattle.wl_custom.specs.declared.symbols.WasmSymbolKind.{WasmSymbolKind}
use Rattle.wl_custom.specs.declared.symbols.WasmSymbolKind.TheVariants.{Func, Global}
use Rattle.wl_symbols.specs.ImportSlots.{ImportSlot, slot_imports, numbered_slots, object_slots, import_slots}
use Rattle.wl_symbols.specs.Input.{Input, keeps_slot}
use Rattle.wl_symbols.specs.KeptSlots.{is_kept_slot, slots_from}
use Rattle.wl_bind.specs.FunctionBinding.{binds_function}
use Rattle.wl_bind.specs.GlobalBinding.{binds_global}
use Rattle.wl_bind.specs.Resolutions.{as_function, function_resolution, as_global, global_resolution, Resolving, rows_from, by_all_rules, resolutions}
use Rattle.wl_bind.specs.Later.{is_unresolved}
use Rattle.wl_bind.specs.Undefined.{is_host_function, is_host_global, is_host_slot}
use Rattle.wl_bind.specs.steps.Shared.{resolution_at, is_host_at}
use Rattle.wl_bind.specs.declared.binding.FunctionTarget.{FunctionTarget}
use Rattle.wl_bind.specs.declared.binding.FunctionTarget.TheVariants as function
use Rattle.wl_bind.specs.declared.binding.GlobalTarget.{GlobalTarget}
use Rattle.wl_bind.specs.declared.binding.GlobalTarget.TheVariants as global
use Rattle.wl_bind.specs.declared.resolution.ImportResolution.{ImportResolution}
use Rattle.wl_bind.specs.declared.resolution.ImportResolution.TheVariants.{Unresolved}
use Rattle.wl_bind.specs.declared.resolution.ObjectImportResolutions.{ObjectImportResolutions}
use Rattle.wl_bind.specs.Parts.{by_object}
use Rattle.wl_lists.proofs.In.{IsIn, place_in}
use Rattle.wl_lists.proofs.Rows.{Given, given_by}

-- ---- a slot

-- a function is the host's exactly where it is resolved to nothing
host_function : (input : Input) (t : ImportSlot) (f : FunctionTarget) → is_unresolved (as_function input t f) ≡ is_host_function f
host_function input t (function.Host object slot) = refl
host_function input t _ = refl

-- so is a global
host_global : (input : Input) (g : GlobalTarget) → is_unresolved (as_global input g) ≡ is_host_global g
host_global input (global.Host object slot) = refl
host_global input _ = refl

-- a slot that is kept
where_kept : (kept : Bool) (r : ImportResolution) (host : Bool) → is_unresolved r ≡ host
    → (kept && is_unresolved (if kept then r else Unresolved)) ≡ (kept && host)
where_kept true r host same = same
where_kept false r host same = refl

pub host_function_slot : (input : Input) (t : ImportSlot)
    → (is_kept_slot input t && is_unresolved (function_resolution input t)) ≡ is_host_slot input Func t
host_function_slot input t =
    where_kept (is_kept_slot input t) (as_function input t (binds_function input t)) (is_host_function (binds_function input t))
    (host_function input t (binds_function input t))

pub host_global_slot : (input : Input) (t : ImportSlot)
    → (is_kept_slot input t && is_unresolved (global_resolution input t)) ≡ is_host_slot input Global t
host_global_slot input t =
    where_kept (is_kept_slot input t) (as_global input (binds_global input t)) (is_host_global (binds_global input t))
    (host_global input (binds_global input t))

-- ---- numbers of slots

-- a slot of that object, kind and number
pub record IsAt (object : ℕ) (kind : WasmSymbolKind) (number : ℕ) (t : ImportSlot) : Type 0 where
  pub object_is : t.object ≡ object
  pub kind_is : t.kind ≡ kind
  pub number_is : t.number ≡ number

numbered : (object : ℕ) (kind : WasmSymbolKind) (ss : List LinkedSymbol) (n : ℕ) (is : List Imported) (k : ℕ) (t : ImportSlot)
    → slice_get (numbered_slots object kind ss n is) k ≡ Some t → IsAt object kind (n + k) t
numbered object kind ss n [] k t here = absurd cc
numbered object kind ss n (i ∷ is) zero t here = record {
  object_is = cc;
  kind_is = cc;
  number_is = (let same : n ≡ t.number = cc in omega (arith, same));
}
numbered object kind ss n (i ∷ is) (suc k) t here =
    let rest = numbered object kind ss (n + 1) is k t here in record {
      object_is = rest.object_is;
      kind_is = rest.kind_is;
      number_is = (let number = rest.number_is in omega (arith, number));
    }

-- the slot at a place of an object
placed_in : (object : ℕ) (kind : WasmSymbolKind) (found : Option Object) (k : ℕ) (t : ImportSlot)
    → slice_get (option_map_or (object_slots object kind) found []) k ≡ Some t → IsAt object kind k t
placed_in object kind None k t here = absurd cc
placed_in object kind (Some o) k t here =
    let at = numbered object kind o.symbols 0 (slot_imports kind o.imports) k t here in record {
      object_is = at.object_is;
      kind_is = at.kind_is;
      number_is = (let number = at.number_is in omega (arith, number));
    }

pub placed : (objects : List Object) (object : ℕ) (kind : WasmSymbolKind) (k : ℕ) (t : ImportSlot)
    → slice_get (import_slots objects object kind) k ≡ Some t → IsAt object kind k t
placed objects object kind k t here = placed_in object kind (slice_get objects object) k t here

-- the slots of an object that is there
pub slots_here : (objects : List Object) (object : ℕ) (kind : WasmSymbolKind) (o : Object) → slice_get objects object ≡ Some o
    → import_slots objects object kind ≡ object_slots object kind o
slots_here objects object kind o at = rw at refl

-- ---- the slots of all objects

slots_by_object : (kind : WasmSymbolKind) (i : ℕ) (objects : List Object)
    → slots_from kind i objects ≡ by_object (λ (j : ℕ) (o : Object). object_slots j kind o) i objects
slots_by_object kind i [] = refl
slots_by_object kind i (o ∷ objects) =
    ap (λ (ts : List ImportSlot). object_slots i kind o ++ ts) (slots_by_object kind (i + 1) objects)

pub record IsSlotIn (objects : List Object) (kind : WasmSymbolKind) (t : ImportSlot) : Type 0 where
  pub object : Object
  pub here : slice_get objects t.object ≡ Some object
  pub among : IsIn (object_slots t.object kind object) t
  pub at : slice_get (import_slots objects t.object kind) t.number ≡ Some t

pub slot_in : (objects : List Object) (kind : WasmSymbolKind) (t : ImportSlot) → IsIn (slots_from kind 0 objects) t → IsSlotIn objects kind t
slot_in objects kind t h =
    let f : ℕ → Object → List ImportSlot = λ (j : ℕ) (o : Object). object_slots j kind o in
    let all : IsIn (by_object f 0 objects) t = subst (λ (ts : List ImportSlot). IsIn ts t) (slots_by_object kind 0 objects) h in
    let g : Given f 0 objects t = given_by f 0 objects t all in
    let same : 0 + g.place ≡ g.place = omega arith in
    let o : Object = g.object in
    let there : IsIn (object_slots g.place kind o) t = subst (λ (n : ℕ). IsIn (object_slots n kind o) t) same g.there in
    let found = place_in (object_slots g.place kind o) t there in
    let at : slice_get (import_slots objects g.place kind) found.0 ≡ Some t =
    subst (λ (ts : List ImportSlot). slice_get ts found.0 ≡ Some t) (sym (slots_here objects g.place kind o g.at)) found.1 in
    let is : IsAt g.place kind found.0 t = placed objects g.place kind found.0 t at in
    record {
      object = o;
      here = subst (λ (n : ℕ). slice_get objects n ≡ Some o) (sym is.object_is) g.at;
      among = subst (λ (n : ℕ). IsIn (object_slots n kind o) t) (sym is.object_is) there;
      at = subst (λ (n : ℕ). slice_get (import_slots objects t.object kind) n ≡ Some t) (sym is.number_is)
          (subst (λ (n : ℕ). slice_get (import_slots objects n kind) found.0 ≡ Some t) (sym is.object_is) at);
    }

-- ---- the rows of all objects

-- the row of an object
abbrev pub row_of : Resolving → ℕ → Object → ObjectImportResolutions
row_of by object o = record {
  function_resolutions = map by.functions (object_slots object Func o);
  global_resolutions = map by.globals (object_slots object Global o);
}

-- each object has one
pub row_at : (by : Resolving) (n m : ℕ) (os : List Object) (k : ℕ) → m ≡ n + k
    → slice_get (rows_from by n os) k ≡ option_map (row_of by m) (slice_get os k)
row_at by n m [] k is = refl
row_at by n m (o ∷ os) zero is = let same : n ≡ m = omega (arith, is) in ap (λ (i : ℕ). Some (row_of by i o)) same
row_at by n m (o ∷ os) (suc k) is = row_at by (n + 1) m os k (omega (arith, is))

found_function : (by : Resolving) (object number : ℕ) (found : Option Object)
    → option_and_then (λ (row : ObjectImportResolutions). slice_get row.function_resolutions number) (option_map (row_of by object) found)
    ≡ option_map by.functions (slice_get (option_map_or (object_slots object Func) found []) number)
found_function by object number None = refl
found_function by object number (Some o) = slice_get-map by.functions (object_slots object Func o) number

found_global : (by : Resolving) (object number : ℕ) (found : Option Object)
    → option_and_then (λ (row : ObjectImportResolutions). slice_get row.global_resolutions number) (option_map (row_of by object) found)
    ≡ option_map by.globals (slice_get (option_map_or (object_slots object Global) found []) number)
found_global by object number None = refl
found_global by object number (Some o) = slice_get-map by.globals (object_slots object Global o) number

-- ---- a slot in its row

-- it is kept, where it is that of the numbers
pub kept_at : (input : Input) (object : ℕ) (kind : WasmSymbolKind) (number : ℕ) (t : ImportSlot) → IsAt object kind number t
    → keeps_slot input kind object number ≡ is_kept_slot input t
kept_at input object kind number t at =
    ap (λ (k : WasmSymbolKind). keeps_slot input k object number) (sym at.kind_is)
    ∙ (ap (λ (o : ℕ). keeps_slot input t.kind o number) (sym at.object_is)
    ∙ ap (λ (n : ℕ). keeps_slot input t.kind t.object n) (sym at.number_is))

-- it is the host's where it is kept and isn't resolved
slot_in_row : (input : Input) (kind : WasmSymbolKind) (object number : ℕ) (resolves : ImportSlot → ImportResolution)
    → ((t : ImportSlot) → (is_kept_slot input t && is_unresolved (resolves t)) ≡ is_host_slot input kind t)
    → (found : Option ImportSlot) → ((t : ImportSlot) → found ≡ Some t → IsAt object kind number t)
    → option_map_or (λ (r : ImportResolution). keeps_slot input kind object number && is_unresolved r) (option_map resolves found) false
    ≡ option_map_or (is_host_slot input kind) found false
slot_in_row input kind object number resolves tells None at = refl
slot_in_row input kind object number resolves tells (Some t) at =
    ap (λ (kept : Bool). kept && is_unresolved (resolves t)) (kept_at input object kind number t (at t refl)) ∙ tells t

-- other kinds have no slots that are the host's
no_host : (kind : WasmSymbolKind) (input : Input) (found : Option ImportSlot) → ((t : ImportSlot) → is_host_slot input kind t ≡ false)
    → false ≡ option_map_or (is_host_slot input kind) found false
no_host kind input None none = refl
no_host kind input (Some t) none = sym (none t)

-- what the row says of a slot
abbrev is_host_in : Input → WasmSymbolKind → ℕ → ℕ → Option ImportResolution → Bool
is_host_in input kind object number found =
    option_map_or (λ (r : ImportResolution). keeps_slot input kind object number && is_unresolved r) found false

row_says : (input : Input) (kind : WasmSymbolKind) (object number : ℕ)
    → is_host_in input kind object number (resolution_at (resolutions input (by_all_rules input)) kind object number)
    ≡ is_host_at input kind object number
row_says input Func object number =
    let objects = input.link.objects in
    let by = by_all_rules input in
    ap (is_host_in input Func object number)
    (ap (λ (row : Option ObjectImportResolutions). option_and_then (λ (row : ObjectImportResolutions). slice_get row.function_resolutions number) row)
    (row_at by 0 object objects object (omega arith))
    ∙ found_function by object number (slice_get objects object))
    ∙ slot_in_row input Func object number (function_resolution input) (host_function_slot input)
    (slice_get (import_slots objects object Func) number) (placed objects object Func number)
row_says input Global object number =
    let objects = input.link.objects in
    let by = by_all_rules input in
    ap (is_host_in input Global object number)
    (ap (λ (row : Option ObjectImportResolutions). option_and_then (λ (row : ObjectImportResolutions). slice_get row.global_resolutions number) row)
    (row_at by 0 object objects object (omega arith))
    ∙ found_global by object number (slice_get objects object))
    ∙ slot_in_row input Global object number (global_resolution input) (host_global_slot input)
    (slice_get (import_slots objects object Global) number) (placed objects object Global number)
row_says input kind object number = no_host kind input (slice_get (import_slots input.link.objects object kind) number) (λ t. refl)

pub told : (input : Input) (rows : List ObjectImportResolutions) (kind : WasmSymbolKind) (object number : ℕ) (found : Option ImportResolution)
    → rows ≡ resolutions input (by_all_rules input) → found ≡ resolution_at rows kind object number
    → option_map_or (λ (r : ImportResolution). keeps_slot input kind object number && is_unresolved r) found false
    ≡ is_host_at input kind object number
told input rows kind object number found are is =
    ap (is_host_in input kind object number)
    (is ∙ ap (λ (rs : List ObjectImportResolutions). resolution_at rs kind object number) are)
    ∙ row_says input kind object number
