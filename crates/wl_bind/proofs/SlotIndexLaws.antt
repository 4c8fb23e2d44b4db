-- What slots are resolved to has its entry.
use Rattle.std.proofs.Common.{◌≡◌, ◌∙◌, ◌<◌, ◌≤◌, ℕ, zero, suc, ◌+◌, Bool, true, false, not, List, [], ◌∷◌, ◌++◌, length, map, find, position, refl, sym, ap, subst, arith, inl, inr, Option, Some, None, unwrap_or, slice_get, Contains, if◌then◌else◌}
use Rattle.std.specs.List.{AllZip}
use Rattle.std.specs.Option.{option_map_or, option_and_then, is_none}
use Rattle.std.proofs.lemmas.Option.{slice_get_within}
use Rattle.wl_linking.specs.Object.{Object}
use Rattle.wl_custom.specs.declared.symbols.WasmSymbolKind.{WasmSymbolKind}
use Rattle.wl_custom.specs.declared.symbols.WasmSymbolKind.TheVariants.{Func}
use Rattle.wl_symbols.specs.LinkerNames.{kind_of, matches_kind}
use Rattle.wl_symbols.specs.declared.linker_symbol.WasmLinkerSymbol.{WasmLinkerSymbol}
use Rattle.wl_symbols.specs.declared.linker_symbol.WasmLinkerSymbol.TheVariants.{CallCtors, InitTls}
use Rattle.wl_symbols.specs.Live.{is_live, live_below, ordinal_of, IsLiveOf}
use Rattle.wl_symbols.specs.declared.units.LinkUnit.{LinkUnit}
use Rattle.wl_symbols.specs.declared.units.WasmGcUnit.{WasmGcUnit}
use Rattle.wl_symbols.specs.declared.units.WasmGcUnit.TheVariants.{DefinedFunction, FunctionImport}
use Rattle.wl_symbols.specs.ImportSlots.{ImportSlot, object_slots, import_slots}
use Rattle.wl_symbols.specs.Left.{HostImport, same_field, same_import, is_stub, first_imports, first_slot, first_like}
use Rattle.wl_symbols.specs.SlotTargets.{slot_target}
use Rattle.wl_symbols.specs.declared.targets.SlotTarget.{SlotTarget}
use Rattle.wl_symbols.specs.declared.targets.SlotTarget.TheVariants as slot
use Rattle.wl_index.specs.declared.index.TheConstants.{WASM_DEAD_INDEX, MAX_ENTRIES}
use Rattle.wl_bind.specs.FunctionBinding.{left_functions, link_stubs, host_functions, by_host, binds_function, named_function}
use Rattle.wl_bind.specs.FunctionSpace.{FunctionEntry, FunctionOf, made_function_part, init_memory_part, stub_part, object_functions, function_parts, function_space}
use Rattle.wl_symbols.specs.Input.{Input, keeps_slot}
use Rattle.wl_symbols.specs.KeptSlots.{is_kept_slot, kept_slots, slots_from}
use Rattle.wl_bind.specs.MadeIndices.{StandsAt}
use Rattle.wl_bind.specs.steps.Numbering.{IsNumbering}
use Rattle.wl_bind.specs.steps.Numbered.{FitsPlace, HasIndex, IsResolvedIndex, host_place, resolution_of, IsSlotIndex, HasRoom, behind_first}
use Rattle.wl_bind.specs.Parts.{AreStarts, joined, IsIndexOf, AreIndicesOf, start_of}
use Rattle.wl_bind.specs.Resolutions.{kept_number, stub_place, as_function, function_resolution}
use Rattle.wl_bind.specs.SlotRows.{slot_rows}
use Rattle.wl_bind.specs.Shared.{import_place, import_places, place_in, place_at, Shared}
use Rattle.wl_bind.specs.Undefined.{is_host_slot}
use Rattle.wl_bind.specs.declared.binding.FunctionTarget.{FunctionTarget}
use Rattle.wl_bind.specs.declared.binding.FunctionTarget.TheVariants as function
use Rattle.wl_bind.specs.declared.numbering.Numbering.{Numbering}
use Rattle.wl_bind.specs.declared.parts.PartStarts.{PartStarts}
use Rattle.wl_bind.specs.declared.resolution.ImportResolution.{ImportResolution}
use Rattle.wl_bind.specs.declared.resolution.ImportResolution.TheVariants.{Unresolved, ResolvedFunction, LinkerDefined, WeakUndefStub}
use Rattle.wl_lists.proofs.Beside.{zip_joined}
use Rattle.wl_lists.proofs.Found.{cases_option}
use Rattle.wl_lists.proofs.In.{Contains-filter, at_is_in}
use Rattle.wl_lists.proofs.Places.{get_in_front, mapped_at}
use Rattle.wl_bind.proofs.ClosedLaws.{SlotLaws, AreUnits, function_units, bound_of_kind, is_function, kept_definition}
use Rattle.wl_bind.specs.steps.Laws.{LinkLaws}
use Rattle.wl_bind.proofs.HostLaws.{IsAt, placed, kept_at, slots_here}
use Rattle.wl_bind.proofs.LeftLaws.{no_place, some_place, stub_found, no_stub, named_binds, left_bound, stub_bound}
use Rattle.wl_bind.proofs.MadeLaws.{BindingLaws, bound_is_made_function}
use Rattle.wl_bind.proofs.NumberingLaws.{zip_map, fits, function_at, has_ordinal, OwnAt}
use Rattle.wl_bind.proofs.RowLaws.{slot_is_one}
use Rattle.wl_symbols.specs.Units.{unit_index}
use Rattle.wl_bind.proofs.StartLaws.{next_is}

-- ---- what the crates below say

-- of what slots are bound to, and of names
pub binding_of : LinkLaws → BindingLaws
binding_of laws = record {
  slots = record { targets = laws.targets; closed = laws.by_slot };
  names = laws.names;
  symbols = laws.symbols;
}

-- ---- parts

-- a place in a part has an entry
pub has_entry : {X : Type 0} (parts : List (List X)) (s : PartStarts) (k place : ℕ) (part : List X) → AreStarts parts s
    → slice_get parts k ≡ Some part → place < length part → start_of s k + place < start_of s (k + 1)
has_entry parts s k place part are at lt = let next = next_is parts s k part are at in omega (arith, next, lt)

-- ---- lists

-- what is made of what stands at a place, by what is made of it first
get_via : {X Y Z : Type 0} (f : X → Y) (h : Y → Z) (xs : List X) (k : ℕ) (y : Y) → slice_get (map f xs) k ≡ Some y
    → slice_get (map (λ x. h (f x)) xs) k ≡ Some (h y)
get_via f h [] k y at = absurd cc
get_via f h (x ∷ xs) zero y at = let e : f x ≡ y = cc in ap (λ (z : _). Some (h z)) e
get_via f h (x ∷ xs) (suc k) y at = get_via f h xs k y at

-- what stands in the first part stands in the space
in_front : {Y : Type 0} (first : List Y) (others : List (List Y)) (rest : List Y) (p : ℕ) (y : Y)
    → slice_get first p ≡ Some y → slice_get (joined (first ∷ others) ++ rest) p ≡ Some y
in_front first others rest p y at =
    get_in_front (first ++ joined others) rest p y (get_in_front first (joined others) p y at)

-- ---- the places of host imports

place_at_slot : {X : Type 0} (f : X → Option ℕ) (xs : List X) (k : ℕ) (x : X) → slice_get xs k ≡ Some x
    → option_and_then (λ (p : Option ℕ). p) (slice_get (map f xs) k) ≡ f x
place_at_slot f [] k x at = absurd cc
place_at_slot f (y ∷ xs) zero x at = let e : y ≡ x = cc in ap f e
place_at_slot f (y ∷ xs) (suc k) x at = place_at_slot f xs k x at

places_in : (input : Input) (kind : WasmSymbolKind) (imports : List HostImport) (n m : ℕ) (os : List Object) (i k : ℕ) (t : ImportSlot)
    → n + i ≡ m → slice_get (option_map_or (object_slots m kind) (slice_get os i) []) k ≡ Some t
    → place_in (slot_rows (import_place input kind imports) kind n os) i k ≡ import_place input kind imports t
places_in input kind imports n m [] i k t is at = absurd cc
places_in input kind imports n m (o ∷ os) zero k t is at =
    let same : m ≡ n = omega (arith, is) in
    place_at_slot (import_place input kind imports) (object_slots n kind o) k t (rw same at at)
places_in input kind imports n m (o ∷ os) (suc i) k t is at =
    places_in input kind imports (n + 1) m os i k t (omega (arith, is)) at

-- the slot's own numbers lead to its place
slot_place : (input : Input) (kind : WasmSymbolKind) (imports : List HostImport) (object k : ℕ) (t : ImportSlot)
    → slice_get (import_slots input.link.objects object kind) k ≡ Some t
    → place_in (import_places input kind imports) t.object t.number ≡ import_place input kind imports t
slot_place input kind imports object k t here =
    let at : IsAt object kind k t = placed input.link.objects object kind k t here in
    let rows : List (List (Option ℕ)) = import_places input kind imports in
    ap (λ (i : ℕ). place_in rows i t.number) at.object_is
    ∙ (ap (λ (m : ℕ). place_in rows object m) at.number_is
    ∙ places_in input kind imports 0 object input.link.objects object k t (omega arith) here)

-- ---- what a slot is resolved to leads to its entry

pub record Leads {Y : Type 0} (n : Numbering) (kind : WasmSymbolKind) (t : ImportSlot) (r : ImportResolution)
    (space : List Y) (y : Y) : Type 0 where
  pub has : HasIndex n (host_place n kind t) r
  pub stands : (index : ℕ) → IsResolvedIndex n (host_place n kind t) r index → slice_get space index ≡ Some y

-- what an object defines, where its unit is kept
pub own_leads : {Y : Type 0} (n : Numbering) (kind : WasmSymbolKind) (t : ImportSlot) (i : ℕ) (unit : WasmGcUnit) (firsts : List ℕ)
    (space : List Y) (y : Y) (resolution : ℕ → ImportResolution) → length space ≤ MAX_ENTRIES
    → is_live n.input.now.live (record { object = i; unit = unit }) ≡ true
    → ((m : ℕ) → ordinal_of n.input.now.live (record { object = i; unit = unit }) ≡ Some m → OwnAt firsts space i m y)
    → ((m : ℕ) → HasRoom firsts i m → HasIndex n (host_place n kind t) (resolution m))
    → ((m index : ℕ) → IsResolvedIndex n (host_place n kind t) (resolution m) index → index ≡ behind_first firsts i m)
    → Leads n kind t (resolution (kept_number n.input.now i unit)) space y
own_leads n kind t i unit firsts space y resolution room kept stands has index_is =
    let u : LinkUnit = record { object = i; unit = unit } in
    let m : ℕ = live_below n.input.now.live u (unit_index unit) in
    let ordinal : ordinal_of n.input.now.live u ≡ Some m = has_ordinal n.input.now.live u kept in
    let number : kept_number n.input.now i unit ≡ m = ap (λ (o : Option ℕ). unwrap_or o 0) ordinal in
    let at = stands m ordinal in
    subst (λ (k : ℕ). Leads n kind t (resolution k) space y) (sym number)
    (record {
      has = has m (fits firsts space i m y room at);
      stands = λ index e.
          let sum : index ≡ at.first + m = index_is m index e ∙ ap (λ (o : Option ℕ). unwrap_or o 0 + m) at.first_is in
          subst (λ (x : ℕ). slice_get space x ≡ Some y) (sym sum) at.stands;
    })

made_leads : LinkLaws → (n : Numbering) (t : ImportSlot) (m : WasmLinkerSymbol)
    → Contains (kept_slots n.input.now Func) t
    → binds_function n.input.now t ≡ function.Made m → matches_kind Func m ≡ true
    → Leads n Func t (LinkerDefined m) (function_space n.input.now) (FunctionOf (function.Made m))
made_leads laws n t m kept bound of_kind =
    record {
      has = tt;
      stands = λ index made.
          subst (λ (kind : WasmSymbolKind). StandsAt n.input.now m kind index) (is_function (kind_of m) of_kind)
          (made (bound_is_made_function (binding_of laws) n.input.now t m kept bound));
    }

stub_leads : (n : Numbering) → IsNumbering n.input.now n → (t s : ImportSlot)
    → find (same_field t) (link_stubs n.input.now) ≡ Some s
    → Leads n Func t (WeakUndefStub (stub_place n.input.now t)) (function_space n.input.now) (FunctionOf (function.Stub s.object s.number))
stub_leads n is t s found = elim (cases_option (position (same_field t) (link_stubs n.input.now))) [
  | inl none ↦ absurd (let e : None ≡ Some s = sym (no_place (same_field t) (link_stubs n.input.now) none) ∙ found in cc)
  | inr p ↦
      (let input : Input = n.input.now in
      let place : stub_place input t ≡ p.0 = ap (λ (o : Option ℕ). unwrap_or o 0) p.1 in
      let there : slice_get (link_stubs input) p.0 ≡ Some s = some_place (same_field t) (link_stubs input) p.0 p.1 ∙ found in
      let entry : slice_get (stub_part input) p.0 ≡ Some (FunctionOf (function.Stub s.object s.number)) =
      mapped_at (λ (x : ImportSlot). FunctionOf (function.Stub x.object x.number)) (link_stubs input) p.0 s there in
      subst (λ (k : ℕ). Leads n Func t (WeakUndefStub k) (function_space input) (FunctionOf (function.Stub s.object s.number))) (sym place)
      (record {
        has = has_entry (function_parts input) n.indices.now.functions 4 p.0 (stub_part input) is.indices.functions refl
            (slice_get_within (stub_part input) p.0 (FunctionOf (function.Stub s.object s.number)) entry);
        stands = λ index e. e ∙ entry;
      }))
]

abbrev other_parts : Input → List (List FunctionEntry)
other_parts input =
    made_function_part input CallCtors ∷ made_function_part input InitTls ∷ init_memory_part input ∷ stub_part input ∷ []

-- a slot that is left to the host leads to its import
pub host_leads : {Y : Type 0} → LinkLaws → (n : Numbering) (kind : WasmSymbolKind) (object k : ℕ) (t : ImportSlot)
    (slots : List ImportSlot) (f : HostImport → Y) (others : List (List Y)) (rest : List Y)
    → length (joined (map (λ (s : ImportSlot). f (first_slot s)) (first_imports slots) ∷ others) ++ rest) ≤ MAX_ENTRIES
    → place_at n.shared.now kind t.object t.number
    ≡ place_in (import_places n.input.now kind (map first_slot (first_imports slots))) t.object t.number
    → slice_get (import_slots n.input.now.link.objects object kind) k ≡ Some t
    → Contains slots t → is_host_slot n.input.now kind t ≡ true
    → Leads n kind t Unresolved (joined (map (λ (s : ImportSlot). f (first_slot s)) (first_imports slots) ∷ others) ++ rest)
    (f (first_slot (first_like same_import (first_imports slots) t)))
host_leads {Y} laws n kind object k t slots f others rest fit shared here listed host =
    let first : HostImport = first_slot (first_like same_import (first_imports slots) t) in
    let front : List Y = map (λ (s : ImportSlot). f (first_slot s)) (first_imports slots) in
    let space : List Y = joined (front ∷ others) ++ rest in
    let p = laws.imports slots t listed in
    let imports : List HostImport = map first_slot (first_imports slots) in
    let gives : import_place n.input.now kind imports t ≡ Some p.0 = rw host p.1 in
    let place : place_at n.shared.now kind t.object t.number ≡ Some p.0 =
    shared ∙ (slot_place n.input.now kind imports object k t here ∙ gives) in
    let stands : slice_get space p.0 ≡ Some (f first) =
    in_front front others rest p.0 (f first) (get_via first_slot f (first_imports slots) p.0 first p.2) in
    let lt : p.0 < length space = slice_get_within space p.0 (f first) stands in
    record {
      has = subst (λ (o : Option ℕ). FitsPlace o) (sym place) (omega (arith, lt, fit));
      stands = λ index e.
          let at : index ≡ p.0 = e ∙ ap (λ (o : Option ℕ). unwrap_or o WASM_DEAD_INDEX) place in
          subst (λ (x : ℕ). slice_get space x ≡ Some (f first)) (sym at) stands;
    }

-- ---- function slots

-- the unit of a definition that a kept slot of a kind is bound to is kept
pub named_is_live : SlotLaws → (input : Input) → IsLiveOf input.link input.live
    → (kind : WasmSymbolKind) (slot_unit own : ℕ → WasmGcUnit) → AreUnits kind slot_unit own → (object k : ℕ)
    → (keeps_slot input kind object k ≡ true → is_live input.live (record { object = object; unit = slot_unit k }) ≡ true)
    → (t : ImportSlot) (i j : ℕ)
    → slice_get (import_slots input.link.objects object kind) k ≡ Some t → is_kept_slot input t ≡ true
    → slot_target input.link t ≡ Some (slot.Defined i j)
    → is_live input.live (record { object = i; unit = own j }) ≡ true
named_is_live laws input live kind slot_unit own units object k so t i j here kept is =
    let at : IsAt object kind k t = placed input.link.objects object kind k t here in
    elim (cases_option (slice_get input.link.objects object)) [
      | inl none ↦ absurd (let no_slot : None ≡ Some t = rw none at here in cc)
      | inr o ↦ kept_definition laws input.link input.live live kind slot_unit own units object k o.0 t i j o.1
          (subst (λ (ts : List ImportSlot). slice_get ts k ≡ Some t) (slots_here input.link.objects object kind o.0 o.1) here) at
          (so (kept_at input object kind k t at ∙ kept)) is
    ]

-- what the linker makes, and a slot is bound to, is of its kind
pub named_is_of_kind : LinkLaws → (input : Input) (kind : WasmSymbolKind) (object k : ℕ) (t : ImportSlot)
    (m : WasmLinkerSymbol)
    → slice_get (import_slots input.link.objects object kind) k ≡ Some t
    → slot_target input.link t ≡ Some (slot.Made m) → matches_kind kind m ≡ true
named_is_of_kind laws input kind object k t m here is =
    let at : IsAt object kind k t = placed input.link.objects object kind k t here in
    subst (λ (of : WasmSymbolKind). matches_kind of m ≡ true) at.kind_is
    (bound_of_kind (binding_of laws).slots input.link t m is)

abbrev FunctionLeads : Numbering → ImportSlot → FunctionTarget → Type 0
FunctionLeads n t target =
    Leads n Func t (as_function n.input.now t target) (function_space n.input.now) (FunctionOf target)

named_leads : LinkLaws → (n : Numbering) → IsNumbering n.input.now n
    → IsLiveOf n.input.now.link n.input.now.live → (object k : ℕ) (t : ImportSlot)
    → slice_get (import_slots n.input.now.link.objects object Func) k ≡ Some t → is_kept_slot n.input.now t ≡ true
    → Contains (kept_slots n.input.now Func) t → (named : SlotTarget) → slot_target n.input.now.link t ≡ Some named
    → FunctionLeads n t (named_function named)
named_leads laws n is live object k t here kept listed (slot.Defined i j) bound =
    own_leads n Func t i (DefinedFunction j) n.function_firsts.items (function_space n.input.now) (FunctionOf (function.Defined i j))
    (λ m. ResolvedFunction i m) is.functions_fit
    (named_is_live (binding_of laws).slots n.input.now live Func FunctionImport DefinedFunction function_units object k (λ so. so) t i j here kept bound)
    (λ m at. function_at n.input.now n is live i j m at) (λ m room. room) (λ m index e. e)
named_leads laws n is live object k t here kept listed (slot.Made m) bound =
    made_leads laws n t m listed (named_binds n.input.now t (slot.Made m) bound)
    (named_is_of_kind laws n.input.now Func object k t m here bound)

left_leads : LinkLaws → (n : Numbering) → IsNumbering n.input.now n
    → (object k : ℕ) (t : ImportSlot)
    → slice_get (import_slots n.input.now.link.objects object Func) k ≡ Some t → is_kept_slot n.input.now t ≡ true
    → Contains (kept_slots n.input.now Func) t → slot_target n.input.now.link t ≡ None
    → FunctionLeads n t (binds_function n.input.now t)
left_leads laws n is object k t here kept listed none =
    let input : Input = n.input.now in
    let no_name : is_none (slot_target input.link t) ≡ true = rw none refl in
    let left : Contains (left_functions input) t = Contains-filter (λ (s : ImportSlot). is_none (slot_target input.link s)) (kept_slots input Func) t listed no_name in
    elim (cases_option (find (same_field t) (link_stubs input))) [
      | inr s ↦
          (let so : is_stub input.link.objects (left_functions input) t ≡ true = stub_found input.link.objects (left_functions input) t s.0 left s.1 in
          subst (λ (x : FunctionTarget). FunctionLeads n t x) (sym (stub_bound input t s.0 none so s.1)) (stub_leads n is t s.0 s.1))
      | inl no_one ↦
          (let so : is_stub input.link.objects (left_functions input) t ≡ false = no_stub input.link.objects (left_functions input) t left no_one in
          let target : binds_function input t ≡ by_host input t = left_bound input t none ∙ rw so refl in
          let test : ImportSlot → Bool = λ (s : ImportSlot). not (is_stub input.link.objects (left_functions input) s) in
          let passed : not (is_stub input.link.objects (left_functions input) t) ≡ true = rw so refl in
          let among : Contains (host_functions input) t = Contains-filter test (left_functions input) t left passed in
          let host : is_host_slot input Func t ≡ true = rw (kept, target) refl in
          subst (λ (x : FunctionTarget). FunctionLeads n t x) (sym target)
          (host_leads laws n Func object k t (host_functions input) (λ h. FunctionOf (function.Host h.object h.slot)) (other_parts input)
          (object_functions input) is.functions_fit (ap (λ (s : Shared). place_at s Func t.object t.number) is.shared) here among host))
    ]

pub function_leads : LinkLaws → (n : Numbering) → IsNumbering n.input.now n
    → IsLiveOf n.input.now.link n.input.now.live → (object k : ℕ) (t : ImportSlot)
    → slice_get (import_slots n.input.now.link.objects object Func) k ≡ Some t → is_kept_slot n.input.now t ≡ true
    → Leads n Func t (resolution_of n.input.now Func t) (function_space n.input.now) (FunctionOf (binds_function n.input.now t))
function_leads laws n is live object k t here kept =
    let input : Input = n.input.now in
    let listed : Contains (kept_slots input Func) t =
    Contains-filter (is_kept_slot input) (slots_from Func 0 input.link.objects) t
    (slot_is_one Func input.link.objects object t (at_is_in (import_slots input.link.objects object Func) k t here)) kept in
    let resolved : function_resolution input t ≡ as_function input t (binds_function input t) = rw kept refl in
    subst (λ (r : ImportResolution). Leads n Func t r (function_space input) (FunctionOf (binds_function input t))) (sym resolved)
    (elim (cases_option (slot_target input.link t)) [
      | inl none ↦ left_leads laws n is object k t here kept listed none
      | inr named ↦ subst (λ (x : FunctionTarget). FunctionLeads n t x) (sym (named_binds input t named.0 named.1))
          (named_leads laws n is live object k t here kept listed named.0 named.1)
    ])

-- an entry where the slot is kept
entry_stands : {Y : Type 0} (kept : Bool) (space : List Y) (y : Y) (index : ℕ)
    → (kept ≡ true → slice_get space index ≡ Some y) → (kept ≡ false → index ≡ WASM_DEAD_INDEX)
    → IsIndexOf space (if kept then Some y else None) index
entry_stands true space y index stands dead = stands refl
entry_stands false space y index stands dead = dead refl

-- the indices of slots, and then of what the object defines
pub all_leads : {Y : Type 0} (n : Numbering) (kind : WasmSymbolKind) (object : ℕ) (o : Object) (space : List Y) (y : ImportSlot → Y)
    (own : List (Option Y)) (owns indices : List ℕ) → slice_get n.input.now.link.objects object ≡ Some o
    → ((k : ℕ) (t : ImportSlot) → slice_get (import_slots n.input.now.link.objects object kind) k ≡ Some t
    → is_kept_slot n.input.now t ≡ true → Leads n kind t (resolution_of n.input.now kind t) space (y t))
    → AllZip (IsSlotIndex n kind) (import_slots n.input.now.link.objects object kind) indices → AreIndicesOf space own owns
    → AreIndicesOf space (map (λ t. if is_kept_slot n.input.now t then Some (y t) else None) (object_slots object kind o) ++ own)
    (indices ++ owns)
all_leads {Y} n kind object o space y own owns indices here leads slots more =
    let input : Input = n.input.now in
    let entry : ImportSlot → Option Y = λ t. if is_kept_slot input t then Some (y t) else None in
    let first : AreIndicesOf space (map entry (import_slots input.link.objects object kind)) indices =
    zip_map (IsSlotIndex n kind) (IsIndexOf space) entry (import_slots input.link.objects object kind) indices
    (λ k t index at so. entry_stands (is_kept_slot input t) space (y t) index
    (λ kept. (leads k t at kept).stands index (so.kept kept)) so.dead) slots in
    zip_joined (IsIndexOf space) (map entry (object_slots object kind o)) own indices owns
    (subst (λ (ts : List ImportSlot). AreIndicesOf space (map entry ts) indices)
    (slots_here input.link.objects object kind o here) first) more
