-- What is answered by the layout of a plan is answered by the slots of the space alone: no wrapper
-- has a slot.
use Rattle.std.proofs.Common.{◌≡◌, ℕ, zero, suc, List, [], ◌∷◌, ◌++◌, map, refl, ap, Option, Some, None, slice_get}
use Rattle.std.specs.Prelude.{Result, Ok, Err}
use Rattle.wl_custom.specs.RelocationTypes.{taking_of}
use Rattle.wl_custom.specs.Symbols.{Symbol}
use Rattle.wl_custom.specs.declared.relocations.WasmRelocation.{WasmRelocation}
use Rattle.wl_custom.specs.declared.takings.Taking.{Taking}
use Rattle.wl_custom.specs.declared.takings.Taking.TheVariants.{FunctionIndex, Slot, SlotBehindBase, TypeIndex, GlobalIndex, TableNumber, Address}
use Rattle.wl_exports.specs.Exports.{ExportEntry}
use Rattle.wl_exports.specs.Wrappers.{wrapped}
use Rattle.wl_index.specs.declared.index.TheConstants.{WASM_DEAD_INDEX}
use Rattle.wl_index.specs.declared.index_map.WasmObjectIndexMap.{WasmObjectIndexMap}
use Rattle.wl_linking.specs.Object.{Object}
use Rattle.wl_reloc.specs.Resolving.{Resolver, behind_first, function_index, slot_in, slot_of, taken}
use Rattle.wl_reloc.specs.declared.addresses.AddressBases.{AddressBases}
use Rattle.wl_reloc.specs.declared.error.RelocError.{RelocError}
use Rattle.wl_symbols.specs.Input.{Input}
use Rattle.wl_symbols.specs.declared.relocated.Relocated.{Relocated}
use Rattle.wl_plan.specs.Plan.{IsPlan}
use Rattle.wl_plan.specs.Resolved.{answer_by, answer_for}
use Rattle.wl_plan.specs.Table.{space_slots}
use Rattle.wl_plan.specs.declared.layout.LinkPlan.{LinkPlan}

-- by these slots
abbrev by_slots : WasmObjectIndexMap → List Symbol → AddressBases → List ℕ → Resolver
by_slots m symbols bases slots =
    record { map = m; symbols = symbols; slots = slots; bases = bases }

-- these slots, and none for each of so many wrappers
abbrev with_none : List ℕ → List ExportEntry → List ℕ
with_none slots es = slots ++ map (λ (e : ExportEntry). WASM_DEAD_INDEX) es

slot_same : (slots : List ℕ) (es : List ExportEntry) (i : ℕ)
    → slot_in (slice_get (with_none slots es) i) ≡ slot_in (slice_get slots i)
slot_same [] [] i = refl
slot_same [] (e ∷ es) zero = refl
slot_same [] (e ∷ es) (suc i) = slot_same [] es i
slot_same (n ∷ slots) es zero = refl
slot_same (n ∷ slots) es (suc i) = slot_same slots es i

slot_of_same : (m : WasmObjectIndexMap) (symbols : List Symbol) (bases : AddressBases)
    (slots : List ℕ) (es : List ExportEntry) (index : Result ℕ RelocError)
    → slot_of (by_slots m symbols bases (with_none slots es)) index
    ≡ slot_of (by_slots m symbols bases slots) index
slot_of_same m symbols bases slots es (Err e) = refl
slot_of_same m symbols bases slots es (Ok index) = slot_same slots es index

-- whatever a relocation takes
taken_same : (m : WasmObjectIndexMap) (symbols : List Symbol) (bases : AddressBases)
    (slots : List ℕ) (es : List ExportEntry) (r : WasmRelocation) (taking : Taking)
    → taken (by_slots m symbols bases (with_none slots es)) r taking
    ≡ taken (by_slots m symbols bases slots) r taking
taken_same m symbols bases slots es r FunctionIndex = refl
taken_same m symbols bases slots es r TypeIndex = refl
taken_same m symbols bases slots es r GlobalIndex = refl
taken_same m symbols bases slots es r TableNumber = refl
taken_same m symbols bases slots es r (Address base) = refl
taken_same m symbols bases slots es r Slot = at (slice_get symbols r.index) refl
  where
    at : (s : Option Symbol) → slice_get symbols r.index ≡ s
        → taken (by_slots m symbols bases (with_none slots es)) r Slot
        ≡ taken (by_slots m symbols bases slots) r Slot
    at None is = rw is refl
    at (Some s) is = rw is (slot_of_same m symbols bases slots es
        (function_index (by_slots m symbols bases slots) s.kind r.index))
taken_same m symbols bases slots es r SlotBehindBase = at (slice_get symbols r.index) refl
  where
    at : (s : Option Symbol) → slice_get symbols r.index ≡ s
        → taken (by_slots m symbols bases (with_none slots es)) r SlotBehindBase
        ≡ taken (by_slots m symbols bases slots) r SlotBehindBase
    at None is = rw is refl
    at (Some s) is = rw is (ap behind_first (slot_of_same m symbols bases slots es
        (function_index (by_slots m symbols bases slots) s.kind r.index)))

pub answers_same : (input : Input) (plan : LinkPlan) (is : IsPlan input plan) (o : Object)
    (m : WasmObjectIndexMap) (r : Relocated)
    → answer_by plan.layout o m r ≡ answer_for input is.placing o m r
answers_same input plan is o m r =
    let bases : AddressBases =
    record { memory_base = is.placing.memory_base; tls_base = is.placing.places.tls_base } in
    rw (is.places.memory_base, is.places.tls_base, is.entities.slots)
    (taken_same m o.symbols bases (space_slots input) (wrapped input) r.relocation
    (taking_of r.relocation.ty))
