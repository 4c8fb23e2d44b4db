-- What planning answers, by the answers of its steps.
use Rattle.std.proofs.Common.{◌≡◌, ℕ, ◌+◌, List, [], ◌∷◌, length, refl, inl, inr}
use Rattle.wl_linking.specs.Steps.{Clear, Refuses, Step, NoStep}
use Rattle.wl_linking.specs.declared.error.LinkError.{LinkError}
use Rattle.wl_linking.specs.declared.error.LinkError.TheVariants.{TooLarge}
use Rattle.wl_linking.specs.declared.error.Quantity.TheVariants.{Address, Space}
use Rattle.wl_bind.specs.FunctionSpace.{function_space}
use Rattle.wl_symbols.specs.Input.{Input}
use Rattle.wl_bind.specs.IndexMaps.{IsIndexMap, AreIndexMaps}
use Rattle.wl_bind.specs.SpaceFaults.{index_fault}
use Rattle.wl_index.specs.declared.index_map.WasmObjectIndexMap.{WasmObjectIndexMap}
use Rattle.wl_lists.specs.Rows.{AreRows}
use Rattle.wl_exports.specs.Sources.{HasIndices, HaveIndices}
use Rattle.wl_exports.specs.Wrapped.{AreTooManyWrappers}
use Rattle.wl_exports.specs.Wrappers.{wrapped}
use Rattle.wl_places.specs.Addresses.{HasHighExport, HasHighSymbol, IsAddressTooHigh}
use Rattle.wl_plan.specs.Faults.{IsPlacedFault, kept_fault, laid_fault, placed_fault, value_steps}
use Rattle.wl_places.specs.IndexedMaps.{IsWholeMap, AreWholeMaps}
use Rattle.wl_plan.specs.steps.Outline.{HasWrapperRoom}
use Rattle.wl_places.specs.Placing.{IsPlacing, place_fault}
use Rattle.wl_places.specs.declared.placing.Placing.{Placing}
use Rattle.wl_linking.proofs.StepLaws.{clear_end, clear_step, refuses_behind, refuses_here, refuses_more, row_behind, row_clear, row_refuses}
use Rattle.wl_plan.proofs.PlanLaws.{OnePlacing, at_most, index_is_row, index_row, place_is_row, place_row, placed_clear, placed_refuses}

-- what is judged after the numbering of things
abbrev pub behind_index : Input → LinkError → Type 0
behind_index input = Step (AreTooManyWrappers input) (laid_fault input)

pub index_refuses : (input : Input) (e : LinkError) → Refuses (index_fault input) e
    → Refuses (kept_fault input) e
index_refuses input e h =
    row_refuses (index_row input) (index_is_row input) (behind_index input) e h

pub wrapper_refuses : (input : Input) (e : LinkError) → Clear (index_fault input)
    → Refuses (AreTooManyWrappers input) e → Refuses (kept_fault input) e
wrapper_refuses input e clear h =
    row_behind (index_row input) (index_is_row input) (behind_index input) e clear
    (refuses_here (AreTooManyWrappers input) (laid_fault input) e h)

-- the wrappers have room where they aren't too many
pub wrapper_room : (input : Input) → Clear (AreTooManyWrappers input) → HasWrapperRoom input
wrapper_room input clear =
    at_most (length (function_space input) + length (wrapped input))
    (λ over. clear.none (TooLarge Space) (refl, over))

-- nothing of what is judged before data is placed has a cause
pub record AreNumbered (input : Input) : Type 0 where
  pub indexed : Clear (index_fault input)
  pub few : Clear (AreTooManyWrappers input)

pub behind_refuses : (input : Input) (e : LinkError) → AreNumbered input
    → Refuses (laid_fault input) e → Refuses (kept_fault input) e
behind_refuses input e clear h =
    row_behind (index_row input) (index_is_row input) (behind_index input) e clear.indexed
    (refuses_behind (AreTooManyWrappers input) (laid_fault input) e clear.few h)

-- nothing is refused where nothing behind it is
pub kept_clear : (input : Input) → AreNumbered input → Clear (laid_fault input)
    → Clear (kept_fault input)
kept_clear input clear h =
    row_clear (index_row input) (index_is_row input) (behind_index input) clear.indexed
    (clear_step (AreTooManyWrappers input) (laid_fault input) clear.few h)

-- ---- from the placing of data on

pub place_refuses : (input : Input) (e : LinkError) → Refuses (place_fault input) e
    → Refuses (laid_fault input) e
place_refuses input e h =
    row_refuses (place_row input) (place_is_row input) (Step (IsPlacedFault input) NoStep) e h

pub laid_refuses : (input : Input) (g : Placing) (e : LinkError) → IsPlacing input g
    → Clear (place_fault input) → Refuses (placed_fault input g) e → Refuses (laid_fault input) e
laid_refuses input g e placed clear h =
    row_behind (place_row input) (place_is_row input) (Step (IsPlacedFault input) NoStep) e clear
    (refuses_here (IsPlacedFault input) NoStep e (placed_refuses input g e placed h))

pub laid_clear : OnePlacing → (input : Input) (g : Placing) → IsPlacing input g
    → Clear (place_fault input) → Clear (placed_fault input g) → Clear (laid_fault input)
laid_clear one input g placed clear h =
    row_clear (place_row input) (place_is_row input) (Step (IsPlacedFault input) NoStep) clear
    (clear_step (IsPlacedFault input) NoStep (placed_clear one input g placed h) clear_end)

-- ---- addresses

pub symbol_refuses : (input : Input) (g : Placing) (e : LinkError)
    → Refuses (λ f. (f ≡ TooLarge Address) × HasHighSymbol input g) e
    → Refuses (placed_fault input g) e
symbol_refuses input g e h =
    refuses_here (IsAddressTooHigh input g) (value_steps input g) e
    (refuses_more (λ f. (f ≡ TooLarge Address) × HasHighSymbol input g) (IsAddressTooHigh input g) e
    (λ x. (x.0, inl x.1)) h)

pub export_refuses : (input : Input) (g : Placing) (e : LinkError) → e ≡ TooLarge Address
    → HasHighExport input g → Refuses (placed_fault input g) e
export_refuses input g e told high =
    refuses_here (IsAddressTooHigh input g) (value_steps input g) e
    (record { cause_is = λ other. (told, inr high) })

pub low_clear : (input : Input) (g : Placing) → (HasHighSymbol input g → ⊥)
    → (HasHighExport input g → ⊥) → Clear (IsAddressTooHigh input g)
low_clear input g symbols exports = record {
  none = λ e h. elim h.1 [ inl x ↦ symbols x | inr y ↦ exports y ];
}

-- no step has a cause where none of the values has one
pub placed_ok : (input : Input) (g : Placing) → (HasHighSymbol input g → ⊥)
    → (HasHighExport input g → ⊥) → Clear (value_steps input g) → Clear (placed_fault input g)
placed_ok input g symbols exports values =
    clear_step (IsAddressTooHigh input g) (value_steps input g) (low_clear input g symbols exports)
    values

-- ---- exports

-- what the maps of objects say, of which less is asked
rows_say : {O X : Type 0} (P Q : ℕ → O → X → Type 0)
    → ((n : ℕ) (o : O) (x : X) → P n o x → Q n o x) → (n : ℕ) (os : List O) (xs : List X)
    → AreRows P n os xs → AreRows Q n os xs
rows_say P Q less n [] [] are = tt
rows_say P Q less n [] (x ∷ xs) are = absurd are
rows_say P Q less n (o ∷ os) [] are = absurd are
rows_say P Q less n (o ∷ os) (x ∷ xs) are =
    (less n o x are.0, rows_say P Q less (n + 1) os xs are.1)

-- maps have the indices of functions and globals, before and after data is placed
pub index_maps_have : (input : Input) (maps : List WasmObjectIndexMap) → AreIndexMaps input maps
    → HaveIndices input maps
index_maps_have input maps are =
    rows_say (IsIndexMap input) (HasIndices input)
    (λ n o m is. record { functions = is.functions; globals = is.globals }) 0 input.link.objects
    maps are

pub whole_maps_have : (input : Input) (g : Placing) (maps : List WasmObjectIndexMap)
    → AreWholeMaps input g maps → HaveIndices input maps
whole_maps_have input g maps are =
    rows_say (IsWholeMap input g) (HasIndices input)
    (λ n o m is. record { functions = is.functions; globals = is.globals }) 0 input.link.objects
    maps are
