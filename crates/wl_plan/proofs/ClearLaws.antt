-- A link that has a plan has no cause in any step.
use Rattle.wl_linking.specs.Steps.{Clear, NoStep}
use Rattle.wl_linking.specs.declared.error.LinkError.{LinkError}
use Rattle.wl_linking.proofs.StepLaws.{IsRow, first_clear, rest_clear, row_end, row_more}
use Rattle.wl_symbols.specs.Link.{Link}
use Rattle.wl_symbols.specs.Repeats.{IsDuplicate}
use Rattle.wl_symbols.specs.Input.{Input}
use Rattle.wl_live.specs.Entry.{IsEntryFault}
use Rattle.wl_live.specs.Faults.{IsKeptFault}
use Rattle.wl_bind.specs.Bound.{bind_fault, bind_steps}
use Rattle.wl_bind.specs.Conflicts.{IsStubConflict, IsHostConflict}
use Rattle.wl_bind.specs.Kinds.{IsWrongKind}
use Rattle.wl_bind.specs.Signatures.{IsMismatch}
use Rattle.wl_bind.specs.Undefined.{IsUndefinedData, IsUndefinedImport}
use Rattle.wl_exports.specs.Faults.{IsExportFault}
use Rattle.wl_exports.specs.Wrapped.{AreTooManyWrappers}
use Rattle.wl_places.specs.Addresses.{IsAddressTooHigh}
use Rattle.wl_plan.specs.Faults.{IsLaterFault, IsPlacedFault, IsValueFault, input_of, kept_fault, laid_fault, placed_fault, value_steps}
use Rattle.wl_plan.specs.LinkPlan.{IsPlanOf}
use Rattle.wl_plan.specs.declared.layout.LinkPlan.{LinkPlan}
use Rattle.wl_places.specs.declared.placing.Placing.{Placing}
use Rattle.wl_plan.proofs.LinkLaws.{feature_row, feature_is_row}
use Rattle.wl_plan.proofs.PlanLaws.{index_row, index_is_row, place_row, place_is_row}

-- the steps by which references can't be bound
abbrev bind_row : Input → (LinkError → Type 0) → LinkError → Type 0
bind_row input rest = bind_steps input rest

bind_is_row : (input : Input) → IsRow (bind_row input)
bind_is_row input =
    row_more (IsWrongKind input) _ (row_more (IsMismatch input) _ (row_more (IsUndefinedData input) _
    (row_more (IsStubConflict input) _ (row_more (IsUndefinedImport input) _
    (row_more (IsHostConflict input) _ row_end)))))

-- a row of steps before others, and what comes after it
in_row : (row : (LinkError → Type 0) → LinkError → Type 0) → IsRow row
    → (rest : LinkError → Type 0) → Clear (row rest) → Clear (row NoStep)
in_row row is rest clear = record { none = is.first rest clear }

behind_row : (row : (LinkError → Type 0) → LinkError → Type 0) → IsRow row
    → (rest : LinkError → Type 0) → Clear (row rest) → Clear rest
behind_row row is rest clear = record {
  none = λ e h. clear.none e (is.past rest e (in_row row is rest clear) h);
}

-- what can't be bound, can't have its value, and can't be exported
pub record IsClear (input : Input) (g : Placing) : Type 0 where
  pub bound : Clear (bind_fault input)
  pub values : Clear (IsValueFault input g)
  pub exports : Clear (IsExportFault input)

-- where the units are known that are kept
kept_clear : (link : Link) (plan : LinkPlan) (is : IsPlanOf link plan)
    → Clear (kept_fault (input_of link is.live))
kept_clear link plan is =
    let features = rest_clear (IsDuplicate link.objects) _ is.clear in
    let entry = behind_row (feature_row link) (feature_is_row link) _ features in
    let kept = rest_clear (IsEntryFault link) _ entry in
    let last = rest_clear (IsKeptFault link) _ kept in
    let later : Clear (IsLaterFault link) = first_clear (IsLaterFault link) NoStep last in
    record { none = λ e h. later.none e (record { live = is.live; kept = is.kept; fault = h }) }

pub is_clear : (link : Link) (plan : LinkPlan) (is : IsPlanOf link plan)
    → IsClear (input_of link is.live) is.is_plan.placing
is_clear link plan is =
    let input : Input = input_of link is.live in
    let g : Placing = is.is_plan.placing in
    let all = kept_clear link plan is in
    let wrappers = behind_row (index_row input) (index_is_row input) _ all in
    let laid : Clear (laid_fault input) = rest_clear (AreTooManyWrappers input) _ wrappers in
    let step = behind_row (place_row input) (place_is_row input) _ laid in
    let placed : Clear (IsPlacedFault input) = first_clear (IsPlacedFault input) NoStep step in
    let addresses : Clear (placed_fault input g) = record {
      none = λ e h. placed.none e (record { placing = g; placed = is.is_plan.placed; fault = h });
    } in
    let values : Clear (value_steps input g) = rest_clear (IsAddressTooHigh input g) _ addresses in
    record {
      bound = in_row (bind_row input) (bind_is_row input) _ all;
      values = first_clear (IsValueFault input g) _ values;
      exports = first_clear (IsExportFault input) _ (rest_clear (IsValueFault input g) _ values);
    }
