use Rattle.std.proofs.Common.{sym, ◌∙◌}
use Rattle.wl_plan.proofs.LayoutLaws.{answers_same}
use Rattle.wl_plan.proofs.part_laws.layouts_refuse_addresses_alone.Goals as goal

pub returns : goal.returns
returns c = λ input plan is r o m why h of fault.
    c.only_addresses_are_refused.ensures input is.placing plan.layout.object_index_maps r o m why h is.spaces.maps of
    (sym (answers_same input plan is o m r) ∙ fault)
