use Rattle.std.specs.List.{AllByRecursion}
use Rattle.wl_linking.specs.Fitting.{IsWhole}
use Rattle.wl_linking.specs.Steps.{Clear}
use Rattle.wl_symbols.specs.Input.{Input}
use Rattle.wl_symbols.specs.Live.{IsLiveOf}
use Rattle.wl_bind.specs.SpaceFaults.{index_fault}
use Rattle.wl_plan.proofs.ListingLaws.{LawsBelow, link_listing, plan_listing}
use Rattle.wl_plan.proofs.ResolvedLaws.{settled}
use Rattle.wl_plan.proofs.TableLaws.{TableIs}
use Rattle.wl_plan.proofs.listing_laws.plans_have_listings.Goals as goal

pub returns-clause-whole : goal.returns-clause-whole
returns-clause-whole c =
    let laws : LawsBelow = record {
      stand = c.sections_stand.ensures;
      placed = c.segments_are_small.ensures.placed;
      few = c.segments_are_small.ensures.few;
      layouts = c.segments_have_layouts.ensures;
    } in
    let table : (input : Input) → AllByRecursion IsWhole input.link.objects → IsLiveOf input.link input.live → Clear (index_fault input) → TableIs input = λ input whole kept clear. record {
      kept = λ target has. c.table_functions_are_kept.ensures input target
          (settled input (record { whole = whole; kept = kept; clear = clear })) has;
      once = λ i k f e at other s. c.table_functions_stand_once.ensures.table input i k f e at other s;
      itself = c.same_targets_are_one.ensures.itself;
      stubs = λ i s n e. c.stubs_have_no_slot.ensures input i s n e;
    } in
    plan_listing laws table

pub returns-clause-read : goal.returns-clause-read
returns-clause-read c =
    let laws : LawsBelow = record {
      stand = c.sections_stand.ensures;
      placed = c.segments_are_small.ensures.placed;
      few = c.segments_are_small.ensures.few;
      layouts = c.segments_have_layouts.ensures;
    } in
    let table : (input : Input) → AllByRecursion IsWhole input.link.objects → IsLiveOf input.link input.live → Clear (index_fault input) → TableIs input = λ input whole kept clear. record {
      kept = λ target has. c.table_functions_are_kept.ensures input target
          (settled input (record { whole = whole; kept = kept; clear = clear })) has;
      once = λ i k f e at other s. c.table_functions_stand_once.ensures.table input i k f e at other s;
      itself = c.same_targets_are_one.ensures.itself;
      stubs = λ i s n e. c.stubs_have_no_slot.ensures input i s n e;
    } in
    link_listing laws table
