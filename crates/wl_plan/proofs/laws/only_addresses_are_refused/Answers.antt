use Rattle.wl_plan.proofs.FixupLaws.{Laws}
use Rattle.wl_plan.proofs.ResolvedLaws.{only_addresses, settled}
use Rattle.wl_plan.proofs.SlotLaws.{TableLaws}
use Rattle.wl_plan.proofs.TableLaws.{TableIs}
use Rattle.wl_plan.proofs.laws.only_addresses_are_refused.Goals as goal

pub returns : goal.returns
returns c = λ input g maps r o m why h whole of fault.
    let laws : Laws = record {
      types = c.references_are_kept.ensures.types;
      symbols = c.references_are_kept.ensures.symbols;
      functions = c.references_are_kept.ensures.functions;
      globals = c.references_are_kept.ensures.globals;
      slots = c.references_are_kept.ensures.slots;
    } in
    let table : TableLaws = record {
      once = c.table_functions_stand_once.ensures.table;
      itself = c.same_targets_are_one.ensures.itself;
    } in
    let is : TableIs input = record {
      kept = λ target has. c.table_functions_are_kept.ensures input target
          (settled input h) has;
      once = λ i k f e at other s. c.table_functions_stand_once.ensures.table input i k f e at other s;
      itself = c.same_targets_are_one.ensures.itself;
      stubs = λ i s n e. c.stubs_have_no_slot.ensures input i s n e;
    } in
    only_addresses laws table input is g maps r o m why h whole of fault
