use Rattle.wl_bind.specs.steps.Laws.{LinkLaws}
use Rattle.wl_bind.proofs.GlobalReferenceLaws.{global_is_named}
use Rattle.wl_bind.proofs.ReferenceLaws.{type_is_named, symbol_is_named, function_is_named, slot_is_there}
use Rattle.wl_bind.proofs.reference_laws.references_are_kept.Goals as goal

pub returns : goal.returns
returns c =
    let laws : LinkLaws = c.link_laws.ensures in
    record {
      types = type_is_named laws;
      symbols = symbol_is_named laws;
      functions = function_is_named laws;
      globals = global_is_named laws;
      slots = λ input r target settled. slot_is_there input r target;
    }
