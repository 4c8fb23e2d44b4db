use Rattle.wl_bind.proofs.BoundLaws.{bound_function_kept, bound_global_kept}
use Rattle.wl_bind.proofs.binding_laws.bound_slots_are_kept.Goals as goal

pub returns : goal.returns
returns c = record {
  functions = bound_function_kept c.link_laws.ensures;
  globals = bound_global_kept c.link_laws.ensures;
}
