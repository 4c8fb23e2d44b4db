use Rattle.wl_bind.proofs.SameLaws.{target_one, target_self, definition_one, definition_self}
use Rattle.wl_bind.proofs.laws.same_targets_are_one.Goals as goal

pub returns : goal.returns
returns c = record {
  functions = target_one;
  itself = target_self;
  definitions = definition_one;
  itself_too = definition_self;
}
