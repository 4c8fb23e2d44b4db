use Rattle.std.proofs.Common.{rules}
use Rattle.std.proofs.lemmas.Fn.{filter_same}
use Rattle.wl_symbols.specs.KeptSlots.{is_left_slot}
use Rattle.wl_symbols.proofs.kept_imports.retain_left.Goals as goal

pub returns : goal.returns
returns c = filter_same _ (is_left_slot c.args.input.now) _ (λ x b f' k. search rules) _ _ c.retain.ensures.filtered
