use Rattle.std.proofs.Common.{rules}
use Rattle.std.proofs.lemmas.Fn.{filter_same}
use Rattle.wl_symbols.specs.KeptSlots.{is_kept_slot}
use Rattle.wl_symbols.proofs.kept_imports.retain_kept.Goals as goal

pub returns : goal.returns
returns c = filter_same _ (is_kept_slot c.args.input.now) _ (λ x b f' k. search rules) _ _ c.retain.ensures.filtered
