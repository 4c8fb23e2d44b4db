use Rattle.std.proofs.Common.{◌≡◌, drop}
use Rattle.wl_words.specs.Options.{taken_in}
use Rattle.wl_words.proofs.options.taken_in.Given as goal

abbrev pub invariant-loop-option : goal.invariant-loop-option
invariant-loop-option l = taken_in l.options l.front ≡ taken_in (drop l.option-index l.options) l.front
