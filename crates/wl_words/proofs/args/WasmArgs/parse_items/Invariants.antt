use Rattle.std.proofs.Common.{◌-◌, length}
use Rattle.wl_words.specs.Texts.{texts}
use Rattle.wl_words.proofs.Parsing.{ParsesUpTo}
use Rattle.wl_words.proofs.args.WasmArgs.parse_items.Given as goal

abbrev pub invariant-loop-word : goal.invariant-loop-word
invariant-loop-word l = ParsesUpTo (texts l.words) l.at l.args

abbrev pub decreases-loop-word : goal.decreases-loop-word
decreases-loop-word l = length l.words - l.at
