use Rattle.std.proofs.Common.{length}
use Rattle.wl_check.proofs.ListingLaws.{AreRead}
use Rattle.wl_check.proofs.listing.check_lines.Given as goal

abbrev pub invariant-loop-words : goal.invariant-loop-words
invariant-loop-words l = AreRead l.text l.lines l.words

abbrev pub decreases-loop-words : goal.decreases-loop-words
decreases-loop-words l = length l.words
