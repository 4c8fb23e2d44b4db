use Rattle.std.proofs.Common.{◌≡◌, ◌-◌, length}
use Rattle.wl_live.specs.Mentions.{mentions_left}
use Rattle.wl_live.proofs.mentions.MentionsIterator.next.Given as goal

abbrev pub invariant-objects : goal.invariant-objects
invariant-objects l = mentions_left l.self ≡ mentions_left l.fn.self

abbrev pub decreases-objects : goal.decreases-objects
decreases-objects l = length l.self.facts.now - l.self.next
