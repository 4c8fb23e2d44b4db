use Rattle.std.proofs.Common.{◌≡◌, ◌*◌, ◌<◌, ℕ, min, length, take, get_or}
use Rattle.wl_reach.specs.Marks.{count_set}
use Rattle.wl_reach.proofs.marks.count_before_words.Given as goal

abbrev pub invariant-loop-word : goal.invariant-loop-word
invariant-loop-word l = record {
  size : length l.before.items ≡ l.word;
  total : l.total ≡ count_set (take (min (l.word * 64) (length l.marks)) l.marks);
  at : (w : ℕ) → w < l.word → get_or l.before.items w 0 ≡ count_set (take (w * 64) l.marks);
}
