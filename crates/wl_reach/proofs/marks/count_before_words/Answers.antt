use Rattle.std.proofs.Common.{◌≡◌, ◌<◌, ◌*◌, ◌-◌, ◌+◌, ◌∙◌, ap, min, length, take, false, get_or, arith, below_more}
use Rattle.std.specs.Int.{from_bool}
use Rattle.std.proofs.lemmas.Grind.{div_ceil_times}
use Rattle.std.proofs.lemmas.List.{length_push, get_or_push, get_or_append_left}
use Rattle.wl_reach.specs.Marks.{count_set}
use Rattle.wl_reach.proofs.RankLaws.{words_more}
use Rattle.wl_reach.proofs.marks.count_before_words.Goals as goal

pub loop-word-preserved : goal.loop-word-preserved
loop-word-preserved c =
    let lt : c.loop-word.word * 64 < length c.args.marks.now = omega (arith, div_ceil_times c.len-len.result 64, c.len-len.ensures, c.div_ceil-word-end.ensures) in
    let last : c.min-last.result ≡ min (c.loop-word.word * 64 + 63) (length c.args.marks.now - 1) = c.min-last.ensures ∙ ap (λ n. min (c.loop-word.word * 64 + 63) (n - 1)) c.len-len.ensures in
    let mark : c.from.result ≡ from_bool (get_or c.args.marks.now c.min-last.result false) = c.from.ensures ∙ ap from_bool c.get.ensures in
    let before : min (c.loop-word.word * 64) (length c.args.marks.now) ≡ c.loop-word.word * 64 = omega arith in
    record {
      size = rw c.in_ok-push.ensures.items (length_push _ _ ∙ ap (λ n. n + 1) c.loop-word.invariant.size);
      total = words_more c.args.marks.now c.loop-word.word c.loop-word.total c.count_in_word.result c.from.result c.min-last.result lt last c.loop-word.invariant.total c.count_in_word.ensures mark;
      at = rw c.in_ok-push.ensures.items
          (below_more (λ w. get_or _ w 0 ≡ count_set (take (w * 64) c.args.marks.now)) c.loop-word.word
          (λ w below. get_or_append_left c.loop-word.before.items _ 0 w (omega (arith, c.loop-word.invariant.size)) ∙ c.loop-word.invariant.at w below)
          (get_or_push c.loop-word.before.items c.loop-word.total 0 c.loop-word.word c.loop-word.invariant.size ∙ (c.loop-word.invariant.total ∙ ap (λ n. count_set (take n c.args.marks.now)) before)));
    }
