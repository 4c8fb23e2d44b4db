use Rattle.std.proofs.Common.{◌∙◌, ◌+◌, length, length-append, ap}
use Rattle.wildplan.proofs.Gathering.{named_more}
use Rattle.wildplan.proofs.inputs.object_names.Goals as goal

pub loop-word-preserved : goal.loop-word-preserved
loop-word-preserved c = record {
  named = rw (c.in_ok-push.ensures.items, c.as_str.ensures.value)
      (named_more c.args.words.now c.as_slice-inputs.result.now c.loop-word.word-index c.index-words-word.result c.loop-word.names.items _ (rw c.as_slice-inputs.ensures c.requires) c.loop-word-test.true c.index-words-word.is c.loop-word.invariant.named);
  many = ap length c.in_ok-push.ensures.items ∙ length-append c.loop-word.names.items _ ∙ ap (λ n. n + 1) c.loop-word.invariant.many;
}
