use Rattle.std.proofs.Common.{◌∙◌, arith}
use Rattle.std.proofs.lemmas.List.Sorted.{IsNonDecreasingBy-drop}
use Rattle.wl_run.specs.Sites.{fixup_rank}
use Rattle.wl_run.proofs.FillLaws.{front_passed, back_passed}
use Rattle.wl_run.proofs.filling.stretch_of.Goals as goal

pub count_up_to-requires : goal.count_up_to-requires
count_up_to-requires c =
    rw c.split_at.ensures.back (IsNonDecreasingBy-drop fixup_rank c.count_before.result c.args.fixups.now c.requires)

pub returns : goal.returns
returns c = λ bytes.
    rw c.split_at-2.ensures.front
    (back_passed c.args.site c.split_at.result.1.now c.count_up_to.result
    (λ k d from to. omega (arith, c.count_up_to.ensures.point.1 k d from to, c.site_rank-rank.ensures)) bytes
    ∙ rw c.split_at.ensures.back (front_passed c.args.site c.args.fixups.now c.count_before.result
    (λ k d from to. omega (arith, c.count_before.ensures.point.0 k d from to, c.site_rank-rank.ensures)) c.count_before.ensures.bound bytes))
