use Rattle.std.proofs.Common.{leb, leb-true, leb-false, rules}
use Rattle.std.proofs.lemmas.List.Sorted.{IsPartitionPoint-from_clause, IsPartitionedBy-leb}
use Rattle.wl_output.specs.declared.fixups.Fixup.{Fixup}
use Rattle.wl_run.specs.Sites.{fixup_rank}
use Rattle.wl_run.proofs.filling.count_up_to.Goals as goal

pub returns-clause-point : goal.returns-clause-point
returns-clause-point c =
    let parted = IsPartitionedBy-leb fixup_rank _ c.args.rank c.requires in
    let point = IsPartitionPoint-from_clause (λ (f : Fixup). leb (fixup_rank f) c.args.rank) _ _ c.partition_point.ensures.partitioned parted (λ a r q k. search rules) in
    (λ k d from to. leb-true _ _ (point.0 k d from to), λ k d from to. leb-false _ _ (point.1 k d from to))
