use Rattle.std.proofs.Common.{ltb, rules}
use Rattle.std.proofs.lemmas.Bool.{ltb-true}
use Rattle.std.proofs.lemmas.Bool.{ltb-false}
use Rattle.std.proofs.lemmas.List.Sorted.{IsPartitionPoint-from_clause, IsPartitionedBy-ltb}
use Rattle.wl_output.specs.declared.fixups.Fixup.{Fixup}
use Rattle.wl_run.specs.Sites.{fixup_rank}
use Rattle.wl_run.proofs.filling.count_before.Goals as goal

pub returns-clause-point : goal.returns-clause-point
returns-clause-point c =
    let parted = IsPartitionedBy-ltb fixup_rank _ c.args.rank c.requires in
    let point = IsPartitionPoint-from_clause (λ (f : Fixup). ltb (fixup_rank f) c.args.rank) _ _ c.partition_point.ensures.partitioned parted (λ a r q k. search rules) in
    (λ k d from to. ltb-true _ _ (point.0 k d from to), λ k d from to. ltb-false _ _ (point.1 k d from to))
