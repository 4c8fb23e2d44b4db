use Rattle.std.proofs.Common.{leb, leb-true, leb-false, rules}
use Rattle.std.proofs.lemmas.List.Sorted.{IsPartitionPoint-from_clause, IsPartitionedBy-leb}
use Rattle.wl_ops.proofs.rewriting.shifts_before.Goals as goal

pub returns-clause-point : goal.returns-clause-point
returns-clause-point c =
    let parted = IsPartitionedBy-leb (λ s. s.old_end) _ c.args.place c.requires in
    let point = IsPartitionPoint-from_clause (λ s. leb s.old_end c.args.place) _ _ c.partition_point.ensures.partitioned parted (λ a r q k. search rules) in
    (λ k d from to. leb-true _ _ (point.0 k d from to), λ k d from to. leb-false _ _ (point.1 k d from to))
