use Rattle.std.proofs.Common.{ltb, rules}
use Rattle.std.proofs.lemmas.List.Sorted.{IsNonDecreasingBy-from_default, IsPartitionPoint-from_clause, IsPartitionedBy-ltb}
use Rattle.probes.proofs.Sought.{parted_at, rises}
use Rattle.probes.proofs.fixed.lower.Goals as goal

pub returns : goal.returns
returns c =
    let from = c.args.from.now in
    let u = c.args.u in
    parted_at from u c.partition_point.result c.partition_point.ensures.bound
    (λ r. IsPartitionPoint-from_clause (λ y. ltb y u) from _ c.partition_point.ensures.partitioned
    (IsPartitionedBy-ltb (λ y. y) from u (IsNonDecreasingBy-from_default (λ y. y) from 0 (rises from u r))) (λ a x q k. search rules))
