use Rattle.std.proofs.Common.{leb, leb-true, sym, arith, rules}
use Rattle.std.proofs.lemmas.Bool.{leb-false}
use Rattle.std.proofs.lemmas.List.Sorted.{IsPartitionPoint-from_clause, IsPartitionedBy-leb}
use Rattle.ssim_periods.proofs.CutLemmas.{place-between, non_decreasing}
use Rattle.ssim_periods.proofs.rows.place_of.Goals as goal

pub returns-clause-place : goal.returns-clause-place
returns-clause-place c =
    let parted = IsPartitionedBy-leb (λ cut. cut) c.args.cuts.now c.args.day (non_decreasing c.args.cuts.now c.requires) in
    let point = IsPartitionPoint-from_clause (λ cut. leb cut c.args.day) _ _ c.partition_point.ensures.partitioned parted (λ a r q k. search rules) in
    sym (place-between c.args.cuts.now c.args.day c.partition_point.result c.partition_point.ensures.bound (λ k h. leb-true _ _ (point.0 k 0 (omega arith) h)) (λ h. leb-false _ _ (point.1 c.partition_point.result 0 (omega arith) h)))
