-- The cuts before the place are not after the day, and the others are.
use Rattle.std.proofs.Common.{leb, leb-true, arith, rules}
use Rattle.std.proofs.lemmas.Bool.{leb-false}
use Rattle.std.proofs.lemmas.List.Sorted.{IsPartitionPoint-from_clause, IsPartitionedBy-leb}
use Rattle.ssim_periods.proofs.CutLemmas.{non_decreasing}
use Rattle.ssim_outbox.proofs.made_dates.place_after.Goals as goal

pub returns : goal.returns
returns c =
    let parted = IsPartitionedBy-leb (λ cut. cut) c.args.cuts.now c.args.day
    (non_decreasing c.args.cuts.now c.requires) in
    let point = IsPartitionPoint-from_clause (λ cut. leb cut c.args.day) _ _
    c.partition_point.ensures.partitioned parted (λ a r q k. search rules) in
    record {
      before = λ k d h. leb-true _ _ (point.0 k d (omega arith) h);
      after = λ h. leb-false _ _ (point.1 c.partition_point.result 0 (omega arith) h);
    }
