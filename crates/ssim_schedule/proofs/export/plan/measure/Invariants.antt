-- The first refusal is the first refusal of the flights that are left.
use Rattle.std.proofs.Common.{◌≡◌, ◌<◌, drop}
use Rattle.ssim_schedule.specs.internal.Plan.{plan_refusal}
use Rattle.ssim_schedule.proofs.export.plan.measure.Given as goal

abbrev pub invariant-loop-planned : goal.invariant-loop-planned
invariant-loop-planned l = record {
  room : l.count < 999999;
  same : plan_refusal l.count (drop l.planned-index l.plan) ≡ plan_refusal 2 l.plan;
}
