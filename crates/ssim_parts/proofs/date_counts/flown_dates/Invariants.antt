-- The dates of the flights so far.
use Rattle.std.proofs.Common.{◌≡◌, take}
use Rattle.ssim_parts.specs.internal.Counted.{all_dates, any_legs, capped}
use Rattle.ssim_parts.proofs.date_counts.flown_dates.Given as goal

abbrev pub invariant-loop-flight : goal.invariant-loop-flight
invariant-loop-flight l = l.count ≡ capped (all_dates any_legs (take l.flight-index l.flights))
