-- No row so far covers the station and the day.
use Rattle.std.proofs.Common.{◌≡◌, drop}
use Rattle.ssim_base.specs.Stations.{variation_at}
use Rattle.ssim_base.proofs.stations.variation_at.Given as goal

abbrev pub invariant-loop-row : goal.invariant-loop-row
invariant-loop-row l = variation_at (drop l.row-index l.rows) l.station l.day ≡ variation_at l.rows l.station l.day
