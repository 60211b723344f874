-- The lines of flights that are added one after another.
use Rattle.std.specs.Prelude.{ℕ, List}
use Rattle.ssim_base.specs.Stations.{Row}
use Rattle.ssim_difference.specs.Differences.{Compared}
use Rattle.ssim_outbox.specs.Unsaid.{flight_lines}
use Rattle.ssim_outbox.specs.internal.ReasonPieces.{division}

-- the lines of a flight with the pieces of its difference
abbrev pub divided_lines : List ℕ → List Row → Compared → List ℕ
divided_lines airline rows flight = flight_lines airline flight.0 (division rows flight.1)
