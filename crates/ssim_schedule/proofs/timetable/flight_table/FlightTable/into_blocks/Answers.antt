-- The blocks are those of the schedule, one after another.
use Rattle.std.proofs.Common.{subst}
use Rattle.ssim_schedule.specs.internal.Table.{AreRising, Table}
use Rattle.ssim_schedule.proofs.BlockLemmas.{rising_joined}
use Rattle.ssim_schedule.proofs.timetable.flight_table.FlightTable.into_blocks.Goals as goal

pub returns-clause-rising : goal.returns-clause-rising
returns-clause-rising c = subst (λ (t : Table). AreRising t) c.self.view_is (rising_joined c.self.inside.blocks.items c.self.invariant.0)
