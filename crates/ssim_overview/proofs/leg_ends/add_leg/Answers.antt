-- The ends of its period, or none if it has no day.
use Rattle.std.proofs.Common.{map}
use Rattle.ssim_overview.proofs.NoteEnds.{turned_leg}
use Rattle.ssim_overview.proofs.leg_ends.add_leg.Goals as goal

pub returns-in-None : goal.returns-in-None
returns-in-None c =
    turned_leg (map (λ list. list.items) c.args.table.now) c.args.leg.now
    (map (λ list. list.items) c.args.ends.now.items) c.in-None.ensures.none

pub returns-in-Some : goal.returns-in-Some
returns-in-Some c = c.add_ends.ensures

pub add_ends-requires-clause-period : goal.add_ends-requires-clause-period
add_ends-requires-clause-period c = c.in-Some.ensures.some
