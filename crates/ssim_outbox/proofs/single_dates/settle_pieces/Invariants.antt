-- The dates of the pieces so far are settled.
use Rattle.std.proofs.Common.{take}
use Rattle.ssim_values.specs.Flight.{FlightNumber}
use Rattle.ssim_base.specs.Timetable.{Days}
use Rattle.ssim_outbox.specs.internal.Drafts.{IsChangeOf, IsDraft, Settles, dates_of_pieces}
use Rattle.ssim_outbox.proofs.single_dates.settle_pieces.Given as goal

abbrev pub invariant-loop-piece : goal.invariant-loop-piece
invariant-loop-piece l = (from to : FlightNumber → Days) → IsChangeOf from to l.change
    → IsDraft l.rows from to l.initial.draft
    → Settles l.rows from to (dates_of_pieces l.change.flight (take l.piece-index l.pieces))
    l.initial.draft l.draft
