-- It stays a draft, and the lists that are left have actions of texts.
use Rattle.std.specs.List.{AllByRecursion}
use Rattle.ssim_values.specs.Flight.{FlightNumber}
use Rattle.ssim_base.specs.Timetable.{Days}
use Rattle.ssim_outbox.specs.Reach.{IsSaid}
use Rattle.ssim_outbox.specs.internal.Drafts.{IsChangeOf, IsDraft}
use Rattle.ssim_outbox.proofs.flight_periods.add_periods.Given as goal

abbrev pub invariant-loop-piece : goal.invariant-loop-piece
invariant-loop-piece l = ((from to : FlightNumber → Days) → IsChangeOf from to l.change
    → IsDraft l.rows from to l.initial.draft → IsDraft l.rows from to l.draft)
    × AllByRecursion (λ actions. AllByRecursion IsSaid actions.items) l.said.items
