-- Actions that act: more of them come to those before.
use Rattle.std.proofs.Common.{◌≡◌, ℕ, Bool, true, ◌&&◌, if◌then◌else◌, List, [], ◌∷◌, ◌++◌, map}
use Rattle.std.proofs.Common.{sym, subst}
use Rattle.ssim_values.specs.Flight.{FlightNumber}
use Rattle.ssim_values.specs.Period.{DayRange}
use Rattle.ssim_periods.specs.Calendar.{holds}
use Rattle.ssim_text.specs.declared.action.Action.{Action}
use Rattle.ssim_base.specs.Stations.{Row}
use Rattle.ssim_base.specs.Timetable.{Legs, same_flight}
use Rattle.ssim_schedule.specs.Acts.{after_on, itinerary_after}
use Rattle.ssim_outbox.specs.clauses.Acting.{ActEach}
use Rattle.ssim_outbox.specs.Acting.{ActOn}
use Rattle.ssim_outbox.specs.Published.{legs_after}
use Rattle.ssim_outbox.specs.Reach.{after_all}
use Rattle.ssim_outbox.specs.declared.planned_sub.PlannedSub.{PlannedSub}
use Rattle.ssim_outbox.specs.internal.Drafts.{planned}

-- actions, and then others
pub each_both : (rows : List Row) (day : ℕ) (first later : List Action) (legs : Legs)
    → ActEach rows day first legs → ActEach rows day later (after_all rows day first legs)
    → ActEach rows day (first ++ later) legs
each_both rows day [] later legs h k = k
each_both rows day (action ∷ first) later legs h k =
    (h.0, each_both rows day first later (after_on rows action day legs) h.1 k)

-- sub-messages, and then others
pub on_both : (rows : List Row) (subs more : List PlannedSub) (g : FlightNumber) (n : ℕ)
    (legs : Legs) → ActOn rows subs g n legs → ActOn rows more g n (legs_after rows subs g n legs)
    → ActOn rows (subs ++ more) g n legs
on_both rows [] more g n legs h k = k
on_both rows (sub ∷ subs) more g n legs h k = (
  h.0,
  on_both rows subs more g n
      (itinerary_after rows sub.action sub.flight sub.period g n legs) h.1 k,
)

-- the sub-messages of actions that act on each date of their flight and their period
pub on_planned : (rows : List Row) (actions : List Action) (flight : FlightNumber)
    (period : DayRange) (g : FlightNumber) (n : ℕ) (legs : Legs)
    → ((same_flight flight g && holds period n) ≡ true → ActEach rows n actions legs)
    → ActOn rows (map (planned flight period) actions) g n legs
on_planned rows [] flight period g n legs h = tt
on_planned rows (action ∷ actions) flight period g n legs h = (
  λ named. (h named).0,
  on_planned rows actions flight period g n
      (itinerary_after rows action flight period g n legs)
      (λ named. subst (λ (b : Bool). ActEach rows n actions
      (if b then after_on rows action n legs else legs)) (sym named) (h named).1),
)
