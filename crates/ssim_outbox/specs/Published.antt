-- What sub-messages leave of a timetable, and the timetable that messages make of an old one on the
-- way to a new one.
use Rattle.std.specs.Prelude.{◌≡◌, ◌≢◌, ◌⊎◌, ℕ, ◌<◌, true, List, [], ◌∷◌}
use Rattle.ssim_values.specs.Flight.{FlightNumber, IsFlight}
use Rattle.ssim_periods.specs.Calendar.{day_count, holds}
use Rattle.ssim_base.specs.Stations.{Row}
use Rattle.ssim_base.specs.Timetable.{Days, Legs, on_day}
use Rattle.ssim_schedule.specs.Acts.{itinerary_after}
use Rattle.ssim_outbox.specs.Reach.{Reach}
use Rattle.ssim_outbox.specs.declared.planned_sub.PlannedSub.{PlannedSub}

-- what a flight has on a day after sub-messages, one after another: each acts if it names the
-- flight and its period holds the day
abbrev pub legs_after : List Row → List PlannedSub → FlightNumber → ℕ → Legs → Legs
legs_after rows [] flight day legs = legs
legs_after rows (sub ∷ subs) flight day legs =
    legs_after rows subs flight day
    (itinerary_after rows sub.action sub.flight sub.period flight day legs)

-- The sub-messages leave the timetable `after` of the old one: on each date of each flight.
abbrev pub Leave : List Row → List PlannedSub → (FlightNumber → Days) → (FlightNumber → Days)
    → Type 0
Leave rows subs old after = (flight : FlightNumber) (day : ℕ) → IsFlight flight → day < day_count
    → on_day (after flight) day ≡ legs_after rows subs flight day (on_day (old flight) day)

-- the itinerary of a date after publishing: the new one if messages can reach it from the old one,
-- and the old one if not
abbrev pub IsPublishedOn : List Row → ℕ → Legs → Legs → Legs → Type 0
IsPublishedOn rows day old new after =
    ((after ≡ new) × Reach rows day old new) ⊎ ((after ≡ old) × ¬ (Reach rows day old new))

-- The timetable `after` is what messages make of the old one on the way to the new one: on each
-- date of each flight the new itinerary if messages can reach it, and the old one if not.
abbrev pub IsPublished : List Row → (FlightNumber → Days) → (FlightNumber → Days)
    → (FlightNumber → Days) → Type 0
IsPublished rows old new after =
    (flight : FlightNumber) (day : ℕ) → IsFlight flight → day < day_count
    → IsPublishedOn rows day (on_day (old flight) day) (on_day (new flight) day)
    (on_day (after flight) day)

-- a sub-message names at least one date of its flight, and on each date that it names the flight
-- has another itinerary in the new timetable than in the old one
pub record NamesDifferences (old new : FlightNumber → Days) (sub : PlannedSub) : Type 0 where
  pub some : (day : ℕ) × (day < day_count) × (holds sub.period day ≡ true)
  pub each : (day : ℕ) → day < day_count → holds sub.period day ≡ true
      → on_day (old sub.flight) day ≢ on_day (new sub.flight) day
