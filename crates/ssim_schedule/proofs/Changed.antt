-- What a schedule has after a change of one flight on the days of a set.
use Rattle.std.proofs.Common.{◌≡◌, ℕ, zero, suc, ◌+◌, Bool, true, false, nat_eq, if◌then◌else◌}
use Rattle.std.proofs.Common.{List, [], ◌∷◌, length, ◌∙◌}
use Rattle.ssim_values.specs.Flight.{FlightNumber, IsFlight}
use Rattle.ssim_periods.specs.Calendar.{day_count}
use Rattle.ssim_periods.specs.Days.{changed_on}
use Rattle.ssim_periods.proofs.DayLemmas.{length-changed_on}
use Rattle.ssim_base.specs.ReadBack.{IsTimetable, place_of}
use Rattle.ssim_base.specs.Timetable.{Above, Days, Legs, on_day}
use Rattle.ssim_schedule.specs.internal.Table.{ChangesOn, Table, table_days}
use Rattle.ssim_schedule.proofs.InOrder.{timetable-same}

module _ (s : ℕ → Bool) (after : Legs → Legs)
    (keeps : (legs : Legs) → Above 0 legs → Above 0 (after legs))
  where
    days_above : (first n : ℕ) (days : Days) → Above 0 (on_day days n)
        → Above 0 (on_day (changed_on s after first days) n)
    days_above first n [] h = h
    days_above first zero (old ∷ days) h =
        elim (s first) as (λ b. Above 0 (if b then after old else old)) [
          | true ↦ keeps old h
          | false ↦ h
        ]
    days_above first (suc n) (old ∷ days) h = days_above (first + 1) n days h

    abbrev changed : FlightNumber → Table → FlightNumber → Days
    changed flight old g =
        if nat_eq (place_of flight) (place_of g) then changed_on s after 0 (table_days old g)
        else table_days old g

    changed_is : (flight : FlightNumber) (old : Table) → IsTimetable (table_days old)
        → IsTimetable (changed flight old)
    changed_is flight old was = record {
      each_day = λ g exists. elim (nat_eq (place_of flight) (place_of g)) as
          (λ b. length (if b then changed_on s after 0 (table_days old g) else table_days old g)
          ≡ day_count) [
            | true ↦ length-changed_on s after 0 (table_days old g) ∙ was.each_day g exists
            | false ↦ was.each_day g exists
          ];
      rising = λ g n exists within. elim (nat_eq (place_of flight) (place_of g)) as
          (λ b. Above 0 (on_day (if b then changed_on s after 0 (table_days old g)
          else table_days old g) n)) [
            | true ↦ days_above 0 n (table_days old g) (was.rising g n exists within)
            | false ↦ was.rising g n exists within
          ];
    }

    -- the legs of each date stay in order if the change leaves them so
    pub timetable-changed : (flight : FlightNumber) (old new : Table)
        → ChangesOn flight s after old new → IsTimetable (table_days old)
        → IsTimetable (table_days new)
    timetable-changed flight old new changes was =
        timetable-same (table_days new) (changed flight old) (λ g exists. changes g)
        (changed_is flight old was)
