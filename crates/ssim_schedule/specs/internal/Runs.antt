-- Legs that are still to be put into the itineraries of a flight.
use Rattle.std.specs.Prelude.{◌≡◌, ◌⊎◌, ℕ, ◌<◌, Bool, true, false, ◌||◌, List, ◌++◌}
use Rattle.std.specs.Prelude.{length, slice_get, Some}
use Rattle.std.specs.List.{list_any}
use Rattle.std.proofs.Math.ListN.{drop}
use Rattle.ssim_values.specs.Period.{DayRange}
use Rattle.ssim_periods.specs.Calendar.{holds}
use Rattle.ssim_periods.specs.clauses.Days.{Seen, changed_by_each, ends_of}
use Rattle.ssim_base.specs.Timetable.{Legs}
use Rattle.ssim_schedule.specs.clauses.PlacedLegs.{placed_each}

-- the legs to put, each with the period of the dates that get them
abbrev pub Run : Type 0
Run = DayRange × Legs

-- a flight's itineraries once the legs of the runs are put into them, and the cuts that this may
-- leave
abbrev pub with_runs : List Run → Seen Legs → Seen Legs
with_runs runs periods = record {
  days = changed_by_each placed_each runs periods.days;
  cuts = ends_of runs ++ periods.cuts;
}

-- whether the period of one of the runs holds the day
abbrev pub is_run_on : List Run → ℕ → Bool
is_run_on runs n = list_any (λ run. holds run.0 n) runs

-- the run at an index has the legs, and `both` has its days and those of the period; no day of the
-- period is one of this run or of a later one
pub record IsWider (runs : List Run) (period : DayRange) (legs : Legs) (place : ℕ)
    (both : DayRange) : Type 0 where
  pub in_range : place < length runs
  pub same_legs : (run : Run) → slice_get runs place ≡ Some run → run.1 ≡ legs
  pub days : (run : Run) → slice_get runs place ≡ Some run → (n : ℕ)
      → holds both n ≡ (holds run.0 n || holds period n)
  pub first : (run : Run) → slice_get runs place ≡ Some run → (both.first ≡ run.0.first)
      ⊎ (both.first ≡ period.first)
  pub last : (run : Run) → slice_get runs place ≡ Some run → (both.last ≡ run.0.last)
      ⊎ (both.last ≡ period.last)
  pub free : (n : ℕ) → holds period n ≡ true → is_run_on (drop place runs) n ≡ false
