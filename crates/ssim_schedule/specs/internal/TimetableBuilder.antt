-- What a builder has of a timetable after some records.
use Rattle.std.specs.Prelude.{◌≡◌, ◌⊎◌, ℕ, ◌&&◌, nat_eq, if◌then◌else◌, List, [], ◌∷◌, Option, None, Some, Contains, IsTrue}
use Rattle.std.specs.List.{list_any}
use Rattle.ssim_values.specs.Flight.{FlightNumber, IsFlight}
use Rattle.ssim_values.specs.Period.{DayRange}
use Rattle.ssim_periods.specs.Calendar.{holds}
use Rattle.ssim_periods.specs.Days.{changed_on, each_day}
use Rattle.ssim_records.specs.Leg.{LegFields, Name}
use Rattle.ssim_records.specs.Segment.{SegmentFields}
use Rattle.ssim_records.specs.declared.record.Record.{Record}
use Rattle.ssim_base.specs.Timetable.{Days, period_of, placed, tails_of}
use Rattle.ssim_schedule.specs.internal.LegKey.{IsPlaced, name_place}
use Rattle.ssim_schedule.specs.internal.LegGroup.{IsBound, StartsFrom, no_group, with_legs}
use Rattle.ssim_base.specs.ReadBack.{place_of}
use Rattle.ssim_schedule.specs.clauses.DivisionPoints.{is_point}
use Rattle.ssim_schedule.specs.internal.Table.{table_cuts, table_days}
use Rattle.ssim_schedule.specs.internal.TableBuilder.{table_of}
use Rattle.ssim_schedule.specs.internal.PendingSegments.{waiting_at}
use Rattle.ssim_schedule.specs.internal.WantedDates.{is_wanted, itinerary_wanted}
use Rattle.ssim_schedule.specs.declared.builder.timetable_builder.TimetableBuilder.{TimetableBuilder}
use Rattle.ssim_schedule.specs.declared.builder.leg_group.Heading.{Heading}

-- a flight's itineraries once the pending legs are put into the table
abbrev pub days_with : TimetableBuilder → FlightNumber → Days
days_with b g = with_legs b.group.heading b.group.legs g (table_days (table_of b.table) g)

-- a cut of the flight in the table, or one that the pending legs may add
abbrev pub IsCut : TimetableBuilder → FlightNumber → ℕ → Type 0
IsCut b g cut = Contains (table_cuts (table_of b.table) g) cut ⊎ IsBound b.group.heading g cut

-- The builder has the timetable of these records on the wanted dates, and their pending tails. If
-- each date is wanted, its cuts are division points of the records.
pub record IsBuilt (wanted : Option (ℕ × ℕ)) (b : TimetableBuilder)
    (done : List Record) : Type 0 where
  pub wants : b.wanted ≡ wanted
  pub days : (g : FlightNumber) → IsFlight g
      → days_with b g ≡ each_day (itinerary_wanted wanted done g)
  pub tails : (n : Name) → IsPlaced n → waiting_at b.waiting (name_place n) ≡ tails_of n done
  pub cuts : wanted ≡ None → (g : FlightNumber) → IsFlight g → (cut : ℕ) → IsCut b g cut
      → IsTrue (list_any (is_point g cut) done)

-- one more tail is pending
pub record TakesSegment (old new : TimetableBuilder) (r : SegmentFields) : Type 0 where
  pub named : IsPlaced r.name
  pub wanted : new.wanted ≡ old.wanted
  pub table : new.table ≡ old.table
  pub group : new.group ≡ old.group
  pub tails : (place : ℕ) → waiting_at new.waiting place
      ≡ (if nat_eq place (name_place r.name) then r.tail ∷ waiting_at old.waiting place
      else waiting_at old.waiting place)

-- the pending legs are put into the table
pub record PutsGroup (old new : TimetableBuilder) : Type 0 where
  pub days : (g : FlightNumber) → table_days (table_of new.table) g ≡ days_with old g
  pub cuts : (g : FlightNumber) (cut : ℕ) → Contains (table_cuts (table_of new.table) g) cut
      → IsCut old g cut
  pub group : new.group ≡ no_group
  pub waiting : new.waiting ≡ old.waiting
  pub wanted : new.wanted ≡ old.wanted

-- a leg with this heading and leg sequence can join the pending legs
pub record OpensGroup (old new : TimetableBuilder) (h : Heading) (sequence : ℕ) : Type 0 where
  pub heading : new.group.heading ≡ Some h
  pub order : StartsFrom sequence new.group.legs
  pub days : (g : FlightNumber) → days_with new g ≡ days_with old g
  pub cuts : (g : FlightNumber) (cut : ℕ) → IsCut new g cut
      → IsCut old g cut ⊎ IsBound (Some h) g cut
  pub waiting : new.waiting ≡ old.waiting
  pub wanted : new.wanted ≡ old.wanted

-- a leg is added with its pending tails, on the dates of a period
pub record PutsLeg (old new : TimetableBuilder) (r : LegFields) (period : DayRange) : Type 0 where
  pub named : IsPlaced r.name
  pub wanted : new.wanted ≡ old.wanted
  pub days : (g : FlightNumber) → days_with new g
      ≡ (if nat_eq (place_of r.name.flight) (place_of g)
      then changed_on (holds period)
      (placed (record {
        sequence = r.name.sequence;
        columns = r.columns;
        tails = waiting_at old.waiting (name_place r.name);
      })) 0 (days_with old g)
      else days_with old g)
  pub tails : (place : ℕ) → waiting_at new.waiting place
      ≡ (if nat_eq place (name_place r.name) then [] else waiting_at old.waiting place)
  pub cuts : (g : FlightNumber) (cut : ℕ) → IsCut new g cut
      → IsCut old g cut ⊎ IsBound (Some (record { flight = r.name.flight; period = period })) g cut

-- the pending tails of a leg are dropped
pub record LeavesOut (old new : TimetableBuilder) (name : Name) : Type 0 where
  pub named : IsPlaced name
  pub wanted : new.wanted ≡ old.wanted
  pub table : new.table ≡ old.table
  pub group : new.group ≡ old.group
  pub tails : (place : ℕ) → waiting_at new.waiting place
      ≡ (if nat_eq place (name_place name) then [] else waiting_at old.waiting place)

-- a leg is added with its pending tails, on the wanted dates of its period
pub record TakesLeg (old new : TimetableBuilder) (r : LegFields) : Type 0 where
  pub named : IsPlaced r.name
  pub wanted : new.wanted ≡ old.wanted
  pub days : (g : FlightNumber) → days_with new g
      ≡ (if nat_eq (place_of r.name.flight) (place_of g)
      then changed_on (λ n. holds (period_of r) n && is_wanted old.wanted n)
      (placed (record {
        sequence = r.name.sequence;
        columns = r.columns;
        tails = waiting_at old.waiting (name_place r.name);
      })) 0 (days_with old g)
      else days_with old g)
  pub tails : (place : ℕ) → waiting_at new.waiting place
      ≡ (if nat_eq place (name_place r.name) then [] else waiting_at old.waiting place)
  pub cuts : old.wanted ≡ None → (g : FlightNumber) (cut : ℕ) → IsCut new g cut
      → IsCut old g cut ⊎ IsBound (Some (record { flight = r.name.flight; period = period_of r })) g
      cut
