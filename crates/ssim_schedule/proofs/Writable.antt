-- All legs of a timetable that was written can be: each day's itinerary is that of one of its
-- pieces.
use Rattle.std.proofs.Common.{◌≡◌, ℕ, true, false, nat_eq, if◌then◌else◌, List, [], ◌∷◌, sym, subst}
use Rattle.std.specs.List.{All, AllByRecursion as Each}
use Rattle.std.proofs.lemmas.List.Elements.{All-nil, recursion_from_All}
use Rattle.ssim_values.specs.Flight.{FlightNumber}
use Rattle.ssim_periods.specs.Calendar.{holds}
use Rattle.ssim_periods.specs.Days.{each_day}
use Rattle.ssim_periods.specs.Pieces.{alone, held_on}
use Rattle.ssim_base.specs.Timetable.{Days, Legs, on_day}
use Rattle.ssim_base.specs.Export.{Piece, pieces, same_itinerary}
use Rattle.ssim_schedule.specs.FlightPieces.{Divided}
use Rattle.ssim_schedule.specs.internal.Plan.{HasWritableLegs, HasWritablePieces, plan_of}
use Rattle.ssim_base.specs.clauses.ReadBack.{CanReadBack}
use Rattle.ssim_base.specs.ReadBack.{IsTimetable, IsWritable, place_of}
use Rattle.ssim_schedule.specs.internal.Table.{Table, table_days}
use Rattle.ssim_base.proofs.Calendars.{at-each_day}
use Rattle.ssim_base.proofs.Pieces.{itinerary_pieces}

-- ---- day by day

abbrev CanBeWritten : Legs → Type 0
CanBeWritten legs = All IsWritable legs

held-writable : (ps : List Piece) (n : ℕ) → Each HasWritableLegs ps → Each CanBeWritten (held_on ps n)
held-writable [] n h = tt
held-writable (p ∷ ps) n h =
    elim (holds p.0 n) as (λ b. Each CanBeWritten (if b then p.1 ∷ held_on ps n else held_on ps n)) [
      | true ↦ (h.0, held-writable ps n h.1)
      | false ↦ held-writable ps n h.1
    ]

alone-writable : (legs : Legs) → Each CanBeWritten (alone same_itinerary [] legs) → CanBeWritten legs
alone-writable [] h = All-nil IsWritable
alone-writable (l ∷ legs) h = h.0

day-writable : (days : Days) (n : ℕ) → All HasWritableLegs (pieces days) → CanBeWritten (on_day days n)
day-writable days n h =
    let law = itinerary_pieces days in
    alone-writable (on_day days n) (subst (λ (values : List Legs). Each CanBeWritten values) (law.on_each_day n) (held-writable (pieces days) n (recursion_from_All HasWritableLegs (pieces days) h)))

-- ---- flight by flight

-- what holds of the days of each entry, and of a flight without an entry, holds of the days of each
-- flight
of-each : (P : Days → Type 0) (table : Table) (g : FlightNumber) → Each (λ f. P f.periods.days) table → P (each_day (λ _. [])) → P (table_days table g)
of-each P [] g each none = none
of-each P (f ∷ table) g each none =
    elim (nat_eq (place_of f.flight) (place_of g)) as (λ b. P (if b then f.periods.days else table_days table g)) [
      | true ↦ each.0
      | false ↦ of-each P table g each.1 none
    ]

entries-writable : (table : Table) (n : ℕ) → Each HasWritablePieces (plan_of table) → Each (λ f. CanBeWritten (on_day f.periods.days n)) table
entries-writable [] n h = tt
entries-writable (f ∷ table) n h = (day-writable f.periods.days n h.0, entries-writable table n h.1)

-- what was written can be read back
pub readable : (table : Table) (plan : List Divided) → plan ≡ plan_of table → All HasWritablePieces plan → IsTimetable (table_days table) → CanReadBack (table_days table)
readable table plan is writable timetable =
    let each = recursion_from_All HasWritablePieces (plan_of table) (subst (λ (ps : List Divided). All HasWritablePieces ps) is writable) in
    record {
      timetable = timetable;
      legs = λ g n exists within.
          of-each (λ ds. CanBeWritten (on_day ds n)) table g (entries-writable table n each)
          (subst CanBeWritten (sym (at-each_day (λ _. []) n within)) (All-nil IsWritable));
    }
