-- What a schedule has after an action on one flight.
use Rattle.std.proofs.Common.{◌≡◌, ◌⊎◌, ℕ, ◌+◌, Bool, true, false, nat_eq, if◌then◌else◌, List, [], ◌∷◌, Contains, IsTrue, inl, inr, refl, sym, ap, subst, ◌∙◌, arith}
use Rattle.std.proofs.lemmas.Bool.Decides.{nat_tests}
use Rattle.ssim_values.specs.Flight.{FlightNumber}
use Rattle.ssim_values.specs.Period.{DayRange}
use Rattle.ssim_text.specs.declared.action.Action.{Action}
use Rattle.ssim_schedule.specs.internal.ActionParts.{AddsPoints}
use Rattle.ssim_schedule.specs.clauses.Acts.{AddsPointsOf, acted_on, after_sub, is_point_of}
use Rattle.ssim_base.specs.ReadBack.{place_of}
use Rattle.ssim_schedule.specs.internal.Table.{AddsOnlyAt, Table, found, table_cuts, table_days}
use Rattle.ssim_base.specs.Stations.{Row}
use Rattle.ssim_base.specs.Timetable.{Days}
use Rattle.ssim_schedule.specs.declared.timetable.flight_table.FlightPeriods.{FlightPeriods}
use Rattle.ssim_schedule.proofs.Acts.{end_point, first_point}

same_place : (q g : FlightNumber) → nat_eq (place_of q) (place_of g) ≡ true → place_of q ≡ place_of g
same_place q g e = grind (arith, nat_tests)

-- flights of the same rank have the same entry
found_same : {X : Type 0} (field : FlightPeriods → X) (other : X) (table : Table) (q g : FlightNumber) → place_of q ≡ place_of g → found field other table q ≡ found field other table g
found_same field other [] q g e = refl
found_same field other (f ∷ table) q g e =
    ap (λ k. if nat_eq (place_of f.flight) k then field f else found field other table q) e ∙ ap (λ rest. if nat_eq (place_of f.flight) (place_of g) then field f else rest) (found_same field other table q g e)

module _ (rows : List Row) (action : Action) (period : DayRange) (flight : FlightNumber) (old : Table) where
  -- an entry's days that were acted on, put in its place
  pub days_put : (days : Days) → days ≡ acted_on rows action period (table_days old flight) → (new : Table)
      → ((g : FlightNumber) → table_days new g ≡ (if nat_eq (place_of flight) (place_of g) then days else table_days old g)) → (g : FlightNumber) → table_days new g ≡ after_sub rows action flight period (table_days old) g
  days_put days made new put g = put g ∙ by (nat_eq (place_of flight) (place_of g)) refl
    where
      by : (b : Bool) → nat_eq (place_of flight) (place_of g) ≡ b → (if b then days else table_days old g) ≡ (if b then acted_on rows action period (table_days old g) else table_days old g)
      by true e = made ∙ ap (acted_on rows action period) (found_same (λ f. f.periods.days) _ old flight g (same_place flight g e))
      by false e = refl

  pub cuts_put : (cuts : List ℕ) → AddsPoints rows action period (table_cuts old flight) cuts → (new : Table)
      → ((g : FlightNumber) → table_cuts new g ≡ (if nat_eq (place_of flight) (place_of g) then cuts else table_cuts old g)) → (g : FlightNumber) → AddsPointsOf flight rows action period g (table_cuts old g) (table_cuts new g)
  cuts_put cuts adds new put g = subst (λ cs. AddsPointsOf flight rows action period g (table_cuts old g) cs) (sym (put g)) (by (nat_eq (place_of flight) (place_of g)) refl)
    where
      by : (b : Bool) → nat_eq (place_of flight) (place_of g) ≡ b → AddsPointsOf flight rows action period g (table_cuts old g) (if b then cuts else table_cuts old g)
      by true e = λ cut has. case cut (adds cut has)
        where
          same : place_of flight ≡ place_of g
          same = same_place flight g e

          case : (cut : ℕ) → Contains (table_cuts old flight) cut ⊎ IsTrue (is_point_of rows action period cut) → Contains (table_cuts old g) cut ⊎ ((place_of flight ≡ place_of g) × IsTrue (is_point_of rows action period cut))
          case cut (inl was) = inl (subst (λ (cs : List ℕ). Contains cs cut) (found_same (λ f. f.periods.cuts) [] old flight g same) was)
          case cut (inr is) = inr (same, is)
      by false e = λ cut has. inl has

-- cuts at the ends of the period alone are at points
pub cuts_at_ends : (rows : List Row) (action : Action) (period : DayRange) (flight g : FlightNumber) (old new : List ℕ) → AddsOnlyAt flight period g old new → AddsPointsOf flight rows action period g old new
cuts_at_ends rows action period flight g old new adds cut has = by (adds cut has)
  where
    by : Contains old cut ⊎ ((place_of flight ≡ place_of g) × ((cut ≡ period.first) ⊎ (cut ≡ period.last + 1))) → Contains old cut ⊎ ((place_of flight ≡ place_of g) × IsTrue (is_point_of rows action period cut))
    by (inl was) = inl was
    by (inr (same, inl e)) = inr (same, rw e (first_point rows action period))
    by (inr (same, inr e)) = inr (same, rw e (end_point rows action period))
