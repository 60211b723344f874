-- The entries of all flights after the current flight is changed, or becomes the current one.
use Rattle.std.proofs.Common.{◌≡◌, ℕ, ◌+◌, Bool, true, false, nat_eq, if◌then◌else◌, List, [], ◌∷◌}
use Rattle.std.proofs.Common.{Option, Some, None, Contains, inl, inr, refl, sym, ap, subst, ◌∙◌}
use Rattle.ssim_values.specs.Flight.{FlightNumber}
use Rattle.ssim_values.specs.Period.{DayRange}
use Rattle.ssim_periods.specs.clauses.Days.{Seen, AddsOnly}
use Rattle.ssim_periods.specs.Days.{changed_on}
use Rattle.ssim_base.specs.Timetable.{Days, Legs}
use Rattle.ssim_base.specs.ReadBack.{place_of}
use Rattle.ssim_schedule.specs.internal.Table.{AddsOnlyAt, Table, found, table_cuts, table_days}
use Rattle.ssim_schedule.specs.internal.TableBuilder.{is_current, with_current}
use Rattle.ssim_schedule.specs.declared.timetable.flight_table.FlightPeriods.{FlightPeriods}
use Rattle.ssim_schedule.proofs.ChangeLemmas.{adds, by_test, cuts_at, days_at, no_days, same_place}

-- flights of the same rank have the same entry
found_place : {X : Type 0} (field : FlightPeriods → X) (other : X) (table : Table)
    (q g : FlightNumber) → place_of q ≡ place_of g
    → found field other table q ≡ found field other table g
found_place field other [] q g e = refl
found_place field other (f ∷ table) q g e =
    let rest = found_place field other table q g e in
    ap (λ k. if nat_eq (place_of f.flight) k then field f else found field other table q) e
    ∙ ap (λ x. if nat_eq (place_of f.flight) (place_of g) then field f else x) rest

module _ (s : ℕ → Bool) (after : Legs → Legs) (q : FlightNumber) (table : Table) where
  -- the days of a flight, those of the one with the rank of q changed
  abbrev changed : (FlightNumber → Days) → FlightNumber → Days
  changed days g =
      if nat_eq (place_of q) (place_of g) then changed_on s after 0 (days g) else days g

  -- the flight becomes the current one
  pub days-before : (old new : Seen Legs) → old.days ≡ table_days table q
      → new.days ≡ changed_on s after 0 old.days → (g : FlightNumber)
      → table_days (with_current (Some q) new table) g ≡ changed (table_days table) g
  days-before old new was made g =
      let before = table_days table g in
      by_test (nat_eq (place_of q) (place_of g)) new.days (changed_on s after 0 before) before (λ e.
      let same = found_place days_at no_days table q g (same_place q g e) in
      made ∙ ap (changed_on s after 0) (was ∙ same))

  -- the current flight is changed
  pub days-head : (current : Option FlightNumber) (old new : Seen Legs)
      → is_current current q ≡ true → new.days ≡ changed_on s after 0 old.days → (g : FlightNumber)
      → table_days (with_current current new table) g
      ≡ changed (table_days (with_current current old table)) g
  days-head None old new is made g = absurd cc
  days-head (Some flight) old new is made g =
      ap (λ k. if nat_eq k (place_of g) then new.days else table_days table g) its
      ∙ choose (nat_eq (place_of q) (place_of g))
      ∙ ap (λ k. changed (was k) g) (sym its)
    where
      its : place_of flight ≡ place_of q
      its = same_place flight q is

      was : ℕ → FlightNumber → Days
      was k h = if nat_eq k (place_of h) then old.days else table_days table h

      kept : Bool → Days
      kept b = if b then old.days else table_days table g

      choose : (b : Bool) → (if b then new.days else table_days table g)
          ≡ (if b then changed_on s after 0 (kept b) else kept b)
      choose true = made
      choose false = refl

module _ (period : DayRange) (q : FlightNumber) (table : Table) where
  -- the flight becomes the current one
  pub cuts-before : (old new : Seen Legs) → old.cuts ≡ table_cuts table q
      → AddsOnly old.cuts new.cuts period.first (period.last + 1) → (g : FlightNumber)
      → AddsOnlyAt q period g (table_cuts table g) (table_cuts (with_current (Some q) new table) g)
  cuts-before old new was only g =
      let is_q = nat_eq (place_of q) (place_of g) in
      adds period q g is_q (table_cuts table g) old.cuts new.cuts refl
      (λ e. was ∙ found_place cuts_at [] table q g (same_place q g e)) only

  -- the current flight is changed
  pub cuts-head : (current : Option FlightNumber) (old new : Seen Legs)
      → is_current current q ≡ true → AddsOnly old.cuts new.cuts period.first (period.last + 1)
      → (g : FlightNumber) → AddsOnlyAt q period g (table_cuts (with_current current old table) g)
      (table_cuts (with_current current new table) g)
  cuts-head None old new is only g = absurd cc
  cuts-head (Some flight) old new is only g =
      subst (λ k. adds_by (nat_eq k (place_of g))) (sym (same_place flight q is))
      (by (nat_eq (place_of q) (place_of g)) refl)
    where
      chosen : Bool → Seen Legs → List ℕ
      chosen b periods = if b then periods.cuts else table_cuts table g

      adds_by : Bool → Type 0
      adds_by b = AddsOnlyAt q period g (chosen b old) (chosen b new)

      by : (b : Bool) → nat_eq (place_of q) (place_of g) ≡ b → adds_by b
      by true e = adds period q g true old.cuts old.cuts new.cuts e (λ t. refl) only
      by false e = λ cut c. inl c

-- cuts that were all there before
pub adds-from : (period : DayRange) (q g : FlightNumber) (old mid new : List ℕ)
    → ((cut : ℕ) → Contains mid cut → Contains old cut)
    → AddsOnlyAt q period g mid new → AddsOnlyAt q period g old new
adds-from period q g old mid new there adds cut has =
    elim (adds cut has) [
      | inl kept ↦ inl (there cut kept)
      | inr more ↦ inr more
    ]

-- if a test chooses, cuts that were all there before still were
pub cuts-back : (b : Bool) (cuts old rest : List ℕ)
    → ((cut : ℕ) → Contains cuts cut → Contains old cut)
    → (cut : ℕ) → Contains (if b then cuts else rest) cut → Contains (if b then old else rest) cut
cuts-back true cuts old rest there cut has = there cut has
cuts-back false cuts old rest there cut has = has
