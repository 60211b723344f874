-- The entries of all flights after one flight's entry is changed, or the first entry of a flight is
-- put in.
use Rattle.std.proofs.Common.{◌≡◌, ◌⊎◌, ℕ, ◌+◌, Bool, true, false, nat_eq, if◌then◌else◌, List, [], get_or, set, Contains, inl, inr, refl, sym, ap, subst, ◌∙◌, arith}
use Rattle.std.specs.List.{insert}
use Rattle.std.proofs.lemmas.Bool.Decides.{nat_tests}
use Rattle.ssim_values.specs.Flight.{FlightNumber}
use Rattle.ssim_values.specs.Period.{DayRange}
use Rattle.ssim_periods.specs.clauses.Days.{Seen, AddsOnly}
use Rattle.ssim_periods.specs.Days.{each_day, changed_on}
use Rattle.ssim_base.specs.Timetable.{Legs, Days}
use Rattle.ssim_base.specs.ReadBack.{place_of}
use Rattle.ssim_schedule.specs.internal.Table.{AddsOnlyAt, AreRising, IsAt, IsGapFor, Table, no_entry, table_cuts, table_days}
use Rattle.ssim_schedule.specs.declared.timetable.flight_table.FlightPeriods.{FlightPeriods}
use Rattle.ssim_schedule.proofs.TableLemmas.{found_at, found_in_gap, found_insert, found_set}

abbrev pub days_at : FlightPeriods → Days
days_at f = f.periods.days

abbrev pub cuts_at : FlightPeriods → List ℕ
cuts_at f = f.periods.cuts

abbrev pub no_days : Days
no_days = each_day (λ _. [])

pub same_place : (q g : FlightNumber) → nat_eq (place_of q) (place_of g) ≡ true → place_of q ≡ place_of g
same_place q g e = grind (arith, nat_tests)

moved : (table : Table) (q g : FlightNumber) (i : ℕ) → place_of q ≡ place_of g → IsAt table q i → IsAt table g i
moved table q g i e is = record { in_range = is.in_range; its = is.its ∙ e }

moved_gap : (table : Table) (q g : FlightNumber) (i : ℕ) → place_of q ≡ place_of g → IsGapFor table q i → IsGapFor table g i
moved_gap table q g i e gap = record { in_range = gap.in_range; lower_before = λ j lt. omega (arith, gap.lower_before j lt); higher_after = λ j le lt. omega (arith, gap.higher_after j le lt) }

-- an entry is its own flight's entry
pub own : (table : Table) (q : FlightNumber) (i : ℕ) (f : FlightPeriods) → IsAt table q i → f ≡ get_or table i no_entry → IsAt table f.flight i
own table q i f is here = record { in_range = is.in_range; its = sym (ap (λ (f : FlightPeriods). place_of f.flight) here) }

-- if a test chooses, the choices may be compared one by one
pub by_test : {A : Type 0} (b : Bool) (x y z : A) → (b ≡ true → x ≡ y) → (if b then x else z) ≡ (if b then y else z)
by_test true x y z same = same refl
by_test false x y z same = refl

module _ (s : ℕ → Bool) (after : Legs → Legs) where
  -- a new entry
  pub days-insert : (table : Table) (q : FlightNumber) (i : ℕ) (p : Seen Legs) → IsGapFor table q i → p.days ≡ changed_on s after 0 no_days → (g : FlightNumber)
      → table_days (insert table i (record { flight = q; periods = p })) g ≡ (if nat_eq (place_of q) (place_of g) then changed_on s after 0 (table_days table g) else table_days table g)
  days-insert table q i p gap made g =
      found_insert days_at no_days table (record { flight = q; periods = p }) i g gap
      ∙ by_test (nat_eq (place_of q) (place_of g)) p.days (changed_on s after 0 (table_days table g)) (table_days table g)
      (λ e. made ∙ ap (changed_on s after 0) (sym (found_in_gap days_at no_days table g i (moved_gap table q g i (same_place q g e) gap))))

  -- an entry that is changed
  pub days-set : (table : Table) → AreRising table → (q : FlightNumber) (i : ℕ) (f : FlightPeriods) (p : Seen Legs) → IsAt table q i → f ≡ get_or table i no_entry
      → p.days ≡ changed_on s after 0 f.periods.days → (g : FlightNumber)
      → table_days (set table i (record { flight = f.flight; periods = p })) g ≡ (if nat_eq (place_of q) (place_of g) then changed_on s after 0 (table_days table g) else table_days table g)
  days-set table rising q i f p is here made g =
      let its : place_of f.flight ≡ place_of q = ap (λ (f : FlightPeriods). place_of f.flight) here ∙ is.its in
      let at_f : IsAt table f.flight i = moved table q f.flight i (sym its) is in
      found_set days_at no_days table rising (record { flight = f.flight; periods = p }) i g at_f
      ∙ ap (λ k. if nat_eq k (place_of g) then p.days else table_days table g) its
      ∙ by_test (nat_eq (place_of q) (place_of g)) p.days (changed_on s after 0 (table_days table g)) (table_days table g)
      (λ e. made ∙ ap (changed_on s after 0) (ap days_at here ∙ sym (found_at days_at no_days table rising g i (moved table q g i (same_place q g e) is))))

module _ (period : DayRange) where
  pub adds : (q g : FlightNumber) (b : Bool) (old had new : List ℕ) → nat_eq (place_of q) (place_of g) ≡ b → (b ≡ true → had ≡ old) → AddsOnly had new period.first (period.last + 1) → AddsOnlyAt q period g old (if b then new else old)
  adds q g true old had new e same only = λ cut c. by cut (only cut c)
    where
      by : (cut : ℕ) → Contains had cut ⊎ (cut ≡ period.first) ⊎ (cut ≡ period.last + 1) → Contains old cut ⊎ ((place_of q ≡ place_of g) × ((cut ≡ period.first) ⊎ (cut ≡ period.last + 1)))
      by cut (inl kept) = inl (subst (λ (cs : List ℕ). Contains cs cut) (same refl) kept)
      by cut (inr more) = inr (same_place q g e, more)
  adds q g false old had new e same only = λ cut c. inl c

  pub cuts-insert : (table : Table) (q : FlightNumber) (i : ℕ) (p : Seen Legs) (none : List ℕ) → IsGapFor table q i → none ≡ [] → AddsOnly none p.cuts period.first (period.last + 1) → (g : FlightNumber)
      → AddsOnlyAt q period g (table_cuts table g) (table_cuts (insert table i (record { flight = q; periods = p })) g)
  cuts-insert table q i p none gap empty only g =
      subst (λ (new : List ℕ). AddsOnlyAt q period g (table_cuts table g) new) (sym (found_insert cuts_at [] table (record { flight = q; periods = p }) i g gap))
      (adds q g (nat_eq (place_of q) (place_of g)) (table_cuts table g) none p.cuts refl (λ e. empty ∙ sym (found_in_gap cuts_at [] table g i (moved_gap table q g i (same_place q g e) gap))) only)

  pub cuts-set : (table : Table) → AreRising table → (q : FlightNumber) (i : ℕ) (f : FlightPeriods) (p : Seen Legs) → IsAt table q i → f ≡ get_or table i no_entry
      → AddsOnly f.periods.cuts p.cuts period.first (period.last + 1) → (g : FlightNumber)
      → AddsOnlyAt q period g (table_cuts table g) (table_cuts (set table i (record { flight = f.flight; periods = p })) g)
  cuts-set table rising q i f p is here only g =
      let its : place_of f.flight ≡ place_of q = ap (λ (f : FlightPeriods). place_of f.flight) here ∙ is.its in
      let at_f : IsAt table f.flight i = moved table q f.flight i (sym its) is in
      subst (λ (new : List ℕ). AddsOnlyAt q period g (table_cuts table g) new)
      (sym (found_set cuts_at [] table rising (record { flight = f.flight; periods = p }) i g at_f ∙ ap (λ k. if nat_eq k (place_of g) then p.cuts else table_cuts table g) its))
      (adds q g (nat_eq (place_of q) (place_of g)) (table_cuts table g) f.periods.cuts p.cuts refl (λ e. ap cuts_at here ∙ sym (found_at cuts_at [] table rising g i (moved table q g i (same_place q g e) is))) only)

-- a fact of a result from a fact of another
