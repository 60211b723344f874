-- What a finding says of the dates that it counts: no date has a class of which it counts none.
use Rattle.std.proofs.Common.{◌≡◌, ◌∙◌, ℕ, zero, suc, ◌+◌, ◌<◌, Bool, true, false, ◌&&◌, nat_eq}
use Rattle.std.proofs.Common.{if◌then◌else◌, List, [], ◌∷◌, length, refl, sym, ap, subst, arith}
use Rattle.ssim_values.specs.Flight.{FlightNumber, IsFlight}
use Rattle.ssim_values.specs.Period.{DayRange}
use Rattle.ssim_periods.specs.Calendar.{day_count, holds}
use Rattle.ssim_text.specs.declared.action.Action.{Action}
use Rattle.ssim_base.specs.ReadBack.{place_of}
use Rattle.ssim_base.specs.Stations.{Row}
use Rattle.ssim_base.proofs.Places.{same-self}
use Rattle.ssim_base.specs.Timetable.{Days, Legs, on_day}
use Rattle.ssim_schedule.specs.clauses.Acts.{acted_on, after_sub, changed_by}
use Rattle.ssim_schedule.specs.Acts.{after_on, class_on, counted_by}
use Rattle.ssim_schedule.specs.Acts.{finding_of, itinerary_after}
use Rattle.ssim_schedule.specs.clauses.Schedule.{Flown, days_in}
use Rattle.ssim_schedule.specs.Effect.{class_number, effect}
use Rattle.ssim_schedule.specs.declared.finding.Finding.{Finding}
use Rattle.ssim_schedule.specs.declared.finding.Reason.{Reason}
use Rattle.ssim_schedule.specs.declared.finding.Reason.TheVariants.{Absent, Acted, Leg, Present}
use Rattle.ssim_schedule.specs.declared.finding.Reason.TheVariants.{Station}
use Rattle.ssim_outbox.specs.clauses.Acting.{ActEach}
use Rattle.ssim_outbox.specs.Acting.{DoesAct}
use Rattle.ssim_outbox.specs.internal.Drafts.{ActOnEach, AreAsLong, IsAllActed}

-- no day of the set has the class
none_counted : (is_in : ℕ → Bool) (class : ℕ → Legs → ℕ) (k first : ℕ) (days : Days)
    → counted_by is_in class k first days ≡ 0 → (n : ℕ) → n < length days
    → is_in (first + n) ≡ true → nat_eq (class (first + n) (on_day days n)) k ≡ false
none_counted is_in class k first [] none n within held = absurd (omega (arith, within))
none_counted is_in class k first (legs ∷ days) none zero within held =
    let same : first + 0 ≡ first = omega arith in
    subst (λ (d : ℕ). nat_eq (class d legs) k ≡ false) (sym same)
    (by (nat_eq (class first legs) k)
    (subst (λ (b : Bool). (if b && nat_eq (class first legs) k then 1 else 0)
    + counted_by is_in class k (first + 1) days ≡ 0)
    (subst (λ (d : ℕ). is_in d ≡ true) same held) none))
  where
    by : (b : Bool) → (if b then 1 else 0) + counted_by is_in class k (first + 1) days ≡ 0
        → b ≡ false
    by true h = absurd (omega (arith, h))
    by false h = refl
none_counted is_in class k first (legs ∷ days) none (suc n) within held =
    let same : (first + 1) + n ≡ first + suc n = omega arith in
    subst (λ (d : ℕ). nat_eq (class d (on_day days n)) k ≡ false) same
    (none_counted is_in class k (first + 1) days (omega (arith, none)) n (omega (arith, within))
    (subst (λ (d : ℕ). is_in d ≡ true) (sym same) held))

-- a reason of none of the other classes is `Acted`
only_acted : (reason : Reason) → nat_eq (class_number reason) 1 ≡ false
    → nat_eq (class_number reason) 2 ≡ false → nat_eq (class_number reason) 3 ≡ false
    → nat_eq (class_number reason) 4 ≡ false → class_number reason ≡ 0
only_acted Acted absent present leg station = refl
only_acted Absent absent present leg station = let bad : true ≡ false = absent in absurd cc
only_acted Present absent present leg station = let bad : true ≡ false = present in absurd cc
only_acted Leg absent present leg station = let bad : true ≡ false = leg in absurd cc
only_acted Station absent present leg station = let bad : true ≡ false = station in absurd cc

-- a finding that only counts dates on which the action acted: it acts on each of them
pub finding_acts : (rows : List Row) (action : Action) (period : DayRange) (days : Days)
    (finding : Finding) → finding ≡ finding_of rows action period days → IsAllActed finding
    → (n : ℕ) → n < length days → holds period n ≡ true → DoesAct rows action n (on_day days n)
finding_acts rows action period days finding is all n within held =
    only_acted (effect rows action n (on_day days n)).1
    (none 1 (sym (ap (λ (f : Finding). f.absent) is) ∙ all.absent))
    (none 2 (sym (ap (λ (f : Finding). f.present) is) ∙ all.present))
    (none 3 (sym (ap (λ (f : Finding). f.leg) is) ∙ all.leg))
    (none 4 (sym (ap (λ (f : Finding). f.station) is) ∙ all.station))
  where
    none : (k : ℕ) → counted_by (holds period) (class_on rows action) k 0 days ≡ 0
        → nat_eq (class_on rows action n (on_day days n)) k ≡ false
    none k h =
        let same : 0 + n ≡ n = omega arith in
        subst (λ (d : ℕ). nat_eq (class_on rows action d (on_day days n)) k ≡ false) same
        (none_counted (holds period) (class_on rows action) k 0 days h n within
        (subst (λ (d : ℕ). holds period d ≡ true) (sym same) held))

-- no date is added or lost
long_changed : (is_in : ℕ → Bool) (after : ℕ → Legs → Legs) (n : ℕ) (days : Days)
    → length (changed_by is_in after n days) ≡ length days
long_changed is_in after n [] = refl
long_changed is_in after n (legs ∷ days) = ap suc (long_changed is_in after (n + 1) days)

pub long_after : (rows : List Row) (action : Action) (flight : FlightNumber) (period : DayRange)
    (days : FlightNumber → Days) (g : FlightNumber)
    → length (after_sub rows action flight period days g) ≡ length (days g)
long_after rows action flight period days g = by (nat_eq (place_of flight) (place_of g))
  where
    by : (b : Bool) → length (if b then acted_on rows action period (days g) else days g)
        ≡ length (days g)
    by true = long_changed (holds period) (after_on rows action) 0 (days g)
    by false = refl

-- an action that acts on each date, before others that do on what it leaves
pub each_after : (rows : List Row) (action : Action) (rest : List Action) (flight : FlightNumber)
    (period : DayRange) (before mid : Flown) (finding : Finding) → IsFlight flight
    → finding ≡ finding_of rows action period (days_in before flight) → IsAllActed finding
    → ((g : FlightNumber) (n : ℕ) → IsFlight g → n < day_count
    → on_day (days_in mid g) n
    ≡ itinerary_after rows action flight period g n (on_day (days_in before g) n))
    → AreAsLong before mid → ActOnEach rows rest flight period mid
    → ActOnEach rows (action ∷ rest) flight period before
each_after rows action rest flight period before mid finding exists is all moved as_long later n within long held = (
  finding_acts rows action period (days_in before flight) finding is all n long held,
  subst (ActEach rows n rest) left
      (later n within (subst (λ (l : ℕ). n < l) (sym (as_long flight)) long) held),
)
  where
    left : on_day (days_in mid flight) n ≡ after_on rows action n (on_day (days_in before flight) n)
    left =
        let old = on_day (days_in before flight) n in
        moved flight n exists within
        ∙ ap (λ (b : Bool). if b then after_on rows action n old else old)
        (ap (λ (b : Bool). b && holds period n) (same-self flight) ∙ held)
