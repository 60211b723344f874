-- The days of a period from a first date to a last, and the timetable of these dates.
use Rattle.std.proofs.Common.{◌≡◌, ℕ, ◌<◌, ◌≤◌, Bool, true, false, ◌&&◌, nat_le, if◌then◌else◌, List, [], Option, None, refl, sym, ap, subst, ◌∙◌, slice_index_or, arith}
use Rattle.std.proofs.lemmas.Bool.Decides.{nat_tests}
use Rattle.ssim_values.specs.Flight.{FlightNumber}
use Rattle.ssim_values.specs.Period.{DayRange}
use Rattle.ssim_periods.specs.Calendar.{holds}
use Rattle.ssim_values.specs.Calendar.{slot}
use Rattle.ssim_periods.specs.Days.{each_day}
use Rattle.ssim_records.specs.declared.record.Record.{Record}
use Rattle.ssim_base.specs.ReadBack.{AreInOrder}
use Rattle.ssim_base.specs.Timetable.{Above, days_of, itinerary}
use Rattle.ssim_base.proofs.Calendars.{at-each_day}
use Rattle.ssim_schedule.specs.internal.WantedDates.{IsPart, is_wanted}

-- ---- days in both

-- `a` and `b` say whether a day is not before the first and not after the last day of the period, `d`
-- whether its weekday is one of the period, `f` and `l` the same of the two dates
in_both : (a b d f l : Bool) → (((f && a) && (l && b)) && d) ≡ (((a && b) && d) && (f && l))
in_both false b d false l = refl
in_both false b d true l = refl
in_both true b d false l = sym (none (b && d))
  where
    none : (x : Bool) → (x && false) ≡ false
    none true = refl
    none false = refl
in_both true false d true false = refl
in_both true false d true true = refl
in_both true true true true false = refl
in_both true true false true false = refl
in_both true true true true true = refl
in_both true true false true true = refl

module _ (period : DayRange) (first last from to : ℕ) (starts : (n : ℕ) → nat_le from n ≡ (nat_le first n && nat_le period.first n)) (ends : (n : ℕ) → nat_le n to ≡ (nat_le n last && nat_le n period.last)) where
  both : (n : ℕ) → ((nat_le from n && nat_le n to) && slice_index_or period.days (slot n) false) ≡ (holds period n && (nat_le first n && nat_le n last))
  both n =
      ap (λ b. (b && nat_le n to) && slice_index_or period.days (slot n) false) (starts n)
      ∙ ap (λ b. ((nat_le first n && nat_le period.first n) && b) && slice_index_or period.days (slot n) false) (ends n)
      ∙ in_both (nat_le period.first n) (nat_le n period.last) (slice_index_or period.days (slot n) false) (nat_le first n) (nat_le n last)

  -- the days of the period between the dates
  pub part_holds : (part : DayRange) → part.first ≡ from → part.last ≡ to → part.days ≡ period.days → (n : ℕ) → holds part n ≡ (holds period n && (nat_le first n && nat_le n last))
  part_holds part f l d n =
      ap (λ (k : ℕ). (nat_le k n && nat_le n part.last) && slice_index_or part.days (slot n) false) f
      ∙ ap (λ (k : ℕ). (nat_le from n && nat_le n k) && slice_index_or part.days (slot n) false) l
      ∙ ap (λ (ds : List Bool). (nat_le from n && nat_le n to) && slice_index_or ds (slot n) false) d
      ∙ both n

  -- it has none if it would begin after its end
  pub part_none : to < from → (n : ℕ) → (holds period n && (nat_le first n && nat_le n last)) ≡ false
  part_none turned n = sym (both n) ∙ ap (λ b. b && slice_index_or period.days (slot n) false) (empty (nat_le from n) (nat_le n to) refl refl)
    where
      empty : (a b : Bool) → nat_le from n ≡ a → nat_le n to ≡ b → (a && b) ≡ false
      empty false b e f = refl
      empty true false e f = refl
      empty true true e f = absurd (let low : from ≤ n = grind (arith, nat_tests) in let high : n ≤ to = grind (arith, nat_tests) in omega (arith, low, high, turned))

-- a period has no wanted day if none of the days from its first to its last is wanted
pub none_wanted : (wanted : Option (ℕ × ℕ)) (period : DayRange) → ((n : ℕ) → period.first ≤ n → n ≤ period.last → is_wanted wanted n ≡ false) → IsPart wanted period None
none_wanted wanted period none n = by (nat_le period.first n) (nat_le n period.last) refl refl
  where
    on : Bool
    on = slice_index_or period.days (slot n) false

    never : (b : Bool) → (b && false) ≡ false
    never true = refl
    never false = refl

    by : (a b : Bool) → nat_le period.first n ≡ a → nat_le n period.last ≡ b → (((a && b) && on) && is_wanted wanted n) ≡ false
    by false b e f = refl
    by true false e f = refl
    by true true e f =
        let low : period.first ≤ n = grind (arith, nat_tests) in
        let high : n ≤ period.last = grind (arith, nat_tests) in
        ap (λ w. on && w) (none n low high) ∙ never on

-- what is not in order is turned
pub turned : (from to : ℕ) → (from ≤ to → false ≡ true) → to < from
turned from to never = by (nat_le from to) refl
  where
    by : (b : Bool) → nat_le from to ≡ b → to < from
    by true e = absurd (let ordered : from ≤ to = grind (arith, nat_tests) in let clash : false ≡ true = never ordered in cc)
    by false e = grind (arith, nat_tests)

-- ---- the timetable of some dates

-- legs are in order if some dates of flights are left out
pub order_kept : (kept : FlightNumber → ℕ → Bool) (rs : List Record) → AreInOrder (days_of rs) → AreInOrder (λ g. each_day (λ n. if kept g n then itinerary rs g n else []))
order_kept kept rs order g n exists within = subst (Above 0) (sym (at-each_day (λ n. if kept g n then itinerary rs g n else []) n within)) (by (kept g n))
  where
    all : Above 0 (itinerary rs g n)
    all = subst (Above 0) (at-each_day (itinerary rs g) n within) (order g n exists within)

    by : (b : Bool) → Above 0 (if b then itinerary rs g n else [])
    by true = all
    by false = tt
