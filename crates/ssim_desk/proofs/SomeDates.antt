-- A message changes each day by itself. So timetables that agree on days agree there after the same
-- messages, of which those that do not reach into these days can be left out.
use Rattle.std.proofs.Common.{◌≡◌, ℕ, ◌+◌, ◌<◌, ◌≤◌, Bool, true, false, ◌&&◌, ◌||◌, nat_le, if◌then◌else◌, List, [], ◌∷◌, length, take, get_or, slice_index_or, refl, sym, ap, ◌∙◌, arith}
use Rattle.std.proofs.lemmas.Bool.Decides.{nat_tests}
use Rattle.std.specs.List.{list_any}
use Rattle.ssim_values.specs.Flight.{FlightNumber}
use Rattle.ssim_values.specs.Period.{DayRange}
use Rattle.ssim_periods.specs.Calendar.{holds}
use Rattle.ssim_values.specs.Calendar.{slot}
use Rattle.ssim_records.specs.declared.record.Record.{Record}
use Rattle.ssim_base.specs.Stations.{Row}
use Rattle.ssim_base.specs.Timetable.{itinerary, same_flight}
use Rattle.ssim_base.specs.declared.sub_message.ResolvedSub.{ResolvedSub}
use Rattle.ssim_schedule.specs.Acts.{after_on}
use Rattle.ssim_schedule.specs.clauses.Dates.{itinerary_between}
use Rattle.ssim_text.specs.declared.action.Action.{Action}
use Rattle.ssim_text.specs.declared.action.Sub.{Sub}
use Rattle.ssim_held.specs.Entries.{Entry}
use Rattle.ssim_desk.specs.Meaning.{Timetable, after_entries, after_entry, after_one, after_subs}
use Rattle.ssim_desk.specs.internal.Changes.{reaches}
use Rattle.ssim_desk.proofs.SomeFlights.{after_one_more, subs_agree_on}

both_false : (a b : Bool) → (a || b) ≡ false → (a ≡ false) × (b ≡ false)
both_false false b e = (refl, e)
both_false true b e = absurd cc

-- on a date that is wanted the records have their itinerary
pub between_is : (first last : ℕ) (records : List Record) (g : FlightNumber) (day : ℕ) → first ≤ day → day ≤ last → itinerary_between first last records g day ≡ itinerary records g day
between_is first last records g day low high =
    let a : nat_le first day ≡ true = grind (arith, nat_tests, low) in
    let b : nat_le day last ≡ true = grind (arith, nat_tests, high) in
    rw (a, b) refl

-- a day between the dates is not one of a period that does not reach into them
module _ (first last : ℕ) (period : DayRange) (day : ℕ) (low : first ≤ day) (high : day ≤ last) where
  outside : (a b c d : Bool) → nat_le first period.last ≡ a → nat_le period.first last ≡ b → nat_le period.first day ≡ c → nat_le day period.last ≡ d → (a && b) ≡ false → (c && d) ≡ false
  outside a b false d e f g h none = refl
  outside a b true false e f g h none = refl
  outside true true true true e f g h none = none
  outside false b true true e f g h none =
      absurd (let late : period.last < first = grind (arith, nat_tests) in let end : day ≤ period.last = grind (arith, nat_tests) in omega (arith, low, late, end))
  outside true false true true e f g h none =
      absurd (let early : last < period.first = grind (arith, nat_tests) in let begun : period.first ≤ day = grind (arith, nat_tests) in omega (arith, high, early, begun))

  not_held : (nat_le first period.last && nat_le period.first last) ≡ false → holds period day ≡ false
  not_held none =
      ap (λ b. b && slice_index_or period.days (slot day) false)
      (outside (nat_le first period.last) (nat_le period.first last) (nat_le period.first day) (nat_le day period.last) refl refl refl refl none)

-- sub-messages whose periods do not reach into the dates change nothing there
module _ (rows : List Row) (first last : ℕ) (g : FlightNumber) (day : ℕ) (low : first ≤ day) (high : day ≤ last) where
  one_off : (action : Action) (sub : ResolvedSub) (t : Timetable) → reaches first last sub ≡ false → after_one rows action sub t g day ≡ t g day
  one_off action sub t none =
      ap (λ b. if same_flight sub.flight g && b then after_on rows action day (t g day) else t g day) (not_held first last sub.period day low high none)
      ∙ by (same_flight sub.flight g)
    where
      by : (b : Bool) → (if b && false then after_on rows action day (t g day) else t g day) ≡ t g day
      by true = refl
      by false = refl

  subs_off : (subs : List Sub) (dates : List ResolvedSub) (t : Timetable) → list_any (reaches first last) dates ≡ false → after_subs rows subs dates t g day ≡ t g day
  subs_off [] dates t none = refl
  subs_off (sub ∷ subs) [] t none = refl
  subs_off (sub ∷ subs) (dated ∷ dates) t none =
      let both = both_false (reaches first last dated) (list_any (reaches first last) dates) none in
      subs_off subs dates (after_one rows sub.action dated t) both.1 ∙ one_off sub.action dated t both.0

  -- one more message reaches into the dates, or not
  module _ (es : List Entry) (k : ℕ) (e : Entry) (within : k < length es) (is : e ≡ get_or es k e) (before t : Timetable) (agrees : t g day ≡ after_entries rows (take k es) before g day) where
    pub acted_more : after_entry rows e t g day ≡ after_entries rows (take (k + 1) es) before g day
    acted_more =
        subs_agree_on rows g day e.message.subs e.dates t (after_entries rows (take k es) before) agrees
        ∙ ap (λ (u : Timetable). u g day) (after_one_more rows es k e within is before)

    pub left_more : list_any (reaches first last) e.dates ≡ false → t g day ≡ after_entries rows (take (k + 1) es) before g day
    left_more none =
        agrees ∙ sym (subs_off e.message.subs e.dates (after_entries rows (take k es) before) none)
        ∙ ap (λ (u : Timetable). u g day) (after_one_more rows es k e within is before)
