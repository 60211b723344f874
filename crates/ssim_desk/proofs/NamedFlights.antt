-- Two lists of messages over the timetable of the flights that one of them names: they find what they
-- find in the whole, and the timetables differ on each flight as in the whole.
use Rattle.std.proofs.Common.{◌≡◌, ◌∙◌, inl, inr, ℕ, Bool, true, false, ◌||◌, List, [], ◌∷◌}
use Rattle.std.proofs.Common.{◌++◌, refl, sym, ap}
use Rattle.std.proofs.lemmas.List.Folds.{list_any-append}
use Rattle.std.specs.List.{list_any}
use Rattle.ssim_periods.specs.Days.{each_day}
use Rattle.ssim_values.specs.Flight.{FlightNumber}
use Rattle.ssim_base.proofs.Places.{same-true}
use Rattle.ssim_base.specs.BaseSeen.{BaseSeen}
use Rattle.ssim_base.specs.Stations.{Row}
use Rattle.ssim_base.specs.Timetable.{Legs, is_among, itinerary, same_flight}
use Rattle.ssim_base.specs.declared.sub_message.ResolvedSub.{ResolvedSub}
use Rattle.ssim_held.specs.Entries.{Entry}
use Rattle.ssim_desk.specs.clauses.Desk.{is_sub_of}
use Rattle.ssim_desk.specs.clauses.Outcomes.{DifferAs, days_left}
use Rattle.ssim_desk.specs.internal.Changes.{flights_of}
use Rattle.ssim_desk.specs.internal.Outcomes.{days_among, timetable_among}
use Rattle.ssim_desk.specs.Meaning.{Timetable, after_entries, after_entry, entries_findings}
use Rattle.ssim_desk.specs.Meaning.{found_by}
use Rattle.ssim_desk.proofs.SomeFlights.{AllAmong, AreAmong, all_among, among_is, entries_agree}
use Rattle.ssim_desk.proofs.SomeFlights.{entries_find, subs_other}

-- ---- a longer list of flights

or_more : (a b : Bool) → a ≡ true → (a || b) ≡ true
or_more true b is = refl
or_more false b is = absurd cc

module _ (flights others : List FlightNumber) where
  among_more : (g : FlightNumber) → is_among flights g ≡ true → is_among (flights ++ others) g
      ≡ true
  among_more g is = list_any-append (same_flight g) flights others ∙ or_more (is_among flights g)
      (is_among others g) is

  are_more : (dates : List ResolvedSub) → AreAmong flights dates
      → AreAmong (flights ++ others) dates
  are_more [] among = tt
  are_more (dated ∷ dates) among = (among_more dated.flight among.0, are_more dates among.1)

  all_more : (es : List Entry) → AllAmong flights es → AllAmong (flights ++ others) es
  all_more [] among = tt
  all_more (e ∷ es) among = (are_more e.dates among.0, all_more es among.1)

-- ---- a flight that no message names

module _ (flights : List FlightNumber) (g : FlightNumber) (out : is_among flights g ≡ false) where
  not_named : (dates : List ResolvedSub) → AreAmong flights dates → list_any (is_sub_of g) dates
      ≡ false
  not_named [] among = refl
  not_named (dated ∷ dates) among = by (same_flight dated.flight g) refl (not_named dates among.1)
    where
      by : (b : Bool) → same_flight dated.flight g ≡ b → list_any (is_sub_of g) dates ≡ false
          → (b || list_any (is_sub_of g) dates) ≡ false
      by true e later =
          absurd (let clash : true ≡ false = sym among.0 ∙ ap (is_among flights)
          (same-true dated.flight g e) ∙ out in cc)
      by false e later = later

  as_before : (rows : List Row) (es : List Entry) (t : Timetable) → AllAmong flights es
      → after_entries rows es t g ≡ t g
  as_before rows [] t among = refl
  as_before rows (e ∷ es) t among =
      as_before rows es (after_entry rows e t) among.1 ∙ subs_other rows e.message.subs e.dates t g
      (not_named e.dates among.0)

-- ---- both lists of messages

module _ (base : BaseSeen) (flights : List FlightNumber) where
  -- messages find what they find in the whole
  pub finds_among : (es : List Entry) → AllAmong flights es → entries_findings base.rows es
      (timetable_among base flights) ≡ found_by base es
  finds_among es among =
      entries_find base.rows es flights (timetable_among base flights) (itinerary base.records)
      (λ g is. among_is flights base.records g is) among

  -- a flight of the list has what the messages leave of it
  left_among : (es : List Entry) (g : FlightNumber) → is_among flights g ≡ true
      → days_among base flights es g ≡ days_left base es g
  left_among es g is =
      ap (λ (legs : ℕ → Legs). each_day legs)
      (entries_agree base.rows es (timetable_among base flights) (itinerary base.records) g
      (among_is flights base.records g is))

  -- another one has what it has without messages
  unnamed_among : (es : List Entry) → AllAmong flights es → (g : FlightNumber) → is_among flights g
      ≡ false → days_among base flights es g ≡ each_day (timetable_among base flights g)
  unnamed_among es among g out = ap (λ (legs : ℕ → Legs). each_day legs)
      (as_before flights g out base.rows es (timetable_among base flights) among)

  unnamed_left : (es : List Entry) → AllAmong flights es → (g : FlightNumber) → is_among flights g
      ≡ false → days_left base es g ≡ each_day (itinerary base.records g)
  unnamed_left es among g out = ap (λ (legs : ℕ → Legs). each_day legs)
      (as_before flights g out base.rows es (itinerary base.records) among)

  -- the timetables differ as in the whole
  pub differ_among : (before after : List Entry) → AllAmong flights before → AllAmong flights after
      → (g : FlightNumber)
      → DifferAs (days_among base flights before g) (days_among base flights after g)
      (days_left base before g) (days_left base after g)
  differ_among before after old new g = by (is_among flights g) refl
    where
      by : (b : Bool) → is_among flights g ≡ b
          → DifferAs (days_among base flights before g) (days_among base flights after g)
          (days_left base before g) (days_left base after g)
      by true is = inl (left_among before g is, left_among after g is)
      by false out = inr (
        unnamed_among before old g out ∙ sym (unnamed_among after new g out),
        unnamed_left before old g out ∙ sym (unnamed_left after new g out),
      )

-- ---- the flights that one of two lists names

module _ (before after : List Entry) where
  pub named_before : AllAmong (flights_of before ++ flights_of after) before
  named_before = all_more (flights_of before) (flights_of after) before (all_among [] before)

  pub named_after : AllAmong (flights_of before ++ flights_of after) after
  named_after = all_among (flights_of before) after
