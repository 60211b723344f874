-- What is left of the differences of a flight if those that are not chosen are taken away: they are the
-- differences of the chosen sides of the two timetables.
use Rattle.std.proofs.Common.{◌≡◌, ℕ, ◌+◌, ◌<◌, Bool, true, false, ◌&&◌, ◌||◌, nat_le}
use Rattle.std.proofs.Common.{if◌then◌else◌, List, [], length, Option, Some, None, refl, sym, ap, ap₂, ◌∙◌}
use Rattle.std.specs.Prelude.{nat_lt, not}
use Rattle.ssim_values.specs.Flight.{FlightNumber}
use Rattle.ssim_periods.specs.Days.{changed_on, each_day}
use Rattle.ssim_periods.specs.Calendar.{day_count}
use Rattle.ssim_periods.proofs.DayLemmas.{changed_on-each_day, day_count-is, each_day-same, index-each_day}
use Rattle.ssim_base.specs.Export.{same_itinerary}
use Rattle.ssim_base.specs.Timetable.{Days, Legs, on_day}
use Rattle.ssim_parts.specs.Chosen.{Choosing, chooses_date, chooses_flight, chooses_legs}
use Rattle.ssim_parts.proofs.Booleans.{above_not, all_below, below_only, end_only, lt_not}
use Rattle.ssim_parts.proofs.Choosing.{all_legs}
use Rattle.ssim_difference.specs.ChosenDates.{chosen_side, is_either_chosen}
use Rattle.ssim_difference.specs.Differences.{difference, differing_days, no_difference, pair}
use Rattle.ssim_difference.specs.declared.difference.Difference.{Difference}
use Rattle.ssim_difference.specs.internal.Choosing.{Changes, chosen_difference, part}
use Rattle.ssim_difference.specs.internal.Choosing.{with_chosen_legs, without}
use Rattle.ssim_difference.proofs.DateDifferences.{difference_both, difference_none}

abbrev nothing : Legs
nothing = []

-- ---- changes, one after another

-- two changes do the same on each date
abbrev pub AreSame : (ℕ → Difference → Difference) → (ℕ → Difference → Difference) → Type 0
AreSame one other = (n : ℕ) → n < 36525 → (d : Difference) → one n d ≡ other n d

-- a change of the days of a set
pub changed_days : (s : ℕ → Bool) (after : Difference → Difference)
    (change : ℕ → Difference → Difference) (old new : List Difference)
    → AreSame (λ n d. if s n then after d else d) change → new ≡ changed_on s after 0 old
    → Changes change old new
changed_days s after change old new same is was has =
    is ∙ ap (changed_on s after 0) has ∙ changed_on-each_day s after was
    ∙ each_day-same (λ n. if s n then after (was n) else was n) (λ n. change n (was n))
    (λ n within. same n within (was n))

-- nothing is changed
pub unchanged : (change : ℕ → Difference → Difference) (days : List Difference)
    → AreSame (λ n d. d) change → Changes change days days
unchanged change days same was has =
    has ∙ each_day-same was (λ n. change n (was n)) (λ n within. same n within (was n))

-- one change, and then another one
pub changed_twice : (one next both : ℕ → Difference → Difference) (old mid new : List Difference)
    → AreSame (λ n d. next n (one n d)) both → Changes one old mid → Changes next mid new
    → Changes both old new
changed_twice one next both old mid new same first second was has =
    second (λ n. one n (was n)) (first was has)
    ∙ each_day-same (λ n. next n (one n (was n))) (λ n. both n (was n))
    (λ n within. same n within (was n))

-- ---- the changes of a choice

no_choice : (b : Bool) → (if b then no_difference else no_difference) ≡ no_difference
no_choice true = refl
no_choice false = refl

module _ (choice : Choosing) where
  -- differences that are all chosen stay
  pub all_stay : length choice.stations ≡ 0 → length choice.aircraft ≡ 0
      → AreSame (λ n d. d) (with_chosen_legs choice)
  all_stay none no_types n within d =
      ap (λ (b : Bool). if b || chooses_legs choice d.new then d else no_difference)
      (sym (all_legs choice none no_types d.old))

  -- a set of all days, whose differences are looked at
  pub all_looked_at : (s : ℕ → Bool) → ((n : ℕ) → s n ≡ (nat_le 0 n && nat_lt n 36525))
      → AreSame (λ n d. if s n then with_chosen_legs choice 0 d else d) (with_chosen_legs choice)
  all_looked_at s is n within d =
      ap (λ (b : Bool). if b then with_chosen_legs choice n d else d)
      (is n ∙ all_below n 36525 within)

  -- the tests of the dates before the first and after the last, and of the itineraries
  tested : (lo hi : Bool) (n : ℕ) (d : Difference)
      → with_chosen_legs choice n
      (if not hi then no_difference else (if not lo then no_difference else d))
      ≡ (if ((lo && hi) && chooses_legs choice d.old) || ((lo && hi) && chooses_legs choice d.new)
      then d else no_difference)
  tested true true n d = refl
  tested true false n d = no_choice (chooses_legs choice [] || chooses_legs choice [])
  tested false true n d = no_choice (chooses_legs choice [] || chooses_legs choice [])
  tested false false n d = no_choice (chooses_legs choice [] || chooses_legs choice [])

  before : (n : ℕ) → (nat_le 0 n && nat_lt n choice.first) ≡ not (nat_le choice.first n)
  before n = below_only n choice.first ∙ lt_not n choice.first

  after : (n : ℕ) → n < 36525
      → (nat_le (choice.last + 1) n && nat_lt n 36525) ≡ not (nat_le n choice.last)
  after n within =
      end_only (nat_le (choice.last + 1) n) n 36525 within ∙ above_not n choice.last

  -- what is left of the differences of a flight that is chosen
  pub left_of_it : (flight : FlightNumber) → chooses_flight choice flight ≡ true
      → AreSame (λ n d. with_chosen_legs choice n
      (without (choice.last + 1) 36525 n (without 0 choice.first n d)))
      (chosen_difference choice flight)
  left_of_it flight is n within d =
      ap (λ (b : Bool). with_chosen_legs choice n
      (without (choice.last + 1) 36525 n (if b then no_difference else d))) (before n)
      ∙ ap (λ (b : Bool). with_chosen_legs choice n (if b then no_difference
      else (if not (nat_le choice.first n) then no_difference else d))) (after n within)
      ∙ tested (nat_le choice.first n) (nat_le n choice.last) n d
      ∙ sym (ap (λ (b : Bool). if ((b && (nat_le choice.first n && nat_le n choice.last))
      && chooses_legs choice d.old) || ((b && (nat_le choice.first n && nat_le n choice.last))
      && chooses_legs choice d.new) then d else no_difference) is)

-- ---- the differences of the chosen sides

-- the difference of two itineraries, if it is chosen, is the difference of those that are chosen
of_sides : (choice : Choosing) (flight : FlightNumber) (n : ℕ) (old new : Legs)
    → chosen_difference choice flight n (difference old new)
    ≡ difference (if is_either_chosen choice flight n old new then old else [])
    (if is_either_chosen choice flight n old new then new else [])
of_sides choice flight n old new = by (same_itinerary old new) refl
  where
    chosen : Bool
    chosen = is_either_chosen choice flight n old new

    none : difference old new ≡ no_difference → (b : Bool)
        → no_difference ≡ difference (if b then old else []) (if b then new else [])
    none e true = sym e
    none e false = refl

    both : difference old new ≡ pair old new → (b : Bool)
        → (if b then pair old new else no_difference)
        ≡ difference (if b then old else []) (if b then new else [])
    both e true = sym e
    both e false = refl

    by : (b : Bool) → same_itinerary old new ≡ b
        → chosen_difference choice flight n (difference old new)
        ≡ difference (if chosen then old else []) (if chosen then new else [])
    by true e =
        let is = difference_none old new e in
        ap (chosen_difference choice flight n) is
        ∙ no_choice (is_either_chosen choice flight n [] []) ∙ none is chosen
    by false e =
        let is = difference_both old new e in
        ap (chosen_difference choice flight n) is ∙ both is chosen

-- a chosen side on a date
side_on : (choice : Choosing) (old new side : FlightNumber → Days) (flight : FlightNumber) (n : ℕ)
    → n < 36525 → on_day (chosen_side choice old new side flight) n
    ≡ (if is_either_chosen choice flight n (on_day (old flight) n) (on_day (new flight) n)
    then on_day (side flight) n else [])
side_on choice old new side flight n within =
    index-each_day (λ k. if is_either_chosen choice flight k (on_day (old flight) k)
    (on_day (new flight) k) then on_day (side flight) k else []) n [] within

no_legs : (b : Bool) → (if b then nothing else nothing) ≡ nothing
no_legs true = refl
no_legs false = refl

-- on a date without an itinerary none is chosen
pub nothing_left : (choice : Option Choosing) (old new side : FlightNumber → Days)
    (flight : FlightNumber) (n : ℕ) → n < day_count → on_day (side flight) n ≡ []
    → on_day (part choice old new side flight) n ≡ []
nothing_left None old new side flight n within e = e
nothing_left (Some choice) old new side flight n within e =
    let chosen = is_either_chosen choice flight n (on_day (old flight) n) (on_day (new flight) n) in
    side_on choice old new side flight n (rw day_count-is at within)
    ∙ ap (λ (legs : Legs). if chosen then legs else []) e ∙ no_legs chosen

-- the differences of a flight that are chosen are the differences of the chosen sides
pub chosen_days : (choice : Choosing) (flight : FlightNumber) (before after : FlightNumber → Days)
    → each_day (λ n. chosen_difference choice flight n
    (difference (on_day (before flight) n) (on_day (after flight) n)))
    ≡ differing_days (chosen_side choice before after before flight)
    (chosen_side choice before after after flight)
chosen_days choice flight before after =
    each_day-same (λ n. chosen_difference choice flight n
    (difference (on_day (before flight) n) (on_day (after flight) n)))
    (λ n. difference (on_day (chosen_side choice before after before flight) n)
    (on_day (chosen_side choice before after after flight) n))
    (λ n within.
    of_sides choice flight n (on_day (before flight) n) (on_day (after flight) n)
    ∙ sym (ap₂ difference (side_on choice before after before flight n within)
    (side_on choice before after after flight n within)))

-- a flight that is not chosen has no difference
pub none_chosen : (choice : Choosing) (flight : FlightNumber) (before after : FlightNumber → Days)
    → chooses_flight choice flight ≡ false
    → each_day (λ _. no_difference)
    ≡ differing_days (chosen_side choice before after before flight)
    (chosen_side choice before after after flight)
none_chosen choice flight before after is =
    let found : ℕ → Difference =
    λ n. difference (on_day (before flight) n) (on_day (after flight) n) in
    each_day-same (λ _. no_difference) (λ n. chosen_difference choice flight n (found n))
    (λ n within. sym (ap (λ (b : Bool).
    if ((b && chooses_date choice n) && chooses_legs choice (found n).old)
    || ((b && chooses_date choice n) && chooses_legs choice (found n).new)
    then found n else no_difference) is))
    ∙ chosen_days choice flight before after
