-- What is left of a timetable if the dates of each flight that are not chosen are taken away.
use Rattle.std.proofs.Common.{◌≡◌, ℕ, ◌+◌, ◌<◌, ◌≤◌, Bool, true, false, ◌&&◌, ◌||◌, nat_eq}
use Rattle.std.proofs.Common.{nat_le, if◌then◌else◌, List, [], ◌∷◌, length, take, get_or, refl, sym}
use Rattle.std.proofs.Common.{ap, ◌∙◌, arith}
use Rattle.std.specs.Prelude.{nat_lt, not}
use Rattle.std.proofs.lemmas.Bool.Decides.{nat_tests}
use Rattle.std.proofs.lemmas.List.Folds.{list_any_more}
use Rattle.std.proofs.lemmas.List.{take_all}
use Rattle.ssim_values.specs.Flight.{FlightNumber, IsFlight}
use Rattle.ssim_periods.specs.Calendar.{day_count}
use Rattle.ssim_periods.specs.Days.{each_day}
use Rattle.ssim_periods.proofs.DayLemmas.{day_count-is, each_day-own, each_day-same, index-each_day}
use Rattle.ssim_base.specs.Export.{flight_at}
use Rattle.ssim_base.specs.ReadBack.{place_of}
use Rattle.ssim_base.specs.Timetable.{Legs, is_among, on_day, same_flight}
use Rattle.ssim_base.proofs.Places.{flight-place, same_flight-place}
use Rattle.ssim_schedule.specs.clauses.Schedule.{Flown, days_in}
use Rattle.ssim_parts.specs.Chosen.{Choosing, chooses_flight, chooses_legs, chosen_days}
use Rattle.ssim_parts.specs.Chosen.{chosen_legs, is_chosen}
use Rattle.ssim_parts.specs.internal.Changes.{ChangesFlight, Has, after_change, cancelled}
use Rattle.ssim_parts.proofs.Booleans.{above_not, all_below, below_only, end_only, lt_not}
use Rattle.ssim_parts.proofs.Changing.{AreSame}

abbrev nothing : Legs
nothing = []

no_legs : (b : Bool) → (if b then nothing else nothing) ≡ nothing
no_legs true = refl
no_legs false = refl

-- no stations and no aircraft types choose all itineraries
pub all_legs : (choice : Choosing) → length choice.stations ≡ 0 → length choice.aircraft ≡ 0
    → (legs : Legs) → chooses_legs choice legs ≡ true
all_legs choice none no_types legs = by choice.stations choice.aircraft none no_types
  where
    by : (stations aircraft : List (List ℕ)) → length stations ≡ 0 → length aircraft ≡ 0
        → chooses_legs (record choice { stations = stations; aircraft = aircraft }) legs ≡ true
    by [] [] none no_types = refl
    by (station ∷ stations) aircraft none no_types = absurd (omega (arith, none))
    by [] (one ∷ aircraft) none no_types = absurd (omega (arith, no_types))

module _ (choice : Choosing) where
  abbrev pub with_legs : ℕ → Legs → Legs
  with_legs n legs = if chooses_legs choice legs then legs else []

  -- itineraries that are all chosen stay
  pub all_stay : length choice.stations ≡ 0 → length choice.aircraft ≡ 0
      → AreSame (λ n legs. legs) with_legs
  all_stay none no_types n within legs =
      ap (λ (b : Bool). if b then legs else []) (sym (all_legs choice none no_types legs))

  -- a set of all days, whose itineraries are looked at
  pub all_looked_at : (s : ℕ → Bool)
      → ((n : ℕ) → s n ≡ (nat_le 0 n && nat_lt n 36525))
      → AreSame (λ n legs. if s n then with_legs n legs else legs) with_legs
  all_looked_at s is n within legs =
      ap (λ (b : Bool). if b then with_legs n legs else legs) (is n ∙ all_below n 36525 within)

  -- a flight that is not chosen has nothing left
  pub nothing_left : (flight : FlightNumber) → chooses_flight choice flight ≡ false
      → AreSame (cancelled 0 36525) (chosen_legs choice flight)
  nothing_left flight is n within legs =
      ap (λ (b : Bool). if b then [] else legs) (all_below n 36525 within)
      ∙ sym (ap (λ (b : Bool). if (b && (nat_le choice.first n && nat_le n choice.last))
      && chooses_legs choice legs then legs else []) is)

  -- the tests of the dates before the first and after the last, and of the itinerary
  tested : (lo hi : Bool) (n : ℕ) (legs : Legs)
      → with_legs n (if not hi then [] else (if not lo then [] else legs))
      ≡ (if (lo && hi) && chooses_legs choice legs then legs else [])
  tested true true n legs = refl
  tested true false n legs = no_legs (chooses_legs choice [])
  tested false true n legs = no_legs (chooses_legs choice [])
  tested false false n legs = no_legs (chooses_legs choice [])

  before : (n : ℕ) → (nat_le 0 n && nat_lt n choice.first) ≡ not (nat_le choice.first n)
  before n = below_only n choice.first ∙ lt_not n choice.first

  after : (n : ℕ) → n < 36525
      → (nat_le (choice.last + 1) n && nat_lt n 36525) ≡ not (nat_le n choice.last)
  after n within =
      end_only (nat_le (choice.last + 1) n) n 36525 within ∙ above_not n choice.last

  -- what is left of a flight that is chosen
  pub left_of_it : (flight : FlightNumber) → chooses_flight choice flight ≡ true
      → AreSame (λ n legs. with_legs n
      (cancelled (choice.last + 1) 36525 n (cancelled 0 choice.first n legs)))
      (chosen_legs choice flight)
  left_of_it flight is n within legs =
      ap (λ (b : Bool). with_legs n (cancelled (choice.last + 1) 36525 n (if b then [] else legs)))
      (before n)
      ∙ ap (λ (b : Bool). with_legs n
      (if b then [] else (if not (nat_le choice.first n) then [] else legs))) (after n within)
      ∙ tested (nat_le choice.first n) (nat_le n choice.last) n legs
      ∙ sym (ap (λ (b : Bool). if (b && (nat_le choice.first n && nat_le n choice.last))
      && chooses_legs choice legs then legs else []) is)

  -- ---- one flight after another

  -- what is left is chosen again
  chosen_again : (flight : FlightNumber) (n : ℕ) (legs : Legs)
      → chosen_legs choice flight n (chosen_legs choice flight n legs)
      ≡ chosen_legs choice flight n legs
  chosen_again flight n legs = by (is_chosen choice flight n legs) refl
    where
      by : (b : Bool) → is_chosen choice flight n legs ≡ b
          → chosen_legs choice flight n (if b then legs else []) ≡ (if b then legs else [])
      by true e = ap (λ (b : Bool). if b then legs else []) e
      by false e = no_legs (is_chosen choice flight n [])

  -- what a flight has if those of a list have been looked at
  abbrev pub so_far : List FlightNumber → FlightNumber → (ℕ → Legs) → ℕ → Legs
  so_far done g legs n = if is_among done g then chosen_legs choice g n (legs n) else legs n

  -- those of a list have their chosen dates, and the others what they had
  abbrev pub AreChosen : List FlightNumber → Flown → Flown → Type 0
  AreChosen done old new =
      (g : FlightNumber) → IsFlight g → Has new g (so_far done g (λ n. on_day (days_in old g) n))

  own_days : (flown : Flown) (g : FlightNumber) → length (days_in flown g) ≡ day_count
      → Has flown g (λ n. on_day (days_in flown g) n)
  own_days flown g whole = sym (each_day-own (days_in flown g) [] (whole ∙ day_count-is))

  -- none has been looked at
  pub none_yet : (flown : Flown)
      → ((g : FlightNumber) → IsFlight g → length (days_in flown g) ≡ day_count)
      → AreChosen [] flown flown
  none_yet flown whole g exists = own_days flown g (whole g exists)

  same_number : (f g : FlightNumber) → IsFlight f → IsFlight g → place_of f ≡ place_of g → f ≡ g
  same_number f g is exists places =
      sym (flight-place f is) ∙ ap flight_at places ∙ flight-place g exists

  one_flight : (old : Flown) (fs : List FlightNumber) (i : ℕ) (f g : FlightNumber) → i < length fs
      → f ≡ get_or fs i f → IsFlight f → IsFlight g → (n : ℕ)
      → after_change f (chosen_legs choice f) g
      (so_far (take i fs) g (λ n. on_day (days_in old g) n)) n
      ≡ so_far (take (i + 1) fs) g (λ n. on_day (days_in old g) n) n
  one_flight old fs i f g within at is exists n =
      by (nat_eq (place_of f) (place_of g)) refl
    where
      was : Legs
      was = on_day (days_in old g) n

      more : is_among (take (i + 1) fs) g
          ≡ (is_among (take i fs) g || nat_eq (place_of g) (place_of f))
      more =
          list_any_more (same_flight g) fs i f within
          ∙ ap (λ (h : FlightNumber). is_among (take i fs) g || same_flight g h) (sym at)
          ∙ ap (λ (b : Bool). is_among (take i fs) g || b) (same_flight-place g f exists is)

      turned : (b : Bool) → nat_eq (place_of f) (place_of g) ≡ b
          → nat_eq (place_of g) (place_of f) ≡ b
      turned true e = grind (arith, nat_tests)
      turned false e = grind (arith, nat_tests)

      again : (m : Bool) → chosen_legs choice g n (if m then chosen_legs choice g n was else was)
          ≡ (if m || true then chosen_legs choice g n was else was)
      again true = chosen_again g n was
      again false = refl

      others : (m : Bool) → (if m then chosen_legs choice g n was else was)
          ≡ (if m || false then chosen_legs choice g n was else was)
      others true = refl
      others false = refl

      by : (b : Bool) → nat_eq (place_of f) (place_of g) ≡ b
          → (if b then chosen_legs choice f n (so_far (take i fs) g (λ n. on_day (days_in old g) n) n)
          else so_far (take i fs) g (λ n. on_day (days_in old g) n) n)
          ≡ so_far (take (i + 1) fs) g (λ n. on_day (days_in old g) n) n
      by true e =
          let places : place_of f ≡ place_of g = grind (arith, nat_tests) in
          ap (λ (h : FlightNumber). chosen_legs choice h n
          (so_far (take i fs) g (λ n. on_day (days_in old g) n) n)) (same_number f g is exists places)
          ∙ again (is_among (take i fs) g)
          ∙ sym (ap (λ (b : Bool). if b then chosen_legs choice g n was else was)
          (more ∙ ap (λ (b : Bool). is_among (take i fs) g || b) (turned true e)))
      by false e =
          others (is_among (take i fs) g)
          ∙ sym (ap (λ (b : Bool). if b then chosen_legs choice g n was else was)
          (more ∙ ap (λ (b : Bool). is_among (take i fs) g || b) (turned false e)))

  -- one more flight has been looked at
  pub one_more : (old mid new : Flown) (fs : List FlightNumber) (i : ℕ) (f : FlightNumber)
      → i < length fs → f ≡ get_or fs i f → IsFlight f
      → ChangesFlight f (chosen_legs choice f) mid new → AreChosen (take i fs) old mid
      → AreChosen (take (i + 1) fs) old new
  one_more old mid new fs i f within at is changes were g exists =
      changes g (so_far (take i fs) g (λ n. on_day (days_in old g) n)) (were g exists)
      ∙ each_day-same
      (after_change f (chosen_legs choice f) g (so_far (take i fs) g (λ n. on_day (days_in old g) n)))
      (so_far (take (i + 1) fs) g (λ n. on_day (days_in old g) n))
      (λ n less. one_flight old fs i f g within at is exists n)

  -- all flights that had dates have been looked at
  pub all_chosen : (old new : Flown) (fs : List FlightNumber) (i : ℕ) → length fs ≤ i
      → ((g : FlightNumber) → IsFlight g → is_among fs g ≡ false
      → days_in old g ≡ each_day (λ _. []))
      → AreChosen (take i fs) old new → (g : FlightNumber) → IsFlight g
      → days_in new g ≡ chosen_days choice (days_in old) g
  all_chosen old new fs i past others were g exists =
      were g exists
      ∙ each_day-same (so_far (take i fs) g (λ n. on_day (days_in old g) n))
      (λ n. chosen_legs choice g n (on_day (days_in old g) n))
      (λ n less. ap (λ (done : List FlightNumber). so_far done g (λ n. on_day (days_in old g) n) n)
      (take_all i fs past) ∙ by (is_among fs g) refl n less)
    where
      by : (b : Bool) → is_among fs g ≡ b → (n : ℕ) → n < 36525
          → (if b then chosen_legs choice g n (on_day (days_in old g) n) else on_day (days_in old g) n)
          ≡ chosen_legs choice g n (on_day (days_in old g) n)
      by true e n less = refl
      by false e n less =
          let none : on_day (days_in old g) n ≡ nothing =
          ap (λ (days : List Legs). on_day days n) (others g exists e)
          ∙ index-each_day (λ (_ : ℕ). nothing) n nothing less in
          none ∙ sym (ap (chosen_legs choice g n) none ∙ no_legs (is_chosen choice g n []))
