-- A choice of flights alone leaves their dates as they are, and what is printed of flights of a list
-- is read from these flights alone.
use Rattle.std.proofs.Common.{◌≡◌, ◌∙◌, ℕ, suc, zero, ◌+◌, ◌<◌, ◌≤◌, Bool, true, false, ◌&&◌, cond}
use Rattle.std.proofs.Common.{List, [], ◌∷◌, arith, length, map, nat_le, if◌then◌else◌, refl, sym, ap}
use Rattle.std.proofs.Common.{true≢false}
use Rattle.std.specs.List.{filter}
use Rattle.std.proofs.lemmas.Bool.Decides.{nat_tests}
use Rattle.ssim_values.specs.Flight.{FlightNumber, IsFlight}
use Rattle.ssim_periods.specs.Days.{each_day}
use Rattle.ssim_periods.proofs.DayLemmas.{each_day-same, index-each_day}
use Rattle.ssim_base.proofs.Places.{flight-is}
use Rattle.ssim_base.specs.Export.{flight_at, flight_count}
use Rattle.ssim_base.specs.Timetable.{Legs, is_among, on_day, same_flight}
use Rattle.ssim_schedule.proofs.Divisions.{flights_from}
use Rattle.ssim_schedule.specs.FlightPieces.{in_order}
use Rattle.ssim_parts.proofs.Choosing.{all_legs}
use Rattle.ssim_parts.specs.Chosen.{Choosing, chooses_date, chooses_flight, chooses_legs}
use Rattle.ssim_parts.specs.Chosen.{chosen_legs, none_or}
use Rattle.ssim_program.specs.internal.Choices.{HasAllDates}

-- a flight of the list is chosen
pub among_chosen : (flights : List FlightNumber) (g : FlightNumber) → is_among flights g ≡ true
    → none_or (same_flight g) flights ≡ true
among_chosen [] g among = refl
among_chosen (f ∷ flights) g among = among

-- if the list is empty, each flight is
pub none_chosen : (flights : List FlightNumber) (g : FlightNumber) → length flights ≡ 0
    → none_or (same_flight g) flights ≡ true
none_chosen [] g none = refl
none_chosen (f ∷ flights) g none = absurd (omega (arith, none))

abbrev no_legs : Legs
no_legs = []

all_three : (a b d : Bool) → a ≡ true → b ≡ true → d ≡ true → ((a && b) && d) ≡ true
all_three true true true flight date legs = refl
all_three false b d flight date legs = absurd (true≢false (sym flight))
all_three true false d flight date legs = absurd (true≢false (sym date))
all_three true true false flight date legs = absurd (true≢false (sym legs))

module _ (choice : Choosing) (all : HasAllDates choice) where
  every_date : (n : ℕ) → n < 36525 → chooses_date choice n ≡ true
  every_date n within =
      let first : choice.first ≡ 0 = all.0 in
      let last : choice.last ≡ 36524 = all.1 in
      ap (λ (from : ℕ). nat_le from n && nat_le n choice.last) first
      ∙ ap (λ (to : ℕ). nat_le 0 n && nat_le n to) last ∙ between
    where
      between : (nat_le 0 n && nat_le n 36524) ≡ true
      between = grind (arith, nat_tests)

  -- the itinerary of a flight that is chosen stays on each date
  stays : (g : FlightNumber) → chooses_flight choice g ≡ true → (n : ℕ) → n < 36525 → (legs : Legs)
      → chosen_legs choice g n legs ≡ legs
  stays g is n within legs =
      ap (λ (b : Bool). if b then legs else [])
      (all_three (chooses_flight choice g) (chooses_date choice n) (chooses_legs choice legs) is
      (every_date n within) (all_legs choice all.2 all.3 legs))

  -- the days of a flight that is chosen stay
  pub days_stay : (g : FlightNumber) → chooses_flight choice g ≡ true → (legs : ℕ → Legs)
      → each_day legs ≡ each_day (λ n. chosen_legs choice g n (on_day (each_day legs) n))
  days_stay g is legs =
      each_day-same legs (λ n. chosen_legs choice g n (on_day (each_day legs) n))
      (λ n within. sym (ap (chosen_legs choice g n) (index-each_day legs n no_legs within)
      ∙ stays g is n within (legs n)))

-- ---- what is made of the flights of a list

module _ (one other : FlightNumber → List ℕ) where
  mapped_on : (p : FlightNumber → Bool)
      → ((g : FlightNumber) → IsFlight g → p g ≡ true → one g ≡ other g) → (low k : ℕ)
      → low + k ≤ flight_count
      → map one (filter p (flights_from low k)) ≡ map other (filter p (flights_from low k))
  mapped_on p same low zero within = refl
  mapped_on p same low (suc k) within =
      by (p (flight_at low)) refl (mapped_on p same (low + 1) k (omega arith))
    where
      next : List FlightNumber
      next = filter p (flights_from (low + 1) k)

      by : (b : Bool) → p (flight_at low) ≡ b → map one next ≡ map other next
          → map one (cond b (flight_at low ∷ next) next)
          ≡ map other (cond b (flight_at low ∷ next) next)
      by true e later =
          ap (λ (bytes : List ℕ). bytes ∷ map one next)
          (same (flight_at low) (flight-is low (omega arith)) e)
          ∙ ap (λ (rest : List (List ℕ)). other (flight_at low) ∷ rest) later
      by false e later = later

  -- the same of each of them
  pub mapped_agree : (flights : List FlightNumber)
      → ((g : FlightNumber) → IsFlight g → is_among flights g ≡ true → one g ≡ other g)
      → map one (in_order flights) ≡ map other (in_order flights)
  mapped_agree flights same = mapped_on (is_among flights) same 0 flight_count (omega arith)
