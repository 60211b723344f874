-- A flight alone is in order: no other rank is its own.
use Rattle.std.proofs.Common.{◌≡◌, ◌∙◌, ℕ, suc, zero, ◌+◌, ◌<◌, ◌≤◌, Bool, true, false, ◌||◌, cond}
use Rattle.std.proofs.Common.{List, [], ◌∷◌, arith, nat_eq, refl, ap}
use Rattle.std.specs.List.{filter}
use Rattle.std.proofs.lemmas.Bool.Decides.{nat_tests}
use Rattle.ssim_values.specs.Flight.{FlightNumber, IsFlight}
use Rattle.ssim_base.proofs.Places.{flight-is, flight-place, place-below, place-flight}
use Rattle.ssim_base.proofs.Places.{same_flight-place}
use Rattle.ssim_base.specs.Export.{flight_at, flight_count}
use Rattle.ssim_base.specs.ReadBack.{place_of}
use Rattle.ssim_base.specs.Timetable.{is_among}
use Rattle.ssim_schedule.proofs.Divisions.{flights_from}
use Rattle.ssim_schedule.specs.FlightPieces.{in_order}

or_false : (a : Bool) → (a || false) ≡ a
or_false true = refl
or_false false = refl

module _ (f : FlightNumber) (is : IsFlight f) where
  abbrev chosen : ℕ → ℕ → List FlightNumber
  chosen low k = filter (is_among (f ∷ [])) (flights_from low k)

  -- the flight of a rank is this one if the rank is its own
  same_rank : (low : ℕ) → low < flight_count
      → is_among (f ∷ []) (flight_at low) ≡ nat_eq low (place_of f)
  same_rank low less =
      or_false _ ∙ same_flight-place (flight_at low) f (flight-is low less) is
      ∙ ap (λ (n : ℕ). nat_eq n (place_of f)) (place-flight low)

  -- no later rank is its own
  none_later : (low k : ℕ) → low + k ≤ flight_count → place_of f < low → chosen low k ≡ []
  none_later low zero within less = refl
  none_later low (suc k) within less =
      let other : nat_eq low (place_of f) ≡ false = grind (arith, nat_tests) in
      ap (λ (b : Bool). cond b (flight_at low ∷ chosen (low + 1) k) (chosen (low + 1) k))
      (same_rank low (omega arith) ∙ other)
      ∙ none_later (low + 1) k (omega arith) (omega (arith, less))

  -- from a rank that is not later on, it is the only one
  one_from : (low k : ℕ) → low + k ≤ flight_count → low ≤ place_of f → place_of f < low + k
      → chosen low k ≡ f ∷ []
  one_from low zero within from to = absurd (omega (arith, from, to))
  one_from low (suc k) within from to =
      ap (λ (b : Bool). cond b (flight_at low ∷ chosen (low + 1) k) (chosen (low + 1) k))
      (same_rank low (omega arith))
      ∙ by (nat_eq low (place_of f)) refl
      (λ less. one_from (low + 1) k (omega arith) less (omega (arith, to)))
    where
      by : (b : Bool) → nat_eq low (place_of f) ≡ b
          → (low + 1 ≤ place_of f → chosen (low + 1) k ≡ f ∷ [])
          → cond b (flight_at low ∷ chosen (low + 1) k) (chosen (low + 1) k) ≡ f ∷ []
      by true e later =
          let here : low ≡ place_of f = grind (arith, nat_tests) in
          ap (λ (g : FlightNumber). g ∷ chosen (low + 1) k) (ap flight_at here ∙ flight-place f is)
          ∙ ap (λ (fs : List FlightNumber). f ∷ fs)
          (none_later (low + 1) k (omega arith) (omega (arith, here)))
      by false e later = later (grind (arith, nat_tests))

  pub alone_in_order : in_order (f ∷ []) ≡ f ∷ []
  alone_in_order =
      one_from 0 flight_count (omega arith) (omega arith)
      (let less = place-below f is in omega (arith, less))
