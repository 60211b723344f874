-- Flights as people type them: LX544, or 544 for a flight of the airline that is asked for.
use Rattle.std.specs.Prelude.{◌≡◌, ◌⊎◌, ℕ, List, [], ◌∷◌}
use Rattle.ssim_values.specs.Designator.{SpellsDesignator}
use Rattle.ssim_values.specs.Flight.{SpellsFlight}
use Rattle.ssim_values.specs.declared.designator.Designator.{Designator}
use Rattle.ssim_words.specs.Typed.{typed}

-- the letters and digits are no designator, but a flight number of the airline
pub record IsNumberOf (airline letters : List ℕ) (flight : Designator) : Type 0 where
  pub no_designator : (other : Designator) → SpellsDesignator other letters → ⊥
  pub airline_is : flight.airline ≡ airline
  pub number : SpellsFlight flight.flight letters

-- the word names the flight: by its designator, or by its number alone
abbrev pub NamesFlight : List ℕ → List ℕ → Designator → Type 0
NamesFlight airline word flight =
    SpellsDesignator flight (typed word) ⊎ IsNumberOf airline (typed word) flight

-- each word names the flight at its place
abbrev pub NameEach : List ℕ → List (List ℕ) → List Designator → Type 0
NameEach airline [] [] = Unit {0}
NameEach airline (word ∷ words) (flight ∷ flights) =
    NamesFlight airline word flight × NameEach airline words flights
NameEach airline _ _ = ⊥
