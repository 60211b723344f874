-- An airline and a flight as one text.
use Rattle.std.specs.Prelude.{◌≡◌, ℕ, IsTrue, List, ◌++◌}
use Rattle.ssim_values.specs.Airline.{is_airline, airline_text}
use Rattle.ssim_values.specs.Flight.{SpellsFlight, flight_text}
use Rattle.ssim_values.specs.declared.designator.Designator.{Designator}

-- the text is an airline's two or three characters and a flight
pub record SpellsDesignator (d : Designator) (text : List ℕ) : Type 0 where
  pub is_code : IsTrue (is_airline d.airline)
  pub rest : List ℕ
  pub flight : SpellsFlight d.flight rest
  pub spelled : text ≡ airline_text d.airline ++ rest

-- the text of a designator
abbrev pub designator_text : Designator → List ℕ
designator_text d = airline_text d.airline ++ flight_text d.flight
