-- A word names one flight: it is a designator or none, and digits and a suffix are of one flight.
use Rattle.std.proofs.Common.{◌≡◌, ◌∙◌, ℕ, List, [], ◌∷◌, refl, ap₂, sym, inl, inr}
use Rattle.ssim_values.proofs.DesignatorLemmas.{SpellsDesignator-unique}
use Rattle.ssim_values.proofs.FlightLemmas.{SpellsFlight-unique}
use Rattle.ssim_values.specs.Flight.{FlightNumber}
use Rattle.ssim_values.specs.declared.designator.Designator.{Designator}
use Rattle.ssim_words.specs.Flight.{NameEach, NamesFlight}
use Rattle.ssim_words.specs.Typed.{typed}

pub names_one : (airline word : List ℕ) (d e : Designator) → NamesFlight airline word d
    → NamesFlight airline word e → d ≡ e
names_one airline word d e (inl p) (inl q) = SpellsDesignator-unique d e (typed word) p q
names_one airline word d e (inl p) (inr q) = absurd (q.no_designator d p)
names_one airline word d e (inr p) (inl q) = absurd (p.no_designator e q)
names_one airline word d e (inr p) (inr q) =
    ap₂ (λ (a : List ℕ) (f : FlightNumber). record { airline = a; flight = f })
    (p.airline_is ∙ sym q.airline_is)
    (SpellsFlight-unique d.flight e.flight (typed word) p.number q.number)

-- words name one list of flights
pub name_once : (airline : List ℕ) (words : List (List ℕ)) (flights others : List Designator)
    → NameEach airline words flights → NameEach airline words others → flights ≡ others
name_once airline [] [] [] one other = refl
name_once airline (word ∷ words) (d ∷ flights) (e ∷ others) one other =
    ap₂ (λ (x : Designator) (xs : List Designator). x ∷ xs) (names_one airline word d e one.0 other.0)
    (name_once airline words flights others one.1 other.1)
name_once airline [] [] (e ∷ others) one other = absurd other
name_once airline [] (d ∷ flights) others one other = absurd one
name_once airline (word ∷ words) [] others one other = absurd one
name_once airline (word ∷ words) (d ∷ flights) [] one other = absurd other
