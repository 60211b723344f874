-- The end of the airline in a designator: its third character is a letter, or the digits of the
-- flight begin there.
use Rattle.std.proofs.Common.{◌≡◌, ℕ, ◌-◌, ◌≤◌, Bool, true, false, IsTrue, List, [], ◌∷◌, ◌++◌, length, refl, sym, ap, ◌∙◌, arith, length-append, slice_index, get_or, take, drop, subst}
use Rattle.std.proofs.lemmas.List.{length-take, take_rest}
use Rattle.std.proofs.lemmas.Bool.Decides.{nat_tests}
use Rattle.ssim_values.specs.Airline.{is_airline, airline_text}
use Rattle.ssim_values.specs.Characters.{is_letter, is_digit}
use Rattle.ssim_values.specs.Designator.{SpellsDesignator, designator_text}
use Rattle.ssim_values.specs.Flight.{FlightNumber, IsFlight, SpellsFlight, flight_text}
use Rattle.ssim_values.specs.declared.designator.Designator.{Designator}
use Rattle.ssim_values.proofs.FlightLemmas.{SpellsFlight-digit, SpellsFlight-flight_text, SpellsFlight-some, SpellsFlight-unique}

letter_only : (x y z a b c : ℕ) (xs rest : List ℕ) → is_letter z ≡ true → is_digit (slice_index rest 0) ≡ true → x ∷ y ∷ z ∷ xs ≡ airline_text (a ∷ b ∷ c ∷ []) ++ rest → (a ≡ x) × (b ≡ y) × (c ≡ z) × (rest ≡ xs)
letter_only x y z a b c xs rest l d e = grind arith

only-letter : (x y z : ℕ) (xs columns rest : List ℕ) → is_letter z ≡ true → length columns ≡ 3 → is_digit (slice_index rest 0) ≡ true → x ∷ y ∷ z ∷ xs ≡ airline_text columns ++ rest → (columns ≡ x ∷ y ∷ z ∷ []) × (rest ≡ xs)
only-letter x y z xs (a ∷ b ∷ c ∷ []) rest l n d e = let is = letter_only x y z a b c xs rest l d e in (cc, is.3)
only-letter x y z xs [] rest l n d e = absurd (omega arith)
only-letter x y z xs (a ∷ []) rest l n d e = absurd (omega arith)
only-letter x y z xs (a ∷ b ∷ []) rest l n d e = absurd (omega arith)
only-letter x y z xs (a ∷ b ∷ c ∷ f ∷ fs) rest l n d e = absurd (omega arith)

-- a text of three bytes or more whose third is a letter
pub only_three : (t columns rest : List ℕ) → 3 ≤ length t → is_letter (get_or t 2 0) ≡ true → length columns ≡ 3 → is_digit (slice_index rest 0) ≡ true → t ≡ airline_text columns ++ rest → (columns ≡ get_or t 0 0 ∷ get_or t 1 0 ∷ get_or t 2 0 ∷ []) × (rest ≡ take (length t - 3) (drop 3 t))
only_three (x ∷ y ∷ z ∷ xs) columns rest long l n d e =
    let is = only-letter x y z xs columns rest l n d e in
    (is.0, is.1 ∙ sym (take_rest (x ∷ y ∷ z ∷ xs) 3))
only_three [] columns rest long l n d e = absurd (omega arith)
only_three (x ∷ []) columns rest long l n d e = absurd (omega arith)
only_three (x ∷ y ∷ []) columns rest long l n d e = absurd (omega arith)

other_only : (x y a b c : ℕ) (xs rest : List ℕ) → is_letter (slice_index xs 0) ≡ false → IsTrue (is_airline (a ∷ b ∷ c ∷ [])) → x ∷ y ∷ xs ≡ airline_text (a ∷ b ∷ c ∷ []) ++ rest → (a ≡ x) × (b ≡ y) × (c ≡ 32) × (rest ≡ xs)
other_only x y a b c xs rest l is e = grind arith

only-other : (x y : ℕ) (xs columns rest : List ℕ) → is_letter (slice_index xs 0) ≡ false → length columns ≡ 3 → IsTrue (is_airline columns) → x ∷ y ∷ xs ≡ airline_text columns ++ rest → (columns ≡ x ∷ y ∷ 32 ∷ []) × (rest ≡ xs)
only-other x y xs (a ∷ b ∷ c ∷ []) rest l n is e = let o = other_only x y a b c xs rest l is e in (cc, o.3)
only-other x y xs [] rest l n is e = absurd (omega arith)
only-other x y xs (a ∷ []) rest l n is e = absurd (omega arith)
only-other x y xs (a ∷ b ∷ []) rest l n is e = absurd (omega arith)
only-other x y xs (a ∷ b ∷ c ∷ f ∷ fs) rest l n is e = absurd (omega arith)

-- a text of two bytes or more whose third, if there is one, is no letter
pub only_two : (t columns rest : List ℕ) → 2 ≤ length t → is_letter (get_or t 2 0) ≡ false → length columns ≡ 3 → IsTrue (is_airline columns) → t ≡ airline_text columns ++ rest → (columns ≡ get_or t 0 0 ∷ get_or t 1 0 ∷ 32 ∷ []) × (rest ≡ take (length t - 2) (drop 2 t))
only_two (x ∷ y ∷ xs) columns rest long l n is e =
    let o = only-other x y xs columns rest l n is e in
    (o.0, o.1 ∙ sym (take_rest (x ∷ y ∷ xs) 2))
only_two [] columns rest long l n is e = absurd (omega arith)
only_two (x ∷ []) columns rest long l n is e = absurd (omega arith)

airline_length : (columns : List ℕ) → IsTrue (is_airline columns) → length columns ≡ 3
airline_length columns is = grind (arith, nat_tests)

-- a text spells no designator if the first part is no airline, or the rest no flight
pub parts_of : (d : Designator) (t columns rest : List ℕ) → SpellsDesignator d t → ((columns₂ rest₂ : List ℕ) → length columns₂ ≡ 3 → IsTrue (is_airline columns₂) → is_digit (slice_index rest₂ 0) ≡ true → t ≡ airline_text columns₂ ++ rest₂ → (columns₂ ≡ columns) × (rest₂ ≡ rest)) → (d.airline ≡ columns) × IsTrue (is_airline columns) × SpellsFlight d.flight rest
parts_of d t columns rest p only =
    let is = only d.airline p.rest (airline_length d.airline p.is_code) p.is_code (SpellsFlight-digit d.flight p.rest p.flight) p.spelled in
    (is.0, subst (λ (x : List ℕ). IsTrue (is_airline x)) is.0 p.is_code, subst (λ (x : List ℕ). SpellsFlight d.flight x) is.1 p.flight)

-- an airline takes two characters at least, and a flight one
long : (d : Designator) (t : List ℕ) → SpellsDesignator d t → 3 ≤ length t
long d t p =
    let two = two_or_three d.airline (airline_length d.airline p.is_code) in
    let one = SpellsFlight-some d.flight p.rest p.flight in
    rw (p.spelled) (omega (arith, length-append (airline_text d.airline) p.rest))
  where
    two_or_three : (columns : List ℕ) → length columns ≡ 3 → 2 ≤ length (airline_text columns)
    two_or_three columns n = grind (arith, length-take)

same_designator : (d e : Designator) → d.airline ≡ e.airline → d.flight ≡ e.flight → d ≡ e
same_designator d e a f =
    let airlines : d ≡ record { airline = e.airline; flight = d.flight } = ap (λ (x : List ℕ). record { airline = x; flight = d.flight }) a in
    let flights : record { airline = e.airline; flight = d.flight } ≡ e = ap (λ (x : FlightNumber). record { airline = e.airline; flight = x }) f in
    airlines ∙ flights

by_third : (d e : Designator) (t : List ℕ) (b : Bool) → is_letter (get_or t 2 0) ≡ b → SpellsDesignator d t → SpellsDesignator e t → (d.airline ≡ e.airline) × (p : SpellsDesignator d t) × (q : SpellsDesignator e t) × (p.rest ≡ q.rest)
by_third d e t true l p q =
    let mine = only_three t d.airline p.rest (long d t p) l (airline_length d.airline p.is_code) (SpellsFlight-digit d.flight p.rest p.flight) p.spelled in
    let other = only_three t e.airline q.rest (long d t p) l (airline_length e.airline q.is_code) (SpellsFlight-digit e.flight q.rest q.flight) q.spelled in
    (mine.0 ∙ sym other.0, p, q, mine.1 ∙ sym other.1)
by_third d e t false l p q =
    let most : 2 ≤ length t = omega (arith, long d t p) in
    let mine = only_two t d.airline p.rest most l (airline_length d.airline p.is_code) p.is_code p.spelled in
    let other = only_two t e.airline q.rest most l (airline_length e.airline q.is_code) q.is_code q.spelled in
    (mine.0 ∙ sym other.0, p, q, mine.1 ∙ sym other.1)

pub SpellsDesignator-unique : (d e : Designator) (t : List ℕ) → SpellsDesignator d t → SpellsDesignator e t → d ≡ e
SpellsDesignator-unique d e t p q =
    let is = by_third d e t (is_letter (get_or t 2 0)) refl p q in
    same_designator d e is.0 (SpellsFlight-unique d.flight e.flight is.2.rest (subst (λ (x : List ℕ). SpellsFlight d.flight x) is.3 is.1.flight) is.2.flight)

pub SpellsDesignator-designator_text : (d : Designator) → IsTrue (is_airline d.airline) → IsFlight d.flight → SpellsDesignator d (designator_text d)
SpellsDesignator-designator_text d code h =
    record { is_code = code; rest = flight_text d.flight; flight = SpellsFlight-flight_text d.flight h; spelled = refl }
