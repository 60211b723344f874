-- Which leg a record speaks of: columns 2 to 13 say one name, and what is written for it is read
-- again.
use Rattle.std.proofs.Common.{◌≡◌, ℕ, suc, ◌^◌, ◌<◌, Bool, ◌&&◌, List, [], ◌∷◌, length, Option, Some, None, refl, sym, ap, ◌∙◌, arith, inl, inr, lit≤}
use Rattle.std.specs.Prelude.{IsSome, IsTrue, ◌==◌}
use Rattle.std.specs.Bool.{Decides}
use Rattle.std.specs.Str.{bytes_eq}
use Rattle.std.proofs.lemmas.Bool.Decides.{nat_tests, Decides-and, Decides-eqb}
use Rattle.std.proofs.lemmas.Slice.Eq.{bytes_eq-Decides}
use Rattle.ssim_values.specs.Airline.{is_airline}
use Rattle.ssim_values.specs.Flight.{is_suffix}
use Rattle.ssim_columns.specs.declared.field.FieldKind.TheVariants.{Suffix, AirlineCode}
use Rattle.ssim_columns.specs.Numbers.{digits_of, from_one, number_of, sequence_of, digits}
use Rattle.ssim_columns.specs.Columns.{columns, fault_in, EachIsValid}
use Rattle.ssim_columns.specs.clauses.Heads.{HasDigits}
use Rattle.ssim_columns.specs.Leg.{Name, SpellsName, IsName, name_table}
use Rattle.ssim_columns.proofs.lemmas.Choices.{pick}
use Rattle.ssim_columns.proofs.lemmas.Numbers.{digits_alone, digits_of-digits, digits_of-written, number_of-digits, sequence_of-digits}
use Rattle.ssim_columns.proofs.lemmas.Rows.{is_true, stands_by, stands_as}
use Rattle.ssim_columns.proofs.lemmas.Slices.{length_slice}

name_of : List ℕ → ℕ → ℕ → ℕ → ℕ → Name
name_of airline number suffix variation sequence = record { airline = airline; flight = record { number = number; suffix = suffix }; variation = variation; sequence = sequence }

made : (n : Name) → name_of n.airline n.flight.number n.flight.suffix n.variation n.sequence ≡ n
unfolding name_of
made n = refl

pub one_name : (b : List ℕ) (m n : Name) → SpellsName m b → SpellsName n b → m ≡ n
one_name b m n p q = sym (made m) ∙ (cc) ∙ made n

-- ---- names are compared part by part

abbrev pub names_eq : Name → Name → Bool
names_eq m n = bytes_eq m.airline n.airline && ((m.flight.number == n.flight.number && m.flight.suffix == n.flight.suffix) && (m.variation == n.variation && m.sequence == n.sequence))

pub names_decide : (m n : Name) → Decides (names_eq m n) (m ≡ n)
names_decide m n =
    let airline = bytes_eq-Decides m.airline n.airline in
    let flight = Decides-and _ _ (Decides-eqb m.flight.number n.flight.number) (Decides-eqb m.flight.suffix n.flight.suffix) in
    let place = Decides-and _ _ (Decides-eqb m.variation n.variation) (Decides-eqb m.sequence n.sequence) in
    let parts = Decides-and _ _ airline (Decides-and _ _ flight place) in
    (λ h. let p = parts.0 h in sym (made m) ∙ (rw (p.0, p.1.0.0, p.1.0.1, p.1.1.0, p.1.1.1) refl) ∙ made n, λ e. parts.1 (rw e (refl, ((refl, refl), (refl, refl)))))

-- the position of each part of the name in what is written
pub record NameLies (n : Name) (b : List ℕ) : Type 0 where
  pub suffix : columns 2 2 b ≡ n.flight.suffix ∷ []
  pub airline : columns 3 5 b ≡ n.airline
  pub number : columns 6 9 b ≡ digits 4 n.flight.number
  pub variation : columns 10 11 b ≡ digits 2 n.variation
  pub sequence : columns 12 13 b ≡ digits 2 n.sequence

pub spells_name : (n : Name) (b : List ℕ) → IsName n → NameLies n b → SpellsName n b
spells_name n b fits at =
    let bound = fits.flight.number_to in
    record {
      suffix = at.suffix;
      airline = at.airline;
      number = ap number_of at.number ∙ number_of-digits 3 n.flight.number (omega arith);
      variation = ap number_of at.variation ∙ number_of-digits 1 n.variation fits.variation;
      sequence = ap sequence_of at.sequence ∙ sequence_of-digits 1 n.sequence fits.sequence_from fits.sequence_to;
    }

-- a name whose numbers have only digits is as it is written
number_written : (t : List ℕ) (w n : ℕ) → length t ≡ w → IsSome (digits_of t) → number_of t ≡ Some n → t ≡ digits w n
number_written t w n len some read = by (digits_of t) refl some
  where
    by : (o : Option ℕ) → digits_of t ≡ o → IsSome o → t ≡ digits w n
    by None e none = absurd cc
    by (Some m) e some =
        let same : Some m ≡ Some n = sym (digits_alone t m e) ∙ read in
        let is : m ≡ n = cc in
        digits_of-written t m e ∙ ap (λ (i : ℕ). digits i m) len ∙ ap (digits w) is

sequence_number : (t : List ℕ) (n : ℕ) → sequence_of t ≡ Some n → number_of t ≡ Some n
unfolding sequence_of
sequence_number t n h = by (number_of t) h
  where
    by : (o : Option ℕ) → from_one o ≡ Some n → o ≡ Some n
    by None e = absurd cc
    by (Some m) e = elim (pick (m == 0)) [ inl z ↦ (let k = simp z at e in absurd cc) | inr z ↦ (let k = simp z at e in k) ]

pub name_lies : (n : Name) (b : List ℕ) → length b ≡ 200 → SpellsName n b → HasDigits b → NameLies n b
name_lies n b len p has = record {
  suffix = p.suffix;
  airline = p.airline;
  number = number_written (columns 6 9 b) 4 n.flight.number (length_slice b 5 9 (lit≤ tt) (omega (arith, len))) has.number p.number;
  variation = number_written (columns 10 11 b) 2 n.variation (length_slice b 9 11 (lit≤ tt) (omega (arith, len))) has.variation p.variation;
  sequence = number_written (columns 12 13 b) 2 n.sequence (length_slice b 11 13 (lit≤ tt) (omega (arith, len))) has.sequence (sequence_number (columns 12 13 b) n.sequence p.sequence);
}

-- a number that is written in digits spells one
digits_are_some : (t : List ℕ) (w n : ℕ) → n < 10 ^ suc w → t ≡ digits (suc w) n → IsSome (digits_of t)
digits_are_some t w n low is = rw (ap digits_of is ∙ digits_of-digits w n low) refl

pub name_digits : (n : Name) (b : List ℕ) → IsName n → NameLies n b → HasDigits b
name_digits n b fits at =
    let bound = fits.flight.number_to in
    record {
      number = digits_are_some (columns 6 9 b) 3 n.flight.number (omega arith) at.number;
      variation = digits_are_some (columns 10 11 b) 1 n.variation fits.variation at.variation;
      sequence = digits_are_some (columns 12 13 b) 1 n.sequence fits.sequence_to at.sequence;
    }

pub name_stands : (n : Name) (b : List ℕ) → IsName n → SpellsName n b → EachIsValid b name_table
name_stands n b fits s = (
  ap (fault_in Suffix) s.suffix ∙ rw (is_true (is_suffix n.flight.suffix) fits.flight.suffixed) refl,
  (
    ap (fault_in AirlineCode) s.airline ∙ stands_by (is_airline n.airline) fits.airline,
    (
      stands_as (number_of (columns 6 9 b)) n.flight.number s.number,
      (stands_as (number_of (columns 10 11 b)) n.variation s.variation, (stands_as (sequence_of (columns 12 13 b)) n.sequence s.sequence, tt)),
    ),
  ),
)

-- ---- an airline has three columns

pub length_airline : (t : List ℕ) → IsTrue (is_airline t) → length t ≡ 3
length_airline t h = elim (pick (length t == 3)) [ inl e ↦ grind (arith, nat_tests, e) | inr f ↦ (let k = simp f at h in absurd cc) ]
