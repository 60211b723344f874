-- Dates and days of operation, as they are written in a record.
use Rattle.std.proofs.Common.{◌≡◌, ℕ, ◌<◌, ◌≤◌, Bool, true, false, List, [], ◌∷◌, length, Option, Some, None, refl, sym, ap, ◌∙◌, arith, inl, inr}
use Rattle.std.specs.Prelude.{codes, nat_lt}
use Rattle.std.specs.Str.{bytes_eq}
use Rattle.std.proofs.lemmas.Bool.Decides.{nat_tests}
use Rattle.std.proofs.lemmas.Slice.Eq.{bytes_eq-Decides, slice_eq-Decides}
use Rattle.std.specs.Bool.{Decides, beq}
use Rattle.std.specs.Cmp.Lexicographic.{pointwise}
use Rattle.ssim_values.specs.Calendar.{day_limit}
use Rattle.ssim_values.specs.Day.{day_of, day_text}
use Rattle.ssim_values.specs.DayMask.{IsMask, places_of}
use Rattle.ssim_values.proofs.DayLaws.{day_of-day_text, day_of-bound, day_of-one_text, day_of-sound}
use Rattle.ssim_values.proofs.DaysLemmas.{length-places_from}
use Rattle.ssim_columns.specs.Columns.{end_from, day_from}
use Rattle.ssim_columns.specs.Leg.{end_text, IsEnd}
use Rattle.ssim_columns.proofs.lemmas.Choices.{pick}

read_length : (t : List ℕ) (n : ℕ) → day_of t ≡ Some n → length t ≡ 7
unfolding day_of
read_length [] n h = absurd cc
read_length (a ∷ []) n h = absurd cc
read_length (a ∷ b ∷ []) n h = absurd cc
read_length (a ∷ b ∷ c ∷ []) n h = absurd cc
read_length (a ∷ b ∷ c ∷ d ∷ []) n h = absurd cc
read_length (a ∷ b ∷ c ∷ d ∷ e ∷ []) n h = absurd cc
read_length (a ∷ b ∷ c ∷ d ∷ e ∷ f ∷ []) n h = absurd cc
read_length (a ∷ b ∷ c ∷ d ∷ e ∷ f ∷ g ∷ []) n h = refl
read_length (a ∷ b ∷ c ∷ d ∷ e ∷ f ∷ g ∷ i ∷ j) n h = absurd cc

pub length_day : (n : ℕ) → n < day_limit → length (day_text n) ≡ 7
length_day n h = read_length (day_text n) n (day_of-day_text n h)

pub length_end : (first : ℕ) (o : Option ℕ) → IsEnd first o → length (end_text o) ≡ 7
length_end first None h = refl
length_end first (Some n) h = length_day n h.1

pub length_places : (days : List Bool) → IsMask days → length (places_of days) ≡ 7
length_places days h = length-places_from 49 days ∙ h.seven

open_is_no_day : day_of (codes "00XXX00") ≡ None
unfolding day_of
open_is_no_day = refl

day_is_not_open : (n : ℕ) → n < day_limit → bytes_eq (day_text n) (codes "00XXX00") ≡ false
day_is_not_open n h =
    elim (pick (bytes_eq (day_text n) (codes "00XXX00"))) [
      | inl t ↦ (let same : day_text n ≡ codes "00XXX00" = (bytes_eq-Decides (day_text n) (codes "00XXX00")).0 t in let none : Some n ≡ None = sym (day_of-day_text n h) ∙ ap day_of same ∙ open_is_no_day in absurd cc)
      | inr f ↦ f
    ]

from_start : (first n : ℕ) → first ≤ n → day_from first (Some n) ≡ Some (Some n)
from_start first n h = grind (arith, nat_tests)

pub end_from-end_text : (first : ℕ) (o : Option ℕ) → IsEnd first o → end_from (Some first) (end_text o) ≡ Some o
unfolding end_from
end_from-end_text first None h = refl
end_from-end_text first (Some n) h = rw (day_is_not_open n h.1, day_of-day_text n h.1) (from_start first n h.0)

-- an end that is read is valid
day_from_is : (first m n : ℕ) → day_from first (Some m) ≡ Some (Some n) → (m ≡ n) × (first ≤ n)
day_from_is first m n h =
    elim (pick (nat_lt m first)) [
      | inl t ↦ (let k = simp t at h in absurd cc)
      | inr f ↦ (let k = simp f at h in let same : m ≡ n = cc in let le : first ≤ m = grind (arith, nat_tests, f) in (same, omega (arith, same, le)))
    ]

day_from_some : (first n : ℕ) (o : Option ℕ) → day_from first o ≡ Some (Some n) → (o ≡ Some n) × (first ≤ n)
day_from_some first n None h = absurd cc
day_from_some first n (Some m) h = let r = day_from_is first m n h in (ap (λ (x : ℕ). Some x) r.0, r.1)

pub is_end : (first : ℕ) (t : List ℕ) (o : Option ℕ) → end_from (Some first) t ≡ Some o → IsEnd first o
unfolding end_from
is_end first t None h = tt
is_end first t (Some n) h =
    elim (pick (bytes_eq t (codes "00XXX00"))) [
      | inl e ↦ (let k = simp e at h in absurd cc)
      | inr f ↦ (let k = simp f at h in let r = day_from_some first n (day_of t) k in (r.1, day_of-bound n t (day_of-sound n t r.0)))
    ]

-- an end has one text
no_open_day : (first : ℕ) (o : Option ℕ) → day_from first o ≡ Some None → ⊥
no_open_day first None h = absurd cc
no_open_day first (Some m) h = elim (pick (nat_lt m first)) [ inl t ↦ (let k = simp t at h in absurd cc) | inr f ↦ (let k = simp f at h in absurd cc) ]

pub end_from-one_text : (first : ℕ) (t : List ℕ) (o : Option ℕ) → end_from (Some first) t ≡ Some o → t ≡ end_text o
unfolding end_from
end_from-one_text first t None h =
    elim (pick (bytes_eq t (codes "00XXX00"))) [
      | inl e ↦ (bytes_eq-Decides t (codes "00XXX00")).0 e
      | inr f ↦ (let k = simp f at h in absurd (no_open_day first (day_of t) k))
    ]
end_from-one_text first t (Some n) h =
    elim (pick (bytes_eq t (codes "00XXX00"))) [
      | inl e ↦ (let k = simp e at h in absurd cc)
      | inr f ↦ (let k = simp f at h in day_of-one_text n t (day_from_some first n (day_of t) k).0)
    ]

-- ---- days of operation are compared day by day

abbrev pub days_eq : List Bool → List Bool → Bool
days_eq = pointwise beq

bools_decide : (a b : Bool) → Decides (beq a b) (a ≡ b)
bools_decide true true = (λ h. refl, λ e. refl)
bools_decide true false = (λ h. absurd cc, λ e. absurd cc)
bools_decide false true = (λ h. absurd cc, λ e. absurd cc)
bools_decide false false = (λ h. refl, λ e. refl)

pub days_decide : (a b : List Bool) → Decides (days_eq a b) (a ≡ b)
days_decide a b = slice_eq-Decides bools_decide a b (days_eq a b) refl
