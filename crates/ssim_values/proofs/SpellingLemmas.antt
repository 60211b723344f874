-- Digits and names of months, read and written: each function undoes the other.
use Rattle.std.proofs.Common.{◌≡◌, ℕ, zero, suc, ◌+◌, ◌-◌, ◌/◌, ◌%◌, ◌<◌, ◌≤◌, List, [], refl, sym, arith, slice_index_or, Option, Some, None}
use Rattle.std.specs.List.{position}
use Rattle.std.specs.Str.{bytes_eq}
use Rattle.std.specs.Prelude.{option_map}
use Rattle.std.proofs.lemmas.List.Quantifiers.{position-Some}
use Rattle.std.proofs.lemmas.Slice.Eq.{bytes_eq-Decides}
use Rattle.ssim_values.specs.Characters.{two_digits_of}
use Rattle.ssim_values.specs.Day.{month_names, month_name, month_named}

-- what spells no value is read as none
pub none_where : {A : Type 0} (o : Option A) → ((a : A) → o ≡ Some a → ⊥) → o ≡ None
none_where None never = refl
none_where (Some a) never = absurd (never a refl)

pub two_digits_of-sound : (a b n : ℕ) → two_digits_of a b ≡ Some n → (n < 100) × (a ≡ 48 + n / 10) × (b ≡ 48 + n % 10)
two_digits_of-sound a b n e = grind arith

pub two_digits_of-complete : (n : ℕ) → n < 100 → two_digits_of (48 + n / 10) (48 + n % 10) ≡ Some n
two_digits_of-complete n h = grind arith

named : (name : List ℕ) (i m : ℕ) → position (bytes_eq name) month_names ≡ Some i → m ≡ i + 1 → (1 ≤ m) × (m ≤ 12) × (month_name m ≡ name)
named name i m e is =
    let h = position-Some (bytes_eq name) month_names i [] e in
    let at : m - 1 ≡ i = omega arith in
    let same : name ≡ slice_index_or month_names i [] = (bytes_eq-Decides name (slice_index_or month_names i [])).0 (h.1) in
    (omega arith, omega (arith, h.0), rw at (sym same))

pub month_named-sound : (name : List ℕ) (m : ℕ) → month_named name ≡ Some m → (1 ≤ m) × (m ≤ 12) × (month_name m ≡ name)
month_named-sound name m =
    elim (position (bytes_eq name) month_names) as (λ o. position (bytes_eq name) month_names ≡ o → option_map (λ i. i + 1) o ≡ Some m → (1 ≤ m) × (m ≤ 12) × (month_name m ≡ name)) [
      | None ↦ λ _ e. absurd (cc)
      | Some i ↦ λ is e. let m_is : m ≡ i + 1 = cc in named name i m is m_is
    ] refl

-- each of the twelve by computing
pub month_named-complete : (m : ℕ) → 1 ≤ m → m ≤ 12 → month_named (month_name m) ≡ Some m
month_named-complete zero low high = absurd (omega arith)
month_named-complete (suc zero) low high = refl
month_named-complete (suc (suc zero)) low high = refl
month_named-complete (suc (suc (suc zero))) low high = refl
month_named-complete (suc (suc (suc (suc zero)))) low high = refl
month_named-complete (suc (suc (suc (suc (suc zero))))) low high = refl
month_named-complete (suc (suc (suc (suc (suc (suc zero)))))) low high = refl
month_named-complete (suc (suc (suc (suc (suc (suc (suc zero))))))) low high = refl
month_named-complete (suc (suc (suc (suc (suc (suc (suc (suc zero)))))))) low high = refl
month_named-complete (suc (suc (suc (suc (suc (suc (suc (suc (suc zero))))))))) low high = refl
month_named-complete (suc (suc (suc (suc (suc (suc (suc (suc (suc (suc zero)))))))))) low high = refl
month_named-complete (suc (suc (suc (suc (suc (suc (suc (suc (suc (suc (suc zero))))))))))) low high = refl
month_named-complete (suc (suc (suc (suc (suc (suc (suc (suc (suc (suc (suc (suc zero)))))))))))) low high = refl
month_named-complete (suc (suc (suc (suc (suc (suc (suc (suc (suc (suc (suc (suc (suc m))))))))))))) low high = absurd (omega arith)
