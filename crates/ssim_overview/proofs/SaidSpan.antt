-- The dates of a span, before and after which nothing is said, are all dates.
use Rattle.std.proofs.Common.{◌≡◌, ◌∙◌, ◌⊎◌, inl, inr, ℕ, zero, suc, ◌+◌, ◌-◌, ◌++◌, ◌≤◌, ◌<◌, Bool}
use Rattle.std.proofs.Common.{true, false, ◌&&◌, nat_le, List, [], ◌∷◌, map, Option, refl, sym, ap, ap₂}
use Rattle.std.proofs.Common.{append-nil, arith, slice_index_or, length, get_or, take, if◌then◌else◌}
use Rattle.std.specs.Option.{option_to_list}
use Rattle.std.proofs.lemmas.Bool.Decides.{nat_tests}
use Rattle.ssim_values.specs.Calendar.{slot}
use Rattle.ssim_values.specs.Period.{DayRange}
use Rattle.ssim_values.specs.Variation.{Offset}
use Rattle.ssim_periods.specs.Calendar.{holds}
use Rattle.ssim_periods.specs.Pieces.{held_on}
use Rattle.ssim_overview.specs.SaidRows.{said}
use Rattle.ssim_overview.specs.internal.SaidRows.{Dated, dates_said}
use Rattle.ssim_overview.specs.declared.sayings.Saying.{Saying}
use Rattle.ssim_overview.proofs.SaidHalves.{dates_halves}
use Rattle.ssim_overview.proofs.SaidSteps.{held_more}

-- nothing is said before a day, and from another one on
abbrev pub SaidWithin : List Dated → ℕ → ℕ → Type 0
SaidWithin sayings from end = (n : ℕ) → (n < from) ⊎ (end ≤ n) → held_on sayings n ≡ []

-- days on which nothing is said have no dates
dates_none : (sayings : List Dated) (first count : ℕ)
    → ((n : ℕ) → first ≤ n → n < first + count → held_on sayings n ≡ [])
    → dates_said sayings first count ≡ []
dates_none sayings first zero none = refl
dates_none sayings first (suc count) none =
    ap₂ (λ (v : Option Offset) (later : List (ℕ × Offset)).
    map (λ w. (first, w)) (option_to_list v) ++ later)
    (ap said (none first (omega arith) (omega arith)))
    (dates_none sayings (first + 1) count (λ n low high. none n (omega arith) (omega arith)))

pub span_dates : (sayings : List Dated) (from end : ℕ) → from < end → end ≤ 36525
    → SaidWithin sayings from end
    → dates_said sayings from (end - from) ≡ dates_said sayings 0 36525
span_dates sayings from end lt within none =
    let before : dates_said sayings 0 (from - 0) ≡ [] =
    dates_none sayings 0 (from - 0) (λ n low high. none n (inl (omega arith))) in
    let after : dates_said sayings end (36525 - end) ≡ [] =
    dates_none sayings end (36525 - end) (λ n low high. none n (inr (omega arith))) in
    let most = dates_said sayings from (end - from) in
    sym (append-nil most)
    ∙ ap (λ (later : List (ℕ × Offset)). most ++ later) (sym after)
    ∙ dates_halves from end 36525 sayings (omega arith) within
    ∙ ap (λ (early : List (ℕ × Offset)). early ++ dates_said sayings from (36525 - from)) (sym before)
    ∙ dates_halves 0 from 36525 sayings (omega arith) (omega arith)

-- if the span has no day, nothing is said at all
pub no_span : (sayings : List Dated) (from end : ℕ) → end ≤ from → SaidWithin sayings from end
    → dates_said sayings 0 36525 ≡ []
no_span sayings from end le none =
    dates_none sayings 0 36525 (λ n low high. either n (nat_le end n) refl)
  where
    either : (n : ℕ) (b : Bool) → nat_le end n ≡ b → held_on sayings n ≡ []
    either n true e = none n (inr (grind (arith, nat_tests)))
    either n false e = none n (inl (grind (arith, nat_tests)))

-- a period has no day before its first and after its last
outside : (p : DayRange) (n : ℕ) → (n < p.first) ⊎ (p.last < n) → holds p n ≡ false
outside p n off = ap (λ (b : Bool). b && slice_index_or p.days (slot n) false) (none off)
  where
    none : (n < p.first) ⊎ (p.last < n) → (nat_le p.first n && nat_le n p.last) ≡ false
    none (inl h) = grind (arith, nat_tests)
    none (inr h) = grind (arith, nat_tests)

-- one saying more, in a span that has its period, too
pub within_more : (xs : List Dated) (i : ℕ) (x : Dated) (from end first last : ℕ)
    → i < length xs → x ≡ get_or xs i x → SaidWithin (take i xs) from end
    → first ≤ from → first ≤ x.0.first → end ≤ last → x.0.last < last
    → SaidWithin (take (i + 1) xs) first last
within_more xs i x from end first last lt is none a b d e n off =
    held_more xs i x n lt is
    ∙ ap₂ (λ (old : List Saying) (t : Bool). old ++ (if t then x.1 ∷ [] else []))
    (none n (older off)) (outside x.0 n (other off))
  where
    older : (n < first) ⊎ (last ≤ n) → (n < from) ⊎ (end ≤ n)
    older (inl h) = inl (omega arith)
    older (inr h) = inr (omega arith)

    other : (n < first) ⊎ (last ≤ n) → (n < x.0.first) ⊎ (x.0.last < n)
    other (inl h) = inl (omega arith)
    other (inr h) = inr (omega arith)
