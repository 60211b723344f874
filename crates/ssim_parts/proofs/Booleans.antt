-- Tests of numbers, and of the dates of a period of all days.
use Rattle.std.proofs.Common.{◌≡◌, ℕ, zero, suc, ◌+◌, ◌-◌, ◌<◌, ◌≤◌, Bool, true, false, ◌&&◌}
use Rattle.std.proofs.Common.{nat_le, List, [], ◌∷◌, slice_index_or, refl, ap, ◌∙◌, arith}
use Rattle.std.specs.Prelude.{nat_lt, not}
use Rattle.std.proofs.lemmas.Bool.Decides.{nat_tests}
use Rattle.ssim_values.specs.Calendar.{slot}
use Rattle.ssim_values.specs.Period.{DayRange}
use Rattle.ssim_periods.specs.Calendar.{holds}

-- two tests that pass together
pub both_ways : (x y : Bool) → (x ≡ true → y ≡ true) → (y ≡ true → x ≡ true) → x ≡ y
both_ways true true to from = refl
both_ways true false to from = let e = to refl in absurd cc
both_ways false true to from = let e = from refl in absurd cc
both_ways false false to from = refl

-- one test passes exactly if the other one fails
turned : (x y : Bool) → (x ≡ true → y ≡ false) → (x ≡ false → y ≡ true) → x ≡ not y
turned true true pass fail = let e = pass refl in absurd cc
turned true false pass fail = refl
turned false true pass fail = refl
turned false false pass fail = let e = fail refl in absurd cc

and_true : (b : Bool) → (b && true) ≡ b
and_true true = refl
and_true false = refl

and_false : (b : Bool) → (b && false) ≡ false
and_false true = refl
and_false false = refl

-- a number is below another one exactly if it is not from that one on
pub lt_not : (n m : ℕ) → nat_lt n m ≡ not (nat_le m n)
lt_not n m = turned (nat_lt n m) (nat_le m n) (λ e. grind (arith, nat_tests))
    (λ e. grind (arith, nat_tests))

-- it is after another one exactly if it is not up to that one
pub above_not : (n m : ℕ) → nat_le (m + 1) n ≡ not (nat_le n m)
above_not n m = turned (nat_le (m + 1) n) (nat_le n m) (λ e. grind (arith, nat_tests))
    (λ e. grind (arith, nat_tests))

from_zero : (n : ℕ) → nat_le 0 n ≡ true
from_zero n = grind (arith, nat_tests)

-- the numbers from 0 on and below an end are those below it
pub below_only : (n end : ℕ) → (nat_le 0 n && nat_lt n end) ≡ nat_lt n end
below_only n end = ap (λ (b : Bool). b && nat_lt n end) (from_zero n)

pub is_below : (n end : ℕ) → n < end → nat_lt n end ≡ true
is_below n end less = grind (arith, nat_tests)

-- each number below an end is one of them
pub all_below : (n end : ℕ) → n < end → (nat_le 0 n && nat_lt n end) ≡ true
all_below n end less = below_only n end ∙ is_below n end less

-- of numbers below an end no test of the end is needed
pub end_only : (b : Bool) (n end : ℕ) → n < end → (b && nat_lt n end) ≡ b
end_only b n end less = ap (λ (c : Bool). b && c) (is_below n end less) ∙ and_true b

-- no number is from the first on and below an end that is not after it
pub none_between : (first end n : ℕ) → end ≤ first → (nat_le first n && nat_lt n end) ≡ false
none_between first end n none = by (nat_le first n) refl
  where
    by : (x : Bool) → nat_le first n ≡ x → (x && nat_lt n end) ≡ false
    by false e = refl
    by true e =
        let from : first ≤ n = grind (arith, nat_tests) in
        let past : nat_lt n end ≡ false = grind (arith, nat_tests) in
        past

-- ---- the days of a period

abbrev all_days : List Bool
all_days = true ∷ true ∷ true ∷ true ∷ true ∷ true ∷ true ∷ []

each_set : (k : ℕ) → k < 7 → slice_index_or all_days k false ≡ true
each_set zero less = refl
each_set (suc zero) less = refl
each_set (suc (suc zero)) less = refl
each_set (suc (suc (suc zero))) less = refl
each_set (suc (suc (suc (suc zero)))) less = refl
each_set (suc (suc (suc (suc (suc zero))))) less = refl
each_set (suc (suc (suc (suc (suc (suc zero)))))) less = refl
each_set (suc (suc (suc (suc (suc (suc (suc k))))))) less = absurd (omega (arith, less))

up_to : (n end : ℕ) → 0 < end → nat_le n (end - 1) ≡ nat_lt n end
up_to n end some = both_ways (nat_le n (end - 1)) (nat_lt n end) (λ e. grind (arith, nat_tests))
    (λ e. grind (arith, nat_tests))

-- a period of all days holds the days from its first to the one before an end
pub holds_all : (p : DayRange) (first end n : ℕ) → 0 < end → p.first ≡ first → p.last ≡ end - 1
    → p.days ≡ all_days → holds p n ≡ (nat_le first n && nat_lt n end)
holds_all p first end n some from to days =
    let less : slot n < 7 = omega arith in
    ap (λ (ds : List Bool).
    (nat_le p.first n && nat_le n p.last) && slice_index_or ds (slot n) false) days
    ∙ ap (λ (b : Bool). (nat_le p.first n && nat_le n p.last) && b) (each_set (slot n) less)
    ∙ and_true (nat_le p.first n && nat_le n p.last)
    ∙ ap (λ (f : ℕ). nat_le f n && nat_le n p.last) from
    ∙ ap (λ (l : ℕ). nat_le first n && nat_le n l) to
    ∙ ap (λ (b : Bool). nat_le first n && b) (up_to n end some)
