-- Each day of a set is in exactly one period of its cover: by recursion over the periods, a day
-- before the first, before its break, or after it.
use Rattle.std.proofs.Common.{◌≡◌, ℕ, zero, suc, ◌-◌, ◌<◌, ◌≤◌, Bool, true, false, ◌&&◌, if◌then◌else◌, nat_le, slice_index_or, refl, ap, ◌∙◌, sym, arith, inl, inr}
use Rattle.std.proofs.lemmas.Bool.Decides.{nat_tests}
use Rattle.ssim_periods.specs.Calendar.{holds}
use Rattle.ssim_values.specs.Calendar.{slot}
use Rattle.ssim_periods.specs.Cover.{last_where, weekdays_of, break_after, period_at, cover_from, holding, CoverLaw}
use Rattle.ssim_periods.proofs.CoverLemmas.{le_or_lt, last_where-is, break_after-is, cover_from-step}

-- a set's day from `from` on
abbrev from_on : ℕ → (ℕ → Bool) → ℕ → Bool
from_on from is_in n = nat_le from n && is_in n

-- the first period of a set holds the set's days before its break, and no other
pub period_at-holds : (is_in : ℕ → Bool) (a end n : ℕ) → a < end → is_in a ≡ true →
    (n < a → holds (period_at is_in a (break_after is_in a end)) n ≡ false)
    × (a ≤ n → n < break_after is_in a end → holds (period_at is_in a (break_after is_in a end)) n ≡ is_in n)
    × (break_after is_in a end ≤ n → holds (period_at is_in a (break_after is_in a end)) n ≡ false)
period_at-holds is_in a end n lt here =
    let after = break_after is_in a end in
    let b = break_after-is is_in a end lt in let gt = b.0 in
    let last = last_where is_in a (after - a) in
    let l = last_where-is is_in a (after - a) here in let low = l.0 in let high = l.1 in
    let own = slice_index_or (weekdays_of is_in a) (slot n) false in (
      λ h. grind (arith, nat_tests),
      λ ge before.
          let same = b.2 n ge before in
          elim (le_or_lt n last) [
            | inl within ↦ let yes : (nat_le a n && nat_le n last) ≡ true = grind (arith, nat_tests) in ap (λ t. t && own) yes ∙ sym same
            | inr beyond ↦ let off : (nat_le a n && nat_le n last) ≡ false = grind (arith, nat_tests) in ap (λ t. t && own) off ∙ sym (l.3 n beyond (omega arith))
          ],
      λ h. let off : (nat_le a n && nat_le n last) ≡ false = grind (arith, nat_tests) in ap (λ t. t && own) off,
    )

abbrev one_if : Bool → ℕ
one_if b = if b then 1 else 0

from_on-off : (from : ℕ) (is_in : ℕ → Bool) (n : ℕ) → (from ≤ n → is_in n ≡ false) → from_on from is_in n ≡ false
from_on-off from is_in n h =
    elim (le_or_lt from n) [
      | inl le ↦ ap (λ b. nat_le from n && b) (h le) ∙ none (nat_le from n)
      | inr lt ↦ let off : nat_le from n ≡ false = grind (arith, nat_tests) in ap (λ b. b && is_in n) off
    ]
  where
    none : (b : Bool) → (b && false) ≡ false
    none true = refl
    none false = refl

from_on-at : (from : ℕ) (is_in : ℕ → Bool) (n : ℕ) → from ≤ n → from_on from is_in n ≡ is_in n
from_on-at from is_in n h = let yes : nat_le from n ≡ true = grind (arith, nat_tests) in ap (λ b. b && is_in n) yes

-- the period holds the day, or a later one does
here : (b t : Bool) (k : ℕ) → b ≡ t → k ≡ 0 → (if b then suc k else k) ≡ one_if t
here b t k e z = ap (λ c. if c then suc k else k) e ∙ count t
  where
    count : (c : Bool) → (if c then suc k else k) ≡ one_if c
    count true = ap suc z
    count false = z

later : (b t : Bool) (k : ℕ) → b ≡ false → k ≡ one_if t → (if b then suc k else k) ≡ one_if t
later b t k e z = ap (λ c. if c then suc k else k) e ∙ z

cover_from-holds : (count : ℕ) (is_in : ℕ → Bool) (from end n : ℕ) → end - from ≤ count → ((m : ℕ) → end ≤ m → is_in m ≡ false) → holding (cover_from count is_in from end) n ≡ one_if (from_on from is_in n)
cover_from-holds zero is_in from end n fuel outside = sym (ap one_if (from_on-off from is_in n (λ h. outside n (omega arith))))
cover_from-holds (suc count) is_in from end n fuel outside =
    cover_from-step count is_in from end (λ ps. holding ps n ≡ one_if (from_on from is_in n))
    (λ none. sym (ap one_if (from_on-off from is_in n (λ h.
    elim (le_or_lt end n) [ inl past ↦ outside n past | inr inside ↦ none n h inside ]))))
    (λ a f.
    let after = break_after is_in a end in
    let low = f.low in let lt = f.lt in
    let b = break_after-is is_in a end lt in let gt = b.0 in
    let p = period_at-holds is_in a end n lt f.own in
    let rest = cover_from-holds count is_in after end n (omega arith) outside in
    elim (le_or_lt a n) [
      | inr before ↦ later _ (from_on from is_in n) _ (p.0 before)
          (rest ∙ ap one_if (from_on-off after is_in n (λ h. absurd (omega arith))
          ∙ sym (from_on-off from is_in n (λ h. f.least n h before))))
      | inl from_a ↦ elim (le_or_lt after n) [
        | inr within ↦ here _ (from_on from is_in n) _ (p.1 from_a within ∙ sym (from_on-at from is_in n (omega arith))) (rest ∙ ap one_if (from_on-off after is_in n (λ h. absurd (omega arith))))
        | inl beyond ↦ later _ (from_on from is_in n) _ (p.2 beyond) (rest ∙ ap one_if (from_on-at after is_in n beyond ∙ sym (from_on-at from is_in n (omega arith))))
      ]
    ])

pub cover_law : CoverLaw
cover_law is_in end outside n = cover_from-holds end is_in 0 end n (omega arith) outside ∙ ap one_if (from_on-at 0 is_in n (omega arith))
