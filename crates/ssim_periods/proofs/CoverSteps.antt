-- A cover, one period at a time.
use Rattle.std.proofs.Common.{◌++◌, map, append_assoc, ◌≡◌, ℕ, zero, suc, ◌+◌, ◌-◌, ◌<◌, ◌≤◌, Bool, true, false, if◌then◌else◌, nat_lt, List, [], ◌∷◌, length, slice_index_or, refl, ap, ◌∙◌, sym, arith, inl, inr}
use Rattle.std.proofs.lemmas.Bool.Decides.{nat_tests}
use Rattle.ssim_values.specs.Period.{DayRange}
use Rattle.ssim_values.specs.DayMask.{digits_from}
use Rattle.ssim_periods.specs.Cover.{first_where, last_where, weekdays_of, differ, breaks, break_after, period_at, cover_from}
use Rattle.ssim_values.specs.Calendar.{slot}
use Rattle.ssim_periods.proofs.CoverLemmas.{first_where-either, first_where-same, last_where-same, last_where-is, weekdays_of-own, break_after-is}

-- the cover of the days from a set's day a on; none from the end on
abbrev pub cover_at : (ℕ → Bool) → ℕ → ℕ → List DayRange
cover_at is_in end a = if nat_lt a end then period_at is_in a (break_after is_in a end) ∷ cover_from end is_in (break_after is_in a end) end else []

pub first_where-low : (test : ℕ → Bool) (n k : ℕ) → n ≤ first_where test n k
first_where-low test n k = elim (first_where-either test n k) [ inl none ↦ let at = none.0 in omega arith | inr some ↦ some.0 ]

pub first_where-high : (test : ℕ → Bool) (n k : ℕ) → first_where test n k ≤ n + k
first_where-high test n k = elim (first_where-either test n k) [ inl none ↦ let at = none.0 in omega arith | inr some ↦ let h = some.1 in omega arith ]

pub first_where-found : (test : ℕ → Bool) (n k : ℕ) → first_where test n k < n + k → test (first_where test n k) ≡ true
first_where-found test n k h = elim (first_where-either test n k) [ inl none ↦ let at = none.0 in absurd (omega arith) | inr some ↦ some.2 ]

-- past the end no period is left
past : (is_in : ℕ → Bool) (from end : ℕ) (X : List DayRange) → end ≤ from → (if nat_lt (first_where is_in from (end - from)) end then X else []) ≡ []
past is_in from end X h =
    let low = first_where-low is_in from (end - from) in
    let off : nat_lt (first_where is_in from (end - from)) end ≡ false = grind (arith, nat_tests) in
    ap (λ b. if b then X else []) off

-- the least day from `from` on and its break move on
moves : (is_in : ℕ → Bool) (from end : ℕ) → nat_lt (first_where is_in from (end - from)) end ≡ true → from < break_after is_in (first_where is_in from (end - from)) end
moves is_in from end h =
    let a = first_where is_in from (end - from) in
    let lt : a < end = grind (arith, nat_tests) in
    let low = first_where-low is_in from (end - from) in
    let gt = (break_after-is is_in a end lt).0 in
    omega arith

-- more periods than there are days change nothing
pub cover_from-fuel : (j k : ℕ) (is_in : ℕ → Bool) (from end : ℕ) → end - from ≤ j → end - from ≤ k → cover_from j is_in from end ≡ cover_from k is_in from end
cover_from-fuel zero zero is_in from end h l = refl
cover_from-fuel zero (suc k) is_in from end h l = sym (past is_in from end (period_at is_in (first_where is_in from (end - from)) (break_after is_in (first_where is_in from (end - from)) end) ∷ cover_from k is_in (break_after is_in (first_where is_in from (end - from)) end) end) (omega arith))
cover_from-fuel (suc j) zero is_in from end h l = past is_in from end (period_at is_in (first_where is_in from (end - from)) (break_after is_in (first_where is_in from (end - from)) end) ∷ cover_from j is_in (break_after is_in (first_where is_in from (end - from)) end) end) (omega arith)
cover_from-fuel (suc j) (suc k) is_in from end h l =
    let a = first_where is_in from (end - from) in
    let after = break_after is_in a end in
    elim (nat_lt a end) as (λ t. nat_lt a end ≡ t → (if t then period_at is_in a after ∷ cover_from j is_in after end else []) ≡ (if t then period_at is_in a after ∷ cover_from k is_in after end else [])) [
      | true ↦ λ e. let m = moves is_in from end e in ap (λ r. period_at is_in a after ∷ r) (cover_from-fuel j k is_in after end (omega arith) (omega arith))
      | false ↦ λ e. refl
    ] refl

-- the cover of the days from `from` on is the cover from the least of them on
pub cover_from-at : (count : ℕ) (is_in : ℕ → Bool) (from end : ℕ) → end - from ≤ count → cover_from count is_in from end ≡ cover_at is_in end (first_where is_in from (end - from))
cover_from-at zero is_in from end h = sym (past is_in from end (period_at is_in (first_where is_in from (end - from)) (break_after is_in (first_where is_in from (end - from)) end) ∷ cover_from end is_in (break_after is_in (first_where is_in from (end - from)) end) end) (omega arith))
cover_from-at (suc count) is_in from end h =
    let a = first_where is_in from (end - from) in
    let after = break_after is_in a end in
    elim (nat_lt a end) as (λ t. nat_lt a end ≡ t → (if t then period_at is_in a after ∷ cover_from count is_in after end else []) ≡ (if t then period_at is_in a after ∷ cover_from end is_in after end else [])) [
      | true ↦ λ e. let m = moves is_in from end e in ap (λ r. period_at is_in a after ∷ r) (cover_from-fuel count end is_in after end (omega arith) (omega arith))
      | false ↦ λ e. refl
    ] refl

-- one period of the cover
pub cover_at-next : (is_in : ℕ → Bool) (end a : ℕ) → a < end → cover_at is_in end a ≡ period_at is_in a (break_after is_in a end) ∷ cover_at is_in end (first_where is_in (break_after is_in a end) (end - break_after is_in a end))
cover_at-next is_in end a h =
    let after = break_after is_in a end in
    let on : nat_lt a end ≡ true = grind (arith, nat_tests) in
    ap (λ b. if b then period_at is_in a after ∷ cover_from end is_in after end else []) on
    ∙ ap (λ r. period_at is_in a after ∷ r) (cover_from-at end is_in after end (omega arith))

pub cover_at-end : (is_in : ℕ → Bool) (end a : ℕ) → end ≤ a → cover_at is_in end a ≡ []
cover_at-end is_in end a h =
    let off : nat_lt a end ≡ false = grind (arith, nat_tests) in
    ap (λ b. if b then period_at is_in a (break_after is_in a end) ∷ cover_from end is_in (break_after is_in a end) end else []) off

-- with no weekdays, a day differs if it is in the set
pub first-in_set : (is_in : ℕ → Bool) (mask : List Bool) (n k : ℕ) → ((s : ℕ) → slice_index_or mask s false ≡ false) → first_where (breaks is_in mask) n k ≡ first_where is_in n k
first-in_set is_in mask n k none = first_where-same (breaks is_in mask) is_in n k (λ m a b. ap (differ (is_in m)) (none (slot m)) ∙ off (is_in m))
  where
    off : (b : Bool) → differ b false ≡ b
    off true = refl
    off false = refl

pub range-is : (p : DayRange) (first last : ℕ) (days : List Bool) → p.first ≡ first → p.last ≡ last → p.days ≡ days → p ≡ record { first = first; last = last; days = days }
range-is p first last days ef el ed = ap (λ f. made f p.last p.days) ef ∙ ap (λ l. made first l p.days) el ∙ ap (made first last) ed
  where
    made : ℕ → ℕ → List Bool → DayRange
    made f l d = record { first = f; last = l; days = d }

-- a mask with a day has a digit
pub some-digit : (days : List Bool) (s d : ℕ) → slice_index_or days s false ≡ true → 0 < length (digits_from d days)
some-digit [] s d h = cc
some-digit (true ∷ days) s d h = omega arith
some-digit (false ∷ days) zero d h = cc
some-digit (false ∷ days) (suc s) d h = some-digit days s (d + 1) h

pub none-set : (s : ℕ) → slice_index_or (false ∷ false ∷ false ∷ false ∷ false ∷ false ∷ false ∷ []) s false ≡ false
none-set zero = refl
none-set (suc zero) = refl
none-set (suc (suc zero)) = refl
none-set (suc (suc (suc zero))) = refl
none-set (suc (suc (suc (suc zero)))) = refl
none-set (suc (suc (suc (suc (suc zero))))) = refl
none-set (suc (suc (suc (suc (suc (suc zero)))))) = refl
none-set (suc (suc (suc (suc (suc (suc (suc s))))))) = refl

-- one step from a set's day: its weekdays and its break
pub record Step (is_in : ℕ → Bool) (end first : ℕ) (mask : List Bool) (after : ℕ) : Type 0 where
  pub after_is : after ≡ break_after is_in first end
  pub gt : first < after
  pub le : after ≤ end
  pub own : slice_index_or mask (slot first) false ≡ true
  pub like : (n : ℕ) → first ≤ n → n < after → is_in n ≡ slice_index_or mask (slot n) false

pub step : (is_in : ℕ → Bool) (end first : ℕ) (mask : List Bool) (after : ℕ) → first < end → is_in first ≡ true → mask ≡ weekdays_of is_in first → after ≡ first_where (breaks is_in mask) first (end - first) → Step is_in end first mask after
step is_in end first mask after lt here mask_is found =
    let is : after ≡ break_after is_in first end = found ∙ ap (λ m. first_where (breaks is_in m) first (end - first)) mask_is in
    let b = break_after-is is_in first end lt in let gt = b.0 in let le = b.1 in
    record {
      after_is = is;
      gt = omega arith;
      le = omega arith;
      own = ap (λ m. slice_index_or m (slot first) false) mask_is ∙ weekdays_of-own is_in first ∙ here;
      like = λ n l h. b.2 n l (omega arith) ∙ sym (ap (λ m. slice_index_or m (slot n) false) mask_is);
    }

-- the last day of the period of a step
pub step-last : (is_in : ℕ → Bool) (end first : ℕ) (mask : List Bool) (after last : ℕ) → Step is_in end first mask after → is_in first ≡ true → last ≡ last_where (λ n. slice_index_or mask (slot n) false) first (after - first) →
    (last ≡ last_where is_in first (after - first)) × (first ≤ last) × (last < after)
step-last is_in end first mask after last s here is =
    let gt = s.gt in
    let same : last ≡ last_where is_in first (after - first) = is ∙ sym (last_where-same is_in (λ n. slice_index_or mask (slot n) false) first (after - first) (λ m l h. s.like m l (omega arith))) in
    let l = last_where-is is_in first (after - first) here in let low = l.0 in let high = l.1 in
    (same, omega arith, omega arith)

-- the period of a step
pub step-period : (is_in : ℕ → Bool) (end first : ℕ) (mask : List Bool) (after last : ℕ) (p : DayRange) → Step is_in end first mask after → is_in first ≡ true → mask ≡ weekdays_of is_in first → last ≡ last_where is_in first (after - first) → p.first ≡ first → p.last ≡ last → p.days ≡ mask → p ≡ period_at is_in first (break_after is_in first end)
step-period is_in end first mask after last p s here mask_is last_is ef el ed =
    range-is p first (last_where is_in first (break_after is_in first end - first)) (weekdays_of is_in first) ef (el ∙ last_is ∙ ap (λ a. last_where is_in first (a - first)) s.after_is) (ed ∙ mask_is)

-- the mask of no weekday
abbrev pub no_days : List Bool
no_days = false ∷ false ∷ false ∷ false ∷ false ∷ false ∷ false ∷ []

pub first-in_none : (is_in : ℕ → Bool) (n k : ℕ) → first_where (breaks is_in no_days) n k ≡ first_where is_in n k
first-in_none is_in n k = first-in_set is_in no_days n k none-set

-- what is pushed and what is left, after one more period
pub step-rest : {V : Type 0} (is_in : ℕ → Bool) (end first after next : ℕ) (items more : List (DayRange × V)) (v x : V) (p : DayRange) → first < end → after ≡ break_after is_in first end → next ≡ first_where is_in after (end - after) → p ≡ period_at is_in first (break_after is_in first end) → x ≡ v → more ≡ items ++ (p, x) ∷ [] →
    more ++ map (λ period. (period, v)) (cover_at is_in end next) ≡ items ++ map (λ period. (period, v)) (cover_at is_in end first)
step-rest is_in end first after next items more v x p lt after_is next_is p_is x_is pushed =
    let rest = map (λ period. (period, v)) (cover_at is_in end next) in
    ap (λ l. l ++ rest) pushed ∙ append_assoc items ((p, x) ∷ []) rest
    ∙ ap (λ q. items ++ (q, x) ∷ rest) p_is ∙ ap (λ y. items ++ (period_at is_in first (break_after is_in first end), y) ∷ rest) x_is
    ∙ ap (λ a. items ++ (period_at is_in first (break_after is_in first end), v) ∷ map (λ period. (period, v)) (cover_at is_in end a)) (next_is ∙ ap (λ a. first_where is_in a (end - a)) after_is)
    ∙ ap (λ ps. items ++ map (λ period. (period, v)) ps) (sym (cover_at-next is_in end first lt))
