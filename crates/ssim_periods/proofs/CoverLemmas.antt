-- The first day that passes, found in at most seven days of a stretch.
use Rattle.std.proofs.Common.{◌≡◌, ℕ, zero, suc, ◌+◌, ◌-◌, ◌*◌, ◌/◌, slice_index_or, ◌<◌, ◌≤◌, Bool, true, false, not, if◌then◌else◌, nat_lt, List, [], ◌∷◌, refl, ap, ◌∙◌, sym, arith, ◌⊎◌, inl, inr}
use Rattle.std.proofs.Math.Bool.{beq}
use Rattle.std.proofs.lemmas.Bool.Decides.{nat_tests}
use Rattle.ssim_values.specs.Period.{DayRange}
use Rattle.ssim_values.specs.Calendar.{first_on, slot}
use Rattle.ssim_periods.specs.Cover.{first_where, last_where, weekdays_of, differ, breaks, break_after}
use Rattle.ssim_periods.specs.Cover.{cover_from, period_at}

pub le_or_lt : (m n : ℕ) → (m ≤ n) ⊎ (n < m)
le_or_lt m n = elim (nat_lt n m) as (λ t. nat_lt n m ≡ t → (m ≤ n) ⊎ (n < m)) [ true ↦ λ e. inr (grind (arith, nat_tests)) | false ↦ λ e. inl (grind (arith, nat_tests)) ] refl

pub same_or_less : (m n : ℕ) → m ≤ n → (m ≡ n) ⊎ (m < n)
same_or_less m n h = elim (nat_lt m n) as (λ t. nat_lt m n ≡ t → (m ≡ n) ⊎ (m < n)) [ true ↦ λ e. inr (grind (arith, nat_tests)) | false ↦ λ e. let l : n ≤ m = grind (arith, nat_tests) in inl (omega arith) ] refl

pub first_where-none : (test : ℕ → Bool) (n k : ℕ) → ((m : ℕ) → n ≤ m → m < n + k → test m ≡ false) → first_where test n k ≡ n + k
first_where-none test n zero h = omega arith
first_where-none test n (suc k) h =
    ap (λ b. if b then n else first_where test (n + 1) k) (h n (omega arith) (omega arith))
    ∙ first_where-none test (n + 1) k (λ m a b. h m (omega arith) (omega arith)) ∙ moved
  where
    moved : n + 1 + k ≡ n + suc k
    moved = omega arith

-- a day is the first that passes
pub first_where-is : (test : ℕ → Bool) (n k f : ℕ) → n ≤ f → f < n + k → test f ≡ true → ((m : ℕ) → n ≤ m → m < f → test m ≡ false) → first_where test n k ≡ f
first_where-is test n zero f a b t before = absurd (omega arith)
first_where-is test n (suc k) f a b t before =
    elim (same_or_less n f a) [
      | inl e ↦ ap (λ c. if c then n else first_where test (n + 1) k) (ap test e ∙ t) ∙ e
      | inr l ↦ ap (λ c. if c then n else first_where test (n + 1) k) (before n (omega arith) l) ∙ first_where-is test (n + 1) k f (omega arith) (omega arith) t (λ m x y. before m (omega arith) y)
    ]

-- no day passes, or there is a first day that does
pub first_where-cases : (test : ℕ → Bool) (n k : ℕ) → ((m : ℕ) → n ≤ m → m < n + k → test m ≡ false) ⊎ ((f : ℕ) × (n ≤ f) × (f < n + k) × (test f ≡ true) × ((m : ℕ) → n ≤ m → m < f → test m ≡ false))
first_where-cases test n zero = inl (λ m a b. absurd (omega arith))
first_where-cases test n (suc k) =
    elim (test n) as (λ c. test n ≡ c → ((m : ℕ) → n ≤ m → m < n + suc k → test m ≡ false) ⊎ ((f : ℕ) × (n ≤ f) × (f < n + suc k) × (test f ≡ true) × ((m : ℕ) → n ≤ m → m < f → test m ≡ false))) [
      | true ↦ λ e. inr (n, omega arith, omega arith, e, λ m a b. absurd (omega arith))
      | false ↦ λ e. elim (first_where-cases test (n + 1) k) [
        | inl h ↦ inl (λ m a b. elim (same_or_less n m a) [ inl q ↦ ap test (sym q) ∙ e | inr l ↦ h m (omega arith) (omega arith) ])
        | inr h ↦ inr (h.0, let l = h.1 in omega arith, let l = h.2 in omega arith, h.3, λ m a b. elim (same_or_less n m a) [ inl q ↦ ap test (sym q) ∙ e | inr l ↦ h.4 m (omega arith) b ])
      ]
    ] refl

-- a test that repeats weekly and fails on seven days of a stretch fails on the stretch
pub none-from_week : (test : ℕ → Bool) (n k : ℕ) → ((m : ℕ) → n ≤ m → m + 7 < n + k → test (m + 7) ≡ test m) → ((m : ℕ) → n ≤ m → m < n + 7 → m < n + k → test m ≡ false) → (d m : ℕ) → m ≡ n + d → m < n + k → test m ≡ false
none-from_week test n k weekly week d m e l = by_weeks (d / 7) d m e l (omega arith)
  where
    by_weeks : (w : ℕ) → (d m : ℕ) → m ≡ n + d → m < n + k → d < 7 * w + 7 → test m ≡ false
    by_weeks zero d m e l h = week m (omega arith) (omega arith) l
    by_weeks (suc w) d m e l h =
        elim (le_or_lt 7 d) [
          | inl f ↦ let back : (m - 7) + 7 ≡ m = omega arith in ap test (sym back) ∙ weekly (m - 7) (omega arith) (omega arith) ∙ by_weeks w (d - 7) (m - 7) (omega arith) (omega arith) (omega arith)
          | inr f ↦ week m (omega arith) (omega arith) l
        ]

-- the first day that passes in a stretch is found in its first seven days, or there is none
pub first_where-week : (test : ℕ → Bool) (n k j : ℕ) → j ≤ k → ((7 ≤ j) ⊎ (j ≡ k)) → ((m : ℕ) → n ≤ m → m + 7 < n + k → test (m + 7) ≡ test m) → first_where test n k ≡ (if nat_lt (first_where test n j) (n + j) then first_where test n j else n + k)
first_where-week test n k j le week weekly =
    elim (first_where-cases test n j) [
      | inl none ↦
          let here = first_where-none test n j none in
          let all = first_where-none test n k (λ m a b. none-from_week test n k weekly (λ i x y z. elim week [ inl s ↦ none i x (omega arith) | inr s ↦ none i x (omega arith) ]) (m - n) m (omega arith) b) in
          all ∙ sym (ap (λ f. if nat_lt f (n + j) then f else n + k) here ∙ grind (arith, nat_tests))
      | inr some ↦
          let low = some.1 in let high = some.2 in
          let here = first_where-is test n j some.0 some.1 some.2 some.3 some.4 in
          let there = first_where-is test n k some.0 some.1 (omega arith) some.3 some.4 in
          there ∙ sym (ap (λ f. if nat_lt f (n + j) then f else n + k) here ∙ grind (arith, nat_tests))
    ]

-- what the first day that passes is
pub first_where-either : (test : ℕ → Bool) (n k : ℕ) →
    ((first_where test n k ≡ n + k) × ((m : ℕ) → n ≤ m → m < n + k → test m ≡ false))
    ⊎ ((n ≤ first_where test n k) × (first_where test n k < n + k) × (test (first_where test n k) ≡ true) × ((m : ℕ) → n ≤ m → m < first_where test n k → test m ≡ false))
first_where-either test n k =
    elim (first_where-cases test n k) [
      | inl none ↦ inl (first_where-none test n k none, none)
      | inr some ↦
          let at = first_where-is test n k some.0 some.1 some.2 some.3 some.4 in
          let low = some.1 in let high = some.2 in
          inr (omega arith, omega arith, ap test at ∙ some.3, λ m a b. some.4 m a (omega arith))
    ]

-- the last day that passes, if the first day passes
pub last_where-is : (test : ℕ → Bool) (n k : ℕ) → test n ≡ true →
    (n ≤ last_where test n k) × (last_where test n k ≤ n + (k - 1)) × (test (last_where test n k) ≡ true) × ((m : ℕ) → last_where test n k < m → m < n + k → test m ≡ false)
last_where-is test n zero h = (omega arith, omega arith, h, λ m a b. absurd (omega arith))
last_where-is test n (suc k) h =
    elim (test (n + k)) as (λ t. test (n + k) ≡ t → (n ≤ (if t then n + k else last_where test n k)) × ((if t then n + k else last_where test n k) ≤ n + (suc k - 1)) × (test (if t then n + k else last_where test n k) ≡ true) × ((m : ℕ) → (if t then n + k else last_where test n k) < m → m < n + suc k → test m ≡ false)) [
      | true ↦ λ e. (omega arith, omega arith, e, λ m a b. absurd (omega arith))
      | false ↦ λ e. let ih = last_where-is test n k h in let low = ih.0 in let high = ih.1 in
          (low, omega arith, ih.2, λ m a b. elim (same_or_less m (n + k) (omega arith)) [ inl at ↦ ap test at ∙ e | inr lt ↦ ih.3 m a lt ])
    ] refl

pub weekdays_of-at : (is_in : ℕ → Bool) (a w : ℕ) → w < 7 → slice_index_or (weekdays_of is_in a) w false ≡ is_in (first_on w a)
weekdays_of-at is_in a zero h = refl
weekdays_of-at is_in a (suc zero) h = refl
weekdays_of-at is_in a (suc (suc zero)) h = refl
weekdays_of-at is_in a (suc (suc (suc zero))) h = refl
weekdays_of-at is_in a (suc (suc (suc (suc zero)))) h = refl
weekdays_of-at is_in a (suc (suc (suc (suc (suc zero))))) h = refl
weekdays_of-at is_in a (suc (suc (suc (suc (suc (suc zero)))))) h = refl
weekdays_of-at is_in a (suc (suc (suc (suc (suc (suc (suc w))))))) h = absurd (omega arith)

-- a set's day has its own weekday among those of the seven days from it on
pub weekdays_of-own : (is_in : ℕ → Bool) (a : ℕ) → slice_index_or (weekdays_of is_in a) (slot a) false ≡ is_in a
weekdays_of-own is_in a = weekdays_of-at is_in a (slot a) (omega arith) ∙ ap is_in (omega arith)

pub differ-same : (x y : Bool) → x ≡ y → differ x y ≡ false
differ-same true true h = refl
differ-same false false h = refl
differ-same true false h = h
differ-same false true h = sym h

pub same-differ : (x y : Bool) → differ x y ≡ false → x ≡ y
same-differ true true h = refl
same-differ false false h = refl
same-differ true false h = h
same-differ false true h = sym h

-- the break is after the first day and not after the end, and each day before it is in the set
-- exactly if its weekday is in the mask
pub break_after-is : (is_in : ℕ → Bool) (a end : ℕ) → a < end →
    (a < break_after is_in a end) × (break_after is_in a end ≤ end) × ((m : ℕ) → a ≤ m → m < break_after is_in a end → is_in m ≡ slice_index_or (weekdays_of is_in a) (slot m) false)
break_after-is is_in a end h =
    let mask = weekdays_of is_in a in
    let own : breaks is_in mask a ≡ false = differ-same (is_in a) _ (sym (weekdays_of-own is_in a)) in
    elim (first_where-either (breaks is_in mask) a (end - a)) [
      | inl none ↦ let at = none.0 in (omega arith, omega arith, λ m l u. same-differ (is_in m) _ (none.1 m l (omega arith)))
      | inr some ↦
          let low = some.0 in let high = some.1 in
          let later : a < first_where (breaks is_in mask) a (end - a) = elim (same_or_less a (first_where (breaks is_in mask) a (end - a)) low) [ inl e ↦ let bad = sym own ∙ ap (breaks is_in mask) e ∙ some.2 in cc | inr lt ↦ lt ] in
          (later, omega arith, λ m l u. same-differ (is_in m) _ (some.3 m l u))
    ]

pub first_where-same : (f g : ℕ → Bool) (n k : ℕ) → ((m : ℕ) → n ≤ m → m < n + k → f m ≡ g m) → first_where f n k ≡ first_where g n k
first_where-same f g n zero h = refl
first_where-same f g n (suc k) h =
    ap (λ b. if b then n else first_where f (n + 1) k) (h n (omega arith) (omega arith))
    ∙ ap (λ r. if g n then n else r) (first_where-same f g (n + 1) k (λ m a b. h m (omega arith) (omega arith)))

pub last_where-same : (f g : ℕ → Bool) (n k : ℕ) → ((m : ℕ) → n ≤ m → m < n + k → f m ≡ g m) → last_where f n k ≡ last_where g n k
last_where-same f g n zero h = refl
last_where-same f g n (suc k) h =
    ap (λ b. if b then n + k else last_where f n k) (h (n + k) (omega arith) (omega arith))
    ∙ ap (λ r. if g (n + k) then n + k else r) (last_where-same f g n k (λ m a b. h m a (omega arith)))

-- a day is the last that passes
pub last_where-at : (test : ℕ → Bool) (n k l : ℕ) → n ≤ l → l < n + k → test l ≡ true → ((m : ℕ) → l < m → m < n + k → test m ≡ false) → last_where test n k ≡ l
last_where-at test n zero l a b t after = absurd (omega arith)
last_where-at test n (suc k) l a b t after =
    elim (same_or_less l (n + k) (omega arith)) [
      | inl e ↦ ap (λ c. if c then n + k else last_where test n k) (ap test (sym e) ∙ t) ∙ sym e
      | inr lt ↦ ap (λ c. if c then n + k else last_where test n k) (after (n + k) lt (omega arith)) ∙ last_where-at test n k l a lt t (λ m x y. after m x (omega arith))
    ]

pub differ-tested : (x y : Bool) → not (beq x y) ≡ true → differ x y ≡ true
differ-tested true true h = h
differ-tested true false h = refl
differ-tested false true h = refl
differ-tested false false h = h

-- the first day of a set from `from` on, which is before `end`
pub record IsFirst (is_in : ℕ → Bool) (from end first : ℕ) : Type 0 where
  pub low : from ≤ first
  pub lt : first < end
  pub own : is_in first ≡ true
  pub least : (n : ℕ) → from ≤ n → n < first → is_in n ≡ false

before-by : (m n : ℕ) → nat_lt m n ≡ true → m < n
before-by m n e = grind (arith, nat_tests)

from-by : (m n : ℕ) → nat_lt m n ≡ false → n ≤ m
from-by m n e = grind (arith, nat_tests)

-- Induction over the periods of a cover: there is no day left, or the period of the first day is
-- followed by the cover from its break on.
pub cover_from-step : (count : ℕ) (is_in : ℕ → Bool) (from end : ℕ) (P : List DayRange → Type 0)
    → (((n : ℕ) → from ≤ n → n < end → is_in n ≡ false) → P [])
    → ((a : ℕ) → IsFirst is_in from end a
    → P (period_at is_in a (break_after is_in a end)
    ∷ cover_from count is_in (break_after is_in a end) end))
    → P (cover_from (suc count) is_in from end)
cover_from-step count is_in from end P none next =
    let a = first_where is_in from (end - from) in
    let after = break_after is_in a end in
    elim (nat_lt a end) as (λ t. nat_lt a end ≡ t
    → P (if t then period_at is_in a after ∷ cover_from count is_in after end else [])) [
      | true ↦ λ e. let lt = before-by a end e in
          elim (first_where-either is_in from (end - from)) [
            | inl empty ↦ let at = empty.0 in absurd (omega arith)
            | inr some ↦ next a (record { low = some.0; lt = lt; own = some.2; least = some.3 })
          ]
      | false ↦ λ e. let ge = from-by a end e in elim (first_where-either is_in from (end - from)) [
        | inl empty ↦ none (λ n l h. empty.1 n l (omega arith))
        | inr some ↦ let high = some.1 in absurd (omega arith)
      ]
    ] refl
