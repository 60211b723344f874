-- Whether two sets of days, or two periods, have a day in common.
use Rattle.std.proofs.Common.{◌≡◌, ◌≢◌, ℕ, zero, suc, ◌+◌, ◌<◌, ◌≤◌, max, min, Bool, true, false, not, ◌&&◌, ◌||◌, nat_le, List, slice_index_or, refl, sym, ap, ◌∙◌, arith}
use Rattle.std.proofs.Math.Bool.{and-false}
use Rattle.std.proofs.lemmas.Bool.Decides.{nat_tests}
use Rattle.std.specs.List.{list_any, range_with_len}
use Rattle.ssim_values.specs.Period.{DayRange}
use Rattle.ssim_periods.specs.Calendar.{day_count, holds}
use Rattle.ssim_values.specs.Calendar.{slot}
use Rattle.ssim_periods.specs.CommonDays.{have_common_date, meet}
use Rattle.ssim_periods.proofs.DayLemmas.{day_count-is}

-- ---- two sets of days

any-at : (f : ℕ → Bool) (a k n : ℕ) → a ≤ n → n < a + k → f n ≡ true → list_any f (range_with_len a k) ≡ true
any-at f a zero n from to here = absurd (omega arith)
any-at f a (suc k) n from to here = by (f a) refl (λ l. any-at f (a + 1) k n l (omega arith) here)
  where
    by : (b : Bool) → f a ≡ b → (a + 1 ≤ n → list_any f (range_with_len (a + 1) k) ≡ true) → (b || list_any f (range_with_len (a + 1) k)) ≡ true
    by true e later = refl
    by false e later =
        let other : a ≢ n = λ same. let t : true ≡ false = sym here ∙ ap f (sym same) ∙ e in absurd cc in
        later (omega arith)

any-nowhere : (f : ℕ → Bool) (a k : ℕ) → ((n : ℕ) → n < a + k → f n ≡ false) → list_any f (range_with_len a k) ≡ false
any-nowhere f a zero none = refl
any-nowhere f a (suc k) none =
    let here : f a ≡ false = none a (omega arith) in
    rw here (any-nowhere f (a + 1) k (λ n l. none n (omega arith)))

-- one date is enough
pub common-date : (f g : ℕ → Bool) (n : ℕ) → n < 36525 → (f n && g n) ≡ true → have_common_date f g ≡ true
common-date f g n l here = any-at (λ d. f d && g d) 0 day_count n (omega arith) (rw day_count-is (omega arith)) here

pub no-common-date : (f g : ℕ → Bool) → ((n : ℕ) → n < 36525 → (f n && g n) ≡ false) → have_common_date f g ≡ false
no-common-date f g none = any-nowhere (λ d. f d && g d) 0 day_count (λ n l. none n (rw day_count-is at l))

-- ---- two periods

-- between its first and last day a period has the days of its weekdays
pub holds-between : (p : DayRange) (days : List Bool) (n : ℕ) (b : Bool) → p.first ≤ n → n ≤ p.last → days ≡ p.days → slice_index_or days (slot n) false ≡ b → holds p n ≡ b
holds-between p days n b from to same on =
    let first : nat_le p.first n ≡ true = grind (arith, nat_tests) in
    let last : nat_le n p.last ≡ true = grind (arith, nat_tests) in
    rw (first, last) (ap (λ ds. slice_index_or ds (slot n) false) (sym same) ∙ on)

-- none of seven tests holds
none-of-seven : (a b c d e f g : Bool) → not ((((((a || b) || c) || d) || e) || f) || g) ≡ true
    → (a ≡ false) × (b ≡ false) × (c ≡ false) × (d ≡ false) × (e ≡ false) × (f ≡ false) × (g ≡ false)
none-of-seven true b c d e f g h = absurd cc
none-of-seven false true c d e f g h = absurd cc
none-of-seven false false true d e f g h = absurd cc
none-of-seven false false false true e f g h = absurd cc
none-of-seven false false false false true f g h = absurd cc
none-of-seven false false false false false true g h = absurd cc
none-of-seven false false false false false false true h = absurd cc
none-of-seven false false false false false false false h = (refl, refl, refl, refl, refl, refl, refl)

abbrev on_both : List Bool → List Bool → ℕ → Bool
on_both days others w = slice_index_or days w false && slice_index_or others w false

-- a weekday is not in both of two masks where none is
pub no-weekday : (days others : List Bool) (w : ℕ)
    → not ((((((on_both days others 0 || on_both days others 1) || on_both days others 2) || on_both days others 3) || on_both days others 4) || on_both days others 5) || on_both days others 6) ≡ true
    → w < 7 → (slice_index_or days w false && slice_index_or others w false) ≡ false
no-weekday days others w h = by w
  where
    none : (on_both days others 0 ≡ false) × (on_both days others 1 ≡ false) × (on_both days others 2 ≡ false) × (on_both days others 3 ≡ false) × (on_both days others 4 ≡ false) × (on_both days others 5 ≡ false)
        × (on_both days others 6 ≡ false)
    none = none-of-seven (on_both days others 0) (on_both days others 1) (on_both days others 2) (on_both days others 3) (on_both days others 4) (on_both days others 5) (on_both days others 6) h

    by : (w : ℕ) → w < 7 → on_both days others w ≡ false
    by zero l = none.0
    by (suc zero) l = none.1
    by (suc (suc zero)) l = none.2
    by (suc (suc (suc zero))) l = none.3
    by (suc (suc (suc (suc zero)))) l = none.4
    by (suc (suc (suc (suc (suc zero))))) l = none.5
    by (suc (suc (suc (suc (suc (suc zero)))))) l = none.6
    by (suc (suc (suc (suc (suc (suc (suc w))))))) l = absurd (omega arith)

-- the weekdays of two periods that a day of both has
inside : (a b c d x y : Bool) → (a ≡ true → b ≡ true → c ≡ true → d ≡ true → (x && y) ≡ false) → (((a && b) && x) && ((c && d) && y)) ≡ false
inside false b c d x y h = refl
inside true false c d x y h = refl
inside true true false d x y h = and-false x
inside true true true false x y h = and-false x
inside true true true true x y h = h refl refl refl refl

-- two periods do not meet where no weekday of both has a day in both ranges
pub meet-none : (p q : DayRange) (days other : List Bool) (first last : ℕ) → days ≡ p.days → other ≡ q.days → first ≡ max p.first q.first → last ≡ min p.last q.last
    → ((n : ℕ) → first ≤ n → n ≤ last → (slice_index_or days (slot n) false && slice_index_or other (slot n) false) ≡ false) → meet p q ≡ false
meet-none p q days other first last own its f l none = no-common-date (holds p) (holds q) (λ n within. day n)
  where
    day : (n : ℕ) → (holds p n && holds q n) ≡ false
    day n = inside (nat_le p.first n) (nat_le n p.last) (nat_le q.first n) (nat_le n q.last) (slice_index_or p.days (slot n) false) (slice_index_or q.days (slot n) false) (λ a b c d.
        let from : first ≤ n = grind (arith, nat_tests) in
        let to : n ≤ last = grind (arith, nat_tests) in
        ap (λ ds. slice_index_or ds (slot n) false && slice_index_or q.days (slot n) false) (sym own)
        ∙ ap (λ ds. slice_index_or days (slot n) false && slice_index_or ds (slot n) false) (sym its)
        ∙ none n from to)

-- two periods do not meet where one ends before the other begins
pub meet-before : (p q : DayRange) → p.last < q.first → meet p q ≡ false
meet-before p q h = meet-none p q p.days q.days (max p.first q.first) (min p.last q.last) refl refl refl refl (λ n from to. absurd (omega arith))

pub meet-after : (p q : DayRange) → q.last < p.first → meet p q ≡ false
meet-after p q h = meet-none p q p.days q.days (max p.first q.first) (min p.last q.last) refl refl refl refl (λ n from to. absurd (omega arith))

and-right : (a b c : Bool) → ((a && b) && c) ≡ true → b ≡ true
and-right false b c h = absurd cc
and-right true false c h = absurd cc
and-right true true c h = refl

-- two periods that do not meet have no day in common
pub meet-nowhere : (p q : DayRange) → p.last < 36525 → meet p q ≡ false → (n : ℕ) → holds p n ≡ true → holds q n ≡ false
meet-nowhere p q last none n own = by (holds q n) refl
  where
    by : (b : Bool) → holds q n ≡ b → b ≡ false
    by false e = refl
    by true e =
        let within : nat_le n p.last ≡ true = and-right (nat_le p.first n) (nat_le n p.last) (slice_index_or p.days (slot n) false) own in
        let small : n < 36525 = grind (arith, nat_tests) in
        let met : meet p q ≡ true = common-date (holds p) (holds q) n small (rw (own, e) refl) in
        sym met ∙ none
