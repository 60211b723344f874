-- Sets of dates: as periods and as bits, and whether two of them have a date in common.
use Rattle.std.proofs.Common.{◌≡◌, ◌≢◌, ℕ, zero, suc, ◌+◌, ◌*◌, ◌/◌, ◌%◌, ◌^◌, ◌<◌, ◌≤◌, bit_or, slice_set, w64, Bool, true, false, ◌&&◌, ◌||◌, nat_eq, nat_le, nat_lt, List, [], ◌∷◌, length, replicate, slice_index, refl, sym, ap, ◌∙◌, arith}
use Rattle.std.proofs.Math.Bool.{and-false, and-true}
use Rattle.std.proofs.lemmas.Bool.Decides.{nat_tests}
use Rattle.std.proofs.lemmas.List.{get_or-set_other, get_or-set_same}
use Rattle.std.proofs.lemmas.Nat.Bits.{bit_at-zero, bit_at_set_other, bit_at_set_same}
use Rattle.std.specs.Int.{Width, bit_at}
use mir.Val.{bits}
use Rattle.std.specs.List.{list_any, range_with_len}
use Rattle.ssim_values.specs.Period.{DayRange}
use Rattle.ssim_periods.specs.Calendar.{day_count, holds}
use Rattle.ssim_periods.specs.CommonDays.{have_common_date, meet}
use Rattle.ssim_periods.proofs.CommonDayLemmas.{common-date, no-common-date}
use Rattle.ssim_base.specs.internal.Dates.{has_date}

-- ---- whether one of some dates passes two tests

pub any-or : (a b c : ℕ → Bool) (s : Bool) (xs : List ℕ) → list_any (λ n. a n && ((s && b n) || c n)) xs ≡ ((s && list_any (λ n. a n && b n) xs) || list_any (λ n. a n && c n) xs)
any-or a b c true [] = refl
any-or a b c false [] = refl
any-or a b c s (x ∷ xs) = ap (λ r. (a x && ((s && b x) || c x)) || r) (any-or a b c s xs) ∙ by (a x) (b x) (c x) s (list_any (λ n. a n && b n) xs) (list_any (λ n. a n && c n) xs)
  where
    by : (a b c s m r : Bool) → ((a && ((s && b) || c)) || ((s && m) || r)) ≡ ((s && ((a && b) || m)) || ((a && c) || r))
    by true true true true m r = refl
    by true true true false m r = refl
    by true true false true m r = refl
    by true true false false m r = refl
    by true false true true true r = refl
    by true false true true false r = refl
    by true false true false m r = refl
    by true false false true m r = refl
    by true false false false m r = refl
    by false b c true m r = refl
    by false b c false m r = refl

pub any-none : (a : ℕ → Bool) (xs : List ℕ) → list_any (λ n. a n && false) xs ≡ false
any-none a [] = refl
any-none a (x ∷ xs) = by (a x) (any-none a xs)
  where
    by : (b : Bool) → list_any (λ n. a n && false) xs ≡ false → ((b && false) || list_any (λ n. a n && false) xs) ≡ false
    by true h = h
    by false h = h

-- ---- dates as periods

-- a period meets one of some periods exactly if it has a date that one of them holds
pub meets-any : (p : DayRange) (earlier : List DayRange) → list_any (λ q. meet p q) earlier ≡ have_common_date (holds p) (λ n. list_any (λ q. holds q n) earlier)
meets-any p [] = sym (any-none (holds p) (range_with_len 0 day_count))
meets-any p (q ∷ earlier) =
    ap (λ b. meet p q || b) (meets-any p earlier)
    ∙ sym (any-or (holds p) (holds q) (λ n. list_any (λ e. holds e n) earlier) true (range_with_len 0 day_count))

or-false : (x y : Bool) → (x || y) ≡ false → (x ≡ false) × (y ≡ false)
or-false true y h = absurd cc
or-false false y h = (refl, h)

-- a period has no date in common with dates before it
pub later-apart : (p : DayRange) (used : ℕ → Bool) (latest : ℕ) → latest < p.first → ((n : ℕ) → latest < n → used n ≡ false) → have_common_date (holds p) used ≡ false
later-apart p used latest after ended = no-common-date (holds p) used (λ n l. by n (nat_le p.first n) refl)
  where
    by : (n : ℕ) (b : Bool) → nat_le p.first n ≡ b → (holds p n && used n) ≡ false
    by n true e =
        let from : p.first ≤ n = grind (arith, nat_tests) in
        rw (ended n (omega arith)) (and-false (holds p n))
    by n false e = rw e refl

-- ---- dates as bits

-- bit k of a word after bit j was set
pub bit-set : (w : Width) (word j k : ℕ) → j < bits w → nat_eq (bit_at (bit_or word (1 * 2 ^ j % 2 ^ bits w)) k) 1 ≡ (nat_eq k j || nat_eq (bit_at word k) 1)
bit-set w word j k l = by (nat_eq k j) refl
  where
    by : (b : Bool) → nat_eq k j ≡ b → nat_eq (bit_at (bit_or word (1 * 2 ^ j % 2 ^ bits w)) k) 1 ≡ (b || nat_eq (bit_at word k) 1)
    by true e =
        let same : k ≡ j = grind (arith, nat_tests) in
        rw (same, bit_at_set_same w word j l) refl
    by false e =
        let other : k ≢ j = grind (arith, nat_tests) in
        rw (bit_at_set_other w word j l k other) refl

-- two days are the same if word and bit are
same-place : (n day : ℕ) → n / 64 ≡ day / 64 → nat_eq n day ≡ nat_eq (n % 64) (day % 64)
same-place n day same = by (nat_eq n day) (nat_eq (n % 64) (day % 64)) refl refl
  where
    by : (x y : Bool) → nat_eq n day ≡ x → nat_eq (n % 64) (day % 64) ≡ y → nat_eq n day ≡ nat_eq (n % 64) (day % 64)
    by true true p q = p ∙ sym q
    by false false p q = p ∙ sym q
    by true false p q =
        let one : n ≡ day = grind (arith, nat_tests) in
        let never : true ≡ false = sym (ap (λ m. nat_eq (m % 64) (day % 64)) one ∙ grind (arith, nat_tests)) ∙ q in absurd cc
    by false true p q =
        let bits : n % 64 ≡ day % 64 = grind (arith, nat_tests) in
        let other : n ≢ day = grind (arith, nat_tests) in
        absurd (omega arith)

-- the dates of a set after the bit of a day was set
pub date-added : (words : List ℕ) (day n : ℕ) → day / 64 < length words
    → has_date (slice_set words (day / 64) (bit_or (slice_index words (day / 64)) (1 * 2 ^ (day % 64) % 2 ^ 64))) n ≡ (nat_eq n day || has_date words n)
date-added words day n l = by (nat_eq (n / 64) (day / 64)) refl
  where
    word : ℕ
    word = slice_index words (day / 64)

    by : (b : Bool) → nat_eq (n / 64) (day / 64) ≡ b
        → has_date (slice_set words (day / 64) (bit_or word (1 * 2 ^ (day % 64) % 2 ^ 64))) n ≡ (nat_eq n day || has_date words n)
    by true e =
        let same : n / 64 ≡ day / 64 = grind (arith, nat_tests) in
        rw same (rw get_or-set_same (bit-set w64 word (day % 64) (n % 64) (omega arith)))
        ∙ ap (λ b. b || nat_eq (bit_at word (n % 64)) 1) (sym (same-place n day same))
        ∙ ap (λ k. nat_eq n day || nat_eq (bit_at (slice_index words k) (n % 64)) 1) (sym same)
    by false e =
        let other : n / 64 ≢ day / 64 = grind (arith, nat_tests) in
        let apart : n ≢ day = λ same. other (ap (λ m. m / 64) same) in
        let differs : nat_eq n day ≡ false = grind (arith, nat_tests) in
        rw (differs, get_or-set_other words (day / 64) (n / 64) (bit_or word (1 * 2 ^ (day % 64) % 2 ^ 64)) 0 other) refl

lt-more : (n day : ℕ) → nat_lt n (day + 1) ≡ (nat_eq n day || nat_lt n day)
lt-more n day = grind (arith, nat_tests)

-- the dates of a period before the next day
pub dates-more : (p : DayRange) (day n : ℕ) (old : Bool) → holds p day ≡ true → (nat_eq n day || ((holds p n && nat_lt n day) || old)) ≡ ((holds p n && nat_lt n (day + 1)) || old)
dates-more p day n old is = rw lt-more (by (nat_eq n day) refl)
  where
    by : (b : Bool) → nat_eq n day ≡ b → (b || ((holds p n && nat_lt n day) || old)) ≡ ((holds p n && (b || nat_lt n day)) || old)
    by true e =
        let same : n ≡ day = grind (arith, nat_tests) in
        let here : holds p n ≡ true = ap (holds p) same ∙ is in
        rw here refl
    by false e = refl

pub dates-same : (p : DayRange) (day n : ℕ) → holds p day ≡ false → (holds p n && nat_lt n day) ≡ (holds p n && nat_lt n (day + 1))
dates-same p day n is = rw lt-more (by (nat_eq n day) refl)
  where
    by : (b : Bool) → nat_eq n day ≡ b → (holds p n && nat_lt n day) ≡ (holds p n && (b || nat_lt n day))
    by true e =
        let same : n ≡ day = grind (arith, nat_tests) in
        let here : holds p n ≡ false = ap (holds p) same ∙ is in
        rw here refl
    by false e = refl

word-none : (k n : ℕ) → slice_index (replicate k 0) n ≡ 0
word-none zero n = refl
word-none (suc k) zero = refl
word-none (suc k) (suc n) = word-none k n

-- words of 0 have no date
pub no-bits : (k n : ℕ) → has_date (replicate k 0) n ≡ false
no-bits k n = rw (word-none k (n / 64), bit_at-zero) refl

below-itself : (day : ℕ) → nat_lt day day ≡ false
below-itself day = grind (arith, nat_tests)

-- ---- whether a date of a period is in a set, date after date

-- whether one of the dates of a period before a day is in a set
pub record Met (p : DayRange) (day : ℕ) (words : List ℕ) (met : Bool) : Type 0 where
  pub found : met ≡ true → have_common_date (holds p) (has_date words) ≡ true
  pub none : met ≡ false → (n : ℕ) → n < day → (holds p n && has_date words n) ≡ false

pub met-day : (p : DayRange) (day : ℕ) (words : List ℕ) (met had : Bool) → holds p day ≡ true → day < 36525 → had ≡ has_date words day → Met p day words met → Met p (day + 1) words (met || had)
met-day p day words met had is within own so = record {
  found = by_found met refl had refl;
  none = λ h n l. by_none n l h (nat_eq n day) refl;
}
  where
    by_found : (x : Bool) → met ≡ x → (y : Bool) → had ≡ y → (x || y) ≡ true → have_common_date (holds p) (has_date words) ≡ true
    by_found true e y f h = so.found e
    by_found false e y f h =
        let held : has_date words day ≡ true = sym own ∙ f ∙ h in
        common-date (holds p) (has_date words) day within (rw (is, held) refl)

    by_none : (n : ℕ) → n < day + 1 → (met || had) ≡ false → (b : Bool) → nat_eq n day ≡ b → (holds p n && has_date words n) ≡ false
    by_none n l h true e =
        let same : n ≡ day = grind (arith, nat_tests) in
        let free : has_date words n ≡ false = ap (has_date words) same ∙ sym own ∙ (or-false met had h).1 in
        rw free (and-false (holds p n))
    by_none n l h false e =
        let other : n ≢ day = grind (arith, nat_tests) in
        so.none (or-false met had h).0 n (omega arith)

pub met-none : (p : DayRange) (day : ℕ) (words : List ℕ) (met : Bool) → holds p day ≡ false → Met p day words met → Met p (day + 1) words met
met-none p day words met is so = record {
  found = so.found;
  none = λ h n l. by h n l (nat_eq n day) refl;
}
  where
    by : met ≡ false → (n : ℕ) → n < day + 1 → (b : Bool) → nat_eq n day ≡ b → (holds p n && has_date words n) ≡ false
    by h n l true e = let same : n ≡ day = grind (arith, nat_tests) in let none : holds p n ≡ false = ap (holds p) same ∙ is in rw none refl
    by h n l false e = let other : n ≢ day = grind (arith, nat_tests) in so.none h n (omega arith)

late : (p : DayRange) (n : ℕ) → nat_lt n (p.last + 1) ≡ false → holds p n ≡ false
late p n e = let after : nat_le n p.last ≡ false = grind (arith, nat_tests) in rw (after, and-false) refl

-- all dates of a period were looked for
pub met-last : (p : DayRange) (words : List ℕ) (met : Bool) → Met p (p.last + 1) words met → met ≡ have_common_date (holds p) (has_date words)
met-last p words met so = by met refl
  where
    by : (b : Bool) → met ≡ b → b ≡ have_common_date (holds p) (has_date words)
    by true e = sym (so.found e)
    by false e = sym (no-common-date (holds p) (has_date words) (λ n l. none n (nat_lt n (p.last + 1)) refl e))
      where
        none : (n : ℕ) (b : Bool) → nat_lt n (p.last + 1) ≡ b → met ≡ false → (holds p n && has_date words n) ≡ false
        none n true f e = let below : n < p.last + 1 = grind (arith, nat_tests) in so.none e n below
        none n false f e = rw (late p n f) refl

-- the dates of a period before a day were added to a set, and one of them was there or not
pub record Added (p : DayRange) (day : ℕ) (old new : List ℕ) (met : Bool) : Type 0 where
  pub added : (n : ℕ) → has_date new n ≡ ((holds p n && nat_lt n day) || has_date old n)
  pub meets : Met p day old met

pub added-day : (p : DayRange) (day : ℕ) (old new more : List ℕ) (met had : Bool) → holds p day ≡ true → day < 36525
    → ((n : ℕ) → has_date more n ≡ (nat_eq n day || has_date new n)) → had ≡ has_date new day
    → Added p day old new met → Added p (day + 1) old more (met || had)
added-day p day old new more met had is within added here so = record {
  added = λ n. added n ∙ ap (λ b. nat_eq n day || b) (so.added n) ∙ dates-more p day n (has_date old n) is;
  meets = met-day p day old met had is within own so.meets;
}
  where
    own : had ≡ has_date old day
    own = here ∙ so.added day ∙ ap (λ b. (holds p day && b) || has_date old day) (below-itself day) ∙ ap (λ b. b || has_date old day) (and-false (holds p day))

pub added-none : (p : DayRange) (day : ℕ) (old new : List ℕ) (met : Bool) → holds p day ≡ false → Added p day old new met → Added p (day + 1) old new met
added-none p day old new met is so = record {
  added = λ n. so.added n ∙ ap (λ b. b || has_date old n) (dates-same p day n is);
  meets = met-none p day old met is so.meets;
}

-- all dates of a period were added
pub added-last : (p : DayRange) (old new : List ℕ) (met : Bool) → Added p (p.last + 1) old new met
    → ((n : ℕ) → has_date new n ≡ (holds p n || has_date old n)) × (met ≡ have_common_date (holds p) (has_date old))
added-last p old new met so = (λ n. so.added n ∙ ap (λ b. b || has_date old n) (all n), met-last p old met so.meets)
  where
    all : (n : ℕ) → (holds p n && nat_lt n (p.last + 1)) ≡ holds p n
    all n = cases (nat_lt n (p.last + 1)) refl
      where
        cases : (b : Bool) → nat_lt n (p.last + 1) ≡ b → (holds p n && b) ≡ holds p n
        cases true e = and-true (holds p n)
        cases false e = and-false (holds p n) ∙ sym (late p n e)

pub or-flip : (x y : Bool) → (x || y) ≡ (y || x)
or-flip true true = refl
or-flip true false = refl
or-flip false true = refl
or-flip false false = refl

-- sets that have the same dates have the same dates in common with another
pub same-dates : (f g h : ℕ → Bool) → ((n : ℕ) → g n ≡ h n) → have_common_date f g ≡ have_common_date f h
same-dates f g h same = by (range_with_len 0 day_count)
  where
    by : (ns : List ℕ) → list_any (λ n. f n && g n) ns ≡ list_any (λ n. f n && h n) ns
    by [] = refl
    by (n ∷ ns) = let e = same n in let r = by ns in rw (e, r) refl
