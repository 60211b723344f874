-- What is said on days between which no period begins or is over: each week is as the first.
use Rattle.std.proofs.Common.{◌≡◌, ◌∙◌, ◌⊎◌, inl, inr, ℕ, zero, suc, ◌+◌, ◌-◌, ◌%◌, ◌++◌, ◌≤◌, ◌<◌, Bool, true, false}
use Rattle.std.proofs.Common.{◌&&◌, nat_le, if◌then◌else◌, List, [], ◌∷◌, map, min, Option, None, refl, sym, ap}
use Rattle.std.proofs.Common.{ap₂, arith, get_or, length, slice_index_or}
use Rattle.std.specs.List.{range_with_len}
use Rattle.std.specs.Option.{option_to_list}
use Rattle.std.proofs.lemmas.Bool.Decides.{nat_tests}
use Rattle.std.proofs.lemmas.List.FromFn.{get_or-map-range_with_len}
use Rattle.std.proofs.lemmas.List.{get_or_default}
use Rattle.ssim_values.specs.Calendar.{slot}
use Rattle.ssim_values.specs.Variation.{Offset}
use Rattle.ssim_base.specs.Stations.{Row}
use Rattle.ssim_periods.specs.Pieces.{held_on}
use Rattle.ssim_overview.specs.SaidRows.{said, with_variation}
use Rattle.ssim_overview.specs.internal.SaidRows.{Dated, Unchanged, by_week, dates_said, extended, grown}
use Rattle.ssim_overview.specs.declared.sayings.Saying.{Saying}

-- ---- one week and the next

-- a first day is not after two days, or after both
le_same : (from end a m n : ℕ) → (a ≤ from) ⊎ (end ≤ a) → from ≤ m → m < end → from ≤ n → n < end
    → nat_le a m ≡ nat_le a n
le_same from end a m n (inl h) p q r s =
    let one : nat_le a m ≡ true = grind (arith, nat_tests) in
    let other : nat_le a n ≡ true = grind (arith, nat_tests) in one ∙ sym other
le_same from end a m n (inr h) p q r s =
    let one : nat_le a m ≡ false = grind (arith, nat_tests) in
    let other : nat_le a n ≡ false = grind (arith, nat_tests) in one ∙ sym other

-- a last day is not before two days, or before both
ge_same : (from end b m n : ℕ) → (b + 1 ≤ from) ⊎ (end ≤ b + 1) → from ≤ m → m < end → from ≤ n → n < end
    → nat_le m b ≡ nat_le n b
ge_same from end b m n (inl h) p q r s =
    let one : nat_le m b ≡ false = grind (arith, nat_tests) in
    let other : nat_le n b ≡ false = grind (arith, nat_tests) in one ∙ sym other
ge_same from end b m n (inr h) p q r s =
    let one : nat_le m b ≡ true = grind (arith, nat_tests) in
    let other : nat_le n b ≡ true = grind (arith, nat_tests) in one ∙ sym other

held_same : (from end m n : ℕ) (sayings : List Dated) → Unchanged from end sayings
    → from ≤ m → m < end → from ≤ n → n < end → slot m ≡ slot n
    → held_on sayings m ≡ held_on sayings n
held_same from end m n [] u p q r s w = refl
held_same from end m n (x ∷ sayings) u p q r s w =
    ap₂ (λ (t : Bool) (later : List Saying). if t then x.1 ∷ later else later)
    (ap₂ (λ (a b : Bool). a && b)
    (ap₂ (λ (a b : Bool). a && b) (le_same from end x.0.first m n u.0.0 p q r s)
    (ge_same from end x.0.last m n u.0.1 p q r s))
    (ap (λ (k : ℕ). slice_index_or x.0.days k false) w))
    (held_same from end m n sayings u.1 p q r s w)

same_slot : (from d : ℕ) → (from + d % 7 + 5) % 7 ≡ (from + d + 5) % 7
same_slot from d = omega arith

pub small : (d : ℕ) → d % 7 < 7
small d = omega arith

pub not_more : (d : ℕ) → d % 7 ≤ d
not_more d = omega arith

-- what the first week says on a day
week_says : (sayings : List Dated) (week : List (Option Offset)) (from end n : ℕ)
    → week ≡ map (λ m. said (held_on sayings m)) (range_with_len from (min 7 (end - from)))
    → Unchanged from end sayings → from ≤ n → n < end
    → by_week week from n ≡ said (held_on sayings n)
week_says sayings week from end n is u low high =
    let j = (n - from) % 7 in
    let few : j < 7 = small (n - from) in
    let less : j ≤ n - from = not_more (n - from) in
    let there : from + (n - from) ≡ n = omega arith in
    let same : slot (from + j) ≡ slot n = same_slot from (n - from) ∙ ap slot there in
    ap (λ (w : List (Option Offset)). slice_index_or w j None) is
    ∙ get_or-map-range_with_len (λ m. said (held_on sayings m)) from (min 7 (end - from)) j (from + j) None
    (omega arith) refl
    ∙ ap said (held_same from end (from + j) n sayings u (omega arith) (omega arith) low high same)

-- dates with equal variations
pub agree : (f g : ℕ → Option Offset) (from count : ℕ)
    → ((n : ℕ) → from ≤ n → n < from + count → f n ≡ g n)
    → with_variation f (range_with_len from count) ≡ with_variation g (range_with_len from count)
agree f g from zero h = refl
agree f g from (suc count) h =
    ap₂ (λ (v : Option Offset) (later : List (ℕ × Offset)). map (λ w. (from, w)) (option_to_list v) ++ later)
    (h from (omega arith) (omega arith))
    (agree f g (from + 1) count (λ n low high. h n (omega arith) (omega arith)))

pub week_dates : (sayings : List Dated) (week : List (Option Offset)) (from end : ℕ) → from < end
    → week ≡ map (λ m. said (held_on sayings m)) (range_with_len from (min 7 (end - from)))
    → Unchanged from end sayings
    → with_variation (by_week week from) (range_with_len from (end - from))
    ≡ dates_said sayings from (end - from)
week_dates sayings week from end lt is u =
    agree (by_week week from) (λ n. said (held_on sayings n)) from (end - from)
    (λ n low high. week_says sayings week from end n is u low (omega arith))

-- ---- ranges one after another

pub range_split : (from m n : ℕ)
    → range_with_len from (m + n) ≡ range_with_len from m ++ range_with_len (from + m) n
range_split from zero n = (λ i. range_with_len (zero_right from i) (zero_left n i))
  where
    zero_left : (k : ℕ) → zero + k ≡ k
    zero_left k = omega arith

    zero_right : (k : ℕ) → k ≡ k + zero
    zero_right k = omega arith
range_split from (suc m) n =
    let more : suc m + n ≡ suc (m + n) = omega arith in
    let on : from + 1 + m ≡ from + suc m = omega arith in
    ap (range_with_len from) more
    ∙ ap (λ (ns : List ℕ). from ∷ ns) (range_split (from + 1) m n
    ∙ ap (λ (k : ℕ). range_with_len (from + 1) m ++ range_with_len k n) on)

-- rows that grow by some dates, and then by others
pub grown_on : (station : List ℕ) (rows : List Row) (dates later : List (ℕ × Offset))
    → grown station (grown station rows dates) later ≡ grown station rows (dates ++ later)
grown_on station rows [] later = refl
grown_on station rows (d ∷ dates) later = grown_on station (extended station rows d) dates later

-- the value in the week at a day
pub week_at : (week : List (Option Offset)) (from end n : ℕ) (v : Option Offset) → from ≤ n → n < end
    → length week ≡ min 7 (end - from) → v ≡ get_or week ((n - from) % 7) v → v ≡ by_week week from n
week_at week from end n v low high size is =
    let few : (n - from) % 7 < 7 = small (n - from) in
    let less : (n - from) % 7 ≤ n - from = not_more (n - from) in
    is ∙ get_or_default week ((n - from) % 7) v None (omega arith)
