-- Days of a weekday, counted by arithmetic.
use Rattle.std.proofs.Common.{subst, ◌≡◌, ℕ, zero, suc, ◌+◌, ◌-◌, ◌*◌, ◌<◌, ◌≤◌, Bool, true, false, ◌&&◌, if◌then◌else◌, nat_eq, nat_lt, List, [], ◌∷◌, map, length, refl, ap, ◌∙◌, sym, ◌≢◌, slice_index_or, slice_set, add-one, get_or-set_same, get_or-set_other, arith, ◌⊎◌, inl, inr}
use Rattle.std.specs.List.{range_with_len}
use Rattle.std.proofs.lemmas.Bool.Decides.{nat_tests}
use Rattle.ssim_periods.specs.Calendar.{day_count}
use Rattle.ssim_values.specs.Calendar.{slot}
use Rattle.ssim_periods.specs.Days.{each_day, count_on, counts_on}
use Rattle.ssim_periods.proofs.DayLemmas.{day_count-is}
use Rattle.std.specs.List.Sorted.{IsStrictlyIncreasing}
use Rattle.ssim_periods.specs.internal.Rows.{place, row_on, value_on, AreRows}
use Rattle.ssim_periods.specs.internal.Count.{with_days, tally, weigh, is_counted, is_within, is_of_class}
use Rattle.ssim_values.specs.clauses.Weekdays.{below}
use Rattle.ssim_periods.proofs.RowLemmas.{row_on-place}
use Rattle.ssim_periods.proofs.CutLemmas.{Above, Above-all, place-low}
use Rattle.ssim_periods.proofs.ApplyLemmas.{inside, outside-before, outside-after}

pub below-hit : (w x : ℕ) → w < 7 → slot x ≡ w → below w (x + 1) ≡ below w x + 1
below-hit w x h e = omega arith

pub below-miss : (w x : ℕ) → w < 7 → (slot x ≡ w → ⊥) → below w (x + 1) ≡ below w x
below-miss w x h e = omega arith

-- the days of a weekday from n to n + k
pub tally-slot : (w n k : ℕ) → w < 7 → below w n + tally (λ m. nat_eq (slot m) w) n k ≡ below w (n + k)
tally-slot w n zero h = omega arith
tally-slot w n (suc k) h =
    let ih : below w (n + 1) + tally (λ m. nat_eq (slot m) w) (n + 1) k ≡ below w (n + suc k) = tally-slot w (n + 1) k h ∙ ap (below w) (omega arith) in
    elim (nat_eq (slot n) w) as (λ b. nat_eq (slot n) w ≡ b → below w n + ((if b then 1 else 0) + tally (λ m. nat_eq (slot m) w) (n + 1) k) ≡ below w (n + suc k)) [
      | true ↦ λ e. let hit = below-hit w n h (grind (arith, nat_tests)) in omega arith
      | false ↦ λ e. let miss = below-miss w n h (grind (arith, nat_tests)) in omega arith
    ] refl

count-range : {V : Type 0} (s : ℕ → Bool) (class : V → ℕ) (f : ℕ → V) (c a k : ℕ) → count_on s class c a (map f (range_with_len a k)) ≡ tally (λ n. s n && nat_eq (class (f n)) c) a k
count-range s class f c a zero = refl
count-range s class f c a (suc k) = ap (λ r. (if s a && nat_eq (class (f a)) c then 1 else 0) + r) (count-range s class f c (a + 1) k)

-- the count of a class is a count of days
pub count_on-each_day : {V : Type 0} (s : ℕ → Bool) (class : V → ℕ) (f : ℕ → V) (c : ℕ) → count_on s class c 0 (each_day f) ≡ tally (λ n. s n && nat_eq (class (f n)) c) 0 day_count
count_on-each_day s class f c = count-range s class f c 0 day_count

pub tally-split : (test : ℕ → Bool) (n a b : ℕ) → tally test n (a + b) ≡ tally test n a + tally test (n + a) b
tally-split test n zero b =
    let e : 0 + b ≡ b = omega arith in let f : n ≡ n + 0 = omega arith in let z : tally test n b ≡ 0 + tally test n b = omega arith in
    ap (tally test n) e ∙ z ∙ ap (λ m. 0 + tally test m b) f
tally-split test n (suc a) b =
    let e : suc a + b ≡ suc (a + b) = omega arith in let f : n + 1 + a ≡ n + suc a = omega arith in
    let hd = if test n then 1 else 0 in
    let ih : tally test (n + 1) (a + b) ≡ tally test (n + 1) a + tally test (n + suc a) b = tally-split test (n + 1) a b ∙ ap (λ m. tally test (n + 1) a + tally test m b) f in
    let sums : hd + (tally test (n + 1) a + tally test (n + suc a) b) ≡ hd + tally test (n + 1) a + tally test (n + suc a) b = omega arith in
    ap (tally test n) e ∙ ap (λ r. hd + r) ih ∙ sums

pub tally-same : (f g : ℕ → Bool) (n k : ℕ) → ((m : ℕ) → n ≤ m → m < n + k → f m ≡ g m) → tally f n k ≡ tally g n k
tally-same f g n zero h = refl
tally-same f g n (suc k) h = let e = h n (omega arith) (omega arith) in let r = tally-same f g (n + 1) k (λ m a b. h m (omega arith) (omega arith)) in rw (e, r) refl

pub tally-le : (test : ℕ → Bool) (n k : ℕ) → tally test n k ≤ k
tally-le test n zero = omega arith
tally-le test n (suc k) = let ih = tally-le test (n + 1) k in elim (test n) as (λ b. (if b then 1 else 0) + tally test (n + 1) k ≤ suc k) [ true ↦ omega arith | false ↦ omega arith ]

abbrev one_if : Bool → ℕ
one_if b = if b then 1 else 0

not-below : (s w : ℕ) (b : Bool) → w ≤ s → one_if (nat_lt s w && b) ≡ 0
not-below s w b h = let no : nat_lt s w ≡ false = grind (arith, nat_tests) in ap (λ c. one_if (c && b)) no

is-below : (s w : ℕ) (b : Bool) → s < w → one_if (nat_lt s w && b) ≡ one_if b
is-below s w b h = let yes : nat_lt s w ≡ true = grind (arith, nat_tests) in ap (λ c. one_if (c && b)) yes

pub le_or_lt : (m n : ℕ) → (m ≤ n) ⊎ (n < m)
le_or_lt m n = elim (nat_lt n m) as (λ t. nat_lt n m ≡ t → (m ≤ n) ⊎ (n < m)) [ true ↦ λ e. inr (grind (arith, nat_tests)) | false ↦ λ e. inl (grind (arith, nat_tests)) ] refl

-- one more day, for the first w weekdays
pub weigh-step : (t : ℕ → Bool) (w x : ℕ) → w ≤ 7 → weigh t w (x + 1) ≡ weigh t w x + one_if (nat_lt (slot x) w && t (slot x))
weigh-step t zero x h = let z = not-below (slot x) 0 (t (slot x)) (omega arith) in omega arith
weigh-step t (suc w) x h =
    let s = slot x in
    let ih : weigh t w (x + 1) ≡ weigh t w x + one_if (nat_lt s w && t s) = weigh-step t w x (omega arith) in
    let part = λ (b : Bool) (y : ℕ). if b then below w y else 0 in
    elim (le_or_lt w s) [
      | inr lt ↦
          let a = is-below s w (t s) lt in let b = is-below s (suc w) (t s) (omega arith) in
          let miss = below-miss w x h (λ e. omega arith) in
          let same : part (t w) (x + 1) ≡ part (t w) x = ap (λ y. if t w then y else 0) miss in
          omega arith
      | inl ge ↦ elim (le_or_lt s w) [
        | inr gt ↦
            let a = not-below s w (t s) ge in let b = not-below s (suc w) (t s) gt in
            let miss = below-miss w x h (λ e. omega arith) in
            let same : part (t w) (x + 1) ≡ part (t w) x = ap (λ y. if t w then y else 0) miss in
            omega arith
        | inl le ↦
            let at : s ≡ w = omega arith in
            let a = not-below s w (t s) ge in let b = is-below s (suc w) (t s) (omega arith) in
            let hit = below-hit w x h at in
            let day : one_if (t s) ≡ one_if (t w) = ap (λ y. one_if (t y)) at in
            let more : part (t w) (x + 1) ≡ part (t w) x + one_if (t w) = elim (t w) as (λ b. part b (x + 1) ≡ part b x + one_if b) [ true ↦ hit | false ↦ refl ] in
            omega arith
      ]
    ]

-- the days of a stretch by their weekdays
pub tally-weigh : (t : ℕ → Bool) (n k : ℕ) → weigh t 7 n + tally (λ m. t (slot m)) n k ≡ weigh t 7 (n + k)
tally-weigh t n zero = let e : n ≡ n + 0 = omega arith in let z : weigh t 7 n + 0 ≡ weigh t 7 n = omega arith in z ∙ ap (weigh t 7) e
tally-weigh t n (suc k) =
    let e : n + 1 + k ≡ n + suc k = omega arith in
    let ih : weigh t 7 (n + 1) + tally (λ m. t (slot m)) (n + 1) k ≡ weigh t 7 (n + suc k) = tally-weigh t (n + 1) k ∙ ap (weigh t 7) e in
    let step = weigh-step t 7 n (omega arith) in
    let b = is-below (slot n) 7 (t (slot n)) (omega arith) in
    let total = tally (λ m. t (slot m)) (n + 1) k in
    let sums : weigh t 7 n + (one_if (t (slot n)) + total) ≡ weigh t 7 (n + 1) + total = plain (weigh t 7 n) _ total _ _ step b in
    sums ∙ ih
  where
    plain : (a i total c d : ℕ) → c ≡ a + d → d ≡ i → a + (i + total) ≡ c + total
    plain a i total c d step b = omega arith

pub weigh-le : (t : ℕ → Bool) (w x : ℕ) → x ≤ 36525 → weigh t w x ≤ w * 36531
weigh-le t zero x h = omega arith
weigh-le t (suc w) x h = let ih = weigh-le t w x h in elim (t w) as (λ b. weigh t w x + (if b then below w x else 0) ≤ suc w * 36531) [ true ↦ omega arith | false ↦ omega arith ]

pub weigh-more : (t : ℕ → Bool) (w x : ℕ) → weigh t (w + 1) x ≡ weigh t w x + (if t w then below w x else 0)
weigh-more t w x = rw add-one refl

-- a weekday in the mask adds its days to its class, and to no other
pub counted-on : (t : ℕ → ℕ → Bool) (class w from to before after : ℕ) (counts new : List ℕ) (old : ℕ → ℕ) → new ≡ slice_set counts class (slice_index_or counts class 0 + (after - before)) → class < length counts → from ≤ to → after ≡ below w to → before ≡ below w from → ((k : ℕ) → t k w ≡ nat_eq class k) → ((k : ℕ) → k < 5 → slice_index_or counts k 0 + weigh (t k) w from ≡ old k + weigh (t k) w to) → (k : ℕ) → k < 5 → slice_index_or new k 0 + weigh (t k) (w + 1) from ≡ old k + weigh (t k) (w + 1) to
counted-on t class w from to before after counts new old is lt le ea eb on ih k h =
    let more_from = weigh-more (t k) w from in let more_to = weigh-more (t k) w to in
    let here = ih k h in
    elim (nat_eq class k) as (λ b. nat_eq class k ≡ b → slice_index_or new k 0 + weigh (t k) (w + 1) from ≡ old k + weigh (t k) (w + 1) to) [
      | true ↦ λ e.
          let same : k ≡ class = grind (arith, nat_tests) in
          let hit = on k ∙ e in
          let a : (if t k w then below w from else 0) ≡ below w from = ap (λ b. if b then below w from else 0) hit in
          let b : (if t k w then below w to else 0) ≡ below w to = ap (λ b. if b then below w to else 0) hit in
          let v : slice_index_or new k 0 ≡ slice_index_or counts class 0 + (after - before) = ap (λ l. slice_index_or l k 0) is ∙ ap (λ i. slice_index_or (slice_set counts class (slice_index_or counts class 0 + (after - before))) i 0) same ∙ rw get_or-set_same refl in
          let u : slice_index_or counts k 0 ≡ slice_index_or counts class 0 = ap (λ i. slice_index_or counts i 0) same in
          omega arith
      | false ↦ λ e.
          let other : k ≢ class = grind (arith, nat_tests) in
          let miss = on k ∙ e in
          let a : (if t k w then below w from else 0) ≡ 0 = ap (λ b. if b then below w from else 0) miss in
          let b : (if t k w then below w to else 0) ≡ 0 = ap (λ b. if b then below w to else 0) miss in
          let v : slice_index_or new k 0 ≡ slice_index_or counts k 0 = ap (λ l. slice_index_or l k 0) is ∙ rw get_or-set_other refl in
          omega arith
    ] refl

pub and-left : (a b : Bool) → (a && b) ≡ true → a ≡ true
and-left true b h = refl
and-left false b h = cc

pub and-none : (a b : Bool) → (a && b) ≡ false → (a ≡ false) ⊎ (b ≡ false)
and-none true b h = inr h
and-none false b h = inl refl

pub below-mono : (w x y : ℕ) → w < 7 → x ≤ y → below w x ≤ below w y
below-mono w x y h l = omega arith

pub same_below : (w from to : ℕ) → w < 7 → from ≤ to → nat_lt (below w from) (below w to) ≡ false → below w from ≡ below w to
same_below w from to h l less =
    let mono = below-mono w from to h l in
    let other : below w to ≤ below w from = grind (arith, nat_tests) in
    omega arith

-- a weekday that is not of the mask, or has no day, adds none
pub counted-off : (t : ℕ → ℕ → Bool) (w from to : ℕ) (counts new : List ℕ) (old : ℕ → ℕ) → new ≡ counts → ((k : ℕ) → (t k w ≡ false) ⊎ (below w from ≡ below w to)) → ((k : ℕ) → k < 5 → slice_index_or counts k 0 + weigh (t k) w from ≡ old k + weigh (t k) w to) → (k : ℕ) → k < 5 → slice_index_or new k 0 + weigh (t k) (w + 1) from ≡ old k + weigh (t k) (w + 1) to
counted-off t w from to counts new old is off ih k h =
    let more_from = weigh-more (t k) w from in let more_to = weigh-more (t k) w to in
    let same : (if t k w then below w from else 0) ≡ (if t k w then below w to else 0) = elim (off k) [
      | inl miss ↦ ap (λ b. if b then below w from else 0) miss ∙ sym (ap (λ b. if b then below w to else 0) miss)
      | inr e ↦ ap (λ y. if t k w then y else 0) e
    ] in
    let v : slice_index_or new k 0 ≡ slice_index_or counts k 0 = ap (λ l. slice_index_or l k 0) is in
    let here = ih k h in
    omega arith

-- the next cut is after the day
pub place-next-after : (cuts : List ℕ) (day : ℕ) → place cuts day < length cuts → day < slice_index_or cuts (place cuts day) 0
place-next-after [] day h = absurd (omega arith)
place-next-after (cut ∷ cuts) day h =
    elim (nat_lt day cut) as (λ b. nat_lt day cut ≡ b → (if b then 0 else place cuts day + 1) < length (cut ∷ cuts) → day < slice_index_or (cut ∷ cuts) (if b then 0 else place cuts day + 1) 0) [
      | true ↦ λ e k. grind (arith, nat_tests)
      | false ↦ λ e k. rw add-one (place-next-after cuts day (omega arith))
    ] refl h

-- days before the next cut have the same index of a row
pub place-stays : (cuts : List ℕ) (day n : ℕ) → day ≤ n → (place cuts day < length cuts → n < slice_index_or cuts (place cuts day) 0) → place cuts n ≡ place cuts day
place-stays [] day n l h = refl
place-stays (cut ∷ cuts) day n l h =
    elim (nat_lt day cut) as (λ b. nat_lt day cut ≡ b → ((if b then 0 else place cuts day + 1) < length (cut ∷ cuts) → n < slice_index_or (cut ∷ cuts) (if b then 0 else place cuts day + 1) 0) → place (cut ∷ cuts) n ≡ (if b then 0 else place cuts day + 1)) [
      | true ↦ λ e k. let lt : n < cut = k (omega arith) in grind (arith, nat_tests)
      | false ↦ λ e k.
          let ih = place-stays cuts day n l (λ m. rw add-one at (k (omega arith))) in
          grind (arith, nat_tests)
    ] refl h

place-of_next : (b : ℕ) (cuts : List ℕ) (day : ℕ) → Above b cuts → place cuts day < length cuts → place cuts (slice_index_or cuts (place cuts day) 0) ≡ place cuts day + 1
place-of_next b [] day a h = absurd (omega arith)
place-of_next b (cut ∷ cuts) day a h =
    elim (nat_lt day cut) as (λ t. nat_lt day cut ≡ t → (if t then 0 else place cuts day + 1) < length (cut ∷ cuts) → place (cut ∷ cuts) (slice_index_or (cut ∷ cuts) (if t then 0 else place cuts day + 1) 0) ≡ (if t then 0 else place cuts day + 1) + 1) [
      | true ↦ λ e k. let low = place-low cut cuts a.1 in grind (arith, nat_tests)
      | false ↦ λ e k.
          let lt : place cuts day < length cuts = omega arith in
          let ih = place-of_next (cut + 1) cuts day a.1 lt in
          let up = place-next-after cuts day lt in
          let next = slice_index_or cuts (place cuts day) 0 in
          let ge : nat_lt next cut ≡ false = grind (arith, nat_tests) in
          rw add-one (ap (λ c. if c then 0 else place cuts next + 1) ge ∙ omega arith)
    ] refl h

pub place-next : (cuts : List ℕ) (day : ℕ) → IsStrictlyIncreasing cuts → place cuts day < length cuts → place cuts (slice_index_or cuts (place cuts day) 0) ≡ place cuts day + 1
place-next cuts day r h = place-of_next 0 cuts day (Above-all cuts r) h

-- the days up to the end of a stretch within one range
pub stretch : {V : Type 0} (nothing : V) (class : V → ℕ) (before : List V) (cuts : List ℕ) (rows : List (List V)) (first last : ℕ) (mask : List Bool) (day next : ℕ) (row : List V) → AreRows before cuts rows → first ≤ day → day ≤ next → next ≤ last + 1 → (place cuts day < length cuts → next ≤ slice_index_or cuts (place cuts day) 0) → row ≡ slice_index_or (before ∷ rows) (place cuts day) before → (k : ℕ) →
    tally (is_of_class nothing class before cuts rows first last mask k) first (next - first) ≡ tally (is_of_class nothing class before cuts rows first last mask k) first (day - first) + tally (λ n. is_counted nothing mask class row k (slot n)) day (next - day)
stretch nothing class before cuts rows first last mask day next row v a b c h e k =
    let t = is_of_class nothing class before cuts rows first last mask k in
    let u = λ (n : ℕ). is_counted nothing mask class row k (slot n) in
    let len : next - first ≡ (day - first) + (next - day) = omega arith in
    let start : first + (day - first) ≡ day = omega arith in
    ap (tally t first) len ∙ tally-split t first (day - first) (next - day) ∙ ap (λ m. tally t first (day - first) + tally t m (next - day)) start
    ∙ ap (λ r. tally t first (day - first) + r) (tally-same t u day (next - day) (λ n l m.
    let here : row_on before cuts rows n ≡ row = row_on-place before cuts rows n before v.row_count ∙ ap (λ p. slice_index_or (before ∷ rows) p before) (place-stays cuts day n l (λ q. let r = h q in omega arith)) ∙ sym e in
    ap (λ w. w && nat_eq (class (value_on nothing before cuts rows n)) k) (inside first last n mask (omega arith) (omega arith))
    ∙ ap (λ r. slice_index_or mask (slot n) false && nat_eq (class (slice_index_or r (slot n) nothing)) k) here))

tally-none : (test : ℕ → Bool) (n k : ℕ) → ((m : ℕ) → n ≤ m → m < n + k → test m ≡ false) → tally test n k ≡ 0
tally-none test n zero h = refl
tally-none test n (suc k) h =
    let hd : one_if (test n) ≡ 0 = ap one_if (h n (omega arith) (omega arith)) in
    let tl = tally-none test (n + 1) k (λ m a b. h m (omega arith) (omega arith)) in
    omega arith

-- only the days of the period count
pub tally-period : (test : ℕ → Bool) (first last : ℕ) → first ≤ last → last < 36525 → ((m : ℕ) → m < first → test m ≡ false) → ((m : ℕ) → last < m → test m ≡ false) → tally test 0 day_count ≡ tally test first (last + 1 - first)
tally-period test first last o h early late =
    let mid = last + 1 - first in let rest = 36525 - (last + 1) in
    let whole : day_count ≡ first + (mid + rest) = day_count-is ∙ omega arith in
    let a = tally-none test 0 first (λ m x y. early m (omega arith)) in
    let start : 0 + first ≡ first = omega arith in
    let z = tally-none test (first + mid) rest (λ m x y. late m (omega arith)) in
    let s1 = tally-split test 0 first (mid + rest) in
    let s2 = tally-split test first mid rest in
    let s3 : tally test (0 + first) (mid + rest) ≡ tally test first (mid + rest) = ap (λ m. tally test m (mid + rest)) start in
    ap (tally test 0) whole ∙ omega arith

pub of_five : (xs : List ℕ) (f : ℕ → ℕ) → length xs ≡ 5 → ((k : ℕ) → k < 5 → slice_index_or xs k 0 ≡ f k) → xs ≡ map f (0 ∷ 1 ∷ 2 ∷ 3 ∷ 4 ∷ [])
of_five (a ∷ b ∷ c ∷ d ∷ e ∷ []) f l h =
    let h0 = h 0 (omega arith) in let h1 = h 1 (omega arith) in let h2 = h 2 (omega arith) in let h3 = h 3 (omega arith) in let h4 = h 4 (omega arith) in cc
of_five _ f l h = absurd (omega arith)

-- the counts of the classes
pub counts-of : {V : Type 0} (nothing : V) (class : V → ℕ) (before : List V) (cuts : List ℕ) (rows : List (List V)) (first last : ℕ) (mask : List Bool) (counts : List ℕ) (days : List V) → first ≤ last → last < 36525 → length counts ≡ 5 → ((k : ℕ) → k < 5 → slice_index_or counts k 0 ≡ tally (is_of_class nothing class before cuts rows first last mask k) first (last + 1 - first)) → each_day (value_on nothing before cuts rows) ≡ days → counts ≡ counts_on (is_within first last mask) class days
counts-of nothing class before cuts rows first last mask counts days o l five told view =
    of_five counts (λ k. count_on (is_within first last mask) class k 0 days) five (λ k h.
    told k h
    ∙ sym (tally-period (is_of_class nothing class before cuts rows first last mask k) first last o l
    (λ m e. ap (λ w. w && nat_eq (class (value_on nothing before cuts rows m)) k) (outside-before first last m mask e))
    (λ m e. ap (λ w. w && nat_eq (class (value_on nothing before cuts rows m)) k) (outside-after first last m mask e)))
    ∙ sym (count_on-each_day (is_within first last mask) class (value_on nothing before cuts rows) k)
    ∙ ap (count_on (is_within first last mask) class k 0) view)

-- the weekday of a day has that day
pub has-own_day : (from n to : ℕ) → from ≤ n → n < to → nat_lt (below (slot n) from) (below (slot n) to) ≡ true
has-own_day from n to l h =
    let w = slot n in
    let lt : w < 7 = omega arith in
    let a = below-mono w from n lt l in let b = below-hit w n lt refl in let c = below-mono w (n + 1) to lt (omega arith) in
    grind (arith, nat_tests)

pub with_days-at : (w : ℕ) (mask : List Bool) (from to s : ℕ) → slice_index_or (with_days w mask from to) s false ≡ (slice_index_or mask s false && nat_lt (below (w + s) from) (below (w + s) to))
with_days-at w [] from to s = refl
with_days-at w (on ∷ mask) from to zero = let e : w ≡ w + 0 = omega arith in ap (λ v. on && nat_lt (below v from) (below v to)) e
with_days-at w (on ∷ mask) from to (suc s) = let e : w + 1 + s ≡ w + suc s = omega arith in with_days-at (w + 1) mask from to s ∙ ap (λ v. slice_index_or mask s false && nat_lt (below v from) (below v to)) e

pub length-with_days : (w : ℕ) (mask : List Bool) (from to : ℕ) → length (with_days w mask from to) ≡ length mask
length-with_days w [] from to = refl
length-with_days w (on ∷ mask) from to = ap suc (length-with_days (w + 1) mask from to)

-- a day of a stretch is in the mask if its weekday is among those that have a day there
pub with_days-own : (mask : List Bool) (from n to : ℕ) → from ≤ n → n < to → slice_index_or (with_days 0 mask from to) (slot n) false ≡ slice_index_or mask (slot n) false
with_days-own mask from n to l h =
    with_days-at 0 mask from to (slot n) ∙ ap (λ v. slice_index_or mask (slot n) false && nat_lt (below v from) (below v to)) same ∙ ap (λ b. slice_index_or mask (slot n) false && b) (has-own_day from n to l h) ∙ and-true (slice_index_or mask (slot n) false)
  where
    same : 0 + slot n ≡ slot n
    same = omega arith

    and-true : (b : Bool) → (b && true) ≡ b
    and-true true = refl
    and-true false = refl

-- a stretch up to the end of its range has a day
pub longer : (cuts : List ℕ) (day next end p : ℕ) → p ≡ place cuts day → day < end → (next < end → (p < length cuts) × (next ≡ slice_index_or cuts p 0)) → next ≤ end → day < next
longer cuts day next end p at lt cut le = elim (le_or_lt end next) [ inl h ↦ omega arith | inr h ↦ let f = cut h in let g = place-next-after cuts day (omega arith) in let e : slice_index_or cuts p 0 ≡ slice_index_or cuts (place cuts day) 0 = ap (λ i. slice_index_or cuts i 0) at in omega arith ]

-- a stretch from a day to the end of its range, or to an earlier end
pub record Reaches (cuts : List ℕ) (day next end p : ℕ) : Type 0 where
  pub at : p ≡ place cuts day
  pub long : day < next
  pub stays : (n : ℕ) → day ≤ n → n < next → place cuts n ≡ place cuts day
  pub next_at : next < end → p + 1 ≡ place cuts next

pub reaches : (cuts seen read : List ℕ) (day next end p : ℕ) → IsStrictlyIncreasing cuts → cuts ≡ seen → p ≡ place seen day → read ≡ cuts → day < end → next ≤ end → (p < length read → next ≤ slice_index_or read p 0) → (next < end → (p < length read) × (next ≡ slice_index_or read p 0)) → Reaches cuts day next end p
reaches cuts seen read day next end p rising same at read_is before le cut exact =
    let here : p ≡ place cuts day = at ∙ ap (λ cs. place cs day) (sym same) in
    let exact' : next < end → (p < length cuts) × (next ≡ slice_index_or cuts p 0) = subst (λ cs. next < end → (p < length cs) × (next ≡ slice_index_or cs p 0)) read_is exact in
    let free : place cuts day < length cuts → next ≤ slice_index_or cuts (place cuts day) 0 = subst (λ q. q < length cuts → next ≤ slice_index_or cuts q 0) here (subst (λ cs. p < length cs → next ≤ slice_index_or cs p 0) read_is cut) in
    record {
      at = here;
      long = longer cuts day next end p here before exact' le;
      stays = λ n l h. place-stays cuts day n l (λ q. let f = free q in omega arith);
      next_at = λ lt.
          let f = exact' lt in
          let is : next ≡ slice_index_or cuts (place cuts day) 0 = f.1 ∙ ap (λ q. slice_index_or cuts q 0) here in
          ap (λ q. q + 1) here ∙ sym (ap (place cuts) is ∙ place-next cuts day rising (let s = f.0 in omega arith));
    }
