-- The lists of the numbers' periods: range after range they get the days of their numbers, weekday
-- after weekday.
use Rattle.std.proofs.Common.{◌≡◌, ℕ, zero, suc, ◌+◌, ◌<◌, ◌≤◌, ◌&&◌, ◌||◌, Bool, true, false, nat_eq, nat_le, nat_lt, Some, List, [], ◌∷◌, length, map, slice_get, slice_index_or, slice_set, replicate, refl, ap, sym, ◌∙◌, arith, ◌⊎◌, inl, inr, option_map, eqb-true, eq-eqb}
use Rattle.std.proofs.Math.Bool.{or-false}
use Rattle.std.proofs.lemmas.Bool.Decides.{nat_tests}
use Rattle.std.proofs.lemmas.Option.{slice_get-map, slice_get_read, slice_get_within}
use Rattle.ssim_values.specs.Period.{DayRange}
use Rattle.ssim_values.specs.Calendar.{slot}
use Rattle.ssim_periods.specs.internal.Apart.{is_held}
use Rattle.ssim_periods.specs.internal.Numbers.{is_between, is_numbered_in, is_numbered_on, AddsDays, HaveDays}
use Rattle.ssim_periods.proofs.CoverLemmas.{le_or_lt}
use Rattle.ssim_periods.proofs.RowLemmas.{slot-lt}

-- a list at a place before the end is there
pub get-there : {X : Type 0} (xs : List X) (i : ℕ) → i < length xs → (x : X) × (slice_get xs i ≡ Some x)
get-there [] i h = absurd (omega arith)
get-there (x ∷ xs) zero h = (x, refl)
get-there (x ∷ xs) (suc i) h = get-there xs i (omega arith)

-- a list of the new ones was there before
before-at : (adds : ℕ → ℕ → Bool) (old new : List (List DayRange)) → AddsDays adds old new → (i : ℕ) (after : List DayRange) → slice_get new i ≡ Some after → (before : List DayRange) × (slice_get old i ≡ Some before)
before-at adds old new a i after at = get-there old i (let within = slice_get_within new i after at in let same = a.count in omega arith)

-- nothing is added
pub adds-none : (adds : ℕ → ℕ → Bool) (old new : List (List DayRange)) → new ≡ old → ((i n : ℕ) → i < length old → adds (i + 1) n ≡ false) → AddsDays adds old new
adds-none adds old new same none = record {
  count = ap length same;
  days = λ i before after b a n.
      let one : Some before ≡ Some after = sym b ∙ ap (λ lists. slice_get lists i) (sym same) ∙ a in
      let is : before ≡ after = cc in
      ap (λ periods. is_held periods n) (sym is) ∙ ap (λ x. x || is_held before n) (sym (none i n (slice_get_within old i before b)));
}

-- one step after another
pub adds-more : (some more all : ℕ → ℕ → Bool) (old mid new : List (List DayRange)) → AddsDays some old mid → AddsDays more mid new → ((i n : ℕ) (b : Bool) → (more i n || (some i n || b)) ≡ (all i n || b)) → AddsDays all old new
adds-more some more all old mid new first second both = record {
  count = second.count ∙ first.count;
  days = λ i before after b a n.
      let m = before-at more mid new second i after a in
      second.days i m.0 after m.1 a n ∙ ap (λ x. more (i + 1) n || x) (first.days i before m.0 b m.1 n) ∙ both (i + 1) n (is_held before n);
}

-- the lists have the days up to the end of the range
pub have-more : (f : ℕ → ℕ) (row : List ℕ) (day next : ℕ) (old new : List (List DayRange)) → day ≤ next → ((n : ℕ) → day ≤ n → n < next → slice_index_or row (slot n) 0 ≡ f n) → HaveDays f day old → AddsDays (is_numbered_in row day next) old new → HaveDays f next new
have-more f row day next old new le same have adds i after at n =
    let b = before-at (is_numbered_in row day next) old new adds i after at in
    adds.days i b.0 after b.1 at n ∙ ap (λ x. is_numbered_in row day next (i + 1) n || x) (have i b.0 b.1 n) ∙ by (le_or_lt day n) (le_or_lt next n)
  where
    own : Bool
    own = nat_eq (i + 1) (slice_index_or row (slot n) 0)

    test : Bool → Bool → Bool → Bool → Bool
    test low high earlier mine = ((low && high) && own) || (earlier && mine)

    by : (day ≤ n) ⊎ (n < day) → (next ≤ n) ⊎ (n < next) → test (nat_le day n) (nat_lt n next) (nat_lt n day) (nat_eq (i + 1) (f n)) ≡ (nat_lt n next && nat_eq (i + 1) (f n))
    by (inr early) late =
        let low : nat_le day n ≡ false = grind (arith, nat_tests) in let high : nat_lt n next ≡ true = grind (arith, nat_tests) in let earlier : nat_lt n day ≡ true = grind (arith, nat_tests) in
        ap (λ b. test b (nat_lt n next) (nat_lt n day) (nat_eq (i + 1) (f n))) low ∙ ap (λ b. b && nat_eq (i + 1) (f n)) (earlier ∙ sym high)
    by (inl from) (inl past) =
        let high : nat_lt n next ≡ false = grind (arith, nat_tests) in let earlier : nat_lt n day ≡ false = grind (arith, nat_tests) in let low : nat_le day n ≡ true = grind (arith, nat_tests) in
        ap (λ b. test b (nat_lt n next) (nat_lt n day) (nat_eq (i + 1) (f n))) low ∙ ap (λ b. test true b (nat_lt n day) (nat_eq (i + 1) (f n))) high ∙ ap (λ b. b && nat_eq (i + 1) (f n)) (earlier ∙ sym high)
    by (inl from) (inr within) =
        let high : nat_lt n next ≡ true = grind (arith, nat_tests) in let earlier : nat_lt n day ≡ false = grind (arith, nat_tests) in let low : nat_le day n ≡ true = grind (arith, nat_tests) in
        ap (λ b. test b (nat_lt n next) (nat_lt n day) (nat_eq (i + 1) (f n))) low ∙ ap (λ b. test true b (nat_lt n day) (nat_eq (i + 1) (f n))) high ∙ ap (λ b. own || (b && nat_eq (i + 1) (f n))) earlier
        ∙ or-false own ∙ ap (nat_eq (i + 1)) (same n from within) ∙ ap (λ b. b && nat_eq (i + 1) (f n)) (sym high)

-- no list has a day before the first range
pub have-none : (f : ℕ → ℕ) (lists : List (List DayRange)) → ((i : ℕ) (periods : List DayRange) → slice_get lists i ≡ Some periods → periods ≡ []) → HaveDays f 0 lists
have-none f lists empty i periods at n = let off : nat_lt n 0 ≡ false = grind (arith, nat_tests) in ap (λ p. is_held p n) (empty i periods at) ∙ sym (ap (λ b. b && nat_eq (i + 1) (f n)) off)

-- the days of a row before a weekday, Monday first
abbrev pub is_numbered_before : List ℕ → ℕ → ℕ → ℕ → ℕ → ℕ → Bool
is_numbered_before row weekday from to number n = (is_between from to n && nat_lt (slot n) weekday) && nat_eq number (slice_index_or row (slot n) 0)

-- one more weekday, whatever else holds
weekday-less : (within given own b : Bool) → (((within && false) && given) || (((within && true) && own) || b)) ≡ (((within && true) && own) || b)
weekday-less true given own b = refl
weekday-less false given own b = refl

weekday-same : (within own b : Bool) → (((within && true) && own) || (((within && false) && own) || b)) ≡ (((within && true) && own) || b)
weekday-same true own b = refl
weekday-same false own b = refl

weekday-more : (within given own b : Bool) → (((within && false) && given) || (((within && false) && own) || b)) ≡ (((within && false) && own) || b)
weekday-more true given own b = refl
weekday-more false given own b = refl

weekday-any : (row : List ℕ) (s w number : ℕ) (within b : Bool) → (((within && nat_eq s w) && nat_eq number (slice_index_or row w 0)) || (((within && nat_lt s w) && nat_eq number (slice_index_or row s 0)) || b)) ≡ (((within && nat_lt s (w + 1)) && nat_eq number (slice_index_or row s 0)) || b)
weekday-any row s w number within b = by (le_or_lt w s) (le_or_lt s w)
  where
    given : Bool
    given = nat_eq number (slice_index_or row w 0)

    own : Bool
    own = nat_eq number (slice_index_or row s 0)

    whole : Bool → Bool → Bool → Bool
    whole here mine earlier = ((within && here) && mine) || (((within && earlier) && own) || b)

    end : Bool → Bool
    end later = ((within && later) && own) || b

    by : (w ≤ s) ⊎ (s < w) → (s ≤ w) ⊎ (w < s) → whole (nat_eq s w) given (nat_lt s w) ≡ end (nat_lt s (w + 1))
    by (inr less) other =
        let e : nat_eq s w ≡ false = grind (arith, nat_tests) in let l : nat_lt s w ≡ true = grind (arith, nat_tests) in let m : nat_lt s (w + 1) ≡ true = grind (arith, nat_tests) in
        ap (λ x. whole x given (nat_lt s w)) e ∙ ap (whole false given) l ∙ weekday-less within given own b ∙ ap end (sym m)
    by (inl from) (inr more) =
        let e : nat_eq s w ≡ false = grind (arith, nat_tests) in let l : nat_lt s w ≡ false = grind (arith, nat_tests) in let m : nat_lt s (w + 1) ≡ false = grind (arith, nat_tests) in
        ap (λ x. whole x given (nat_lt s w)) e ∙ ap (whole false given) l ∙ weekday-more within given own b ∙ ap end (sym m)
    by (inl from) (inl to) =
        let at : s ≡ w = omega arith in
        let e : nat_eq s w ≡ true = eq-eqb s w at in let l : nat_lt s w ≡ false = grind (arith, nat_tests) in let m : nat_lt s (w + 1) ≡ true = grind (arith, nat_tests) in
        ap (λ x. whole x given (nat_lt s w)) e ∙ ap (whole true given) l ∙ ap (λ k. whole true (nat_eq number (slice_index_or row k 0)) false) (sym at) ∙ weekday-same within own b ∙ ap end (sym m)

pub one-more : (row : List ℕ) (weekday from to number n : ℕ) (b : Bool) → (is_numbered_on weekday (slice_index_or row weekday 0) from to number n || (is_numbered_before row weekday from to number n || b)) ≡ (is_numbered_before row (weekday + 1) from to number n || b)
one-more row weekday from to number n b = weekday-any row (slot n) weekday number (is_between from to n) b

-- the days of all weekdays of a row are those of the row
pub whole-week : (row : List ℕ) (from to : ℕ) (old new : List (List DayRange)) → AddsDays (is_numbered_before row 7 from to) old new → AddsDays (is_numbered_in row from to) old new
whole-week row from to old new adds = record {
  count = adds.count;
  days = λ i before after b a n.
      adds.days i before after b a n ∙ ap (λ x. x || is_held before n) (ap (λ x. (is_between from to n && x) && nat_eq (i + 1) (slice_index_or row (slot n) 0)) (below n) ∙ ap (λ x. x && nat_eq (i + 1) (slice_index_or row (slot n) 0)) (and-true (is_between from to n)));
}
  where
    below : (n : ℕ) → nat_lt (slot n) 7 ≡ true
    below n = let low = slot-lt n in grind (arith, nat_tests)

    and-true : (b : Bool) → (b && true) ≡ b
    and-true true = refl
    and-true false = refl

-- the list of a number gets the days of a period
pub adds-one : {L : Type 0} (items : L → List DayRange) (weekday number from to k : ℕ) (old : List L) (own new : L) → number ≡ k + 1 → k < length old → own ≡ slice_index_or old k own → ((n : ℕ) → is_held (items new) n ≡ ((is_between from to n && nat_eq (slot n) weekday) || is_held (items own) n)) → AddsDays (is_numbered_on weekday number from to) (map items old) (map items (slice_set old k new))
adds-one {L} items weekday number from to k old own new number_is within at held = record {
  count = sizes old k;
  days = λ i before after b a n. elim (places i k) [
    | inl same ↦
        let b' : Some (items own) ≡ Some before = sym (slice_get-map items old k ∙ ap (option_map items) (slice_get_read old (length old) k own refl within at)) ∙ ap (slice_get (map items old)) (sym same) ∙ b in
        let a' : Some (items new) ≡ Some after = sym (slice_get-map items (slice_set old k new) k ∙ ap (option_map items) (get-set old k new within)) ∙ ap (slice_get (map items (slice_set old k new))) (sym same) ∙ a in
        let was : items own ≡ before = cc in let is : items new ≡ after = cc in
        let e : nat_eq (i + 1) number ≡ true = eq-eqb (i + 1) number (omega arith) in
        ap (λ periods. is_held periods n) (sym is) ∙ held n ∙ ap (λ periods. (is_between from to n && nat_eq (slot n) weekday) || is_held periods n) was
        ∙ ap (λ x. x || is_held before n) (sym (ap (λ x. (is_between from to n && nat_eq (slot n) weekday) && x) e ∙ and-true (is_between from to n && nat_eq (slot n) weekday)))
    | inr other ↦
        let one : Some before ≡ Some after = sym b ∙ slice_get-map items old i ∙ ap (option_map items) (sym (get-other old k i new other)) ∙ sym (slice_get-map items (slice_set old k new) i) ∙ a in
        let is : before ≡ after = cc in
        let e : nat_eq (i + 1) number ≡ false = off i other in
        ap (λ periods. is_held periods n) (sym is) ∙ ap (λ x. x || is_held before n) (sym (ap (λ x. (is_between from to n && nat_eq (slot n) weekday) && x) e ∙ and-false (is_between from to n && nat_eq (slot n) weekday)))
  ];
}
  where
    and-true : (b : Bool) → (b && true) ≡ b
    and-true true = refl
    and-true false = refl

    and-false : (b : Bool) → (b && false) ≡ false
    and-false true = refl
    and-false false = refl

    places : (i j : ℕ) → (i ≡ j) ⊎ ((i < j) ⊎ (j < i))
    places i j = elim (le_or_lt i j) [ inl up ↦ elim (le_or_lt j i) [ inl down ↦ inl (omega arith) | inr less ↦ inr (inl less) ] | inr more ↦ inr (inr more) ]

    off : (i : ℕ) → (i < k) ⊎ (k < i) → nat_eq (i + 1) number ≡ false
    off i (inl less) = grind (arith, nat_tests)
    off i (inr more) = grind (arith, nat_tests)

    get-set : (xs : List L) (j : ℕ) (x : L) → j < length xs → slice_get (slice_set xs j x) j ≡ Some x
    get-set [] j x h = absurd (omega arith)
    get-set (y ∷ xs) zero x h = refl
    get-set (y ∷ xs) (suc j) x h = get-set xs j x (omega arith)

    get-other : (xs : List L) (j i : ℕ) (x : L) → (i < j) ⊎ (j < i) → slice_get (slice_set xs j x) i ≡ slice_get xs i
    get-other [] j i x h = refl
    get-other (y ∷ xs) zero zero x (inl h) = absurd (omega arith)
    get-other (y ∷ xs) zero zero x (inr h) = absurd (omega arith)
    get-other (y ∷ xs) zero (suc i) x h = refl
    get-other (y ∷ xs) (suc j) zero x h = refl
    get-other (y ∷ xs) (suc j) (suc i) x (inl h) = get-other xs j i x (inl (omega arith))
    get-other (y ∷ xs) (suc j) (suc i) x (inr h) = get-other xs j i x (inr (omega arith))

    sizes : (xs : List L) (j : ℕ) → length (map items (slice_set xs j new)) ≡ length (map items xs)
    sizes [] j = refl
    sizes (y ∷ xs) zero = refl
    sizes (y ∷ xs) (suc j) = ap suc (sizes xs j)

eq-suc : (k i : ℕ) → nat_eq (suc k) (suc i) ≡ nat_eq k i
eq-suc k i = elim (nat_eq k i) as (λ b. nat_eq k i ≡ b → nat_eq (suc k) (suc i) ≡ b) [ true ↦ λ e. eq-eqb (suc k) (suc i) (ap suc (eqb-true k i e)) | false ↦ λ e. grind (arith, nat_tests) ] refl

-- the weekdays of a period of one weekday
pub one-on : (w s : ℕ) → w < 7 → slice_index_or (slice_set (false ∷ false ∷ false ∷ false ∷ false ∷ false ∷ false ∷ []) w true) s false ≡ nat_eq s w
one-on w s h = in_list (false ∷ false ∷ false ∷ false ∷ false ∷ false ∷ false ∷ []) w s h (λ k. all k)
  where
    all : (k : ℕ) → slice_index_or (false ∷ false ∷ false ∷ false ∷ false ∷ false ∷ false ∷ []) k false ≡ false
    all zero = refl
    all (suc zero) = refl
    all (suc (suc zero)) = refl
    all (suc (suc (suc zero))) = refl
    all (suc (suc (suc (suc zero)))) = refl
    all (suc (suc (suc (suc (suc zero))))) = refl
    all (suc (suc (suc (suc (suc (suc zero)))))) = refl
    all (suc (suc (suc (suc (suc (suc (suc k))))))) = refl

    in_list : (xs : List Bool) (i k : ℕ) → i < length xs → ((j : ℕ) → slice_index_or xs j false ≡ false) → slice_index_or (slice_set xs i true) k false ≡ nat_eq k i
    in_list [] i k l off = absurd (omega arith)
    in_list (x ∷ xs) zero zero l off = refl
    in_list (x ∷ xs) zero (suc k) l off = let e : nat_eq (suc k) zero ≡ false = grind (arith, nat_tests) in off (suc k) ∙ sym e
    in_list (x ∷ xs) (suc i) zero l off = let e : nat_eq zero (suc i) ≡ false = grind (arith, nat_tests) in off zero ∙ sym e
    in_list (x ∷ xs) (suc i) (suc k) l off = in_list xs i k (omega arith) (λ j. off (suc j)) ∙ sym (eq-suc k i)

pub le-lt : (n m : ℕ) → nat_le n m ≡ nat_lt n (m + 1)
le-lt n m = elim (le_or_lt (m + 1) n) [
  | inl past ↦ (let a : nat_le n m ≡ false = grind (arith, nat_tests) in let b : nat_lt n (m + 1) ≡ false = grind (arith, nat_tests) in a ∙ sym b)
  | inr within ↦ (let a : nat_le n m ≡ true = grind (arith, nat_tests) in let b : nat_lt n (m + 1) ≡ true = grind (arith, nat_tests) in a ∙ sym b)
]

-- each of some empty lists is empty
pub get-empty : (count i : ℕ) (periods : List DayRange) → slice_get (replicate count []) i ≡ Some periods → periods ≡ []
get-empty zero i periods at = cc
get-empty (suc count) zero periods at = cc
get-empty (suc count) (suc i) periods at = get-empty count i periods at
