-- The days of a period that the entries of a list hold, counted entry by entry, and the days that
-- none holds.
use Rattle.std.proofs.Common.{◌≡◌, ◌≢◌, ℕ, zero, suc, ◌+◌, ◌<◌, ◌≤◌, ◌&&◌, ◌||◌, Bool, true, false, not, if◌then◌else◌, nat_eq, nat_le, Option, Some, None, List, [], ◌∷◌, length, map, drop, slice_index_or, slice_set, get_or-set_same, get_or-set_other, refl, ap, subst, sym, ◌∙◌, arith}
use Rattle.std.proofs.Math.Path.{fun_ext}
use Rattle.std.proofs.lemmas.Bool.Decides.{nat_tests}
use Rattle.std.proofs.lemmas.List.{drop_more, length-set}
use Rattle.std.proofs.Math.Bool.{and-false}
use Rattle.std.specs.List.{list_any}
use Rattle.ssim_values.specs.Period.{DayRange}
use Rattle.ssim_periods.specs.Calendar.{day_count, holds}
use Rattle.ssim_values.specs.Calendar.{slot}
use Rattle.ssim_periods.specs.Days.{counts_on, count_on, each_day}
use Rattle.ssim_periods.specs.Pieces.{held_on}
use Rattle.ssim_periods.specs.internal.Apart.{value_in}
use Rattle.ssim_periods.specs.internal.Count.{tally}
use Rattle.ssim_periods.specs.internal.Parts.{any_value, common_part, finds}
use Rattle.ssim_periods.proofs.ApartLemmas.{few-later}
use Rattle.ssim_periods.proofs.CountLemmas.{count_on-each_day, of_five, tally-le, tally-same}
use Rattle.ssim_periods.proofs.DayLemmas.{day_count-is, length-each_day}
use Rattle.ssim_periods.proofs.GatherLemmas.{drop-all}
use Rattle.ssim_periods.proofs.PartLemmas.{holds_in, common-on}
use Rattle.ssim_periods.proofs.PartsLemmas.{last_of, value_in-last_of}

abbrev one_if : Bool → ℕ
one_if b = if b then 1 else 0

tally-sum : (f g h : ℕ → Bool) (n k : ℕ) → ((m : ℕ) → one_if (h m) ≡ one_if (f m) + one_if (g m)) → tally h n k ≡ tally f n k + tally g n k
tally-sum f g h n zero e = omega arith
tally-sum f g h n (suc k) e = let here = e n in let rest = tally-sum f g h (n + 1) k e in omega arith

tally-none : (f : ℕ → Bool) (n k : ℕ) → ((m : ℕ) → f m ≡ false) → tally f n k ≡ 0
tally-none f n zero none = refl
tally-none f n (suc k) none = let rest = tally-none f (n + 1) k none in ap (λ b. one_if b + tally f (n + 1) k) (none n) ∙ omega arith

and-true : (b : Bool) → (b && true) ≡ b
and-true true = refl
and-true false = refl

tally-if : (t : ℕ → Bool) (b : Bool) (n k : ℕ) → tally (λ m. t m && b) n k ≡ (if b then tally t n k else 0)
tally-if t true n k = tally-same (λ m. t m && true) t n k (λ m a l. and-true (t m))
tally-if t false n k = tally-none (λ m. t m && false) n k (λ m. and-false (t m))

tally-zero : (f : ℕ → Bool) (a k n : ℕ) → tally f a k ≡ 0 → a ≤ n → n < a + k → f n ≡ false
tally-zero f a zero n none from to = absurd (omega arith)
tally-zero f a (suc k) n none from to = by (λ z low. tally-zero f (a + 1) k n z low (omega arith)) (f a) refl none
  where
    by : (tally f (a + 1) k ≡ 0 → a + 1 ≤ n → f n ≡ false) → (b : Bool) → f a ≡ b → one_if b + tally f (a + 1) k ≡ 0 → f n ≡ false
    by later true e z = absurd (omega arith)
    by later false e z = elim (nat_eq a n) as (λ t. nat_eq a n ≡ t → f n ≡ false) [
      | true ↦ λ same. let is : a ≡ n = grind (arith, nat_tests) in sym (ap f is) ∙ e
      | false ↦ λ other. let not : a ≢ n = grind (arith, nat_tests) in later (omega arith) (omega arith)
    ] refl

none-left : {V : Type 0} (v : V) (vs : List V) → length (v ∷ vs) ≤ 1 → vs ≡ []
none-left v [] h = refl
none-left v (w ∷ vs) h = absurd (omega arith)

-- one more entry on a day
step : {V : Type 0} (test : V → Bool) (v : V) (vs : List V) (s b : Bool) → length (if b then v ∷ vs else vs) ≤ 1 → one_if (s && list_any test (if b then v ∷ vs else vs)) ≡ one_if (s && list_any test vs) + one_if ((s && b) && test v)
step {V} test v vs true true few = ap (λ us. one_if (test v || list_any test us)) none ∙ by (test v) ∙ sym (ap (λ us. one_if (list_any test us) + one_if (test v)) none)
  where
    none : vs ≡ []
    none = none-left v vs few

    by : (t : Bool) → one_if (t || false) ≡ 0 + one_if t
    by true = omega arith
    by false = omega arith
step test v vs true false few = omega arith
step test v vs false b few = omega arith

pub found-more : {V : Type 0} (s : ℕ → Bool) (test : V → Bool) (e : DayRange × V) (es : List (DayRange × V)) (k : ℕ) → ((n : ℕ) → length (held_on (e ∷ es) n) ≤ 1) →
    tally (finds s test (e ∷ es)) 0 k ≡ tally (finds s test es) 0 k + (if test e.1 then tally (λ n. s n && holds e.0 n) 0 k else 0)
found-more s test e es k once =
    tally-sum (finds s test es) (λ n. (s n && holds e.0 n) && test e.1) (finds s test (e ∷ es)) 0 k (λ n. step test e.1 (held_on es n) (s n) (holds e.0 n) (once n))
    ∙ ap (λ t. tally (finds s test es) 0 k + t) (tally-if (λ n. s n && holds e.0 n) (test e.1) 0 k)

-- the entries from an index on
pub found-next : {V : Type 0} (s : ℕ → Bool) (test : V → Bool) (xs : List (DayRange × V)) (i j : ℕ) (x : DayRange × V) → j + 1 ≡ i → j < length xs → x ≡ slice_index_or xs j x → ((n : ℕ) → length (held_on xs n) ≤ 1) →
    tally (finds s test (drop j xs)) 0 day_count ≡ tally (finds s test (drop i xs)) 0 day_count + (if test x.1 then tally (λ n. s n && holds x.0 n) 0 day_count else 0)
found-next s test xs i j x next lt is once =
    let rest : drop j xs ≡ x ∷ drop i xs = drop_more xs j x lt ∙ ap (λ k. slice_index_or xs j x ∷ drop k xs) next ∙ ap (λ y. y ∷ drop i xs) (sym is) in
    ap (λ ys. tally (finds s test ys) 0 day_count) rest
    ∙ found-more s test x (drop i xs) day_count (λ n. subst (λ ys. length (held_on ys n) ≤ 1) rest (few-later xs j n (once n)))

pub tally-fits : (t : ℕ → Bool) → tally t 0 day_count ≤ 36525
tally-fits t = let le = tally-le t 0 day_count in let is = day_count-is in omega arith

-- the counts with one more entry
pub counted-more : (counts new : List ℕ) (class days : ℕ) (old : ℕ → ℕ) → length counts ≡ 5 → class < 5 → new ≡ slice_set counts class (slice_index_or counts class 0 + days) → ((k : ℕ) → k < 5 → slice_index_or counts k 0 ≡ old k) → (k : ℕ) → k < 5 → slice_index_or new k 0 ≡ old k + (if nat_eq class k then days else 0)
counted-more counts new class days old five lt is were k h = by (nat_eq class k) refl
  where
    by : (b : Bool) → nat_eq class k ≡ b → slice_index_or new k 0 ≡ old k + (if b then days else 0)
    by true e =
        let within : class < length counts = omega arith in
        let same : k ≡ class = grind (arith, nat_tests) in
        let v : slice_index_or new k 0 ≡ slice_index_or counts class 0 + days = ap (λ l. slice_index_or l k 0) is ∙ ap (λ i. slice_index_or (slice_set counts class (slice_index_or counts class 0 + days)) i 0) same ∙ rw get_or-set_same refl in
        v ∙ ap (λ i. slice_index_or counts i 0 + days) (sym same) ∙ ap (λ c. c + days) (were k h)
    by false e =
        let other : k ≢ class = grind (arith, nat_tests) in
        let v : slice_index_or new k 0 ≡ slice_index_or counts k 0 = ap (λ l. slice_index_or l k 0) is ∙ rw get_or-set_other refl in
        let was = were k h in omega arith

pub none-more : (b : Bool) (n : ℕ) → n ≡ 0 → (if b then n else 0) ≡ 0
none-more true n e = e
none-more false n e = refl

-- ---- the days that no entry holds

abbrev pub is_free : {V : Type 0} → (ℕ → Bool) → List (DayRange × V) → ℕ → Bool
is_free s es n = s n && not (list_any any_value (held_on es n))

pub free-days : {V : Type 0} (s : ℕ → Bool) (es : List (DayRange × V)) → tally s 0 day_count ≡ tally (finds s any_value es) 0 day_count + tally (is_free s es) 0 day_count
free-days s es = tally-sum (finds s any_value es) (is_free s es) s 0 day_count (λ n. by (s n) (list_any any_value (held_on es n)))
  where
    by : (a b : Bool) → one_if a ≡ one_if (a && b) + one_if (a && not b)
    by true true = omega arith
    by true false = omega arith
    by false b = omega arith

pub none-free : {V : Type 0} (s : ℕ → Bool) (es : List (DayRange × V)) (n : ℕ) → tally (is_free s es) 0 day_count ≡ 0 → n < 36525 → s n ≡ true → held_on es n ≢ []
none-free s es n none lt on empty =
    let off : is_free s es n ≡ false = tally-zero (is_free s es) 0 day_count n none (omega arith) (rw day_count-is (omega arith)) in
    let free : is_free s es n ≡ true = ap (λ b. b && not (list_any any_value (held_on es n))) on ∙ ap (λ vs. not (list_any any_value vs)) empty in
    let bad : true ≡ false = sym free ∙ off in absurd cc

-- a day counts under the class of its value
whole : {V : Type 0} (class : V → ℕ) (nothing : V) (k : ℕ) (s : Bool) (vs : List V) → length vs ≤ 1 → one_if (s && nat_eq (class (last_of nothing vs)) k) ≡ one_if (s && list_any (λ v. nat_eq (class v) k) vs) + one_if ((s && not (list_any any_value vs)) && nat_eq (class nothing) k)
whole class nothing k false vs few = omega arith
whole class nothing k true [] few = omega arith
whole class nothing k true (v ∷ []) few = elim (nat_eq (class v) k) as (λ t. one_if t ≡ one_if (t || false) + 0) [ true ↦ omega arith | false ↦ omega arith ]
whole class nothing k true (v ∷ w ∷ vs) few = absurd (omega arith)

all-days : {V : Type 0} (class : V → ℕ) (nothing : V) (s : ℕ → Bool) (es : List (DayRange × V)) (k : ℕ) → ((n : ℕ) → length (held_on es n) ≤ 1) →
    count_on s class k 0 (each_day (value_in nothing es)) ≡ tally (finds s (λ v. nat_eq (class v) k) es) 0 day_count + (if nat_eq (class nothing) k then tally (is_free s es) 0 day_count else 0)
all-days class nothing s es k once =
    count_on-each_day s class (value_in nothing es) k
    ∙ tally-sum (finds s (λ v. nat_eq (class v) k) es) (λ n. is_free s es n && nat_eq (class nothing) k) (λ n. s n && nat_eq (class (value_in nothing es n)) k) 0 day_count (λ n.
    ap (λ v. one_if (s n && nat_eq (class v) k)) (value_in-last_of nothing es n) ∙ whole class nothing k (s n) (held_on es n) (once n))
    ∙ ap (λ t. tally (finds s (λ v. nat_eq (class v) k) es) 0 day_count + t) (tally-if (is_free s es) (nat_eq (class nothing) k) 0 day_count)

pub counts-all : {V : Type 0} (class : V → ℕ) (nothing : V) (s : ℕ → Bool) (es : List (DayRange × V)) (counts : List ℕ) → ((n : ℕ) → length (held_on es n) ≤ 1) → length counts ≡ 5 →
    ((k : ℕ) → k < 5 → slice_index_or counts k 0 ≡ tally (finds s (λ v. nat_eq (class v) k) es) 0 day_count + (if nat_eq (class nothing) k then tally (is_free s es) 0 day_count else 0)) → counts ≡ counts_on s class (each_day (value_in nothing es))
counts-all class nothing s es counts once five are = of_five counts (λ k. count_on s class k 0 (each_day (value_in nothing es))) five (λ k h. are k h ∙ sym (all-days class nothing s es k once))

-- ---- the days of two periods

mix : (a b c d x y : Bool) → ((c && d) && y) && ((a && b) && x) ≡ (((a && c) && (b && d)) && (x && y))
mix false b false d x y = refl
mix true b false d x y = refl
mix false b true false x y = refl
mix true false true false x y = refl
mix true true true false x y = refl
mix false b true true x false = refl
mix true false true true x false = refl
mix true true true true false false = refl
mix true true true true true false = refl
mix false b true true x true = refl
mix true false true true x true = refl
mix true true true true false true = refl
mix true true true true true true = refl

common-holds : (p q : DayRange) (n : ℕ) → (holds q n && holds p n) ≡ holds_in (common_part p q) n
common-holds p q n =
    mix (nat_le p.first n) (nat_le n p.last) (nat_le q.first n) (nat_le n q.last) (slice_index_or p.days (slot n) false) (slice_index_or q.days (slot n) false) ∙ sym (common-on p q n)

pub common-some : (p q c : DayRange) (o : Option DayRange) → o ≡ common_part p q → o ≡ Some c → tally (holds c) 0 day_count ≡ tally (λ n. holds q n && holds p n) 0 day_count
common-some p q c o is some = tally-same (holds c) (λ n. holds q n && holds p n) 0 day_count (λ n a l. sym (common-holds p q n ∙ ap (λ x. holds_in x n) (sym is ∙ some)))

pub common-none : (p q : DayRange) (o : Option DayRange) → o ≡ common_part p q → o ≡ None → 0 ≡ tally (λ n. holds q n && holds p n) 0 day_count
common-none p q o is none = sym (tally-none (λ n. holds q n && holds p n) 0 day_count (λ n. common-holds p q n ∙ ap (λ x. holds_in x n) (sym is ∙ none)))

pub no-common : (p q : DayRange) → ((n : ℕ) → holds q n ≡ true → holds p n ≡ false) → 0 ≡ tally (λ n. holds q n && holds p n) 0 day_count
no-common p q none = sym (tally-none (λ n. holds q n && holds p n) 0 day_count (λ n. by n (holds q n) refl))
  where
    by : (n : ℕ) (b : Bool) → holds q n ≡ b → (b && holds p n) ≡ false
    by n true e = none n e
    by n false e = refl

-- ---- no entry yet

zeros-at : (k : ℕ) → slice_index_or {A = ℕ} (0 ∷ 0 ∷ 0 ∷ 0 ∷ 0 ∷ []) k 0 ≡ 0
zeros-at zero = refl
zeros-at (suc zero) = refl
zeros-at (suc (suc zero)) = refl
zeros-at (suc (suc (suc zero))) = refl
zeros-at (suc (suc (suc (suc zero)))) = refl
zeros-at (suc (suc (suc (suc (suc k))))) = refl

pub found-none : {V : Type 0} (s : ℕ → Bool) (test : V → Bool) (xs : List (DayRange × V)) → 0 ≡ tally (finds s test (drop (length xs) xs)) 0 day_count
found-none s test xs = sym (ap (λ ys. tally (finds s test ys) 0 day_count) (drop-all xs (length xs) (omega arith)) ∙ tally-none (finds s test []) 0 day_count (λ n. and-false (s n)))

pub counted-none : {V : Type 0} (s : ℕ → Bool) (test : V → Bool) (xs : List (DayRange × V)) (k : ℕ) → slice_index_or {A = ℕ} (0 ∷ 0 ∷ 0 ∷ 0 ∷ 0 ∷ []) k 0 ≡ tally (finds s test (drop (length xs) xs)) 0 day_count
counted-none s test xs k = zeros-at k ∙ found-none s test xs

-- ---- counted under one class

abbrev zeros : List ℕ
zeros = 0 ∷ 0 ∷ 0 ∷ 0 ∷ 0 ∷ []

-- the days of a period, if all are of one class
pub counts-of-period : (p : DayRange) (class days : ℕ) (counts : List ℕ) → class < 5 → days ≡ tally (holds p) 0 day_count → counts ≡ slice_set zeros class days → counts ≡ counts_on {V = ℕ} (holds p) (λ _. class) (each_day (λ _. 0))
counts-of-period p class days counts small all is =
    let more : days ≡ slice_index_or zeros class 0 + days = let none = zeros-at class in omega arith in
    of_five counts (λ k. count_on {V = ℕ} (holds p) (λ _. class) k 0 (each_day (λ _. 0))) (ap length is ∙ length-set zeros class days) (λ k h.
    counted-more zeros counts class days (λ _. 0) refl small (is ∙ ap (slice_set zeros class) more) (λ j g. zeros-at j) k h
    ∙ from-zero (if nat_eq class k then days else 0)
    ∙ ap (λ d. if nat_eq class k then d else 0) all
    ∙ sym (tally-if (holds p) (nat_eq class k) 0 day_count)
    ∙ sym (count_on-each_day {V = ℕ} (holds p) (λ _. class) (λ _. 0) k))
  where
    from-zero : (n : ℕ) → 0 + n ≡ n
    from-zero n = omega arith

count-alike : {V W : Type 0} (s : ℕ → Bool) (f : V → ℕ) (g : W → ℕ) (k : ℕ) (d : V) (e : W) (a : ℕ) (xs : List V) (ys : List W) → length xs ≡ length ys → ((n : ℕ) → n < length xs → s (a + n) ≡ true → f (slice_index_or xs n d) ≡ g (slice_index_or ys n e)) → count_on s f k a xs ≡ count_on s g k a ys
count-alike s f g k d e a [] [] l h = refl
count-alike s f g k d e a [] (y ∷ ys) l h = absurd (omega arith)
count-alike s f g k d e a (x ∷ xs) [] l h = absurd (omega arith)
count-alike s f g k d e a (x ∷ xs) (y ∷ ys) l h =
    let start : a ≡ a + 0 = omega arith in
    let rest = count-alike s f g k d e (a + 1) xs ys (omega arith) (λ n lt t. let at : a + 1 + n ≡ a + suc n = omega arith in h (suc n) (omega arith) (sym (ap s at) ∙ t)) in
    let here : one_if (s a && nat_eq (f x) k) ≡ one_if (s a && nat_eq (g y) k) = elim (s a) as (λ b. s a ≡ b → one_if (b && nat_eq (f x) k) ≡ one_if (b && nat_eq (g y) k)) [
      | true ↦ λ t. ap (λ c. one_if (nat_eq c k)) (h 0 (omega arith) (sym (ap s start) ∙ t))
      | false ↦ λ t. refl
    ] refl in
    ap (λ c. c + count_on s f k (a + 1) xs) here ∙ ap (λ c. one_if (s a && nat_eq (g y) k) + c) rest

-- days that all have one value count as if each day had its class
pub counts-alike : {V : Type 0} (s : ℕ → Bool) (class : V → ℕ) (v : V) (f : ℕ → V) (days : List V) → each_day f ≡ days → ((n : ℕ) → s n ≡ true → slice_index_or days n v ≡ v) → counts_on s (λ (_ : ℕ). class v) (each_day (λ _. 0)) ≡ counts_on s class days
counts-alike s class v f days view all =
    let none = each_day (λ (n : ℕ). 0) in
    let len : length none ≡ 36525 = length-each_day (λ (n : ℕ). 0) in
    let size : length days ≡ 36525 = sym (ap length view) ∙ length-each_day f in
    ap (λ count. map count (0 ∷ 1 ∷ 2 ∷ 3 ∷ 4 ∷ [])) (fun_ext (λ k. count-alike s (λ _. class v) class k 0 v 0 none days (len ∙ sym size) (λ n l t. ap class (sym (all n (ap s (from-zero n) ∙ t))))))
  where
    from-zero : (n : ℕ) → n ≡ 0 + n
    from-zero n = omega arith
