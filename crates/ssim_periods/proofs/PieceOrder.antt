-- Two lists of the same pieces, each rising strictly by first day, are equal.
use Rattle.std.proofs.Common.{◌≡◌, ℕ, zero, suc, ◌+◌, ◌<◌, ◌≤◌, Bool, true, false, if◌then◌else◌, nat_lt, List, [], ◌∷◌, length, get_or, refl, ap, subst, ◌∙◌, sym, arith, ◌⊎◌, inl, inr}
use Rattle.std.specs.List.{All, fold}
use Rattle.std.specs.List.Sorted.{IsPermutation, IsNonDecreasingBy}
use Rattle.std.proofs.lemmas.List.Sorted.{sum_by-IsPermutation, All-permutation}
use Rattle.std.proofs.lemmas.Bool.Decides.{nat_tests}
use Rattle.ssim_values.specs.Period.{DayRange}
use Rattle.ssim_periods.specs.Calendar.{holds}
use Rattle.ssim_periods.specs.Pieces.{insert_by_first, sort_by_first, held_on}
use Rattle.ssim_periods.proofs.PieceLaw.{Every, Begins}

-- an element of a list, by recursion
abbrev pub In : {X : Type 0} → X → List X → Type 0
In x [] = ⊥
In x (y ∷ ys) = (x ≡ y) ⊎ In x ys

-- first days that do not fall, from a bound on
abbrev pub Ascends : {V : Type 0} → ℕ → List (DayRange × V) → Type 0
Ascends b [] = Unit {0}
Ascends b (p ∷ pieces) = (b ≤ p.0.first) × Ascends p.0.first pieces

-- first days that rise, from a bound on
abbrev pub Rises : {V : Type 0} → ℕ → List (DayRange × V) → Type 0
Rises b [] = Unit {0}
Rises b (p ∷ pieces) = (b ≤ p.0.first) × Rises (p.0.first + 1) pieces

rises-in : {V : Type 0} (b : ℕ) (x : DayRange × V) (pieces : List (DayRange × V)) → Rises b pieces → In x pieces → b ≤ x.0.first
rises-in b x [] r i = absurd i
rises-in b x (p ∷ pieces) r (inl e) = let l = r.0 in let f : x.0.first ≡ p.0.first = ap (λ q. q.0.first) e in omega arith
rises-in b x (p ∷ pieces) r (inr i) = let l = r.0 in let m = rises-in (p.0.first + 1) x pieces r.1 i in omega arith

-- rising lists of the same pieces are equal
pub same-pieces : {V : Type 0} (b c : ℕ) (xs ys : List (DayRange × V)) → Rises b xs → Rises c ys → ((p : DayRange × V) → In p xs → In p ys) → ((p : DayRange × V) → In p ys → In p xs) → xs ≡ ys
same-pieces b c [] [] r s f g = refl
same-pieces b c [] (y ∷ ys) r s f g = absurd (g y (inl refl))
same-pieces b c (x ∷ xs) [] r s f g = absurd (f x (inl refl))
same-pieces b c (x ∷ xs) (y ∷ ys) r s f g =
    let head : x ≡ y = elim (f x (inl refl)) [
      | inl e ↦ e
      | inr i ↦ elim (g y (inl refl)) [
        | inl e ↦ sym e
        | inr j ↦ let a = rises-in (y.0.first + 1) x ys s.1 i in let b = rises-in (x.0.first + 1) y xs r.1 j in absurd (omega arith)
      ]
    ] in
    let tail = same-pieces (x.0.first + 1) (y.0.first + 1) xs ys r.1 s.1
    (λ p i. elim (f p (inr i)) [ inr j ↦ j | inl e ↦ let a = rises-in (x.0.first + 1) p xs r.1 i in let k : p.0.first ≡ x.0.first = ap (λ q. q.0.first) (e ∙ sym head) in absurd (omega arith) ])
    (λ p i. elim (g p (inr i)) [ inr j ↦ j | inl e ↦ let a = rises-in (y.0.first + 1) p ys s.1 i in let k : p.0.first ≡ y.0.first = ap (λ q. q.0.first) (e ∙ head) in absurd (omega arith) ]) in
    cc

less : {V : Type 0} (b : Bool) (rest : List V) (v : V) → length (if b then v ∷ rest else rest) ≤ 1 → length rest ≤ 1
less true rest v l = omega arith
less false rest v l = l

twice : {V : Type 0} (b c : Bool) (rest : List V) (v w : V) → b ≡ true → c ≡ true → length (if b then v ∷ (if c then w ∷ rest else rest) else (if c then w ∷ rest else rest)) ≤ 1 → ⊥
twice true true rest v w x y l = omega arith
twice false c rest v w x y l = cc
twice true false rest v w x y l = cc

-- if no day is held twice, first days that do not fall rise
pub rises-from : {V : Type 0} (b end : ℕ) (pieces : List (DayRange × V)) → Ascends b pieces → Every (λ (piece : DayRange × V). Begins end piece.0) pieces → ((n : ℕ) → length (held_on pieces n) ≤ 1) → Rises b pieces
rises-from b end [] a e h = tt
rises-from b end (p ∷ []) a e h = (a.0, tt)
rises-from {V} b end (p ∷ q ∷ pieces) a e h =
    let low = a.1.0 in
    let fewer = λ (n : ℕ). less (holds p.0 n) (held_on (q ∷ pieces) n) p.1 (h n) in
    let apart : p.0.first + 1 ≤ q.0.first = elim (nat_lt p.0.first q.0.first) as (λ t. nat_lt p.0.first q.0.first ≡ t → p.0.first + 1 ≤ q.0.first) [
      | true ↦ λ t. grind (arith, nat_tests)
      | false ↦ λ t.
          let same : q.0.first ≡ p.0.first = let ge : q.0.first ≤ p.0.first = grind (arith, nat_tests) in omega arith in
          let hp : holds p.0 p.0.first ≡ true = e.0.2 in
          let hq : holds q.0 p.0.first ≡ true = ap (holds q.0) (sym same) ∙ e.1.0.2 in
          absurd (twice {V = V} (holds p.0 p.0.first) (holds q.0 p.0.first) (held_on pieces p.0.first) p.1 q.1 hp hq (h p.0.first))
    ] refl in
    (a.0, rises-from (p.0.first + 1) end (q ∷ pieces) (apart, a.1.1) e.1 fewer)

-- a sort by first day
insert-ascends : {V : Type 0} (b : ℕ) (p : DayRange × V) (pieces : List (DayRange × V)) → b ≤ p.0.first → Ascends b pieces → Ascends b (insert_by_first p pieces)
insert-ascends b p [] h a = (h, tt)
insert-ascends b p (q ∷ pieces) h a =
    elim (nat_lt p.0.first q.0.first) as (λ t. nat_lt p.0.first q.0.first ≡ t → Ascends b (if t then p ∷ q ∷ pieces else q ∷ insert_by_first p pieces)) [
      | true ↦ λ t. (h, (grind (arith, nat_tests), a.1))
      | false ↦ λ t. (a.0, insert-ascends q.0.first p pieces (grind (arith, nat_tests)) a.1)
    ] refl

pub sort-ascends : {V : Type 0} (pieces : List (DayRange × V)) → Ascends 0 (sort_by_first pieces)
sort-ascends [] = tt
sort-ascends (p ∷ pieces) = insert-ascends 0 p (sort_by_first pieces) (omega arith) (sort-ascends pieces)

insert-in : {V : Type 0} (x p : DayRange × V) (pieces : List (DayRange × V)) → In x (insert_by_first p pieces) → In x (p ∷ pieces)
insert-in x p [] i = i
insert-in x p (q ∷ pieces) i =
    elim (nat_lt p.0.first q.0.first) as (λ t. In x (if t then p ∷ q ∷ pieces else q ∷ insert_by_first p pieces) → In x (p ∷ q ∷ pieces)) [
      | true ↦ λ k. k
      | false ↦ λ k. elim k [ inl e ↦ inr (inl e) | inr j ↦ elim (insert-in x p pieces j) [ inl e ↦ inl e | inr m ↦ inr (inr m) ] ]
    ] i

in-insert : {V : Type 0} (x p : DayRange × V) (pieces : List (DayRange × V)) → In x (p ∷ pieces) → In x (insert_by_first p pieces)
in-insert x p [] i = i
in-insert x p (q ∷ pieces) i =
    elim (nat_lt p.0.first q.0.first) as (λ t. In x (if t then p ∷ q ∷ pieces else q ∷ insert_by_first p pieces)) [
      | true ↦ i
      | false ↦ elim i [ inl e ↦ inr (in-insert x p pieces (inl e)) | inr j ↦ elim j [ inl e ↦ inl e | inr m ↦ inr (in-insert x p pieces (inr m)) ] ]
    ]

pub sort-in : {V : Type 0} (x : DayRange × V) (pieces : List (DayRange × V)) → In x (sort_by_first pieces) → In x pieces
sort-in x [] i = i
sort-in x (p ∷ pieces) i = elim (insert-in x p (sort_by_first pieces) i) [ inl e ↦ inl e | inr j ↦ inr (sort-in x pieces j) ]

pub in-sort : {V : Type 0} (x : DayRange × V) (pieces : List (DayRange × V)) → In x pieces → In x (sort_by_first pieces)
in-sort x [] i = i
in-sort x (p ∷ pieces) i = in-insert x p (sort_by_first pieces) (elim i [ inl e ↦ inl e | inr j ↦ inr (in-sort x pieces j) ])

-- the order that a sort by key leaves
pub ascends-from : {V : Type 0} (b : ℕ) (pieces : List (DayRange × V)) → IsNonDecreasingBy (λ (piece : DayRange × V). piece.0.first) pieces → ((d : DayRange × V) → 0 < length pieces → b ≤ (get_or pieces 0 d).0.first) → Ascends b pieces
ascends-from b [] s h = tt
ascends-from b (p ∷ pieces) s h = (h p (omega arith), ascends-from p.0.first pieces (λ i j d a l. s (suc i) (suc j) d (omega arith) (omega arith)) (λ d l. s 0 1 d (omega arith) (omega arith)))

held-fold : {V : Type 0} (pieces : List (DayRange × V)) (n k : ℕ) → fold (λ a (piece : DayRange × V). a + (if holds piece.0 n then 1 else 0)) k pieces ≡ k + length (held_on pieces n)
held-fold [] n k = omega arith
held-fold (p ∷ pieces) n k = held-fold pieces n (k + (if holds p.0 n then 1 else 0)) ∙ one (holds p.0 n)
  where
    one : (b : Bool) → k + (if b then 1 else 0) + length (held_on pieces n) ≡ k + length (if b then p.1 ∷ held_on pieces n else held_on pieces n)
    one true = omega arith
    one false = omega arith

-- a permutation of pieces has as many pieces on each day
pub held-moved : {V : Type 0} (xs ys : List (DayRange × V)) (n : ℕ) → IsPermutation xs ys → length (held_on ys n) ≡ length (held_on xs n)
held-moved xs ys n h =
    let a = held-fold xs n 0 in let b = held-fold ys n 0 in
    let moved = sum_by-IsPermutation (λ (piece : DayRange × _). if holds piece.0 n then 1 else 0) xs ys h in
    omega arith

in-all : {X : Type 0} (P : X → Type 0) (x : X) (xs : List X) → All P xs → In x xs → P x
in-all P x [] a i = absurd i
in-all P x (y ∷ xs) a (inl e) = subst P (sym e) (a 0 y (omega arith))
in-all P x (y ∷ xs) a (inr i) = in-all P x xs (λ k d h. a (suc k) d (omega arith)) i

in-own : {X : Type 0} (xs : List X) (k : ℕ) (d : X) → k < length xs → In (get_or xs k d) xs
in-own [] k d h = absurd (omega arith)
in-own (x ∷ xs) zero d h = inl refl
in-own (x ∷ xs) (suc k) d h = inr (in-own xs k d (omega arith))

pub in-moved : {X : Type 0} (x : X) (xs ys : List X) → IsPermutation xs ys → In x ys → In x xs
in-moved x xs ys h i = in-all (λ y. In y xs) x ys (All-permutation (λ y. In y xs) xs ys h (λ k d l. in-own xs k d l)) i

pub every-all : {X : Type 0} (P : X → Type 0) (xs : List X) → All P xs → Every P xs
every-all P [] a = tt
every-all P (x ∷ xs) a = (a 0 x (omega arith), every-all P xs (λ k d h. a (suc k) d (omega arith)))
