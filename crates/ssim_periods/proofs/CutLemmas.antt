-- A cut that is added changes no day.
use Rattle.std.specs.List.Sorted.{IsStrictlyIncreasing, IsNonDecreasingBy}
use Rattle.std.proofs.lemmas.List.Sorted.{IsNonDecreasingBy-from_all_adjacent}
use Rattle.ssim_periods.proofs.RowLemmas.{index-default}
use Rattle.std.proofs.Common.{zero, suc, ◌&&◌, slice_index_or, sym, ◌≡◌, ℕ, ◌+◌, ◌-◌, ◌<◌, ◌≤◌, true, false, if◌then◌else◌, nat_lt, nat_eq, List, [], ◌∷◌, ◌++◌, length, refl, ap, ◌∙◌, arith, add-one}
use Rattle.std.specs.List.{insert, All}
use Rattle.std.proofs.lemmas.Bool.Decides.{nat_tests}
use Rattle.ssim_periods.specs.internal.Rows.{place, row_on}
use Rattle.ssim_periods.specs.internal.Splits.{has_cut, with_cut, with_row}

-- if no cut is at the day, one is put in at its index
pub with_cut-insert : (cuts : List ℕ) (day : ℕ) → has_cut cuts day ≡ false → insert cuts (place cuts day) day ≡ with_cut cuts day
with_cut-insert [] day h = refl
with_cut-insert (cut ∷ cuts) day h =
    elim (nat_lt day cut) as (λ b. (if b then false else (if nat_eq cut day then true else has_cut cuts day)) ≡ false → insert (cut ∷ cuts) (if b then 0 else place cuts day + 1) day ≡ (if b then day ∷ cut ∷ cuts else (if nat_eq cut day then cut ∷ cuts else cut ∷ with_cut cuts day))) [
      | true ↦ λ _. refl
      | false ↦ elim (nat_eq cut day) as (λ e. (if e then true else has_cut cuts day) ≡ false → insert (cut ∷ cuts) (place cuts day + 1) day ≡ (if e then cut ∷ cuts else cut ∷ with_cut cuts day)) [
        | true ↦ λ k. cc
        | false ↦ λ k. rw add-one (ap (λ l. cut ∷ l) (with_cut-insert cuts day k))
      ]
    ] h

pub with_row-insert : {V : Type 0} (cuts : List ℕ) (day : ℕ) (row : V) (rows : List V) → length rows ≡ length cuts → has_cut cuts day ≡ false → insert rows (place cuts day) row ≡ with_row cuts day row rows
with_row-insert [] day row rows l h = refl
with_row-insert (cut ∷ cuts) day row [] l h = absurd (omega arith)
with_row-insert (cut ∷ cuts) day row (next ∷ rows) l h =
    elim (nat_lt day cut) as (λ b. (if b then false else (if nat_eq cut day then true else has_cut cuts day)) ≡ false → insert (next ∷ rows) (if b then 0 else place cuts day + 1) row ≡ (if b then row ∷ next ∷ rows else (if nat_eq cut day then next ∷ rows else next ∷ with_row cuts day row rows))) [
      | true ↦ λ _. refl
      | false ↦ elim (nat_eq cut day) as (λ e. (if e then true else has_cut cuts day) ≡ false → insert (next ∷ rows) (place cuts day + 1) row ≡ (if e then next ∷ rows else next ∷ with_row cuts day row rows)) [
        | true ↦ λ k. cc
        | false ↦ λ k. rw add-one (ap (λ r. next ∷ r) (with_row-insert cuts day row rows (omega arith) k))
      ]
    ] h

-- if a cut is at the day, nothing is added
pub with_cut-has : (cuts : List ℕ) (day : ℕ) → has_cut cuts day ≡ true → with_cut cuts day ≡ cuts
with_cut-has [] day h = cc
with_cut-has (cut ∷ cuts) day h =
    elim (nat_lt day cut) as (λ b. (if b then false else (if nat_eq cut day then true else has_cut cuts day)) ≡ true → (if b then day ∷ cut ∷ cuts else (if nat_eq cut day then cut ∷ cuts else cut ∷ with_cut cuts day)) ≡ cut ∷ cuts) [
      | true ↦ λ k. cc
      | false ↦ elim (nat_eq cut day) as (λ e. (if e then true else has_cut cuts day) ≡ true → (if e then cut ∷ cuts else cut ∷ with_cut cuts day) ≡ cut ∷ cuts) [
        | true ↦ λ k. refl
        | false ↦ λ k. ap (λ l. cut ∷ l) (with_cut-has cuts day k)
      ]
    ] h

pub with_row-has : {V : Type 0} (cuts : List ℕ) (day : ℕ) (row : V) (rows : List V) → length rows ≡ length cuts → has_cut cuts day ≡ true → with_row cuts day row rows ≡ rows
with_row-has [] day row rows l h = cc
with_row-has (cut ∷ cuts) day row [] l h = absurd (omega arith)
with_row-has (cut ∷ cuts) day row (next ∷ rows) l h =
    elim (nat_lt day cut) as (λ b. (if b then false else (if nat_eq cut day then true else has_cut cuts day)) ≡ true → (if b then row ∷ next ∷ rows else (if nat_eq cut day then next ∷ rows else next ∷ with_row cuts day row rows)) ≡ next ∷ rows) [
      | true ↦ λ k. cc
      | false ↦ elim (nat_eq cut day) as (λ e. (if e then true else has_cut cuts day) ≡ true → (if e then next ∷ rows else next ∷ with_row cuts day row rows) ≡ next ∷ rows) [
        | true ↦ λ k. refl
        | false ↦ λ k. ap (λ r. next ∷ r) (with_row-has cuts day row rows (omega arith) k)
      ]
    ] h

one : {X : Type 0} (before row rest : X) (n day cut : ℕ) → nat_lt day cut ≡ true → row ≡ before → (if nat_lt n day then before else (if nat_lt n cut then row else rest)) ≡ (if nat_lt n cut then before else rest)
one before row rest n day cut lt same = rw same (grind (arith, nat_tests))

-- a cut with a copy of its day's row changes no day
pub row_on-with_cut : {V : Type 0} (before : List V) (cuts : List ℕ) (rows : List (List V)) (day : ℕ) (row : List V) (n : ℕ) → length rows ≡ length cuts → (has_cut cuts day ≡ false → row ≡ row_on before cuts rows day) → row_on before (with_cut cuts day) (with_row cuts day row rows) n ≡ row_on before cuts rows n
row_on-with_cut before [] rows day row n l h = ap (λ r. if nat_lt n day then before else r) (h refl) ∙ grind arith
row_on-with_cut before (cut ∷ cuts) [] day row n l h = absurd (omega arith)
row_on-with_cut before (cut ∷ cuts) (next ∷ rows) day row n l h =
    elim (nat_lt day cut) as (λ b. nat_lt day cut ≡ b → ((if b then false else (if nat_eq cut day then true else has_cut cuts day)) ≡ false → row ≡ (if b then before else row_on next cuts rows day)) →
    row_on before (if b then day ∷ cut ∷ cuts else (if nat_eq cut day then cut ∷ cuts else cut ∷ with_cut cuts day)) (if b then row ∷ next ∷ rows else (if nat_eq cut day then next ∷ rows else next ∷ with_row cuts day row rows)) n ≡ (if nat_lt n cut then before else row_on next cuts rows n)) [
      | true ↦ λ lt k. one before row (row_on next cuts rows n) n day cut lt (k refl)
      | false ↦ λ ge. elim (nat_eq cut day) as (λ e. ((if e then true else has_cut cuts day) ≡ false → row ≡ row_on next cuts rows day) →
          row_on before (if e then cut ∷ cuts else cut ∷ with_cut cuts day) (if e then next ∷ rows else next ∷ with_row cuts day row rows) n ≡ (if nat_lt n cut then before else row_on next cuts rows n)) [
            | true ↦ λ k. refl
            | false ↦ λ k. ap (λ r. if nat_lt n cut then before else r) (row_on-with_cut next cuts rows day row n (omega arith) k)
          ]
    ] refl h

-- days before a new cut keep their index
pub place-with_cut-before : (cuts : List ℕ) (day n : ℕ) → n < day → place (with_cut cuts day) n ≡ place cuts n
place-with_cut-before [] day n h = grind (arith, nat_tests)
place-with_cut-before (cut ∷ cuts) day n h = let ih = place-with_cut-before cuts day n h in grind (arith, nat_tests)

-- days from a new cut on move together
pub place-with_cut-after : (cuts : List ℕ) (day n : ℕ) → day ≤ n → place (with_cut cuts day) n + place cuts day ≡ place cuts n + place (with_cut cuts day) day
place-with_cut-after [] day n h = grind (arith, nat_tests)
place-with_cut-after (cut ∷ cuts) day n h = let ih = place-with_cut-after cuts day n h in grind (arith, nat_tests)

-- a new cut separates the days before it from its own day
pub place-with_cut-at : (cuts : List ℕ) (day n : ℕ) → n < day → place (with_cut cuts day) n < place (with_cut cuts day) day
place-with_cut-at [] day n h = grind (arith, nat_tests)
place-with_cut-at (cut ∷ cuts) day n h = let ih = place-with_cut-at cuts day n h in grind (arith, nat_tests)

pub place-mono : (cuts : List ℕ) (m n : ℕ) → m ≤ n → place cuts m ≤ place cuts n
place-mono [] m n h = omega arith
place-mono (cut ∷ cuts) m n h = let ih = place-mono cuts m n h in grind (arith, nat_tests)

pub place-with_cut-self : (cuts : List ℕ) (day : ℕ) → 0 < place (with_cut cuts day) day
place-with_cut-self [] day = grind (arith, nat_tests)
place-with_cut-self (cut ∷ cuts) day = let ih = place-with_cut-self cuts day in grind (arith, nat_tests)

pub has_cut-with_cut : (cuts : List ℕ) (day other : ℕ) → day < other → has_cut (with_cut cuts day) other ≡ has_cut cuts other
has_cut-with_cut [] day other h = grind (arith, nat_tests)
has_cut-with_cut (cut ∷ cuts) day other h = let ih = has_cut-with_cut cuts day other h in grind (arith, nat_tests)

pub length-with_cut : (cuts : List ℕ) (day : ℕ) → length (with_cut cuts day) ≤ length cuts + 1
length-with_cut [] day = omega arith
length-with_cut (cut ∷ cuts) day = let ih = length-with_cut cuts day in grind (arith, nat_tests)

pub length-with_row : {V : Type 0} (cuts : List ℕ) (day : ℕ) (row : V) (rows : List V) → length rows ≡ length cuts → length (with_row cuts day row rows) ≡ length (with_cut cuts day)
length-with_row [] day row [] h = refl
length-with_row [] day row (next ∷ rows) h = absurd (omega arith)
length-with_row (cut ∷ cuts) day row [] h = absurd (omega arith)
length-with_row (cut ∷ cuts) day row (next ∷ rows) h = let ih = length-with_row cuts day row rows (omega arith) in grind (arith, nat_tests)

-- there is room for the rows of the period
pub room-for_period : (cuts : List ℕ) (first end : ℕ) → first < end → place (with_cut cuts first) first + place cuts (end - 1) < place (with_cut (with_cut cuts first) end) end + place cuts first
room-for_period cuts first end h =
    let a = place-with_cut-at (with_cut cuts first) end (end - 1) (omega arith) in
    let b = place-with_cut-before (with_cut cuts first) end (end - 1) (omega arith) in
    let c = place-with_cut-after cuts first (end - 1) (omega arith) in
    omega arith

-- cuts that rise, by recursion
abbrev pub Above : ℕ → List ℕ → Type 0
Above b [] = Unit {0}
Above b (cut ∷ cuts) = (b ≤ cut) × Above (cut + 1) cuts

Above-from : (cut : ℕ) (cuts : List ℕ) → IsStrictlyIncreasing (cut ∷ cuts) → Above (cut + 1) cuts
Above-from cut [] h = tt
Above-from cut (next ∷ cuts) h = (let k = h 0 (omega arith) in omega arith, Above-from next cuts (λ k l. let f = rw add-one at (h (suc k) (omega arith)) in rw add-one f))

pub Above-all : (cuts : List ℕ) → IsStrictlyIncreasing cuts → Above 0 cuts
Above-all [] h = tt
Above-all (cut ∷ cuts) h = (omega arith, Above-from cut cuts h)

rising-from : (b : ℕ) (cuts : List ℕ) → Above b cuts → IsStrictlyIncreasing cuts
rising-from b [] h k l = absurd (omega arith)
rising-from b (cut ∷ []) h k l = absurd (omega arith)
rising-from b (cut ∷ next ∷ cuts) h zero l = let n = h.1.0 in omega arith
rising-from b (cut ∷ next ∷ cuts) h (suc k) l = let f = rw add-one at (rising-from (cut + 1) (next ∷ cuts) h.1 k (omega arith)) in rw add-one f

Above-with_cut : (b : ℕ) (cuts : List ℕ) (day : ℕ) → Above b cuts → b ≤ day → Above b (with_cut cuts day)
Above-with_cut b [] day a h = (h, tt)
Above-with_cut b (cut ∷ cuts) day a h =
    elim (nat_lt day cut) as (λ t. nat_lt day cut ≡ t → Above b (if t then day ∷ cut ∷ cuts else (if nat_eq cut day then cut ∷ cuts else cut ∷ with_cut cuts day))) [
      | true ↦ λ lt. (h, (grind (arith, nat_tests), a.1))
      | false ↦ λ ge. elim (nat_eq cut day) as (λ t. nat_eq cut day ≡ t → Above b (if t then cut ∷ cuts else cut ∷ with_cut cuts day)) [
        | true ↦ λ e. a
        | false ↦ λ ne. (a.0, Above-with_cut (cut + 1) cuts day a.1 (grind (arith, nat_tests)))
      ] refl
    ] refl

pub rising-with_cut : (cuts : List ℕ) (day : ℕ) → IsStrictlyIncreasing cuts → IsStrictlyIncreasing (with_cut cuts day)
rising-with_cut cuts day h = rising-from 0 (with_cut cuts day) (Above-with_cut 0 cuts day (Above-all cuts h) (omega arith))

pub place-low : (b : ℕ) (cuts : List ℕ) → Above (b + 1) cuts → place cuts b ≡ 0
place-low b [] h = refl
place-low b (cut ∷ cuts) h = let l = h.0 in grind (arith, nat_tests)

has_cut-from : (b : ℕ) (cuts : List ℕ) (day : ℕ) → Above b cuts → has_cut cuts day ≡ (nat_lt 0 (place cuts day) && nat_eq (slice_index_or cuts (place cuts day - 1) 0) day)
has_cut-from b [] day a = refl
has_cut-from b (cut ∷ cuts) day a =
    elim (nat_lt day cut) as (λ t. nat_lt day cut ≡ t → (if t then false else (if nat_eq cut day then true else has_cut cuts day)) ≡ (nat_lt 0 (if t then 0 else place cuts day + 1) && nat_eq (slice_index_or (cut ∷ cuts) ((if t then 0 else place cuts day + 1) - 1) 0) day)) [
      | true ↦ λ e. refl
      | false ↦ λ e. elim (nat_eq cut day) as (λ t. nat_eq cut day ≡ t → (if t then true else has_cut cuts day) ≡ (nat_lt 0 (place cuts day + 1) && nat_eq (slice_index_or (cut ∷ cuts) (place cuts day + 1 - 1) 0) day)) [
        | true ↦ λ f. let same : cut ≡ day = grind (arith, nat_tests) in let low : place cuts day ≡ 0 = ap (place cuts) (sym same) ∙ place-low cut cuts a.1 in sym (ap (λ p. nat_lt 0 (p + 1) && nat_eq (slice_index_or (cut ∷ cuts) (p + 1 - 1) 0) day) low ∙ f)
        | false ↦ λ f. has_cut-from (cut + 1) cuts day a.1 ∙ later (place cuts day) f
      ] refl
    ] refl
  where
    later : (p : ℕ) → nat_eq cut day ≡ false → (nat_lt 0 p && nat_eq (slice_index_or cuts (p - 1) 0) day) ≡ (nat_lt 0 (p + 1) && nat_eq (slice_index_or (cut ∷ cuts) (p + 1 - 1) 0) day)
    later zero f = sym f
    later (suc p) f = let one : suc p + 1 - 1 ≡ suc p = omega arith in let back : suc p - 1 ≡ p = omega arith in let yes : nat_lt 0 (suc p + 1) ≡ true = grind (arith, nat_tests) in let yes' : nat_lt 0 (suc p) ≡ true = grind (arith, nat_tests) in
        ap (λ b. b && nat_eq (slice_index_or cuts (suc p - 1) 0) day) yes' ∙ ap (λ i. nat_eq (slice_index_or cuts i 0) day) back ∙ sym (ap (λ b. b && nat_eq (slice_index_or (cut ∷ cuts) (suc p + 1 - 1) 0) day) yes ∙ ap (λ i. nat_eq (slice_index_or (cut ∷ cuts) i 0) day) one)

-- a day is a cut if the cut before its row is this day
pub has_cut-place : (cuts : List ℕ) (day p : ℕ) → IsStrictlyIncreasing cuts → p ≡ place cuts day → has_cut cuts day ≡ (nat_lt 0 p && nat_eq (slice_index_or cuts (p - 1) 0) day)
has_cut-place cuts day p h e = has_cut-from 0 cuts day (Above-all cuts h) ∙ ap (λ q. nat_lt 0 q && nat_eq (slice_index_or cuts (q - 1) 0) day) (sym e)

-- the index between the cuts that are not after the day and those that are
pub place-between : (cuts : List ℕ) (day p : ℕ) → p ≤ length cuts → ((k : ℕ) → k < p → slice_index_or cuts k 0 ≤ day) → (p < length cuts → day < slice_index_or cuts p 0) → place cuts day ≡ p
place-between [] day p l low high = omega arith
place-between (cut ∷ cuts) day zero l low high = let lt : day < cut = high (omega arith) in grind (arith, nat_tests)
place-between (cut ∷ cuts) day (suc p) l low high =
    let le : cut ≤ day = low 0 (omega arith) in
    let no : nat_lt day cut ≡ false = grind (arith, nat_tests) in
    ap (λ b. if b then 0 else place cuts day + 1) no ∙ ap (λ q. q + 1) (place-between cuts day p (omega arith) (λ k h. low (suc k) (omega arith)) (λ h. high (omega arith))) ∙ next
  where
    next : p + 1 ≡ suc p
    next = omega arith

pub non_decreasing : (cuts : List ℕ) → IsStrictlyIncreasing cuts → IsNonDecreasingBy (λ cut. cut) cuts
non_decreasing cuts h = IsNonDecreasingBy-from_all_adjacent (λ cut. cut) cuts (λ k d l. let f = h k l in let a = index-default cuts k d 0 (omega arith) in let b = index-default cuts (k + 1) d 0 l in omega arith)

-- ---- cuts on one side of a day

pub rising-to : (cuts : List ℕ) (k j : ℕ) → IsStrictlyIncreasing cuts → k + j < length cuts → slice_index_or cuts k 0 ≤ slice_index_or cuts (k + j) 0
rising-to cuts k zero h l = let e : k + 0 ≡ k = omega arith in let f = ap (λ i. slice_index_or cuts i 0) e in omega arith
rising-to cuts k (suc j) h l =
    let ih = rising-to cuts k j h (omega arith) in let s = h (k + j) (omega arith) in
    let e : k + suc j ≡ k + j + 1 = omega arith in let f = ap (λ i. slice_index_or cuts i 0) e in omega arith

-- no cut is before the first one
pub from-first : (cuts : List ℕ) → IsStrictlyIncreasing cuts → All (λ cut. slice_index_or cuts 0 0 ≤ cut) cuts
from-first cuts h k d l =
    let e : 0 + k ≡ k = omega arith in let f = ap (λ i. slice_index_or cuts i 0) e in
    let r = rising-to cuts 0 k h (omega arith) in let g = index-default cuts k d 0 l in omega arith

-- no cut is after the last one
pub upto-last : (cuts : List ℕ) → IsStrictlyIncreasing cuts → All (λ cut. cut ≤ slice_index_or cuts (length cuts - 1) 0) cuts
upto-last cuts h k d l =
    let e : k + (length cuts - 1 - k) ≡ length cuts - 1 = omega arith in let f = ap (λ i. slice_index_or cuts i 0) e in
    let r = rising-to cuts k (length cuts - 1 - k) h (omega arith) in let g = index-default cuts k d 0 l in omega arith

Above-push : (b : ℕ) (cuts : List ℕ) (day : ℕ) → Above b cuts → All (λ cut. cut < day) cuts → b ≤ day → Above b (cuts ++ day ∷ [])
Above-push b [] day a all h = (h, tt)
Above-push b (cut ∷ cuts) day a all h =
    let lt : cut < day = all 0 0 (omega arith) in
    (a.0, Above-push (cut + 1) cuts day a.1 (λ k d l. all (suc k) d (omega arith)) (omega arith))

-- a cut after all cuts is the last of the rising cuts
pub rising-push : (cuts : List ℕ) (day : ℕ) → IsStrictlyIncreasing cuts → All (λ cut. cut < day) cuts → IsStrictlyIncreasing (cuts ++ day ∷ [])
rising-push cuts day h all = rising-from 0 (cuts ++ day ∷ []) (Above-push 0 cuts day (Above-all cuts h) all (omega arith))
