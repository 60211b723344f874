-- On each day exactly one piece holds: exactly one of the distinct values is the day's, its cover
-- holds the day once, and sorting only moves pieces.
use Rattle.std.proofs.Common.{◌≡◌, ℕ, zero, suc, ◌-◌, ◌<◌, ◌≤◌, Bool, true, false, ◌||◌, if◌then◌else◌, nat_lt, List, [], ◌∷◌, ◌++◌, map, length, slice_index_or, filter, replicate, refl, ap, subst, ◌∙◌, sym, arith, ◌⊎◌, inl, inr, IsTrue, ◌↔◌}
use Rattle.std.proofs.Math.Bool.{or-false}
use Rattle.std.specs.List.{All, list_any, flat_map}
use Rattle.std.proofs.lemmas.List.Folds.{list_any_at}
use Rattle.ssim_values.specs.Period.{DayRange}
use Rattle.ssim_periods.specs.Calendar.{holds}
use Rattle.ssim_periods.specs.Cover.{break_after, cover_from, cover, holding}
use Rattle.ssim_periods.specs.Pieces.{has_value, values_of, pieces_with, insert_by_first, sort_by_first, pieces_of, held_on, alone, ArePieces}
use Rattle.ssim_periods.proofs.CoverLemmas.{le_or_lt, last_where-is, break_after-is, cover_from-step}
use Rattle.ssim_periods.proofs.CoverLaw.{cover_law, period_at-holds}

-- equality as a test
pub alike-self : {V : Type 0} (alike : V → V → Bool) → ((x y : V) → IsTrue (alike x y) ↔ (x ≡ y)) → (x : V) → alike x x ≡ true
alike-self alike exact x = (exact x x).1 refl

pub alike-turned : {V : Type 0} (alike : V → V → Bool) → ((x y : V) → IsTrue (alike x y) ↔ (x ≡ y)) → (x y : V) → alike x y ≡ alike y x
alike-turned alike exact x y =
    elim (alike x y) as (λ a. alike x y ≡ a → a ≡ alike y x) [
      | true ↦ λ e. sym ((exact y x).1 (sym ((exact x y).0 e)))
      | false ↦ λ e. elim (alike y x) as (λ b. alike y x ≡ b → false ≡ b) [
        | true ↦ λ f. sym e ∙ (exact x y).1 (sym ((exact y x).0 f))
        | false ↦ λ f. refl
      ] refl
    ] refl

-- whether a day has a value
pub has_value-at : {V : Type 0} (alike : V → V → Bool) (nothing : V) (days : List V) (v : V) (n : ℕ) → n < length days → has_value alike days v n ≡ alike v (slice_index_or days n nothing)
has_value-at alike nothing [] v n h = absurd (omega arith)
has_value-at alike nothing (d ∷ days) v zero h = or-false (alike v d)
has_value-at alike nothing (d ∷ days) v (suc n) h = has_value-at alike nothing days v n (omega arith)

pub has_value-past : {V : Type 0} (alike : V → V → Bool) (days : List V) (v : V) (n : ℕ) → length days ≤ n → has_value alike days v n ≡ false
has_value-past alike [] v n h = refl
has_value-past alike (d ∷ days) v zero h = absurd (omega arith)
has_value-past alike (d ∷ days) v (suc n) h = has_value-past alike days v n (omega arith)

pub index-past : {V : Type 0} (nothing : V) (days : List V) (n : ℕ) → length days ≤ n → slice_index_or days n nothing ≡ nothing
index-past nothing [] n h = refl
index-past nothing (d ∷ days) zero h = absurd (omega arith)
index-past nothing (d ∷ days) (suc n) h = index-past nothing days n (omega arith)

-- the pieces of one value
held_on-one : {V : Type 0} (v : V) (periods : List DayRange) (n : ℕ) → held_on (map (λ period. (period, v)) periods) n ≡ replicate (holding periods n) v
held_on-one v [] n = refl
held_on-one v (p ∷ periods) n =
    elim (holds p n) as (λ b. (if b then v ∷ held_on (map (λ period. (period, v)) periods) n else held_on (map (λ period. (period, v)) periods) n) ≡ replicate (if b then suc (holding periods n) else holding periods n) v) [
      | true ↦ ap (λ r. v ∷ r) (held_on-one v periods n)
      | false ↦ held_on-one v periods n
    ]

pub held_on-with : {V : Type 0} (alike : V → V → Bool) (days : List V) (v : V) (n : ℕ) → held_on (pieces_with alike days v) n ≡ (if has_value alike days v n then v ∷ [] else [])
held_on-with alike days v n =
    held_on-one v (cover (has_value alike days v) (length days)) n
    ∙ ap (λ k. replicate k v) (cover_law (has_value alike days v) (length days) (has_value-past alike days v) n)
    ∙ elim (has_value alike days v n) as (λ b. replicate (if b then 1 else 0) v ≡ (if b then v ∷ [] else [])) [ true ↦ refl | false ↦ refl ]

pub held_on-append : {V : Type 0} (xs ys : List (DayRange × V)) (n : ℕ) → held_on (xs ++ ys) n ≡ held_on xs n ++ held_on ys n
held_on-append [] ys n = refl
held_on-append (x ∷ xs) ys n =
    elim (holds x.0 n) as (λ b. (if b then x.1 ∷ held_on (xs ++ ys) n else held_on (xs ++ ys) n) ≡ (if b then x.1 ∷ held_on xs n else held_on xs n) ++ held_on ys n) [
      | true ↦ ap (λ r. x.1 ∷ r) (held_on-append xs ys n)
      | false ↦ held_on-append xs ys n
    ]

-- the pieces of several values
pub held_on-all : {V : Type 0} (alike : V → V → Bool) (days values : List V) (n : ℕ) → held_on (flat_map (pieces_with alike days) values) n ≡ filter (λ v. has_value alike days v n) values
held_on-all alike days [] n = refl
held_on-all alike days (v ∷ values) n =
    held_on-append (pieces_with alike days v) (flat_map (pieces_with alike days) values) n
    ∙ ap (λ r. r ++ held_on (flat_map (pieces_with alike days) values) n) (held_on-with alike days v n)
    ∙ ap (λ r. (if has_value alike days v n then v ∷ [] else []) ++ r) (held_on-all alike days values n)
    ∙ elim (has_value alike days v n) as (λ b. (if b then v ∷ [] else []) ++ filter (λ w. has_value alike days w n) values ≡ (if b then v ∷ filter (λ w. has_value alike days w n) values else filter (λ w. has_value alike days w n) values)) [ true ↦ refl | false ↦ refl ]

pub filter-same : {X : Type 0} (p q : X → Bool) (xs : List X) → ((x : X) → p x ≡ q x) → filter p xs ≡ filter q xs
filter-same p q [] h = refl
filter-same p q (x ∷ xs) h =
    ap (λ b. if b then x ∷ filter p xs else filter p xs) (h x) ∙ ap (λ r. if q x then x ∷ r else r) (filter-same p q xs h)

-- no value passes, so none is in the list
pub none_alike : {V : Type 0} (alike : V → V → Bool) → ((x y : V) → IsTrue (alike x y) ↔ (x ≡ y)) → (x : V) (values : List V) → filter (λ v. alike v x) values ≡ [] → list_any (alike x) values ≡ false
none_alike alike exact x [] h = refl
none_alike alike exact x (v ∷ values) h =
    elim (alike v x) as (λ b. alike v x ≡ b → (if b then v ∷ filter (λ v. alike v x) values else filter (λ v. alike v x) values) ≡ [] → (alike x v || list_any (alike x) values) ≡ false) [
      | true ↦ λ e k. cc
      | false ↦ λ e k. ap (λ b. b || list_any (alike x) values) (alike-turned alike exact x v ∙ e) ∙ none_alike alike exact x values k
    ] refl h

pub some_alike : {V : Type 0} (alike : V → V → Bool) → ((x y : V) → IsTrue (alike x y) ↔ (x ≡ y)) → (x : V) (values : List V) → list_any (alike x) values ≡ false → filter (λ v. alike v x) values ≡ []
some_alike alike exact x [] h = refl
some_alike alike exact x (v ∷ values) h =
    elim (alike x v) as (λ b. alike x v ≡ b → (b || list_any (alike x) values) ≡ false → (if alike v x then v ∷ filter (λ v. alike v x) values else filter (λ v. alike v x) values) ≡ []) [
      | true ↦ λ e k. cc
      | false ↦ λ e k. ap (λ b. if b then v ∷ filter (λ v. alike v x) values else filter (λ v. alike v x) values) (alike-turned alike exact v x ∙ e) ∙ some_alike alike exact x values k
    ] refl h

once-here : {V : Type 0} (alike : V → V → Bool) (nothing : V) → ((x y : V) → IsTrue (alike x y) ↔ (x ≡ y)) → (x : V) (days others : List V) → filter (λ v. alike v x) others ≡ (if list_any (alike x) days then alone alike nothing x else []) → filter (λ v. alike v x) (if alike x nothing || list_any (alike x) others then others else x ∷ others) ≡ alone alike nothing x
once-here {V} alike nothing exact x days others ih =
    elim (alike x nothing) as (λ a. ((list_any (alike x) days ≡ true) ⊎ (list_any (alike x) days ≡ false)) → filter (λ v. alike v x) others ≡ (if list_any (alike x) days then (if a then [] else x ∷ []) else []) → filter (λ v. alike v x) (if a || list_any (alike x) others then others else x ∷ others) ≡ (if a then [] else x ∷ [])) [
      | true ↦ λ m h. elim m [ inl found ↦ h ∙ ap (λ b. if b then [] else []) found | inr off ↦ h ∙ ap (λ b. if b then [] else []) off ]
      | false ↦ λ m h. elim (list_any (alike x) others) as (λ b. list_any (alike x) others ≡ b → filter (λ v. alike v x) (if b then others else x ∷ others) ≡ x ∷ []) [
        | true ↦ λ o. elim m [
          | inl found ↦ h ∙ ap (λ b. if b then x ∷ [] else []) found
          | inr off ↦ let gone = none_alike alike exact x others (h ∙ ap (λ b. if b then x ∷ [] else []) off) in cc
        ]
        | false ↦ λ o. ap (λ b. if b then x ∷ filter (λ v. alike v x) others else filter (λ v. alike v x) others) (alike-self alike exact x) ∙ ap (λ r. x ∷ r) (some_alike alike exact x others o)
      ] refl
    ] (known (list_any (alike x) days)) ih
  where
    known : (b : Bool) → (b ≡ true) ⊎ (b ≡ false)
    known true = inl refl
    known false = inr refl

-- exactly one of the distinct values is x, if a day has x and x is not empty
pub values_of-once : {V : Type 0} (alike : V → V → Bool) (nothing : V) → ((x y : V) → IsTrue (alike x y) ↔ (x ≡ y)) → (x : V) (days : List V) → filter (λ v. alike v x) (values_of alike nothing days) ≡ (if list_any (alike x) days then alone alike nothing x else [])
values_of-once alike nothing exact x [] = refl
values_of-once alike nothing exact x (v ∷ days) =
    let others = values_of alike nothing days in
    let ih = values_of-once alike nothing exact x days in
    elim (alike x v) as (λ b. alike x v ≡ b → filter (λ w. alike w x) (if alike v nothing || list_any (alike v) others then others else v ∷ others) ≡ (if b || list_any (alike x) days then alone alike nothing x else [])) [
      | true ↦ λ e. subst (λ w. filter (λ v. alike v x) (if alike w nothing || list_any (alike w) others then others else w ∷ others) ≡ alone alike nothing x) ((exact x v).0 e) (once-here alike nothing exact x days others ih)
      | false ↦ λ e. skipped x v others (alike v nothing || list_any (alike v) others) (alike-turned alike exact v x ∙ e) ∙ ih
    ] refl
  where
    skipped : (x v : _) (others : List _) (c : Bool) → alike v x ≡ false → filter (λ w. alike w x) (if c then others else v ∷ others) ≡ filter (λ w. alike w x) others
    skipped x v others true h = refl
    skipped x v others false h = ap (λ b. if b then v ∷ filter (λ w. alike w x) others else filter (λ w. alike w x) others) h

-- sorting keeps what holds a day, if that is at most one piece
held_on-insert : {V : Type 0} (p : DayRange × V) (pieces : List (DayRange × V)) (n : ℕ) → length (held_on (p ∷ pieces) n) ≤ 1 → held_on (insert_by_first p pieces) n ≡ held_on (p ∷ pieces) n
held_on-insert p [] n h = refl
held_on-insert p (q ∷ pieces) n h =
    elim (nat_lt p.0.first q.0.first) as (λ t. held_on (if t then p ∷ q ∷ pieces else q ∷ insert_by_first p pieces) n ≡ held_on (p ∷ q ∷ pieces) n) [
      | true ↦ refl
      | false ↦ two (holds p.0 n) (holds q.0 n) (held_on pieces n) h (held_on-insert p pieces n)
    ]
  where
    two : (hp hq : Bool) (rest : List _) → length (if hp then p.1 ∷ (if hq then q.1 ∷ rest else rest) else (if hq then q.1 ∷ rest else rest)) ≤ 1 → (length (if hp then p.1 ∷ rest else rest) ≤ 1 → held_on (insert_by_first p pieces) n ≡ (if hp then p.1 ∷ rest else rest)) → (if hq then q.1 ∷ held_on (insert_by_first p pieces) n else held_on (insert_by_first p pieces) n) ≡ (if hp then p.1 ∷ (if hq then q.1 ∷ rest else rest) else (if hq then q.1 ∷ rest else rest))
    two true true rest l ih = absurd (omega arith)
    two true false rest l ih = ih l
    two false true rest l ih = ap (λ r. q.1 ∷ r) (ih (omega arith))
    two false false rest l ih = ih l

pub held_on-sort : {V : Type 0} (pieces : List (DayRange × V)) (n : ℕ) → length (held_on pieces n) ≤ 1 → held_on (sort_by_first pieces) n ≡ held_on pieces n
held_on-sort [] n h = refl
held_on-sort (p ∷ pieces) n h =
    let fewer : length (held_on pieces n) ≤ 1 = less (holds p.0 n) h in
    let ih = held_on-sort pieces n fewer in
    let same : held_on (p ∷ sort_by_first pieces) n ≡ held_on (p ∷ pieces) n = ap (λ r. if holds p.0 n then p.1 ∷ r else r) ih in
    held_on-insert p (sort_by_first pieces) n (rw same h) ∙ same
  where
    less : (b : Bool) → length (if b then p.1 ∷ held_on pieces n else held_on pieces n) ≤ 1 → length (held_on pieces n) ≤ 1
    less true l = omega arith
    less false l = l

-- a fact of each element, by recursion
abbrev pub Every : {X : Type 0} → (X → Type 0) → List X → Type 0
Every P [] = Unit {0}
Every P (x ∷ xs) = P x × Every P xs

pub All-every : {X : Type 0} (P : X → Type 0) (xs : List X) → Every P xs → All P xs
All-every P [] e k d h = absurd (omega arith)
All-every P (x ∷ xs) e zero d h = e.0
All-every P (x ∷ xs) e (suc k) d h = All-every P xs e.1 k d (omega arith)

pub Every-append : {X : Type 0} (P : X → Type 0) (xs ys : List X) → Every P xs → Every P ys → Every P (xs ++ ys)
Every-append P [] ys a b = b
Every-append P (x ∷ xs) ys a b = (a.0, Every-append P xs ys a.1 b)

Every-insert : {V : Type 0} (P : DayRange × V → Type 0) (p : DayRange × V) (pieces : List (DayRange × V)) → P p → Every P pieces → Every P (insert_by_first p pieces)
Every-insert P p [] a b = (a, tt)
Every-insert P p (q ∷ pieces) a b = elim (nat_lt p.0.first q.0.first) as (λ t. Every P (if t then p ∷ q ∷ pieces else q ∷ insert_by_first p pieces)) [ true ↦ (a, b) | false ↦ (b.0, Every-insert P p pieces a b.1) ]

pub Every-sort : {V : Type 0} (P : DayRange × V → Type 0) (pieces : List (DayRange × V)) → Every P pieces → Every P (sort_by_first pieces)
Every-sort P [] e = tt
Every-sort P (p ∷ pieces) e = Every-insert P p (sort_by_first pieces) e.0 (Every-sort P pieces e.1)

-- a period of the days before the end that holds its own first day
abbrev pub Begins : ℕ → DayRange → Type 0
Begins end p = (p.first ≤ p.last) × (p.last < end) × (holds p p.first ≡ true)

pub cover_from-begins : (count : ℕ) (is_in : ℕ → Bool) (from end : ℕ) → Every (Begins end) (cover_from count is_in from end)
cover_from-begins zero is_in from end = tt
cover_from-begins (suc count) is_in from end =
    cover_from-step count is_in from end (Every (Begins end)) (λ none. tt) (λ a f.
    let after = break_after is_in a end in
    let lt = f.lt in
    let b = break_after-is is_in a end lt in let gt = b.0 in let le = b.1 in
    let l = last_where-is is_in a (after - a) f.own in let low = l.0 in let high = l.1 in (
      (low, omega arith, (period_at-holds is_in a end a lt f.own).1 (omega arith) gt ∙ f.own),
      cover_from-begins count is_in after end,
    ))

Every-paired : {V : Type 0} (end : ℕ) (v : V) (periods : List DayRange) → Every (Begins end) periods → Every (λ (piece : DayRange × V). Begins end piece.0) (map (λ period. (period, v)) periods)
Every-paired end v [] e = tt
Every-paired end v (p ∷ periods) e = (e.0, Every-paired end v periods e.1)

pub pieces_with-begins : {V : Type 0} (alike : V → V → Bool) (days : List V) (values : List V) → Every (λ (piece : DayRange × V). Begins (length days) piece.0) (flat_map (pieces_with alike days) values)
pieces_with-begins alike days [] = tt
pieces_with-begins {V} alike days (v ∷ values) =
    Every-append (λ (piece : DayRange × V). Begins (length days) piece.0) (pieces_with alike days v) (flat_map (pieces_with alike days) values)
    (Every-paired (length days) v (cover (has_value alike days v) (length days)) (cover_from-begins (length days) (has_value alike days v) 0 (length days)))
    (pieces_with-begins alike days values)

pub is-among : {V : Type 0} (alike : V → V → Bool) (nothing : V) → ((x y : V) → IsTrue (alike x y) ↔ (x ≡ y)) → (days : List V) (n : ℕ) → n < length days → list_any (alike (slice_index_or days n nothing)) days ≡ true
is-among alike nothing exact days n h = list_any_at (alike (slice_index_or days n nothing)) days n nothing h (alike-self alike exact (slice_index_or days n nothing))

pub filter-none : {X : Type 0} (p : X → Bool) (xs : List X) → ((x : X) → p x ≡ false) → filter p xs ≡ []
filter-none p [] h = refl
filter-none p (x ∷ xs) h = ap (λ b. if b then x ∷ filter p xs else filter p xs) (h x) ∙ filter-none p xs h

-- the pieces of the distinct values, in any order, hold each day as they should
pub held_on-values : {V : Type 0} (alike : V → V → Bool) (nothing : V) → ((x y : V) → IsTrue (alike x y) ↔ (x ≡ y)) → (days : List V) (n : ℕ) → held_on (flat_map (pieces_with alike days) (values_of alike nothing days)) n ≡ alone alike nothing (slice_index_or days n nothing)
held_on-values alike nothing exact days n =
    held_on-all alike days (values_of alike nothing days) n
    ∙ elim (le_or_lt (length days) n) [
      | inl past ↦ filter-none (λ v. has_value alike days v n) (values_of alike nothing days) (λ v. has_value-past alike days v n past)
          ∙ sym (ap (λ x. alone alike nothing x) (index-past nothing days n past) ∙ ap (λ b. if b then [] else nothing ∷ []) (alike-self alike exact nothing))
      | inr within ↦
          let x = slice_index_or days n nothing in
          filter-same (λ v. has_value alike days v n) (λ v. alike v x) (values_of alike nothing days) (λ v. has_value-at alike nothing days v n within)
          ∙ values_of-once alike nothing exact x days ∙ ap (λ b. if b then alone alike nothing x else []) (is-among alike nothing exact days n within)
    ]

pub alone-short : {V : Type 0} (alike : V → V → Bool) (nothing x : V) → length (alone alike nothing x) ≤ 1
alone-short alike nothing x = elim (alike x nothing) as (λ b. length (if b then [] else x ∷ []) ≤ 1) [ true ↦ omega arith | false ↦ omega arith ]

pub pieces_law : {V : Type 0} (alike : V → V → Bool) (nothing : V) → ((x y : V) → IsTrue (alike x y) ↔ (x ≡ y)) → (days : List V) → ArePieces alike nothing days (pieces_of alike nothing days)
pieces_law {V} alike nothing exact days =
    let all = flat_map (pieces_with alike days) (values_of alike nothing days) in
    record {
      on_each_day = λ n.
          let held = held_on-values alike nothing exact days n in
          held_on-sort all n (rw held (alone-short alike nothing (slice_index_or days n nothing))) ∙ held;
      each_begins = All-every (λ (piece : DayRange × V). Begins (length days) piece.0) (sort_by_first all)
          (Every-sort (λ (piece : DayRange × V). Begins (length days) piece.0) all (pieces_with-begins alike days (values_of alike nothing days)));
    }
