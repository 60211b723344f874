-- The pieces of the collected values, sorted, equal the pieces of the definition: both are the same
-- pieces, and no day is in two pieces.
use Rattle.std.proofs.Common.{◌≡◌, ℕ, zero, suc, ◌<◌, ◌≤◌, Bool, true, false, ◌||◌, if◌then◌else◌, List, [], ◌∷◌, ◌++◌, length, slice_index_or, filter, refl, ap, subst, ◌∙◌, sym, arith, ◌⊎◌, inl, inr, IsTrue, ◌↔◌}
use Rattle.std.proofs.Math.Bool.{or-true}
use Rattle.std.specs.List.{list_any, flat_map}
use Rattle.std.specs.List.Sorted.{IsPermutation, IsNonDecreasingBy}
use Rattle.std.proofs.lemmas.List.Sorted.{All-permutation, IsPermutation-sym}
use Rattle.std.proofs.lemmas.List.Folds.{list_any_at, list_any-append}
use Rattle.std.proofs.lemmas.List.Elements.{filter-append}
use Rattle.ssim_values.specs.Period.{DayRange}
use Rattle.ssim_periods.specs.Calendar.{holds}
use Rattle.ssim_values.specs.Calendar.{slot}
use Rattle.ssim_periods.specs.Days.{each_day}
use Rattle.ssim_periods.specs.internal.Gather.{gathered}
use Rattle.ssim_periods.specs.Pieces.{has_value, values_of, pieces_with, sort_by_first, pieces_of, held_on, alone}
use Rattle.ssim_periods.specs.internal.Rows.{place, row_on, value_on, AreRows}
use Rattle.ssim_periods.proofs.DayLemmas.{length-each_day, index-each_day}
use Rattle.ssim_periods.proofs.RowLemmas.{place-le, row_on-place, row_on-week, slot-lt}
use Rattle.ssim_periods.proofs.CoverLemmas.{le_or_lt}
use Rattle.ssim_periods.proofs.PieceLaw.{alike-self, alike-turned, has_value-at, has_value-past, held_on-with, held_on-all, held_on-sort, values_of-once, none_alike, some_alike, filter-same, filter-none, is-among, alone-short, Every, Every-sort, All-every, Begins, pieces_with-begins}
use Rattle.ssim_periods.proofs.PieceOrder.{In, same-pieces, rises-from, sort-ascends, sort-in, in-sort, ascends-from, held-moved, in-moved, every-all}

-- each collected value is collected once
gathered-kept : {V : Type 0} (alike : V → V → Bool) (nothing : V) → ((x y : V) → IsTrue (alike x y) ↔ (x ≡ y)) → (x : V) (known values : List V) → filter (λ v. alike v x) known ≡ x ∷ [] → filter (λ v. alike v x) (gathered alike nothing known values) ≡ x ∷ []
gathered-kept alike nothing exact x known [] h = h
gathered-kept {V} alike nothing exact x known (v ∷ values) h =
    gathered-kept alike nothing exact x (if alike v nothing || list_any (alike v) known then known else known ++ v ∷ []) values
    (elim (alike v nothing || list_any (alike v) known) as (λ b. (alike v nothing || list_any (alike v) known) ≡ b → filter (λ w. alike w x) (if b then known else known ++ v ∷ []) ≡ x ∷ []) [
      | true ↦ λ e. h
      | false ↦ λ e. filter-append (λ w. alike w x) known (v ∷ []) ∙ elim (alike v x) as (λ b. alike v x ≡ b → filter (λ w. alike w x) known ++ (if b then v ∷ [] else []) ≡ x ∷ []) [
        | true ↦ λ f.
            let fresh : list_any (alike x) known ≡ false = ap (λ w. list_any (alike w) known) (sym ((exact v x).0 f)) ∙ or-right (alike v nothing) (list_any (alike v) known) e in
            let gone = some_alike alike exact x known fresh in cc
        | false ↦ λ f. ap (λ r. r ++ []) h
      ] refl
    ] refl)
  where
    or-right : (a b : Bool) → (a || b) ≡ false → b ≡ false
    or-right true b h = cc
    or-right false b h = h

gathered-new : {V : Type 0} (alike : V → V → Bool) (nothing : V) → ((x y : V) → IsTrue (alike x y) ↔ (x ≡ y)) → (x : V) (known values : List V) → alike x nothing ≡ false → filter (λ v. alike v x) known ≡ [] → list_any (alike x) values ≡ true → filter (λ v. alike v x) (gathered alike nothing known values) ≡ x ∷ []
gathered-new alike nothing exact x known [] some h i = cc
gathered-new alike nothing exact x known (v ∷ values) some h i =
    elim (alike x v) as (λ b. alike x v ≡ b → (b || list_any (alike x) values) ≡ true → filter (λ w. alike w x) (gathered alike nothing (if alike v nothing || list_any (alike v) known then known else known ++ v ∷ []) values) ≡ x ∷ []) [
      | true ↦ λ e k.
          let same = (exact x v).0 e in
          let new : (alike v nothing || list_any (alike v) known) ≡ false = ap (λ w. alike w nothing || list_any (alike w) known) (sym same) ∙ ap (λ b. b || list_any (alike x) known) some ∙ none_alike alike exact x known h in
          let own : alike v x ≡ true = alike-turned alike exact v x ∙ e in
          ap (λ b. filter (λ w. alike w x) (gathered alike nothing (if b then known else known ++ v ∷ []) values)) new
          ∙ gathered-kept alike nothing exact x (known ++ v ∷ []) values
          (filter-append (λ w. alike w x) known (v ∷ []) ∙ ap (λ r. r ++ filter (λ w. alike w x) (v ∷ [])) h ∙ ap (λ b. if b then v ∷ [] else []) own ∙ ap (λ w. w ∷ []) (sym same))
      | false ↦ λ e k.
          let other : alike v x ≡ false = alike-turned alike exact v x ∙ e in
          gathered-new alike nothing exact x (if alike v nothing || list_any (alike v) known then known else known ++ v ∷ []) values some
          (elim (alike v nothing || list_any (alike v) known) as (λ b. filter (λ w. alike w x) (if b then known else known ++ v ∷ []) ≡ []) [
            | true ↦ h
            | false ↦ filter-append (λ w. alike w x) known (v ∷ []) ∙ ap (λ r. r ++ filter (λ w. alike w x) (v ∷ [])) h ∙ ap (λ b. if b then v ∷ [] else []) other
          ]) k
    ] refl i

gathered-empty : {V : Type 0} (alike : V → V → Bool) (nothing : V) → ((x y : V) → IsTrue (alike x y) ↔ (x ≡ y)) → (x : V) (known values : List V) → x ≡ nothing → filter (λ v. alike v x) known ≡ [] → filter (λ v. alike v x) (gathered alike nothing known values) ≡ []
gathered-empty alike nothing exact x known [] some h = h
gathered-empty alike nothing exact x known (v ∷ values) is h =
    gathered-empty alike nothing exact x (if alike v nothing || list_any (alike v) known then known else known ++ v ∷ []) values is
    (elim (alike v nothing) as (λ a. alike v nothing ≡ a → filter (λ w. alike w x) (if a || list_any (alike v) known then known else known ++ v ∷ []) ≡ []) [
      | true ↦ λ e. h
      | false ↦ λ e. elim (list_any (alike v) known) as (λ b. filter (λ w. alike w x) (if b then known else known ++ v ∷ []) ≡ []) [
        | true ↦ h
        | false ↦ filter-append (λ w. alike w x) known (v ∷ []) ∙ ap (λ r. r ++ filter (λ w. alike w x) (v ∷ [])) h ∙ ap (λ b. if b then v ∷ [] else []) (ap (alike v) is ∙ e)
      ]
    ] refl)

pub gathered-once : {V : Type 0} (alike : V → V → Bool) (nothing : V) → ((x y : V) → IsTrue (alike x y) ↔ (x ≡ y)) → (x : V) (values : List V) → list_any (alike x) values ≡ true → filter (λ v. alike v x) (gathered alike nothing [] values) ≡ alone alike nothing x
gathered-once alike nothing exact x values i =
    elim (alike x nothing) as (λ a. alike x nothing ≡ a → filter (λ v. alike v x) (gathered alike nothing [] values) ≡ (if a then [] else x ∷ [])) [
      | true ↦ λ e. gathered-empty alike nothing exact x [] values ((exact x nothing).0 e) refl
      | false ↦ λ e. gathered-new alike nothing exact x [] values e refl i
    ] refl

-- the values of rows have each row's
any-flat : {V : Type 0} (test : V → Bool) (rows : List (List V)) (k : ℕ) (d : List V) → k < length rows → list_any test (slice_index_or rows k d) ≡ true → list_any test (flat_map (λ row. row) rows) ≡ true
any-flat test [] k d h i = absurd (omega arith)
any-flat test (row ∷ rows) zero d h i = list_any-append test row (flat_map (λ row. row) rows) ∙ ap (λ b. b || list_any test (flat_map (λ row. row) rows)) i
any-flat test (row ∷ rows) (suc k) d h i = list_any-append test row (flat_map (λ row. row) rows) ∙ ap (λ b. list_any test row || b) (any-flat test rows k d (omega arith) i) ∙ or-true (list_any test row)

-- a day's value is one of the rows'
in_rows : {V : Type 0} (alike : V → V → Bool) (nothing : V) → ((x y : V) → IsTrue (alike x y) ↔ (x ≡ y)) → (before : List V) (cuts : List ℕ) (rows : List (List V)) (n : ℕ) → AreRows before cuts rows → list_any (alike (value_on nothing before cuts rows n)) (flat_map (λ row. row) (before ∷ rows)) ≡ true
in_rows alike nothing exact before cuts rows n r =
    let row = row_on before cuts rows n in
    let x = slice_index_or row (slot n) nothing in
    let at = place-le cuts n in let count = r.row_count in
    any-flat (alike x) (before ∷ rows) (place cuts n) before (omega arith)
    (ap (list_any (alike x)) (sym (row_on-place before cuts rows n before r.row_count))
    ∙ list_any_at (alike x) row (slot n) nothing (rw (row_on-week before cuts rows n r) (slot-lt n)) (alike-self alike exact x))

pub in-append : {X : Type 0} (x : X) (xs ys : List X) → In x (xs ++ ys) → In x xs ⊎ In x ys
in-append x [] ys i = inr i
in-append x (y ∷ xs) ys (inl e) = inl (inl e)
in-append x (y ∷ xs) ys (inr i) = elim (in-append x xs ys i) [ inl j ↦ inl (inr j) | inr j ↦ inr j ]

append-in : {X : Type 0} (x : X) (xs ys : List X) → In x xs ⊎ In x ys → In x (xs ++ ys)
append-in x [] ys (inl i) = absurd i
append-in x [] ys (inr i) = i
append-in x (y ∷ xs) ys (inl i) = elim i [ inl e ↦ inl e | inr j ↦ inr (append-in x xs ys (inl j)) ]
append-in x (y ∷ xs) ys (inr i) = inr (append-in x xs ys (inr i))

in-flat : {X Y : Type 0} (f : X → List Y) (y : Y) (xs : List X) → In y (flat_map f xs) → (x : X) × In x xs × In y (f x)
in-flat f y [] i = absurd i
in-flat f y (x ∷ xs) i = elim (in-append y (f x) (flat_map f xs) i) [ inl j ↦ (x, inl refl, j) | inr j ↦ let k = in-flat f y xs j in (k.0, inr k.1, k.2) ]

flat-in : {X Y : Type 0} (f : X → List Y) (y : Y) (x : X) (xs : List X) → In x xs → In y (f x) → In y (flat_map f xs)
flat-in f y x [] i j = absurd i
flat-in f y x (z ∷ xs) (inl e) j = append-in y (f z) (flat_map f xs) (inl (subst (λ w. In y (f w)) e j))
flat-in f y x (z ∷ xs) (inr i) j = append-in y (f z) (flat_map f xs) (inr (flat-in f y x xs i j))

in-filter : {X : Type 0} (p : X → Bool) (x : X) (xs : List X) → p x ≡ true → In x xs → In x (filter p xs)
in-filter p x [] h i = i
in-filter p x (y ∷ xs) h (inl e) = let own : p y ≡ true = ap p (sym e) ∙ h in subst (λ b. In x (if b then y ∷ filter p xs else filter p xs)) (sym own) (inl e)
in-filter p x (y ∷ xs) h (inr i) = elim (p y) as (λ b. In x (if b then y ∷ filter p xs else filter p xs)) [ true ↦ inr (in-filter p x xs h i) | false ↦ in-filter p x xs h i ]

filter-in : {X : Type 0} (p : X → Bool) (x : X) (xs : List X) → In x (filter p xs) → In x xs
filter-in p x [] i = i
filter-in p x (y ∷ xs) i = elim (p y) as (λ b. In x (if b then y ∷ filter p xs else filter p xs) → In x (y ∷ xs)) [ true ↦ λ k. elim k [ inl e ↦ inl e | inr j ↦ inr (filter-in p x xs j) ] | false ↦ λ k. inr (filter-in p x xs k) ] i

in-held : {V : Type 0} (p : DayRange × V) (pieces : List (DayRange × V)) (n : ℕ) → holds p.0 n ≡ true → In p pieces → In p.1 (held_on pieces n)
in-held p [] n h i = i
in-held p (q ∷ pieces) n h (inl e) = let own : holds q.0 n ≡ true = ap (λ r. holds r.0 n) (sym e) ∙ h in subst (λ b. In p.1 (if b then q.1 ∷ held_on pieces n else held_on pieces n)) (sym own) (inl (ap (λ r. r.1) e))
in-held p (q ∷ pieces) n h (inr i) = elim (holds q.0 n) as (λ b. In p.1 (if b then q.1 ∷ held_on pieces n else held_on pieces n)) [ true ↦ inr (in-held p pieces n h i) | false ↦ in-held p pieces n h i ]

in-every : {X : Type 0} (P : X → Type 0) (x : X) (xs : List X) → Every P xs → In x xs → P x
in-every P x [] e i = absurd i
in-every P x (y ∷ xs) e (inl s) = subst P (sym s) e.0
in-every P x (y ∷ xs) e (inr i) = in-every P x xs e.1 i

-- a piece of a value begins on a day that has it
begins-on : {V : Type 0} (alike : V → V → Bool) (nothing : V) (days : List V) (v : V) (p : DayRange × V) → In p (pieces_with alike days v) → (p.0.first < length days) × (alike v (slice_index_or days p.0.first nothing) ≡ true)
begins-on {V} alike nothing days v p i =
    let begins = pieces_with-begins alike days (v ∷ []) in
    let b = in-every (λ (piece : DayRange × V). Begins (length days) piece.0) p (pieces_with alike days v ++ []) begins (append-in p (pieces_with alike days v) [] (inl i)) in
    let low = b.0 in let high = b.1 in
    let within : p.0.first < length days = omega arith in
    let held : In p.1 (if has_value alike days v p.0.first then v ∷ [] else []) = subst (In p.1) (held_on-with alike days v p.0.first) (in-held p (pieces_with alike days v) p.0.first b.2 i) in
    (within, sym (has_value-at alike nothing days v p.0.first within) ∙ is (has_value alike days v p.0.first) held)
  where
    is : (b : Bool) → In p.1 (if b then v ∷ [] else []) → b ≡ true
    is true k = refl
    is false k = absurd k

-- two lists that have the same values on each day have the same pieces
pieces-among : {V : Type 0} (alike : V → V → Bool) (nothing : V) (days : List V) (vs ws : List V) → ((n : ℕ) → n < length days → filter (λ v. alike v (slice_index_or days n nothing)) vs ≡ filter (λ v. alike v (slice_index_or days n nothing)) ws) → (p : DayRange × V) → In p (flat_map (pieces_with alike days) vs) → In p (flat_map (pieces_with alike days) ws)
pieces-among {V} alike nothing days vs ws same p i =
    let f = in-flat (pieces_with alike days) p vs i in
    let b = begins-on alike nothing days f.0 p f.2 in
    let test = λ (v : V). alike v (slice_index_or days p.0.first nothing) in
    flat-in (pieces_with alike days) p f.0 ws (filter-in test f.0 ws (subst (In f.0) (same p.0.first b.0) (in-filter test f.0 vs b.1 f.1))) f.2

-- pieces of distinct values give no day two pieces
short : {V : Type 0} (alike : V → V → Bool) (nothing : V) (days : List V) (vs : List V) → ((n : ℕ) → n < length days → filter (λ v. alike v (slice_index_or days n nothing)) vs ≡ alone alike nothing (slice_index_or days n nothing)) → (n : ℕ) → length (held_on (flat_map (pieces_with alike days) vs) n) ≤ 1
short alike nothing days vs once n =
    rw (held_on-all alike days vs n)
    (elim (le_or_lt (length days) n) [
      | inl past ↦ let none = ap length (filter-none (λ v. has_value alike days v n) vs (λ v. has_value-past alike days v n past)) in omega arith
      | inr within ↦
          let same = ap length (filter-same (λ v. has_value alike days v n) (λ v. alike v (slice_index_or days n nothing)) vs (λ v. has_value-at alike nothing days v n within) ∙ once n within) in
          let few = alone-short alike nothing (slice_index_or days n nothing) in omega arith
    ])

-- the pieces of values of which exactly one is the day's, or none if the day has none
pub pieces-once : {V : Type 0} (alike : V → V → Bool) (nothing : V) → ((x y : V) → IsTrue (alike x y) ↔ (x ≡ y)) → (days values : List V) (pieces sorted : List (DayRange × V)) →
    ((n : ℕ) → n < length days → filter (λ v. alike v (slice_index_or days n nothing)) values ≡ alone alike nothing (slice_index_or days n nothing)) → pieces ≡ flat_map (pieces_with alike days) values → IsPermutation pieces sorted → IsNonDecreasingBy (λ (piece : DayRange × V). piece.0.first) sorted → sorted ≡ pieces_of alike nothing days
pieces-once {V} alike nothing exact days values pieces sorted once pieces_are moved order =
    let others = values_of alike nothing days in
    let day = λ (n : ℕ). slice_index_or days n nothing in
    let once' = λ (n : ℕ) (h : n < length days). values_of-once alike nothing exact (day n) days ∙ ap (λ b. if b then alone alike nothing (day n) else []) (is-among alike nothing exact days n h) in
    let all = flat_map (pieces_with alike days) others in
    let found = flat_map (pieces_with alike days) values in
    let few : (n : ℕ) → length (held_on sorted n) ≤ 1 = λ n. let m = held-moved pieces sorted n moved in let s = short alike nothing days values once n in let e = ap (λ ps. length (held_on ps n)) pieces_are in omega arith in
    let few' : (n : ℕ) → length (held_on (sort_by_first all) n) ≤ 1 = λ n. let s = short alike nothing days others once' n in rw (held_on-sort all n s) s in
    let P = λ (piece : DayRange × V). Begins (length days) piece.0 in
    let begins : Every P sorted = every-all P sorted (All-permutation P pieces sorted moved (All-every P pieces (subst (Every P) (sym pieces_are) (pieces_with-begins alike days values)))) in
    let begins' : Every P (sort_by_first all) = Every-sort P all (pieces_with-begins alike days others) in
    same-pieces 0 0 sorted (sort_by_first all)
    (rises-from 0 (length days) sorted (ascends-from 0 sorted order (λ d h. omega arith)) begins few)
    (rises-from 0 (length days) (sort_by_first all) (sort-ascends all) begins' few')
    (λ p i. in-sort p all (pieces-among alike nothing days values others (λ n h. once n h ∙ sym (once' n h)) p (subst (In p) pieces_are (in-moved p pieces sorted moved i))))
    (λ p i. in-moved p sorted pieces (IsPermutation-sym pieces sorted moved) (subst (In p) (sym pieces_are) (pieces-among alike nothing days others values (λ n h. once' n h ∙ sym (once n h)) p (sort-in p all i))))

pub pieces-found : {V : Type 0} (alike : V → V → Bool) (nothing : V) → ((x y : V) → IsTrue (alike x y) ↔ (x ≡ y)) → (before : List V) (cuts : List ℕ) (rows : List (List V)) (days values : List V) (pieces sorted : List (DayRange × V)) → AreRows before cuts rows → each_day (value_on nothing before cuts rows) ≡ days →
    values ≡ gathered alike nothing [] (flat_map (λ row. row) (before ∷ rows)) → pieces ≡ flat_map (pieces_with alike days) values → IsPermutation pieces sorted → IsNonDecreasingBy (λ (piece : DayRange × V). piece.0.first) sorted → sorted ≡ pieces_of alike nothing days
pieces-found {V} alike nothing exact before cuts rows days values pieces sorted r view gathered_is pieces_are moved order =
    let f = value_on nothing before cuts rows in
    let len : length days ≡ 36525 = sym (ap length view) ∙ length-each_day f in
    let day = λ (n : ℕ). slice_index_or days n nothing in
    pieces-once alike nothing exact days values pieces sorted (λ n h.
    let value : day n ≡ f n = ap (λ ds. slice_index_or ds n nothing) (sym view) ∙ index-each_day f n nothing (omega arith) in
    ap (filter (λ v. alike v (day n))) gathered_is
    ∙ gathered-once alike nothing exact (day n) (flat_map (λ row. row) (before ∷ rows)) (ap (λ x. list_any (alike x) (flat_map (λ row. row) (before ∷ rows))) value ∙ in_rows alike nothing exact before cuts rows n r)) pieces_are moved order
