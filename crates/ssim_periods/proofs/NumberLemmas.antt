-- Numbers in place of values: they keep their values when more are known, and two numbers are equal
-- if their values are.
use Rattle.std.proofs.Common.{◌≡◌, ℕ, zero, suc, ◌+◌, ◌<◌, Bool, true, false, ◌≤◌, ◌&&◌, ◌||◌, if◌then◌else◌, nat_eq, nat_lt, Option, Some, List, [], ◌∷◌, ◌++◌, map, length, slice_get, slice_index_or, refl, ap, ◌∙◌, sym, arith, ◌⊎◌, inl, inr, IsTrue, ◌↔◌, eqb-true, eq-eqb, option_map, length-append, drop, take, slice_set}
use Rattle.std.proofs.Math.Bool.{or-true}
use Rattle.std.specs.List.{All, list_any, range_with_len}
use Rattle.std.proofs.Math.Path.{fun_ext}
use Rattle.std.proofs.lemmas.Bool.Decides.{nat_tests}
use Rattle.std.proofs.lemmas.List.{map-append, take_more, take_more_set, drop_more}
use Rattle.std.proofs.lemmas.Option.{slice_get-map, slice_get_read}
use Rattle.ssim_values.specs.Period.{DayRange}
use Rattle.ssim_periods.specs.Calendar.{day_count}
use Rattle.ssim_values.specs.Calendar.{slot}
use Rattle.ssim_periods.specs.Cover.{cover}
use Rattle.ssim_periods.specs.Days.{each_day}
use Rattle.ssim_periods.specs.internal.Apart.{held_cover, is_held}
use Rattle.ssim_periods.specs.internal.Gather.{gathered, numbered}
use Rattle.ssim_periods.specs.Pieces.{has_value, pieces_with}
use Rattle.ssim_periods.specs.internal.Rows.{row_on, value_on, AreRows}
use Rattle.ssim_periods.proofs.CoverLemmas.{le_or_lt}
use Rattle.ssim_periods.proofs.DayLemmas.{day_count-is}
use Rattle.ssim_periods.proofs.PieceLaw.{has_value-at, has_value-past}

get-last : {V : Type 0} (xs : List V) (x : V) → slice_get (xs ++ x ∷ []) (length xs) ≡ Some x
get-last [] x = refl
get-last (v ∷ xs) x = get-last xs x

-- the number of a value that is read at an index
pub number-read : {R V : Type 0} (nothing : V) (now : R → V) (refs : List R) (n k : ℕ) (r : R) → n ≡ k + 1 → k < length refs → r ≡ slice_index_or refs k r → numbered nothing (map now refs) n ≡ Some (now r)
number-read nothing now refs n k r e h at =
    let next : n ≡ suc k = omega arith in
    ap (numbered nothing (map now refs)) next ∙ slice_get-map now refs k ∙ ap (option_map now) (slice_get_read refs (length refs) k r refl h at)

-- the number of a value that was added
pub number-pushed : {V : Type 0} (nothing : V) (known more : List V) (v : V) (n : ℕ) → more ≡ known ++ v ∷ [] → n ≡ length more → numbered nothing more n ≡ Some v
number-pushed nothing known more v n is e =
    let size = ap length is in let next : n ≡ suc (length known) = omega (arith, length-append known (v ∷ [])) in
    ap (numbered nothing more) next ∙ ap (λ l. slice_get l (length known)) is ∙ get-last known v

-- the number of a value is one more than its index
pub number-index : {V : Type 0} (nothing : V) (values : List V) (v : V) (k : ℕ) → slice_get values k ≡ Some v → numbered nothing values (k + 1) ≡ Some v
number-index nothing values v k h = let next : k + 1 ≡ suc k = omega arith in ap (numbered nothing values) next ∙ h

pub get-known : {V : Type 0} (alike : V → V → Bool) → ((x y : V) → IsTrue (alike x y) ↔ (x ≡ y)) → (known : List V) (x : V) (n : ℕ) → slice_get known n ≡ Some x → list_any (alike x) known ≡ true
get-known alike exact [] x n h = cc
get-known alike exact (v ∷ known) x zero h = let same : x ≡ v = cc in ap (λ b. b || list_any (alike x) known) ((exact x v).1 same)
get-known alike exact (v ∷ known) x (suc n) h = ap (λ b. alike x v || b) (get-known alike exact known x n h) ∙ or-true (alike x v)

-- a value with a number is not added again
pub gathered-numbered : {V : Type 0} (alike : V → V → Bool) (nothing : V) → ((x y : V) → IsTrue (alike x y) ↔ (x ≡ y)) → (known : List V) (x : V) (n : ℕ) → numbered nothing known n ≡ Some x → gathered alike nothing known (x ∷ []) ≡ known
gathered-numbered alike nothing exact known x n h = ap (λ b. if b then known else known ++ x ∷ []) (get-known alike exact (nothing ∷ known) x n h)

get-append : {V : Type 0} (xs ys : List V) (n : ℕ) (x : V) → slice_get xs n ≡ Some x → slice_get (xs ++ ys) n ≡ Some x
get-append [] ys n x h = cc
get-append (v ∷ xs) ys zero x h = h
get-append (v ∷ xs) ys (suc n) x h = get-append xs ys n x h

-- a number keeps its value when more values are added
pub numbered-gathered : {V : Type 0} (alike : V → V → Bool) (nothing : V) (known values : List V) (n : ℕ) (x : V) → numbered nothing known n ≡ Some x → numbered nothing (gathered alike nothing known values) n ≡ Some x
numbered-gathered alike nothing known [] n x h = h
numbered-gathered alike nothing known (v ∷ values) n x h =
    numbered-gathered alike nothing (if alike v nothing || list_any (alike v) known then known else known ++ v ∷ []) values n x
    (elim (alike v nothing || list_any (alike v) known) as (λ b. numbered nothing (if b then known else known ++ v ∷ []) n ≡ Some x) [ true ↦ h | false ↦ get-append (nothing ∷ known) (v ∷ []) n x h ])

pub row-gathered : {V : Type 0} (alike : V → V → Bool) (nothing : V) (known values more : List V) (numbers : List ℕ) (row : List V) → more ≡ gathered alike nothing known values → map (numbered nothing known) numbers ≡ map Some row → map (numbered nothing more) numbers ≡ map Some row
row-gathered alike nothing known values more [] [] is h = refl
row-gathered alike nothing known values more [] (x ∷ row) is h = cc
row-gathered alike nothing known values more (n ∷ numbers) [] is h = cc
row-gathered alike nothing known values more (n ∷ numbers) (x ∷ row) is h =
    let here : numbered nothing known n ≡ Some x = cc in let rest : map (numbered nothing known) numbers ≡ map Some row = cc in
    ap (λ y. y ∷ map (numbered nothing more) numbers) (ap (λ k. numbered nothing k n) is ∙ numbered-gathered alike nothing known values n x here)
    ∙ ap (λ ys. Some x ∷ ys) (row-gathered alike nothing known values more numbers row is rest)

rows-gathered : {V : Type 0} (alike : V → V → Bool) (nothing : V) (known values more : List V) (numbers : List (List ℕ)) (rows : List (List V)) → more ≡ gathered alike nothing known values → map (map (numbered nothing known)) numbers ≡ map (map Some) rows → map (map (numbered nothing more)) numbers ≡ map (map Some) rows
rows-gathered alike nothing known values more [] [] is h = refl
rows-gathered alike nothing known values more [] (row ∷ rows) is h = cc
rows-gathered alike nothing known values more (ns ∷ numbers) [] is h = cc
rows-gathered alike nothing known values more (ns ∷ numbers) (row ∷ rows) is h =
    let here : map (numbered nothing known) ns ≡ map Some row = cc in let rest : map (map (numbered nothing known)) numbers ≡ map (map Some) rows = cc in
    ap (λ y. y ∷ map (map (numbered nothing more)) numbers) (row-gathered alike nothing known values more ns row is here)
    ∙ ap (λ ys. map Some row ∷ ys) (rows-gathered alike nothing known values more numbers rows is rest)

-- no value is in the list twice
abbrev pub AreDistinct : {V : Type 0} → List V → Type 0
AreDistinct {V} values = (i j : ℕ) (x : V) → slice_get values i ≡ Some x → slice_get values j ≡ Some x → i ≡ j

get-append-either : {V : Type 0} (xs : List V) (y : V) (n : ℕ) (x : V) → slice_get (xs ++ y ∷ []) n ≡ Some x → (slice_get xs n ≡ Some x) ⊎ ((n ≡ length xs) × (y ≡ x))
get-append-either [] y zero x h = inr (refl, cc)
get-append-either [] y (suc n) x h = cc
get-append-either (v ∷ xs) y zero x h = inl h
get-append-either (v ∷ xs) y (suc n) x h = elim (get-append-either xs y n x h) [ inl e ↦ inl e | inr e ↦ inr (ap suc e.0, e.1) ]

distinct-append : {V : Type 0} (alike : V → V → Bool) → ((x y : V) → IsTrue (alike x y) ↔ (x ≡ y)) → (xs : List V) (y : V) → AreDistinct xs → list_any (alike y) xs ≡ false → AreDistinct (xs ++ y ∷ [])
distinct-append alike exact xs y d new i j x hi hj =
    elim (get-append-either xs y i x hi) [
      | inl a ↦ elim (get-append-either xs y j x hj) [
        | inl b ↦ d i j x a b
        | inr b ↦ let known = get-known alike exact xs y i (a ∙ ap Some (sym b.1)) in cc
      ]
      | inr a ↦ elim (get-append-either xs y j x hj) [
        | inl b ↦ let known = get-known alike exact xs y j (b ∙ ap Some (sym a.1)) in cc
        | inr b ↦ a.0 ∙ sym b.0
      ]
    ]

distinct-from : {V : Type 0} (alike : V → V → Bool) (nothing : V) → ((x y : V) → IsTrue (alike x y) ↔ (x ≡ y)) → (known values : List V) → AreDistinct (nothing ∷ known) → AreDistinct (nothing ∷ gathered alike nothing known values)
distinct-from alike nothing exact known [] d = d
distinct-from alike nothing exact known (v ∷ values) d =
    distinct-from alike nothing exact (if alike v nothing || list_any (alike v) known then known else known ++ v ∷ []) values
    (elim (alike v nothing || list_any (alike v) known) as (λ b. (alike v nothing || list_any (alike v) known) ≡ b → AreDistinct (nothing ∷ (if b then known else known ++ v ∷ []))) [
      | true ↦ λ e. d
      | false ↦ λ e. distinct-append alike exact (nothing ∷ known) v d e
    ] refl)

-- the collected values are distinct, and none is empty
pub gathered-distinct : {V : Type 0} (alike : V → V → Bool) (nothing : V) → ((x y : V) → IsTrue (alike x y) ↔ (x ≡ y)) → (values : List V) → AreDistinct (nothing ∷ gathered alike nothing [] values)
gathered-distinct alike nothing exact values = distinct-from alike nothing exact [] values one
  where
    one : AreDistinct (nothing ∷ [])
    one zero zero x a b = refl
    one zero (suc j) x a b = cc
    one (suc i) j x a b = cc

-- two numbers are equal if their values are
number-alike : {V : Type 0} (alike : V → V → Bool) → ((x y : V) → IsTrue (alike x y) ↔ (x ≡ y)) → (values : List V) → AreDistinct values → (i j : ℕ) (v x : V) → slice_get values i ≡ Some v → slice_get values j ≡ Some x → nat_eq i j ≡ alike v x
number-alike alike exact values d i j v x hi hj =
    elim (nat_eq i j) as (λ t. nat_eq i j ≡ t → t ≡ alike v x) [
      | true ↦ λ e. let at : i ≡ j = eqb-true i j e in let one : Some v ≡ Some x = sym hi ∙ ap (slice_get values) at ∙ hj in let same : v ≡ x = cc in sym ((exact v x).1 same)
      | false ↦ λ e. elim (alike v x) as (λ b. alike v x ≡ b → false ≡ b) [
        | true ↦ λ f. let at : i ≡ j = d i j v hi (hj ∙ ap Some (sym ((exact v x).0 f))) in sym e ∙ eq-eqb i j at
        | false ↦ λ f. refl
      ] refl
    ] refl

-- the days with a number are the days with its value
has-number : {V : Type 0} (alike : V → V → Bool) (nothing : V) → ((x y : V) → IsTrue (alike x y) ↔ (x ≡ y)) → (values : List V) → AreDistinct (nothing ∷ values) → (k : ℕ) (v : V) → numbered nothing values k ≡ Some v → (numbers : List ℕ) (days : List V) → map (numbered nothing values) numbers ≡ map Some days → (n : ℕ) → has_value nat_eq numbers k n ≡ has_value alike days v n
has-number alike nothing exact values d k v own [] [] h n = refl
has-number alike nothing exact values d k v own [] (x ∷ days) h n = cc
has-number alike nothing exact values d k v own (j ∷ numbers) [] h n = cc
has-number alike nothing exact values d k v own (j ∷ numbers) (x ∷ days) h zero =
    let here : numbered nothing values j ≡ Some x = cc in ap (λ b. b || false) (number-alike alike exact (nothing ∷ values) d k j v x own here)
has-number alike nothing exact values d k v own (j ∷ numbers) (x ∷ days) h (suc n) =
    let rest : map (numbered nothing values) numbers ≡ map Some days = cc in has-number alike nothing exact values d k v own numbers days rest n

pub length-same : {A B C : Type 0} (f : A → C) (g : B → C) (xs : List A) (ys : List B) → map f xs ≡ map g ys → length xs ≡ length ys
length-same f g [] [] h = refl
length-same f g [] (y ∷ ys) h = cc
length-same f g (x ∷ xs) [] h = cc
length-same f g (x ∷ xs) (y ∷ ys) h = let rest : map f xs ≡ map g ys = cc in ap suc (length-same f g xs ys rest)

-- the pieces of a value are the cover of its number's days
pub pieces_with-number : {V : Type 0} (alike : V → V → Bool) (nothing : V) → ((x y : V) → IsTrue (alike x y) ↔ (x ≡ y)) → (values : List V) → AreDistinct (nothing ∷ values) → (k : ℕ) (v : V) → numbered nothing values k ≡ Some v → (numbers : List ℕ) (days : List V) → map (numbered nothing values) numbers ≡ map Some days → map (λ (period : DayRange). (period, v)) (cover (has_value nat_eq numbers k) (length numbers)) ≡ pieces_with alike days v
pieces_with-number alike nothing exact values d k v own numbers days h =
    ap (λ is_in. map (λ (period : DayRange). (period, v)) (cover is_in (length numbers))) (fun_ext (has-number alike nothing exact values d k v own numbers days h))
    ∙ ap (λ end. map (λ (period : DayRange). (period, v)) (cover (has_value alike days v) end)) (length-same (numbered nothing values) Some numbers days h)

-- the cover of periods with the days of a number is that of its value
pub held_cover-number : {V : Type 0} (alike : V → V → Bool) (nothing : V) → ((x y : V) → IsTrue (alike x y) ↔ (x ≡ y)) → (values : List V) → AreDistinct (nothing ∷ values) → (k : ℕ) (v : V) → numbered nothing values k ≡ Some v → (numbers : List ℕ) (days : List V) → map (numbered nothing values) numbers ≡ map Some days → length numbers ≡ 36525 →
    (periods : List DayRange) → ((n : ℕ) → is_held periods n ≡ (nat_lt n 36525 && nat_eq k (slice_index_or numbers n 0))) → held_cover periods v ≡ pieces_with alike days v
held_cover-number {V} alike nothing exact values d k v own numbers days h size periods same =
    ap (λ is_in. map (λ (period : DayRange). (period, v)) (cover is_in day_count)) (fun_ext (λ n. same n ∙ at n (le_or_lt (length numbers) n)))
    ∙ ap (λ end. map (λ (period : DayRange). (period, v)) (cover (has_value nat_eq numbers k) end)) (day_count-is ∙ sym size)
    ∙ pieces_with-number alike nothing exact values d k v own numbers days h
  where
    at : (n : ℕ) → (length numbers ≤ n) ⊎ (n < length numbers) → (nat_lt n 36525 && nat_eq k (slice_index_or numbers n 0)) ≡ has_value nat_eq numbers k n
    at n (inl past) =
        let off : nat_lt n 36525 ≡ false = grind (arith, nat_tests) in
        ap (λ b. b && nat_eq k (slice_index_or numbers n 0)) off ∙ sym (has_value-past nat_eq numbers k n past)
    at n (inr within) =
        let on : nat_lt n 36525 ≡ true = grind (arith, nat_tests) in
        ap (λ b. b && nat_eq k (slice_index_or numbers n 0)) on ∙ sym (has_value-at nat_eq 0 numbers k n within)

-- the number of a day refers to the day's value
index-numbered : {V : Type 0} (nothing : V) (values : List V) (numbers : List ℕ) (row : List V) (s : ℕ) → map (numbered nothing values) numbers ≡ map Some row → numbered nothing values (slice_index_or numbers s 0) ≡ Some (slice_index_or row s nothing)
index-numbered nothing values [] [] s h = refl
index-numbered nothing values [] (x ∷ row) s h = cc
index-numbered nothing values (n ∷ numbers) [] s h = cc
index-numbered nothing values (n ∷ numbers) (x ∷ row) zero h = cc
index-numbered nothing values (n ∷ numbers) (x ∷ row) (suc s) h =
    let rest : map (numbered nothing values) numbers ≡ map Some row = cc in index-numbered nothing values numbers row s rest

row_on-numbered : {V : Type 0} (f : ℕ → Option V) (numbers : List ℕ) (row : List V) (cuts : List ℕ) (later : List (List ℕ)) (rows : List (List V)) (n : ℕ) → map f numbers ≡ map Some row → map (map f) later ≡ map (map Some) rows → map f (row_on numbers cuts later n) ≡ map Some (row_on row cuts rows n)
row_on-numbered f numbers row [] later rows n h l = h
row_on-numbered f numbers row (cut ∷ cuts) [] [] n h l = h
row_on-numbered f numbers row (cut ∷ cuts) [] (r ∷ rows) n h l = cc
row_on-numbered f numbers row (cut ∷ cuts) (m ∷ later) [] n h l = cc
row_on-numbered f numbers row (cut ∷ cuts) (m ∷ later) (r ∷ rows) n h l =
    let here : map f m ≡ map Some r = cc in let rest : map (map f) later ≡ map (map Some) rows = cc in
    elim (nat_lt n cut) as (λ b. map f (if b then numbers else row_on m cuts later n) ≡ map Some (if b then row else row_on r cuts rows n)) [
      | true ↦ h
      | false ↦ row_on-numbered f m r cuts later rows n here rest
    ]

map-numbered : {V : Type 0} (nothing : V) (values : List V) (number : ℕ → ℕ) (value : ℕ → V) (days : List ℕ) → ((n : ℕ) → numbered nothing values (number n) ≡ Some (value n)) → map (numbered nothing values) (map number days) ≡ map Some (map value days)
map-numbered nothing values number value [] e = refl
map-numbered nothing values number value (n ∷ days) e =
    ap (λ y. y ∷ map (numbered nothing values) (map number days)) (e n) ∙ ap (λ ys. Some (value n) ∷ ys) (map-numbered nothing values number value days e)

pub each_day-numbered : {V : Type 0} (nothing : V) (values : List V) (numbers : List ℕ) (row : List V) (cuts : List ℕ) (later : List (List ℕ)) (rows : List (List V)) → map (numbered nothing values) numbers ≡ map Some row → map (map (numbered nothing values)) later ≡ map (map Some) rows → map (numbered nothing values) (each_day (value_on 0 numbers cuts later)) ≡ map Some (each_day (value_on nothing row cuts rows))
each_day-numbered nothing values numbers row cuts later rows h l =
    map-numbered nothing values (value_on 0 numbers cuts later) (value_on nothing row cuts rows) (range_with_len 0 day_count) (λ n. index-numbered nothing values (row_on numbers cuts later n) (row_on row cuts rows n) (slot n) (row_on-numbered (numbered nothing values) numbers row cuts later rows n h l))

weeks-numbered : {V : Type 0} (f : ℕ → Option V) (later : List (List ℕ)) (rows : List (List V)) → map (map f) later ≡ map (map Some) rows → All (λ next. length next ≡ 7) rows → All (λ next. length next ≡ 7) later
weeks-numbered f [] rows h w k d l = absurd (omega arith)
weeks-numbered f (m ∷ later) [] h w k d l = cc
weeks-numbered f (m ∷ later) (r ∷ rows) h w zero d l = let here : map f m ≡ map Some r = cc in length-same f Some m r here ∙ w 0 r (omega arith)
weeks-numbered f (m ∷ later) (r ∷ rows) h w (suc k) d l =
    let rest : map (map f) later ≡ map (map Some) rows = cc in weeks-numbered f later rows rest (λ i e b. w (suc i) e (omega arith)) k d (omega arith)

-- rows of numbers are rows
pub AreRows-numbered : {V : Type 0} (f : ℕ → Option V) (numbers : List ℕ) (row : List V) (cuts : List ℕ) (later : List (List ℕ)) (rows : List (List V)) → map f numbers ≡ map Some row → map (map f) later ≡ map (map Some) rows → AreRows row cuts rows → AreRows numbers cuts later
AreRows-numbered f numbers row cuts later rows h l r = record {
  rising = r.rising;
  in_calendar = r.in_calendar;
  row_count = length-same (map f) (map Some) later rows l ∙ r.row_count;
  week = length-same f Some numbers row h ∙ r.week;
  weeks = weeks-numbered f later rows l r.weeks;
}

map-last : {A B C : Type 0} (f : A → C) (g : B → C) (xs : List A) (ys : List B) (a : A) (b : B) → map f xs ≡ map g ys → f a ≡ g b → map f (xs ++ a ∷ []) ≡ map g (ys ++ b ∷ [])
map-last f g xs ys a b h e = map-append f xs (a ∷ []) ∙ ap (λ l. l ++ f a ∷ []) h ∙ ap (λ c. map g ys ++ c ∷ []) e ∙ sym (map-append g ys (b ∷ []))

-- one more weekday of a row
pub row-next : {V : Type 0} (alike : V → V → Bool) (nothing : V) (known more all row : List V) (i : ℕ) (d : V) → i < length row → more ≡ gathered alike nothing known (slice_index_or row i d ∷ []) → gathered alike nothing known (drop i row) ≡ all → gathered alike nothing more (drop (i + 1) row) ≡ all
row-next alike nothing known more all row i d h is rest =
    ap (λ k. gathered alike nothing k (drop (i + 1) row)) is ∙ ap (gathered alike nothing known) (sym (drop_more row i d h)) ∙ rest

pub row-numbered : {V : Type 0} (alike : V → V → Bool) (nothing : V) (known more row : List V) (numbers : List ℕ) (i n : ℕ) (d : V) → i < length row → i < length numbers → more ≡ gathered alike nothing known (slice_index_or row i d ∷ []) → numbered nothing more n ≡ Some (slice_index_or row i d) →
    map (numbered nothing known) (take i numbers) ≡ map Some (take i row) → map (numbered nothing more) (take (i + 1) (slice_set numbers i n)) ≡ map Some (take (i + 1) row)
row-numbered alike nothing known more row numbers i n d h l is own done =
    let x = slice_index_or row i d in
    ap (map (numbered nothing more)) (take_more_set numbers i n l)
    ∙ map-last (numbered nothing more) Some (take i numbers) (take i row) n x
    (row-gathered alike nothing known (x ∷ []) more (take i numbers) (take i row) is done) own
    ∙ ap (map Some) (sym (take_more row i d h))

-- one more row
pub rows-numbered : {V : Type 0} (alike : V → V → Bool) (nothing : V) (known more : List V) (rows : List (List V)) (numbers all : List (List ℕ)) (i : ℕ) (row : List V) (new : List ℕ) → i < length rows → row ≡ slice_index_or rows i row → more ≡ gathered alike nothing known row → map (numbered nothing more) new ≡ map Some row → all ≡ numbers ++ new ∷ [] →
    map (map (numbered nothing known)) numbers ≡ map (map Some) (take i rows) → map (map (numbered nothing more)) all ≡ map (map Some) (take (i + 1) rows)
rows-numbered alike nothing known more rows numbers all i row new h at is own pushed done =
    let f = map (numbered nothing more) in
    ap (map f) pushed
    ∙ map-last f (map Some) numbers (take i rows) new (slice_index_or rows i row)
    (rows-gathered alike nothing known row more numbers (take i rows) is done) (own ∙ ap (map Some) at)
    ∙ ap (map (map Some)) (sym (take_more rows i row h))
