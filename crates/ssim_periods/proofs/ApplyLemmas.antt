-- What the new cuts and rows say of each day.
use Rattle.std.proofs.Common.{◌≡◌, ℕ, zero, suc, ◌+◌, ◌-◌, ◌<◌, ◌≤◌, Bool, true, false, if◌then◌else◌, nat_lt, nat_le, nat_eq, List, [], ◌∷◌, length, slice_index_or, Option, Some, None, is_none, IfSome, unwrap_or, refl, ap, subst, ◌∙◌, sym, arith, ◌⊎◌, inl, inr, add-one}
use Rattle.std.specs.List.{All, Contains}
use Rattle.ssim_periods.specs.clauses.Days.{AddsOnly}
use Rattle.ssim_periods.specs.Days.{each_day, changed_on}
use Rattle.ssim_periods.proofs.DayLemmas.{each_day-same, changed_on-each_day}
use Rattle.std.proofs.lemmas.Bool.Decides.{nat_tests}
use Rattle.std.proofs.lemmas.List.Elements.{All-cons}
use Rattle.ssim_values.specs.Period.{DayRange}
use Rattle.ssim_periods.specs.Calendar.{holds}
use Rattle.ssim_values.specs.Calendar.{slot}
use Rattle.ssim_periods.specs.internal.Count.{is_within}
use Rattle.ssim_periods.specs.internal.Rows.{place, row_on, value_on, AreRows}
use Rattle.ssim_periods.specs.internal.Splits.{has_cut, with_cut, with_row, patched, patched_from}
use Rattle.ssim_periods.proofs.RowLemmas.{row_on-place, row_on-week, place-le, slot-lt}
use Rattle.ssim_periods.proofs.CutLemmas.{row_on-with_cut, place-with_cut-before, place-with_cut-after, place-with_cut-at, place-with_cut-self, place-mono, has_cut-with_cut, length-with_row, rising-with_cut}
use Rattle.ssim_periods.proofs.SplitLemmas.{patched_from-below, patched_from-above, patched_from-at, length-patched_from, patched-at, length-patched}

below : {V : Type 0} (before : List V) (from : ℕ) (patches : List (List (Option V))) (rows : List (List V)) (p : ℕ) (d : List V) → p ≤ from → slice_index_or (before ∷ patched_from from patches rows) p d ≡ slice_index_or (before ∷ rows) p d
below before from patches rows zero d h = refl
below before from patches rows (suc m) d h = patched_from-below from patches rows m d (omega arith)

above : {V : Type 0} (before : List V) (from : ℕ) (patches : List (List (Option V))) (rows : List (List V)) (p : ℕ) (d : List V) → from + length patches < p → slice_index_or (before ∷ patched_from from patches rows) p d ≡ slice_index_or (before ∷ rows) p d
above before from patches rows zero d h = refl
above before from patches rows (suc m) d h = patched_from-above from patches rows m d (omega arith)

within_patch : {V : Type 0} (before : List V) (from : ℕ) (patches : List (List (Option V))) (rows : List (List V)) (p i : ℕ) (d : List V) → from + i + 1 ≡ p → i < length patches → p ≤ length rows → slice_index_or (before ∷ patched_from from patches rows) p d ≡ patched (slice_index_or (before ∷ rows) p d) (slice_index_or patches i [])
within_patch before from patches rows zero i d e h l = absurd (omega arith)
within_patch before from patches rows (suc m) i d e h l = patched_from-at from patches rows m i d (omega arith) h (omega arith)

le_or_lt : (m n : ℕ) → (m ≤ n) ⊎ (n < m)
le_or_lt m n = elim (nat_le m n) as (λ t. nat_le m n ≡ t → (m ≤ n) ⊎ (n < m)) [ true ↦ λ e. inl (grind (arith, nat_tests)) | false ↦ λ e. inr (grind (arith, nat_tests)) ] refl

pub outside-before : (first last n : ℕ) (mask : List Bool) → n < first → is_within first last mask n ≡ false
outside-before first last n mask h = grind (arith, nat_tests)

pub outside-after : (first last n : ℕ) (mask : List Bool) → last < n → is_within first last mask n ≡ false
outside-after first last n mask h = grind (arith, nat_tests)

pub inside : (first last n : ℕ) (mask : List Bool) → first ≤ n → n ≤ last → is_within first last mask n ≡ slice_index_or mask (slot n) false
inside first last n mask h l = grind (arith, nat_tests)

-- the first day of a period is not after its last
pub in-order : (first last a b : ℕ) → first ≡ a → last ≡ b → a ≤ b → first ≤ last
in-order first last a b f l h = omega arith

pub before-next : (first last : ℕ) → first ≤ last → first < last + 1
before-next first last h = omega arith

pub next-back : (n : ℕ) → n ≡ n + 1 - 1
next-back n = omega arith

pub counted-same : (n a b c d : ℕ) → n + a ≡ b + 1 → a ≡ c → b ≡ d → n + c ≡ d + 1
counted-same n a b c d h e f = omega arith

-- the rows before values are put in
pub record Split {V : Type 0} (before : List V) (cuts : List ℕ) (rows : List (List V)) (first last : ℕ) (head tail : List V) : Type 0 where
  pub valid : AreRows before cuts rows
  pub ordered : first ≤ last
  pub head_is : has_cut cuts first ≡ false → head ≡ row_on before cuts rows first
  pub tail_is : has_cut cuts (last + 1) ≡ false → tail ≡ row_on before cuts rows (last + 1)

abbrev pub mid_rows : {V : Type 0} (cuts : List ℕ) (rows : List (List V)) (first : ℕ) (head : List V) → List (List V)
mid_rows cuts rows first head = with_row cuts first head rows

abbrev pub new_cuts : List ℕ → ℕ → ℕ → List ℕ
new_cuts cuts first last = with_cut (with_cut cuts first) (last + 1)

abbrev pub new_rows : {V : Type 0} (cuts : List ℕ) (rows : List (List V)) (first last : ℕ) (head tail : List V) → List (List V)
new_rows cuts rows first last head tail = with_row (with_cut cuts first) (last + 1) tail (with_row cuts first head rows)

pub split-count : {V : Type 0} (before : List V) (cuts : List ℕ) (rows : List (List V)) (first last : ℕ) (head tail : List V) → Split before cuts rows first last head tail → length (new_rows cuts rows first last head tail) ≡ length (new_cuts cuts first last)
split-count before cuts rows first last head tail s =
    length-with_row (with_cut cuts first) (last + 1) tail (with_row cuts first head rows) (length-with_row cuts first head rows s.valid.row_count)

split-row : {V : Type 0} (before : List V) (cuts : List ℕ) (rows : List (List V)) (first last : ℕ) (head tail : List V) (n : ℕ) → Split before cuts rows first last head tail → row_on before (new_cuts cuts first last) (new_rows cuts rows first last head tail) n ≡ row_on before cuts rows n
split-row before cuts rows first last head tail n s =
    let one = λ (m : ℕ). row_on-with_cut before cuts rows first head m s.valid.row_count s.head_is in
    let o = s.ordered in
    row_on-with_cut before (with_cut cuts first) (with_row cuts first head rows) (last + 1) tail n (length-with_row cuts first head rows s.valid.row_count)
    (λ h. s.tail_is (sym (has_cut-with_cut cuts first (last + 1) (omega arith)) ∙ h) ∙ sym (one (last + 1)))
    ∙ one n

-- the row of a day afterwards
pub row_on-put : {V : Type 0} (before : List V) (cuts : List ℕ) (rows : List (List V)) (first last : ℕ) (head tail : List V) (patches : List (List (Option V))) (n : ℕ) → Split before cuts rows first last head tail → length patches + place cuts first ≡ place cuts last + 1 →
    (((n < first) ⊎ (last < n)) → row_on before (new_cuts cuts first last) (patched_from (place (with_cut cuts first) first - 1) patches (new_rows cuts rows first last head tail)) n ≡ row_on before cuts rows n)
    × (first ≤ n → n ≤ last → row_on before (new_cuts cuts first last) (patched_from (place (with_cut cuts first) first - 1) patches (new_rows cuts rows first last head tail)) n ≡ patched (row_on before cuts rows n) (slice_index_or patches (place cuts n - place cuts first) []))
row_on-put before cuts rows first last head tail patches n s count =
    let o = s.ordered in
    let from = place (with_cut cuts first) first - 1 in
    let c1 = with_cut cuts first in
    let c2 = new_cuts cuts first last in
    let r2 = new_rows cuts rows first last head tail in
    let p = place c2 n in
    let self = place-with_cut-self cuts first in
    let len = split-count before cuts rows first last head tail s in
    let all_len = length-patched_from from patches r2 ∙ len in
    let same : slice_index_or (before ∷ r2) p before ≡ row_on before cuts rows n = sym (row_on-place before c2 r2 n before len) ∙ split-row before cuts rows first last head tail n s in
    let found : row_on before c2 (patched_from from patches r2) n ≡ slice_index_or (before ∷ patched_from from patches r2) p before = row_on-place before c2 (patched_from from patches r2) n before all_len in
    let first_kept = place-with_cut-before c1 (last + 1) first (omega arith) in
    let last_kept = place-with_cut-before c1 (last + 1) last (omega arith) in
    let last_moved = place-with_cut-after cuts first last o in
    let end_next = place-with_cut-at c1 (last + 1) last (omega arith) in (
      elim [
        | inl h ↦
            let kept = place-with_cut-before c1 (last + 1) n (omega arith) in let lower = place-with_cut-at cuts first n h in
            found ∙ below before from patches r2 p before (omega arith) ∙ same
        | inr h ↦
            let mono = place-mono c2 (last + 1) n (omega arith) in
            found ∙ above before from patches r2 p before (omega arith) ∙ same
      ],
      λ h l.
          let kept = place-with_cut-before c1 (last + 1) n (omega arith) in
          let moved = place-with_cut-after cuts first n h in
          let low = place-mono cuts first n h in
          let high = place-mono cuts n last l in
          let i = place cuts n - place cuts first in
          let le = place-le c2 n in
          found ∙ within_patch before from patches r2 p i before (omega arith) (omega arith) (omega arith)
          ∙ ap (λ r. patched r (slice_index_or patches i [])) same,
    )

chosen : {V : Type 0} (b : Bool) (x y : V) → unwrap_or (if b then Some x else None) y ≡ (if b then x else y)
chosen true x y = refl
chosen false x y = refl

-- the values of a row, weekday by weekday
pub value_on-put : {V : Type 0} (e : V) (before : List V) (cuts : List ℕ) (rows : List (List V)) (first last : ℕ) (head tail : List V) (mask : List Bool) (after : V → V) (patches : List (List (Option V))) (n : ℕ) → Split before cuts rows first last head tail → length patches + place cuts first ≡ place cuts last + 1 → (first ≤ n → n ≤ last → slice_index_or (slice_index_or patches (place cuts n - place cuts first) []) (slot n) None ≡ (if slice_index_or mask (slot n) false then Some (after (value_on e before cuts rows n)) else None)) →
    value_on e before (new_cuts cuts first last) (patched_from (place (with_cut cuts first) first - 1) patches (new_rows cuts rows first last head tail)) n ≡ (if is_within first last mask n then after (value_on e before cuts rows n) else value_on e before cuts rows n)
value_on-put e before cuts rows first last head tail mask after patches n s count told =
    let both = row_on-put before cuts rows first last head tail patches n s count in
    let old = value_on e before cuts rows n in
    let row = row_on before cuts rows n in
    let week = row_on-week before cuts rows n s.valid in
    let out = λ (h : (n < first) ⊎ (last < n)) (no : is_within first last mask n ≡ false). ap (λ r. slice_index_or r (slot n) e) (both.0 h) ∙ sym (ap (λ b. if b then after old else old) no) in
    elim (le_or_lt first n) [
      | inr h ↦ out (inl h) (outside-before first last n mask h)
      | inl h ↦ elim (le_or_lt n last) [
        | inr l ↦ out (inr l) (outside-after first last n mask l)
        | inl l ↦ ap (λ r. slice_index_or r (slot n) e) (both.1 h l)
            ∙ patched-at row (slice_index_or patches (place cuts n - place cuts first) []) (slot n) e (rw week (slot-lt n))
            ∙ ap (λ o. unwrap_or o old) (told h l)
            ∙ chosen (slice_index_or mask (slot n) false) (after old) old
            ∙ sym (ap (λ b. if b then after old else old) (inside first last n mask h l))
      ]
    ]

All-head : {X : Type 0} (P : X → Type 0) (x : X) (xs : List X) → All P (x ∷ xs) → P x
All-head P x xs all = all 0 x (omega arith)

All-tail : {X : Type 0} (P : X → Type 0) (x : X) (xs : List X) → All P (x ∷ xs) → All P xs
All-tail P x xs all k d h = all (suc k) d (omega arith)

pub All-with_cut : (P : ℕ → Type 0) (cuts : List ℕ) (day : ℕ) → All P cuts → P day → All P (with_cut cuts day)
All-with_cut P [] day all p = All-cons P day [] p all
All-with_cut P (cut ∷ cuts) day all p =
    elim (nat_lt day cut) as (λ t. All P (if t then day ∷ cut ∷ cuts else (if nat_eq cut day then cut ∷ cuts else cut ∷ with_cut cuts day))) [
      | true ↦ All-cons P day (cut ∷ cuts) p all
      | false ↦ elim (nat_eq cut day) as (λ t. All P (if t then cut ∷ cuts else cut ∷ with_cut cuts day)) [
        | true ↦ all
        | false ↦ All-cons P cut (with_cut cuts day) (All-head P cut cuts all) (All-with_cut P cuts day (All-tail P cut cuts all) p)
      ]
    ]

pub All-with_row : {X : Type 0} (P : X → Type 0) (cuts : List ℕ) (day : ℕ) (row : X) (rows : List X) → length rows ≡ length cuts → All P rows → (has_cut cuts day ≡ false → P row) → All P (with_row cuts day row rows)
All-with_row P [] day row rows l all p = All-cons P row rows (p refl) all
All-with_row P (cut ∷ cuts) day row [] l all p = absurd (omega arith)
All-with_row P (cut ∷ cuts) day row (next ∷ rows) l all p =
    elim (nat_lt day cut) as (λ t. ((if t then false else (if nat_eq cut day then true else has_cut cuts day)) ≡ false → P row) → All P (if t then row ∷ next ∷ rows else (if nat_eq cut day then next ∷ rows else next ∷ with_row cuts day row rows))) [
      | true ↦ λ q. All-cons P row (next ∷ rows) (q refl) all
      | false ↦ elim (nat_eq cut day) as (λ t. ((if t then true else has_cut cuts day) ≡ false → P row) → All P (if t then next ∷ rows else next ∷ with_row cuts day row rows)) [
        | true ↦ λ q. all
        | false ↦ λ q. All-cons P next (with_row cuts day row rows) (All-head P next rows all) (All-with_row P cuts day row rows (omega arith) (All-tail P next rows all) q)
      ]
    ] p

All-patched_from : {V : Type 0} (from : ℕ) (patches : List (List (Option V))) (rows : List (List V)) → All (λ row. length row ≡ 7) rows → All (λ row. length row ≡ 7) (patched_from from patches rows)
All-patched_from from patches [] all = all
All-patched_from zero [] (row ∷ rows) all = all
All-patched_from zero (patch ∷ patches) (row ∷ rows) all =
    All-cons (λ r. length r ≡ 7) (patched row patch) (patched_from 0 patches rows) (length-patched row patch ∙ All-head (λ r. length r ≡ 7) row rows all) (All-patched_from 0 patches rows (All-tail (λ r. length r ≡ 7) row rows all))
All-patched_from (suc from) patches (row ∷ rows) all =
    All-cons (λ r. length r ≡ 7) row (patched_from from patches rows) (All-head (λ r. length r ≡ 7) row rows all) (All-patched_from from patches rows (All-tail (λ r. length r ≡ 7) row rows all))

-- the new cuts and rows are cuts and rows again
pub AreRows-put : {V : Type 0} (before : List V) (cuts : List ℕ) (rows : List (List V)) (first last : ℕ) (head tail : List V) (patches : List (List (Option V))) → Split before cuts rows first last head tail → last < 36525 → AreRows before (new_cuts cuts first last) (patched_from (place (with_cut cuts first) first - 1) patches (new_rows cuts rows first last head tail))
AreRows-put before cuts rows first last head tail patches s fits =
    let v = s.valid in let o = s.ordered in
    record {
      rising = rising-with_cut (with_cut cuts first) (last + 1) (rising-with_cut cuts first v.rising);
      in_calendar = All-with_cut (λ cut. cut ≤ 36525) (with_cut cuts first) (last + 1) (All-with_cut (λ cut. cut ≤ 36525) cuts first v.in_calendar (omega arith)) (omega arith);
      row_count = length-patched_from _ patches (new_rows cuts rows first last head tail) ∙ split-count before cuts rows first last head tail s;
      week = v.week;
      weeks = All-patched_from _ patches (new_rows cuts rows first last head tail)
          (All-with_row (λ r. length r ≡ 7) (with_cut cuts first) (last + 1) tail (with_row cuts first head rows) (length-with_row cuts first head rows v.row_count)
          (All-with_row (λ r. length r ≡ 7) cuts first head rows v.row_count v.weeks (λ h. ap length (s.head_is h) ∙ row_on-week before cuts rows first v))
          (λ h. ap length (s.tail_is (sym (has_cut-with_cut cuts first (last + 1) (omega arith)) ∙ h)) ∙ row_on-week before cuts rows (last + 1) v));
    }

pub contains-head : (x : ℕ) (xs : List ℕ) → Contains (x ∷ xs) x
contains-head x xs = (0, omega arith, refl)

pub contains-tail : (x y : ℕ) (xs : List ℕ) → Contains xs y → Contains (x ∷ xs) y
contains-tail x y xs (k, l, e) = (k + 1, omega arith, rw add-one e)

pub contains-cases : (x y : ℕ) (xs : List ℕ) → Contains (x ∷ xs) y → (y ≡ x) ⊎ Contains xs y
contains-cases x y xs (zero, l, e) = inl (sym e)
contains-cases x y xs (suc k, l, e) = inr (k, omega arith, e)

-- a cut in a list with one more cut
pub contains-with_cut : (cuts : List ℕ) (day cut : ℕ) → Contains (with_cut cuts day) cut → Contains cuts cut ⊎ (cut ≡ day)
contains-with_cut [] day cut h = elim (contains-cases day cut [] h) [ inl e ↦ inr e | inr k ↦ inl k ]
contains-with_cut (next ∷ cuts) day cut h =
    elim (nat_lt day next) as (λ t. Contains (if t then day ∷ next ∷ cuts else (if nat_eq next day then next ∷ cuts else next ∷ with_cut cuts day)) cut → Contains (next ∷ cuts) cut ⊎ (cut ≡ day)) [
      | true ↦ λ k. elim (contains-cases day cut (next ∷ cuts) k) [ inl e ↦ inr e | inr m ↦ inl m ]
      | false ↦ elim (nat_eq next day) as (λ t. Contains (if t then next ∷ cuts else next ∷ with_cut cuts day) cut → Contains (next ∷ cuts) cut ⊎ (cut ≡ day)) [
        | true ↦ λ k. inl k
        | false ↦ λ k. elim (contains-cases next cut (with_cut cuts day) k) [
          | inl e ↦ inl (subst (Contains (next ∷ cuts)) (sym e) (contains-head next cuts))
          | inr m ↦ elim (contains-with_cut cuts day cut m) [ inl n ↦ inl (contains-tail next cut cuts n) | inr e ↦ inr e ]
        ]
      ]
    ] h

-- the earlier cuts are kept
pub with_cut-keeps : (cuts : List ℕ) (day cut : ℕ) → Contains cuts cut → Contains (with_cut cuts day) cut
with_cut-keeps [] day cut h = let l = h.1 in absurd (omega arith)
with_cut-keeps (next ∷ cuts) day cut h =
    elim (nat_lt day next) as (λ t. Contains (if t then day ∷ next ∷ cuts else (if nat_eq next day then next ∷ cuts else next ∷ with_cut cuts day)) cut) [
      | true ↦ contains-tail day cut (next ∷ cuts) h
      | false ↦ elim (nat_eq next day) as (λ t. Contains (if t then next ∷ cuts else next ∷ with_cut cuts day) cut) [
        | true ↦ h
        | false ↦ elim (contains-cases next cut cuts h) [
          | inl e ↦ subst (Contains (next ∷ with_cut cuts day)) (sym e) (contains-head next (with_cut cuts day))
          | inr m ↦ contains-tail next cut (with_cut cuts day) (with_cut-keeps cuts day cut m)
        ]
      ]
    ]

-- the new cut is there
pub with_cut-own : (cuts : List ℕ) (day : ℕ) → Contains (with_cut cuts day) day
with_cut-own [] day = contains-head day []
with_cut-own (next ∷ cuts) day =
    elim (nat_lt day next) as (λ t. Contains (if t then day ∷ next ∷ cuts else (if nat_eq next day then next ∷ cuts else next ∷ with_cut cuts day)) day) [
      | true ↦ contains-head day (next ∷ cuts)
      | false ↦ elim (nat_eq next day) as (λ t. nat_eq next day ≡ t → Contains (if t then next ∷ cuts else next ∷ with_cut cuts day) day) [
        | true ↦ λ e. let same : next ≡ day = grind (arith, nat_tests) in subst (Contains (next ∷ cuts)) same (contains-head next cuts)
        | false ↦ λ e. contains-tail next day (with_cut cuts day) (with_cut-own cuts day)
      ] refl
    ]

pub adds_only : (cuts : List ℕ) (first end : ℕ) → AddsOnly cuts (with_cut (with_cut cuts first) end) first end
adds_only cuts first end cut h =
    elim (contains-with_cut (with_cut cuts first) end cut h) [
      | inl k ↦ elim (contains-with_cut cuts first cut k) [ inl m ↦ inl m | inr e ↦ inr (inl e) ]
      | inr e ↦ inr (inr e)
    ]

-- the row that was made for a cut
pub row-made : {V : Type 0} (before : List V) (cuts cuts' : List ℕ) (rows rows' : List (List V)) (day : ℕ) (row : Option (List V)) → cuts' ≡ cuts → rows' ≡ rows → is_none row ≡ has_cut cuts' day → IfSome row (λ r. r ≡ row_on before cuts' rows' day) → has_cut cuts day ≡ false → unwrap_or row [] ≡ row_on before cuts rows day
row-made before cuts cuts' rows rows' day None ec er missing is h = let e = missing ∙ ap (λ c. has_cut c day) ec in cc
row-made before cuts cuts' rows rows' day (Some r) ec er missing is h = is ∙ ap (λ c. row_on before c rows' day) ec ∙ ap (λ x. row_on before cuts x day) er

-- the list of days afterwards
pub each_day-put : {V : Type 0} (e : V) (before : List V) (cuts : List ℕ) (rows : List (List V)) (first last : ℕ) (head tail : List V) (mask : List Bool) (after : V → V) (patches : List (List (Option V))) (cuts' : List ℕ) (rows' : List (List V)) (days : List V) → Split before cuts rows first last head tail → length patches + place cuts first ≡ place cuts last + 1 → ((n : ℕ) → first ≤ n → n ≤ last → slice_index_or (slice_index_or patches (place cuts n - place cuts first) []) (slot n) None ≡ (if slice_index_or mask (slot n) false then Some (after (value_on e before cuts rows n)) else None)) →
    cuts' ≡ new_cuts cuts first last → rows' ≡ patched_from (place (with_cut cuts first) first - 1) patches (new_rows cuts rows first last head tail) → each_day (value_on e before cuts rows) ≡ days → each_day (value_on e before cuts' rows') ≡ changed_on (is_within first last mask) after 0 days
each_day-put e before cuts rows first last head tail mask after patches cuts' rows' days s count told ec er ed =
    ap (λ c. each_day (value_on e before c rows')) ec ∙ ap (λ r. each_day (value_on e before (new_cuts cuts first last) r)) er
    ∙ each_day-same _ _ (λ n l. value_on-put e before cuts rows first last head tail mask after patches n s count (told n))
    ∙ sym (changed_on-each_day (is_within first last mask) after (value_on e before cuts rows)) ∙ ap (changed_on (is_within first last mask) after 0) ed

-- the rows for the two cuts of a period
pub split-made : {V : Type 0} (before : List V) (cuts ca cb : List ℕ) (rows ra rb : List (List V)) (first last : ℕ) (head tail : Option (List V)) → AreRows before cuts rows → first ≤ last → ca ≡ cuts → ra ≡ rows → is_none head ≡ has_cut ca first → IfSome head (λ r. r ≡ row_on before ca ra first) → cb ≡ cuts → rb ≡ rows → is_none tail ≡ has_cut cb (last + 1) → IfSome tail (λ r. r ≡ row_on before cb rb (last + 1)) → Split before cuts rows first last (unwrap_or head []) (unwrap_or tail [])
split-made before cuts ca cb rows ra rb first last head tail valid ordered ea fa ma ia eb fb mb ib = record {
  valid = valid;
  ordered = ordered;
  head_is = row-made before cuts ca rows ra first head ea fa ma ia;
  tail_is = row-made before cuts cb rows rb (last + 1) tail eb fb mb ib;
}

pub cuts-made : (cuts kept new : List ℕ) (first last : ℕ) → new ≡ with_cut (with_cut kept first) (last + 1) → kept ≡ cuts → new ≡ new_cuts cuts first last
cuts-made cuts kept new first last is same = is ∙ ap (λ cs. with_cut (with_cut cs first) (last + 1)) same

pub rows-made : {V : Type 0} (cuts kept : List ℕ) (rows kept_rows new : List (List V)) (first last : ℕ) (head tail : List V) (patches : List (List (Option V))) → new ≡ patched_from (place (with_cut kept first) first - 1) patches (new_rows kept kept_rows first last head tail) → kept ≡ cuts → kept_rows ≡ rows → new ≡ patched_from (place (with_cut cuts first) first - 1) patches (new_rows cuts rows first last head tail)
rows-made cuts kept rows kept_rows new first last head tail patches is same same_rows =
    is ∙ ap (λ cs. patched_from (place (with_cut cs first) first - 1) patches (new_rows cs kept_rows first last head tail)) same
    ∙ ap (λ rs. patched_from (place (with_cut cuts first) first - 1) patches (new_rows cuts rs first last head tail)) same_rows

-- the days of a period by its parts
pub within-holds : {X : Type 0} (F : (ℕ → Bool) → X) (p : DayRange) (first last : ℕ) (mask : List Bool) → first ≡ p.first → last ≡ p.last → mask ≡ p.days → F (is_within first last mask) ≡ F (holds p)
within-holds F p first last mask ef el em = ap (λ a. F (is_within a last mask)) ef ∙ ap (λ b. F (is_within p.first b mask)) el ∙ ap (λ m. F (is_within p.first p.last m)) em
