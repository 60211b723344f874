-- Rows of marks to which a period is appended.
use Rattle.std.proofs.Common.{◌≡◌, ℕ, zero, suc, ◌+◌, ◌-◌, ◌<◌, ◌≤◌, Bool, false, if◌then◌else◌, nat_lt, List, [], ◌∷◌, ◌++◌, length, length-append, slice_index_or, slice_set, refl, ap, sym, ◌∙◌, arith, inl, inr}
use Rattle.std.specs.List.{All}
use Rattle.std.specs.List.Sorted.{IsStrictlyIncreasing}
use Rattle.std.proofs.lemmas.Bool.Decides.{nat_tests}
use Rattle.ssim_values.specs.Calendar.{slot}
use Rattle.ssim_periods.specs.internal.Count.{is_within}
use Rattle.ssim_periods.specs.internal.Rows.{row_on, value_on, AreRows}
use Rattle.ssim_periods.proofs.ApplyLemmas.{outside-before, outside-after, inside}
use Rattle.ssim_periods.proofs.CoverLemmas.{le_or_lt}
use Rattle.ssim_periods.proofs.CutLemmas.{rising-push, upto-last}
use Rattle.ssim_periods.proofs.RowLemmas.{index-default, slot-lt}
use Rattle.ssim_periods.proofs.SplitLemmas.{All-push}

-- ---- a row that holds from a day on

later : {X : Type 0} (before x row : X) (n cut day : ℕ) → cut ≤ day → (if nat_lt n cut then before else (if nat_lt n day then x else row)) ≡ (if nat_lt n day then (if nat_lt n cut then before else x) else row)
later before x row n cut day h = grind (arith, nat_tests)

pub row_on-push : {V : Type 0} (before : List V) (cuts : List ℕ) (rows : List (List V)) (day : ℕ) (row : List V) (n : ℕ) → length rows ≡ length cuts → All (λ cut. cut ≤ day) cuts → row_on before (cuts ++ day ∷ []) (rows ++ row ∷ []) n ≡ (if nat_lt n day then row_on before cuts rows n else row)
row_on-push before [] [] day row n l all = refl
row_on-push before [] (next ∷ rows) day row n l all = absurd (omega arith)
row_on-push before (cut ∷ cuts) [] day row n l all = absurd (omega arith)
row_on-push before (cut ∷ cuts) (next ∷ rows) day row n l all =
    ap (λ r. if nat_lt n cut then before else r) (row_on-push next cuts rows day row n (omega arith) (λ k d h. all (suc k) d (omega arith)))
    ∙ later before (row_on next cuts rows n) row n cut day (all 0 0 (omega arith))

at-last : {X : Type 0} (before next row : X) (n cut day : ℕ) → cut ≡ day → (if nat_lt n cut then before else row) ≡ (if nat_lt n day then (if nat_lt n cut then before else next) else row)
at-last before next row n cut day h = grind (arith, nat_tests)

-- the row of the last cut replaced
pub row_on-set : {V : Type 0} (before : List V) (cuts : List ℕ) (rows : List (List V)) (k day : ℕ) (row : List V) (n : ℕ) → length rows ≡ length cuts → k + 1 ≡ length cuts → slice_index_or cuts k 0 ≡ day → All (λ cut. cut ≤ day) cuts → row_on before cuts (slice_set rows k row) n ≡ (if nat_lt n day then row_on before cuts rows n else row)
row_on-set before [] rows k day row n l e is all = absurd (omega arith)
row_on-set before (cut ∷ cuts) [] k day row n l e is all = absurd (omega arith)
row_on-set before (cut ∷ []) (next ∷ rows) zero day row n l e is all = at-last before next row n cut day is
row_on-set before (cut ∷ other ∷ cuts) (next ∷ rows) zero day row n l e is all = absurd (omega arith)
row_on-set before (cut ∷ cuts) (next ∷ rows) (suc k) day row n l e is all =
    ap (λ r. if nat_lt n cut then before else r) (row_on-set next cuts rows k day row n (omega arith) (omega arith) is (λ i d h. all (suc i) d (omega arith)))
    ∙ later before (row_on next cuts rows n) row n cut day (all 0 0 (omega arith))

-- the cuts of which the last is not the day
pub below-day : (cuts : List ℕ) (day k x : ℕ) → IsStrictlyIncreasing cuts → All (λ cut. cut ≤ day) cuts → k + 1 ≡ length cuts → x ≡ slice_index_or cuts k x → (x ≡ day → ⊥) → All (λ cut. cut < day) cuts
below-day cuts day k x h all e is other i d l =
    let own : length cuts - 1 ≡ k = omega arith in let f = ap (λ j. slice_index_or cuts j 0) own in
    let at = index-default cuts k x 0 (omega arith) in let up = upto-last cuts h i d l in let le = all k x (omega arith) in
    elim (le_or_lt day x) [ inl ge ↦ absurd (other (omega arith)) | inr lt ↦ omega arith ]

pub AreRows-push : {V : Type 0} (before : List V) (cuts : List ℕ) (rows : List (List V)) (day : ℕ) (row : List V) → AreRows before cuts rows → All (λ cut. cut < day) cuts → day ≤ 36525 → length row ≡ 7 → AreRows before (cuts ++ day ∷ []) (rows ++ row ∷ [])
AreRows-push before cuts rows day row v all fits week =
    record {
      rising = rising-push cuts day v.rising all;
      in_calendar = All-push (λ cut. cut ≤ 36525) cuts day v.in_calendar fits;
      row_count = let c = v.row_count in let a = length-append rows (row ∷ []) in let b = length-append cuts (day ∷ []) in omega arith;
      week = v.week;
      weeks = All-push (λ next. length next ≡ 7) rows row v.weeks week;
    }

-- ---- a period after all cuts

-- the row of a day that no cut is after
row_on-last : {V : Type 0} (before : List V) (cuts : List ℕ) (rows : List (List V)) (n : ℕ) (d : List V) → length rows ≡ length cuts → All (λ cut. cut ≤ n) cuts → row_on before cuts rows n ≡ slice_index_or (before ∷ rows) (length rows) d
row_on-last before [] [] n d l all = refl
row_on-last before [] (next ∷ rows) n d l all = absurd (omega arith)
row_on-last before (cut ∷ cuts) [] n d l all = absurd (omega arith)
row_on-last before (cut ∷ cuts) (next ∷ rows) n d l all =
    let le : cut ≤ n = all 0 0 (omega arith) in
    let no : nat_lt n cut ≡ false = grind (arith, nat_tests) in
    ap (λ b. if b then before else row_on next cuts rows n) no ∙ row_on-last next cuts rows n d (omega arith) (λ k e h. all (suc k) e (omega arith))

under : {X : Type 0} (x y : X) (n day : ℕ) → n < day → (if nat_lt n day then x else y) ≡ x
under x y n day h = grind (arith, nat_tests)

over : {X : Type 0} (x y : X) (n day : ℕ) → day ≤ n → (if nat_lt n day then x else y) ≡ y
over x y n day h = grind (arith, nat_tests)

-- a row of marks from its first day on, and the old last row from the day after its last on, mark
-- its days
pub values-appended : (before : List ℕ) (cuts c1 c2 : List ℕ) (rows r1 r2 : List (List ℕ)) (first last : ℕ) (mask : List Bool) (old marked : List ℕ) (n : ℕ) → length rows ≡ length cuts → All (λ cut. cut ≤ first) cuts → first ≤ last
    → old ≡ slice_index_or (before ∷ rows) (length rows) [] → ((s : ℕ) → s < 7 → slice_index_or marked s 0 ≡ (if slice_index_or mask s false then 1 else slice_index_or old s 0))
    → row_on before c1 r1 n ≡ (if nat_lt n first then row_on before cuts rows n else marked) → row_on before c2 r2 n ≡ (if nat_lt n (last + 1) then row_on before c1 r1 n else old)
    → value_on 0 before c2 r2 n ≡ (if is_within first last mask n then 1 else value_on 0 before cuts rows n)
values-appended before cuts c1 c2 rows r1 r2 first last mask old marked n count until ordered is told one two =
    let value = value_on 0 before cuts rows n in
    let new = λ (row : List ℕ) (e : row_on before c2 r2 n ≡ row). ap (λ r. slice_index_or r (slot n) 0) e in
    let last_row = λ (h : first ≤ n). is ∙ sym (row_on-last before cuts rows n [] count (λ k d l. let c = until k d l in omega arith)) in
    elim (le_or_lt first n) [
      | inr before_it ↦
          new (row_on before cuts rows n) (two ∙ under (row_on before c1 r1 n) old n (last + 1) (omega arith) ∙ one ∙ under (row_on before cuts rows n) marked n first before_it)
          ∙ sym (ap (λ b. if b then 1 else value) (outside-before first last n mask before_it))
      | inl from ↦ elim (le_or_lt n last) [
        | inl to ↦
            new marked (two ∙ under (row_on before c1 r1 n) old n (last + 1) (omega arith) ∙ one ∙ over (row_on before cuts rows n) marked n first from)
            ∙ told (slot n) (slot-lt n)
            ∙ ap (λ r. if slice_index_or mask (slot n) false then 1 else slice_index_or r (slot n) 0) (last_row from)
            ∙ sym (ap (λ b. if b then 1 else value) (inside first last n mask from to))
        | inr after ↦
            new (row_on before cuts rows n) (two ∙ over (row_on before c1 r1 n) old n (last + 1) (omega arith) ∙ last_row from)
            ∙ sym (ap (λ b. if b then 1 else value) (outside-after first last n mask after))
      ]
    ]
