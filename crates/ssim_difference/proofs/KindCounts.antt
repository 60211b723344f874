-- The changes of each kind are those of the pieces of the kind, counted.
use Rattle.std.proofs.Common.{◌≡◌, ◌∙◌, ℕ, ◌+◌, ◌^◌, ◌<◌, ◌≤◌, Bool, cond, true, false, ◌&&◌}
use Rattle.std.proofs.Common.{if◌then◌else◌, List, [], ◌∷◌, ◌++◌, filter, length, map, nat_lt}
use Rattle.std.proofs.Common.{refl, sym, ap, ap₂, arith}
use Rattle.std.specs.List.{count_by, flat_map, sum_by}
use Rattle.std.proofs.lemmas.Bool.Decides.{nat_tests}
use Rattle.std.proofs.lemmas.List.Sums.{count_by-le-length, sum_by-cons}
use Rattle.ssim_values.specs.Flight.{FlightNumber}
use Rattle.ssim_base.specs.Export.{all_flights}
use Rattle.ssim_base.specs.Timetable.{Days, on_day}
use Rattle.ssim_parts.proofs.CountedDates.{dates_are, few, fits, number_of_flights}
use Rattle.ssim_difference.specs.Differences.{Compared, compared, difference_pieces, differences}
use Rattle.ssim_difference.specs.Differences.{differs, differs_on, pair}
use Rattle.ssim_difference.specs.Kinds.{changed_dates, changes_on, counted_line, dates_of, flights_of}
use Rattle.ssim_difference.specs.Kinds.{is_of_kind, kind_line}
use Rattle.ssim_difference.specs.declared.change_kind.ChangeKind.{ChangeKind}
use Rattle.ssim_difference.specs.internal.KindCounts.{all_of_kind, capped, dates_of_kind}
use Rattle.ssim_difference.specs.internal.KindCounts.{flights_of_kind, has_kind, line_of_kind}
use Rattle.ssim_difference.specs.internal.KindCounts.{one_if_any}
use Rattle.ssim_difference.proofs.Listed.{no_element}
use Rattle.ssim_difference.proofs.Pieces.{hold_differences}

-- ---- one flight

one_if : (b : Bool) → 0 + cond b 1 0 ≡ cond b 1 0
one_if true = refl
one_if false = refl

-- the days of the pieces of a kind are the dates with a change of the kind
pub kind_dates : (kind : ChangeKind) (old new : Days)
    → dates_of_kind kind (difference_pieces old new) ≡ changed_dates kind old new
kind_dates kind old new =
    dates_are (has_kind kind) (difference_pieces old new) (changes_on kind old new)
    (λ n within. ap (count_by (has_kind kind)) (hold_differences old new n within)
    ∙ on n (differs_on old new n))
  where
    on : (n : ℕ) (b : Bool)
        → count_by (has_kind kind) (if b then pair (on_day old n) (on_day new n) ∷ [] else [])
        ≡ cond (b && is_of_kind kind (on_day old n) (on_day new n)) 1 0
    on n true = one_if (is_of_kind kind (on_day old n) (on_day new n))
    on n false = refl

-- ---- all flights

-- a sum over the flights that differ is one over all, if it has nothing of those that do not
counted : (kind : ChangeKind) (g : ℕ → ℕ) → g 0 ≡ 0 → (old new : FlightNumber → Days)
    (fs : List FlightNumber)
    → sum_by (λ (c : Compared). g (dates_of_kind kind c.1)) (filter differs (map (compared old new) fs))
    ≡ sum_by (λ f. g (changed_dates kind (old f) (new f))) fs
counted kind g nothing old new [] = refl
counted kind g nothing old new (f ∷ fs) =
    by (differs first) refl (counted kind g nothing old new fs)
    ∙ sym (sum_by-cons (λ (x : FlightNumber). g (changed_dates kind (old x) (new x))) f fs)
  where
    first : Compared
    first = compared old new f

    later : List Compared
    later = filter differs (map (compared old new) fs)

    found : List Compared → ℕ
    found = sum_by (λ (c : Compared). g (dates_of_kind kind c.1))

    total : ℕ
    total = sum_by (λ (x : FlightNumber). g (changed_dates kind (old x) (new x))) fs

    here : g (dates_of_kind kind first.1) ≡ g (changed_dates kind (old f) (new f))
    here = ap g (kind_dates kind (old f) (new f))

    by : (b : Bool) → differs first ≡ b → found later ≡ total
        → found (if b then first ∷ later else later) ≡ g (changed_dates kind (old f) (new f)) + total
    by true e rest =
        sum_by-cons (λ (c : Compared). g (dates_of_kind kind c.1)) first later
        ∙ ap₂ (λ (x y : ℕ). x + y) here rest
    by false e rest =
        let none : g (changed_dates kind (old f) (new f)) ≡ 0 =
        sym here ∙ ap (λ ps. g (dates_of_kind kind ps))
        (no_element (difference_pieces (old f) (new f)) e) ∙ nothing in
        omega arith

few_flights : (n flights : ℕ) → n ≤ flights → flights ≡ 270000 → n < 2 ^ 64
few_flights n flights h is = omega arith

module _ (old new : FlightNumber → Days) where
  flights_are : (kind : ChangeKind)
      → capped (flights_of_kind kind (differences old new)) ≡ flights_of kind old new
  flights_are kind =
      fits (flights_of_kind kind (differences old new)) (flights_of kind old new)
      (counted kind one_if_any refl old new all_flights)
      (few_flights (flights_of kind old new) (length all_flights)
      (count_by-le-length (λ f. nat_lt 0 (changed_dates kind (old f) (new f))) all_flights)
      number_of_flights)

  dates_are_all : (kind : ChangeKind)
      → capped (all_of_kind kind (differences old new)) ≡ dates_of kind old new
  dates_are_all kind =
      fits (all_of_kind kind (differences old new)) (dates_of kind old new)
      (counted kind (λ n. n) refl old new all_flights)
      (few (λ f n. changes_on kind (old f) (new f) n))

  -- the line of each kind
  line_is : (kind : ChangeKind) → line_of_kind (differences old new) kind ≡ kind_line old new kind
  line_is kind = ap₂ (counted_line kind) (flights_are kind) (dates_are_all kind)

  pub lines_are : (kinds : List ChangeKind)
      → flat_map (line_of_kind (differences old new)) kinds ≡ flat_map (kind_line old new) kinds
  lines_are [] = refl
  lines_are (kind ∷ kinds) =
      ap₂ (λ (xs ys : List ℕ). xs ++ ys) (line_is kind) (lines_are kinds)

-- ---- sums that fit

-- of a number that is cut off some is left if there was some
pub some_left : (n : ℕ) → one_if_any (capped n) ≡ one_if_any n
some_left n = by (nat_lt 0 n) refl
  where
    by : (b : Bool) → nat_lt 0 n ≡ b → one_if_any (capped n) ≡ cond b 1 0
    by true e =
        let left : nat_lt 0 (capped n) ≡ true = grind (arith, nat_tests) in
        ap (λ (t : Bool). cond t 1 0) left
    by false e =
        let left : nat_lt 0 (capped n) ≡ false = grind (arith, nat_tests) in
        ap (λ (t : Bool). cond t 1 0) left
