-- Marks at the ranks of stations.
use Rattle.std.proofs.Common.{◌≡◌, ◌≢◌, ◌∙◌, ℕ, zero, suc, ◌+◌, ◌<◌, Bool, true, false}
use Rattle.std.proofs.Common.{◌||◌, nat_eq, cond, List, [], ◌∷◌, length, map}
use Rattle.std.proofs.Common.{slice_index_or, get_or, set, replicate, get_or-set_same, get_or-set_other, refl, sym, ap, ap₂, arith}
use Rattle.std.specs.List.{count_by, range_with_len}
use Rattle.std.specs.Str.{bytes_eq}
use Rattle.std.proofs.lemmas.Bool.Decides.{nat_tests}
use Rattle.std.proofs.lemmas.List.{length-set}
use Rattle.std.proofs.lemmas.List.Sums.{sum_by-cons}
use Rattle.ssim_overview.specs.Totals.{all_stations, station_at, station_limit}
use Rattle.ssim_overview.specs.internal.Totals.{AddsMarks}
use Rattle.ssim_overview.proofs.Tests.{or_assoc, or_false, or_true}

-- ---- marks

-- no station more
pub no_marks : (test : List ℕ → Bool) (marks : List Bool) → ((s : List ℕ) → test s ≡ false)
    → AddsMarks test marks marks
no_marks test marks none = record {
  len = refl;
  each = λ k lt. or_false (slice_index_or marks k false)
      ∙ ap (λ (b : Bool). slice_index_or marks k false || b) (sym (none (station_at k)));
}

-- the stations of one test and then of another
pub more_marks : (one other test : List ℕ → Bool) (old mid new : List Bool)
    → ((s : List ℕ) → test s ≡ (one s || other s)) → AddsMarks one old mid → AddsMarks other mid new
    → AddsMarks test old new
more_marks one other test old mid new is a b = record {
  len = b.len ∙ a.len;
  each = λ k lt. b.each k lt ∙ ap (λ (x : Bool). x || other (station_at k)) (a.each k lt)
      ∙ or_assoc (slice_index_or old k false) (one (station_at k)) (other (station_at k))
      ∙ ap (λ (x : Bool). slice_index_or old k false || x) (sym (is (station_at k)));
}

apart : (k n : ℕ) → nat_eq n k ≡ false → k ≢ n
apart k n e = grind (arith, nat_tests)

together : (k n : ℕ) → nat_eq n k ≡ true → k ≡ n
together k n e = grind (arith, nat_tests)

-- one station more
pub one_mark : (s : List ℕ) (n : ℕ) (old new : List Bool) → length old ≡ 17576 → n < 17576
    → ((k : ℕ) → k < 17576 → nat_eq n k ≡ bytes_eq s (station_at k))
    → new ≡ set old n true → AddsMarks (λ t. bytes_eq s t) old new
one_mark s n old new len within only is = record {
  len = ap length is ∙ length-set old n true;
  each = λ k lt. ap (λ (l : List Bool). get_or l k false) is ∙ at k (nat_eq n k) refl
      ∙ ap (λ (b : Bool). get_or old k false || b) (only k lt);
}
  where
    at : (k : ℕ) (b : Bool) → nat_eq n k ≡ b → get_or (set old n true) k false ≡ (get_or old k false || nat_eq n k)
    at k true e =
        let same : k ≡ n = together k n e in
        let lt : n < length old = omega arith in
        ap (λ (i : ℕ). get_or (set old n true) i false) same ∙ rw get_or-set_same refl
        ∙ or_true (get_or old k false) ∙ ap (λ (x : Bool). get_or old k false || x) (sym e)
    at k false e =
        let other : k ≢ n = apart k n e in
        let is_old : get_or (set old n true) k false ≡ get_or old k false = rw get_or-set_other refl in
        is_old ∙ or_false (get_or old k false) ∙ ap (λ (x : Bool). get_or old k false || x) (sym e)

counted_from : (test : List ℕ → Bool) (marks : List Bool) (a : ℕ)
    → ((k : ℕ) → k < length marks → get_or marks k false ≡ test (station_at (a + k)))
    → count_by (λ mark. mark) marks ≡ count_by test (map station_at (range_with_len a (length marks)))
counted_from test [] a each = refl
counted_from test (mark ∷ marks) a each =
    let here : a + 0 ≡ a = omega arith in
    sum_by-cons (λ (m : Bool). cond m 1 0) mark marks
    ∙ ap₂ (λ (x y : ℕ). x + y)
    (ap (λ (m : Bool). cond m 1 0) (each 0 (omega arith) ∙ ap (λ (n : ℕ). test (station_at n)) here))
    (counted_from test marks (a + 1) (λ k lt. let next : a + suc k ≡ a + 1 + k = omega arith in
    each (suc k) (omega arith) ∙ ap (λ (n : ℕ). test (station_at n)) next))
    ∙ sym (sum_by-cons (λ (s : List ℕ). cond (test s) 1 0) (station_at a) (map station_at (range_with_len (a + 1) (length marks))))

pub limit_is : station_limit ≡ 17576
unfolding station_limit
limit_is = refl

-- marks of the stations that pass, and no other, are as many as these
pub marks_counted : (test : List ℕ → Bool) (old new : List Bool) → length old ≡ 17576
    → ((k : ℕ) → get_or old k false ≡ false) → AddsMarks test old new
    → count_by (λ mark. mark) new ≡ count_by test all_stations
marks_counted test old new len none adds =
    let all : length new ≡ 17576 = adds.len ∙ len in
    counted_from test new 0 (λ k lt. let start : k ≡ 0 + k = omega arith in
    adds.each k (omega arith) ∙ ap (λ (b : Bool). b || test (station_at k)) (none k)
    ∙ ap (λ (n : ℕ). test (station_at n)) start)
    ∙ ap (λ (n : ℕ). count_by test (map station_at (range_with_len 0 n))) (all ∙ sym limit_is)

-- no station is marked
pub none_marked : (n k : ℕ) → get_or (replicate n false) k false ≡ false
none_marked zero k = refl
none_marked (suc n) zero = refl
none_marked (suc n) (suc k) = none_marked n k
