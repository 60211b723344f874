-- The first and the last day of pieces are those of their days: by the greatest and the least so far.
use Rattle.std.proofs.Common.{◌≡◌, ◌∙◌, ℕ, zero, suc, ◌+◌, ◌≤◌, ◌<◌, Bool, true, false, ◌||◌, max, min}
use Rattle.std.proofs.Common.{List, [], ◌∷◌, Option, Some, None, refl, sym, ap, ap₂, arith, ◌⊎◌, inl, inr}
use Rattle.std.specs.List.{list_any, range_with_len}
use Rattle.ssim_periods.specs.Calendar.{day_count, holds}
use Rattle.ssim_periods.specs.Cover.{first_where, last_where}
use Rattle.ssim_periods.proofs.CoverLemmas.{first_where-is, last_where-at, le_or_lt}
use Rattle.ssim_periods.proofs.DayLemmas.{day_count-is, holds-Holds}
use Rattle.ssim_periods.proofs.PieceLaw.{Every}
use Rattle.ssim_base.specs.Export.{Piece}
use Rattle.ssim_overview.specs.Totals.{calendar, ends_of}
use Rattle.ssim_overview.specs.internal.Totals.{widened, widened_by}
use Rattle.ssim_overview.proofs.FlownDates.{Ended, any_at}
use Rattle.ssim_overview.proofs.Tests.{or_assoc, or_false, or_left, or_right}

-- the first and the last day of the calendar that pass a test, if one does
abbrev pub Spans : (ℕ → Bool) → Option (ℕ × ℕ) → Type 0
Spans test None = (n : ℕ) → n < 36525 → test n ≡ false
Spans test (Some e) =
    (test e.0 ≡ true) × (test e.1 ≡ true) × (e.1 < 36525)
    × ((n : ℕ) → n < 36525 → test n ≡ true → (e.0 ≤ n) × (n ≤ e.1))

-- the same of a test that agrees
pub spans_same : (test other : ℕ → Bool) (ends : Option (ℕ × ℕ))
    → ((n : ℕ) → n < 36525 → test n ≡ other n) → Spans test ends → Spans other ends
spans_same test other None same s = λ n lt. sym (same n lt) ∙ s n lt
spans_same test other (Some e) same (first, last, within, all) =
    let order = (all e.1 within last).0 in (
      sym (same e.0 (omega arith)) ∙ first,
      sym (same e.1 within) ∙ last,
      within,
      λ n lt t. all n lt (same n lt ∙ t),
    )

or_cases : (a b : Bool) → (a || b) ≡ true → (a ≡ true) ⊎ (b ≡ true)
or_cases true b h = inl refl
or_cases false b h = inr h

neither : (a b : Bool) → a ≡ false → (a || b) ≡ true → b ≡ true
neither a b off h = sym (ap (λ (x : Bool). x || b) off) ∙ h

-- ---- one more period

module _ (test : ℕ → Bool) (p : Piece) (end : Ended 36525 p.0) where
  abbrev more : ℕ → Bool
  more n = test n || holds p.0 n

  by_piece : (n : ℕ) → holds p.0 n ≡ true → more n ≡ true
  by_piece n h = or_right (test n) (holds p.0 n) h

  by_test : (n : ℕ) → test n ≡ true → more n ≡ true
  by_test n h = or_left (test n) (holds p.0 n) h

  in_piece : (n : ℕ) → holds p.0 n ≡ true → (p.0.first ≤ n) × (n ≤ p.0.last)
  in_piece n h = let both = holds-Holds p.0 n h in (both.0, both.1)

  pub spans_one : (ends : Option (ℕ × ℕ)) → Spans test ends → Spans more (widened ends p.0)
  spans_one None none = (
    by_piece p.0.first end.2,
    by_piece p.0.last end.3,
    end.1,
    λ n lt t. in_piece n (neither (test n) (holds p.0 n) (none n lt) t),
  )
  spans_one (Some e) (first, last, within, all) = (
    elim (le_or_lt e.0 p.0.first) [
      | inl le ↦ let is : min e.0 p.0.first ≡ e.0 = omega arith in ap more is ∙ by_test e.0 first
      | inr lt ↦ let is : min e.0 p.0.first ≡ p.0.first = omega arith in ap more is ∙ by_piece p.0.first end.2
    ],
    elim (le_or_lt e.1 p.0.last) [
      | inl le ↦ let is : max e.1 p.0.last ≡ p.0.last = omega arith in ap more is ∙ by_piece p.0.last end.3
      | inr lt ↦ let is : max e.1 p.0.last ≡ e.1 = omega arith in ap more is ∙ by_test e.1 last
    ],
    (let high = end.1 in omega arith),
    λ n lt t. elim (or_cases (test n) (holds p.0 n) t) [
      | inl old ↦ let it = all n lt old in let low = it.0 in let high = it.1 in (omega arith, omega arith)
      | inr new ↦ let it = in_piece n new in let low = it.0 in let high = it.1 in (omega arith, omega arith)
    ],
  )

-- ---- the pieces of a flight

pub spans_pieces : (ps : List Piece) (test : ℕ → Bool) (ends : Option (ℕ × ℕ))
    → Every (λ (piece : Piece). Ended 36525 piece.0) ps → Spans test ends
    → Spans (λ n. test n || list_any (λ (piece : Piece). holds piece.0 n) ps) (widened_by ends ps)
spans_pieces [] test ends e s =
    spans_same test (λ n. test n || false) ends (λ n lt. or_false (test n)) s
spans_pieces (p ∷ ps) test ends e s =
    spans_same (λ n. (test n || holds p.0 n) || list_any (λ (piece : Piece). holds piece.0 n) ps)
    (λ n. test n || (holds p.0 n || list_any (λ (piece : Piece). holds piece.0 n) ps))
    (widened_by (widened ends p.0) ps)
    (λ n lt. or_assoc (test n) (holds p.0 n) (list_any (λ (piece : Piece). holds piece.0 n) ps))
    (spans_pieces ps (λ n. test n || holds p.0 n) (widened ends p.0) e.1 (spans_one test p e.0 ends s))

-- ---- the first and the last date by the calendar

pub any_none : (test : ℕ → Bool) (a k : ℕ) → ((n : ℕ) → n < a + k → test n ≡ false)
    → list_any test (range_with_len a k) ≡ false
any_none test a zero h = refl
any_none test a (suc k) h =
    ap₂ (λ (x y : Bool). x || y) (h a (omega arith)) (any_none test (a + 1) k (λ n l. h n (omega arith)))

not_before : (b : Bool) → (b ≡ true → ⊥) → b ≡ false
not_before true h = absurd (h refl)
not_before false h = refl

pub spans_found : (test : ℕ → Bool) (ends : Option (ℕ × ℕ)) → Spans test ends
    → ends ≡ ends_of test (list_any test calendar)
spans_found test None none =
    let count = day_count-is in
    sym (ap (ends_of test) (any_none test 0 day_count (λ n l. none n (omega arith))))
spans_found test (Some e) (first, last, within, all) =
    let count = day_count-is in
    let order = (all e.1 within last).0 in
    let some : list_any test calendar ≡ true = any_at test 0 day_count e.1 (omega arith) (omega arith) last in
    let from : first_where test 0 day_count ≡ e.0 =
    first_where-is test 0 day_count e.0 (omega arith) (omega arith) first
    (λ m low lt. not_before (test m) (λ t. let it = (all m (omega arith) t).0 in omega arith)) in
    let to : last_where test 0 day_count ≡ e.1 =
    last_where-at test 0 day_count e.1 (omega arith) (omega arith) last
    (λ m lt high. not_before (test m) (λ t. let it = (all m (omega arith) t).1 in omega arith)) in
    sym (ap (ends_of test) some ∙ ap₂ (λ (a b : ℕ). Some (a, b)) from to)
