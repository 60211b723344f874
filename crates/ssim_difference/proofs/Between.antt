-- The difference of two lists of pieces, with one piece more in one of them or in both.
use Rattle.std.proofs.Common.{◌≡◌, ◌∙◌, ℕ, Bool, true, false, if◌then◌else◌, List, [], ◌∷◌, ◌++◌}
use Rattle.std.proofs.Common.{slice_index_or, refl, sym, ap, ap₂}
use Rattle.ssim_periods.specs.Calendar.{holds}
use Rattle.ssim_periods.specs.Days.{changed_on}
use Rattle.ssim_periods.proofs.DayLemmas.{changed_on-each_day, each_day-same}
use Rattle.ssim_base.specs.Export.{Piece, pieces}
use Rattle.ssim_base.specs.Timetable.{Days, Legs, on_day}
use Rattle.ssim_difference.specs.Differences.{difference, differing_days}
use Rattle.ssim_difference.specs.declared.difference.Difference.{Difference}
use Rattle.ssim_difference.specs.internal.Between.{AreDisjoint, days_between, held}
use Rattle.ssim_difference.proofs.DateDifferences.{difference_self, new_of, old_of}
use Rattle.ssim_difference.proofs.HeldPieces.{held_elsewhere, held_here, held_pieces, none_before}

-- the difference of the pieces of two lists of days
pub between_pieces : (before after : Days)
    → days_between (pieces before) (pieces after) ≡ differing_days before after
between_pieces before after =
    each_day-same (λ n. difference (held (pieces before) n) (held (pieces after) n))
    (λ n. difference (on_day before n) (on_day after n))
    (λ n h. ap₂ difference (held_pieces before n) (held_pieces after n))

-- the difference of two lists of pieces that are those of days
pub between_lists : (old new : List Piece) (before after : Days) → old ≡ pieces before
    → new ≡ pieces after → days_between old new ≡ differing_days before after
between_lists old new before after old_is new_is =
    ap₂ days_between old_is new_is ∙ between_pieces before after

-- no legs are held where no piece is
first_of_none : (before : List Piece) (piece : Piece) (n : ℕ) → AreDisjoint (before ++ piece ∷ [])
    → holds piece.0 n ≡ true
    → held before n ≡ []
first_of_none before piece n once h =
    ap (λ (found : List Legs). slice_index_or found 0 []) (none_before before piece n once h)

-- an old piece more
pub old_more : (old new : List Piece) (piece : Piece) → AreDisjoint (old ++ piece ∷ [])
    → changed_on (holds piece.0) (λ (d : Difference). difference piece.1 d.new) 0
    (days_between old new)
    ≡ days_between (old ++ piece ∷ []) new
old_more old new piece once =
    changed_on-each_day (holds piece.0) (λ (d : Difference). difference piece.1 d.new)
    (λ n. difference (held old n) (held new n))
    ∙ each_day-same (λ n. if holds piece.0 n then difference piece.1
    (difference (held old n) (held new n)).new else difference (held old n) (held new n))
    (λ n. difference (held (old ++ piece ∷ []) n) (held new n)) (λ n h. on n (holds piece.0 n) refl)
  where
    on : (n : ℕ) (b : Bool) → holds piece.0 n ≡ b
        → (if holds piece.0 n then difference piece.1
        (difference (held old n) (held new n)).new else difference (held old n) (held new n))
        ≡ difference (held (old ++ piece ∷ []) n) (held new n)
    on n true e =
        ap (λ (b : Bool). if b then difference piece.1
        (difference (held old n) (held new n)).new else difference (held old n) (held new n)) e
        ∙ ap (λ (legs : Legs). difference piece.1 (difference legs (held new n)).new)
        (first_of_none old piece n once e)
        ∙ ap (difference piece.1) (new_of (held new n))
        ∙ ap (λ (legs : Legs). difference legs (held new n)) (sym (held_here old piece n once e))
    on n false e =
        ap (λ (b : Bool). if b then difference piece.1
        (difference (held old n) (held new n)).new else difference (held old n) (held new n)) e
        ∙ ap (λ (legs : Legs). difference legs (held new n)) (sym (held_elsewhere old piece n e))

-- a new piece more
pub new_more : (old new : List Piece) (piece : Piece) → AreDisjoint (new ++ piece ∷ [])
    → changed_on (holds piece.0) (λ (d : Difference). difference d.old piece.1) 0
    (days_between old new)
    ≡ days_between old (new ++ piece ∷ [])
new_more old new piece once =
    changed_on-each_day (holds piece.0) (λ (d : Difference). difference d.old piece.1)
    (λ n. difference (held old n) (held new n))
    ∙ each_day-same (λ n. if holds piece.0 n then difference
    (difference (held old n) (held new n)).old piece.1 else difference (held old n) (held new n))
    (λ n. difference (held old n) (held (new ++ piece ∷ []) n)) (λ n h. on n (holds piece.0 n) refl)
  where
    on : (n : ℕ) (b : Bool) → holds piece.0 n ≡ b
        → (if holds piece.0 n then difference
        (difference (held old n) (held new n)).old piece.1 else difference (held old n)
        (held new n))
        ≡ difference (held old n) (held (new ++ piece ∷ []) n)
    on n true e =
        ap (λ (b : Bool). if b then difference
        (difference (held old n) (held new n)).old piece.1 else difference (held old n)
        (held new n)) e
        ∙ ap (λ (legs : Legs). difference (difference (held old n) legs).old piece.1)
        (first_of_none new piece n once e)
        ∙ ap (λ (legs : Legs). difference legs piece.1) (old_of (held old n))
        ∙ ap (difference (held old n)) (sym (held_here new piece n once e))
    on n false e =
        ap (λ (b : Bool). if b then difference
        (difference (held old n) (held new n)).old piece.1 else difference (held old n)
        (held new n)) e
        ∙ ap (difference (held old n)) (sym (held_elsewhere new piece n e))

-- the same piece more in both
pub both_more : (old new : List Piece) (piece : Piece) → AreDisjoint (old ++ piece ∷ [])
    → AreDisjoint (new ++ piece ∷ [])
    → days_between old new ≡ days_between (old ++ piece ∷ []) (new ++ piece ∷ [])
both_more old new piece once once_too =
    each_day-same (λ n. difference (held old n) (held new n))
    (λ n. difference (held (old ++ piece ∷ []) n) (held (new ++ piece ∷ []) n))
    (λ n h. on n (holds piece.0 n) refl)
  where
    on : (n : ℕ) (b : Bool) → holds piece.0 n ≡ b
        → difference (held old n) (held new n)
        ≡ difference (held (old ++ piece ∷ []) n) (held (new ++ piece ∷ []) n)
    on n true e =
        ap₂ difference (first_of_none old piece n once e) (first_of_none new piece n once_too e)
        ∙ sym (ap₂ difference (held_here old piece n once e) (held_here new piece n once_too e)
        ∙ difference_self piece.1)
    on n false e = sym (ap₂ difference (held_elsewhere old piece n e) (held_elsewhere new piece n e))
