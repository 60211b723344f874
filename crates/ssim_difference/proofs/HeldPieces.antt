-- Which itinerary pieces hold on a day: that of the days whose pieces they are; and with one piece
-- more.
use Rattle.std.proofs.Common.{◌≡◌, ◌∙◌, ℕ, ◌+◌, ◌≤◌, Bool, true, false, if◌then◌else◌, List, [], ◌∷◌}
use Rattle.std.proofs.Common.{◌++◌, take, drop, length, slice_index_or, refl, sym, ap, subst, arith}
use Rattle.std.proofs.Common.{length-append}
use Rattle.std.proofs.lemmas.List.{take-append-drop}
use Rattle.ssim_periods.specs.Calendar.{holds}
use Rattle.ssim_periods.specs.Pieces.{alone, held_on}
use Rattle.ssim_periods.proofs.PieceLaw.{alone-short, held_on-append, pieces_law}
use Rattle.ssim_base.specs.Export.{Piece, pieces, same_itinerary}
use Rattle.ssim_base.specs.clauses.ItineraryLaws.{exact_itinerary}
use Rattle.ssim_base.specs.Timetable.{Days, Legs, on_day}
use Rattle.ssim_difference.specs.internal.Between.{AreDisjoint, held}

-- ---- the pieces of days

first_alone : (legs : Legs) → slice_index_or (alone same_itinerary [] legs) 0 [] ≡ legs
first_alone [] = refl
first_alone (leg ∷ legs) = refl

-- the pieces of days hold the itinerary of each day
pub held_pieces : (days : Days) (n : ℕ) → held (pieces days) n ≡ on_day days n
held_pieces days n =
    ap (λ (found : List Legs). slice_index_or found 0 [])
    ((pieces_law same_itinerary [] exact_itinerary days).on_each_day n)
    ∙ first_alone (on_day days n)

-- no day is held by two of the pieces of days
pub pieces_disjoint : (days : Days) → AreDisjoint (pieces days)
pieces_disjoint days n =
    subst (λ (found : List Legs). length found ≤ 1)
    (sym ((pieces_law same_itinerary [] exact_itinerary days).on_each_day n))
    (alone-short same_itinerary [] (on_day days n))

-- no day is held by two pieces that are those of days
pub are_disjoint : (ps : List Piece) (days : Days) → ps ≡ pieces days → AreDisjoint ps
are_disjoint ps days is = subst (λ (qs : List Piece). AreDisjoint qs) (sym is) (pieces_disjoint days)

-- ---- one piece more

one_held : (piece : Piece) (n : ℕ) (b : Bool) → holds piece.0 n ≡ b
    → held_on (piece ∷ []) n ≡ (if b then piece.1 ∷ [] else [])
one_held piece n b e = ap (λ (c : Bool). if c then piece.1 ∷ [] else []) e

none_left : (found : List Legs) (legs : Legs) → length (found ++ legs ∷ []) ≤ 1 → found ≡ []
none_left [] legs h = refl
none_left (x ∷ []) legs h = absurd (omega arith)
none_left (x ∷ y ∷ found) legs h = absurd (omega arith)

-- no earlier piece holds a day of the last one, if no day is held by two
pub none_before : (before : List Piece) (piece : Piece) (n : ℕ) → AreDisjoint (before ++ piece ∷ [])
    → holds piece.0 n ≡ true
    → held_on before n ≡ []
none_before before piece n once h =
    let both : held_on (before ++ piece ∷ []) n ≡ held_on before n ++ piece.1 ∷ [] =
    held_on-append before (piece ∷ []) n
    ∙ ap (λ (found : List Legs). held_on before n ++ found) (one_held piece n true h) in
    none_left (held_on before n) piece.1
    (subst (λ (found : List Legs). length found ≤ 1) both (once n))

-- the last piece holds its days
pub held_here : (before : List Piece) (piece : Piece) (n : ℕ) → AreDisjoint (before ++ piece ∷ [])
    → holds piece.0 n ≡ true
    → held (before ++ piece ∷ []) n ≡ piece.1
held_here before piece n once h =
    ap (λ (found : List Legs). slice_index_or found 0 [])
    (held_on-append before (piece ∷ []) n
    ∙ ap (λ (found : List Legs). found ++ held_on (piece ∷ []) n) (none_before before piece n once h)
    ∙ one_held piece n true h)

-- other days are held as before
pub held_elsewhere : (before : List Piece) (piece : Piece) (n : ℕ) → holds piece.0 n ≡ false
    → held (before ++ piece ∷ []) n ≡ held before n
held_elsewhere before piece n h =
    ap (λ (found : List Legs). slice_index_or found 0 [])
    (held_on-append before (piece ∷ []) n
    ∙ ap (λ (found : List Legs). held_on before n ++ found) (one_held piece n false h)
    ∙ nothing_more (held_on before n))
  where
    nothing_more : (found : List Legs) → found ++ [] ≡ found
    nothing_more [] = refl
    nothing_more (x ∷ found) = ap (λ (xs : List Legs). x ∷ xs) (nothing_more found)

-- a day is held by no more of the first pieces than of all
pub first_disjoint : (all : List Piece) (k : ℕ) → AreDisjoint all → AreDisjoint (take k all)
first_disjoint all k once n =
    let both : held_on all n ≡ held_on (take k all) n ++ held_on (drop k all) n =
    ap (λ (ps : List Piece). held_on ps n) (sym (take-append-drop k all))
    ∙ held_on-append (take k all) (drop k all) n in
    let whole : length (held_on all n)
    ≡ length (held_on (take k all) n) + length (held_on (drop k all) n) =
    ap length both ∙ length-append (held_on (take k all) n) (held_on (drop k all) n) in
    let one : length (held_on all n) ≤ 1 = once n in
    omega arith
