-- The parts of a new tail are written one after another over blanks, and each can be carried.
use Rattle.std.proofs.Common.{◌≡◌, ℕ, List, [], ◌∷◌, refl, lit≤, IsTrue}
use Rattle.std.specs.Prelude.{replicate}
use Rattle.std.specs.List.{AllZip}
use Rattle.ssim_values.specs.Station.{is_station}
use Rattle.ssim_columns.specs.Numbers.{digits}
use Rattle.ssim_columns.specs.Columns.{filled}
use Rattle.ssim_columns.specs.Segment.{IsTail, new_tail}
use Rattle.ssim_columns.proofs.lemmas.CarriedTexts.{IsCarried, digits_carried, filled_carried, joined_carried, joined_long, length_station, station_carried}
use Rattle.ssim_columns.proofs.lemmas.Overlay.{Fit, Write, all_lie, glued, length_written, stays, written}
use Rattle.ssim_columns.proofs.lemmas.Places.{length_concat}

abbrev pub tail_writes : List ℕ → ℕ → List ℕ → List ℕ → List ℕ → List Write
tail_writes points n board off text =
    (13, 2, filled 2 points) ∷ (15, 3, digits 3 n) ∷ (18, 3, board) ∷ (21, 3, off) ∷ (24, 155, filled 155 text) ∷ []

abbrev widths : List ℕ
widths = 13 ∷ 2 ∷ 3 ∷ 3 ∷ 3 ∷ 155 ∷ []

abbrev rows : List ℕ → ℕ → List ℕ → List ℕ → List ℕ → List (List ℕ)
rows points n board off text = replicate 13 32 ∷ filled 2 points ∷ digits 3 n ∷ board ∷ off ∷ filled 155 text ∷ []

fits : (points : List ℕ) (n : ℕ) (board off text : List ℕ) → IsTrue (is_station board) → IsTrue (is_station off) → Fit 179 (tail_writes points n board off text)
fits points n board off text h k =
    ((filled_carried 2 points).0, lit≤ tt, (refl, lit≤ tt, (length_station board h, lit≤ tt, (length_station off k, lit≤ tt, ((filled_carried 155 text).0, lit≤ tt, tt)))))

pub tail_written : (points : List ℕ) (n : ℕ) (board off text : List ℕ) → IsTrue (is_station board) → IsTrue (is_station off) → written (tail_writes points n board off text) (replicate 179 32) ≡ new_tail points n board off text
unfolding new_tail
tail_written points n board off text h k =
    let ws = tail_writes points n board off text in
    let fit = fits points n board off text h k in
    let keep = stays 179 ws (replicate 179 32) refl fit in
    let new = all_lie 179 ws (replicate 179 32) refl fit refl in
    glued widths (rows points n board off text) (written ws (replicate 179 32)) (keep 0 13 (lit≤ tt) refl, (new.0, (new.1.0, (new.1.1.0, (new.1.1.1.0, (new.1.1.1.1.0, tt)))))) refl (length_written 179 ws (replicate 179 32) refl fit)

pub is_new_tail : (points : List ℕ) (n : ℕ) (board off text : List ℕ) → IsTrue (is_station board) → IsTrue (is_station off) → IsTail (new_tail points n board off text)
unfolding new_tail
is_new_tail points n board off text h k =
    let ps = rows points n board off text in
    let all : AllZip (λ w p. IsCarried w p) widths ps =
    ((refl, refl), (filled_carried 2 points, (digits_carried n, ((length_station board h, station_carried board h), ((length_station off k, station_carried off k), (filled_carried 155 text, tt)))))) in
    record { len = length_concat widths ps (joined_long widths ps all) refl; carried = joined_carried widths ps all refl }
