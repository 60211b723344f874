-- One piece more, of one list or of both.
use Rattle.std.proofs.Common.{◌≡◌, ◌∙◌, ℕ, ◌+◌, ◌<◌, List, [], ◌∷◌, ◌++◌, length, take, Some}
use Rattle.std.proofs.Common.{slice_index_or, refl, sym, ap, ap₂, subst, arith}
use Rattle.std.proofs.lemmas.List.{take_more}
use Rattle.ssim_periods.specs.Calendar.{holds}
use Rattle.ssim_periods.specs.Days.{changed_on}
use Rattle.ssim_periods.proofs.DayLemmas.{get-index}
use Rattle.ssim_base.specs.Export.{Piece}
use Rattle.ssim_difference.specs.Differences.{difference}
use Rattle.ssim_difference.specs.declared.difference.Difference.{Difference}
use Rattle.ssim_difference.specs.internal.Between.{AreDisjoint, days_between}
use Rattle.ssim_difference.proofs.Between.{both_more, new_more, old_more}
use Rattle.ssim_difference.proofs.HeldPieces.{first_disjoint}
use Rattle.ssim_difference.proofs.flight_difference.days_between.Goals as goal

-- the first pieces and the next one
with_next : (all : List Piece) (k : ℕ) (piece : Piece) → k < length all
    → piece ≡ slice_index_or all k piece → take (k + 1) all ≡ take k all ++ piece ∷ []
with_next all k piece h is = take_more all k piece h
    ∙ ap (λ (p : Piece). take k all ++ p ∷ []) (sym is)

disjoint_next : (all : List Piece) (k : ℕ) (piece : Piece)
    → take (k + 1) all ≡ take k all ++ piece ∷ [] → AreDisjoint all
    → AreDisjoint (take k all ++ piece ∷ [])
disjoint_next all k piece is once = subst (λ (ps : List Piece). AreDisjoint ps) is
    (first_disjoint all (k + 1) once)

pub loop-i-preserved-in-Old : goal.loop-i-preserved-in-Old
loop-i-preserved-in-Old c =
    let old = c.args.old.now in let new = c.args.new.now in
    let i = c.loop-i.i in let j = c.loop-i.j in
    let piece = c.index-old-i.result in
    let within : i < length old = c.in-Old.ensures.old refl in
    let is = with_next old i piece within c.index-old-i.is in
    record {
      in_old = omega arith;
      in_new = c.loop-i.invariant.in_new;
      days = λ once once_too.
          c.in_ok-replace-in-Old.ensures.days
          ∙ ap (changed_on (holds piece.0) (λ (d : Difference). difference piece.1 d.new) 0)
          (c.loop-i.invariant.days once once_too)
          ∙ old_more (take i old) (take j new) piece (disjoint_next old i piece is once)
          ∙ ap (λ (ps : List Piece). days_between ps (take j new)) (sym is);
    }

pub loop-i-preserved-in-New : goal.loop-i-preserved-in-New
loop-i-preserved-in-New c =
    let old = c.args.old.now in let new = c.args.new.now in
    let i = c.loop-i.i in let j = c.loop-i.j in
    let piece = c.index-new-j.result in
    let within : j < length new = c.in-New.ensures.new refl in
    let is = with_next new j piece within c.index-new-j.is in
    record {
      in_old = c.loop-i.invariant.in_old;
      in_new = omega arith;
      days = λ once once_too.
          c.in_ok-replace-in-New.ensures.days
          ∙ ap (changed_on (holds piece.0) (λ (d : Difference). difference d.old piece.1) 0)
          (c.loop-i.invariant.days once once_too)
          ∙ new_more (take i old) (take j new) piece (disjoint_next new j piece is once_too)
          ∙ ap (days_between (take i old)) (sym is);
    }

abbrev no_piece : Piece
no_piece = (record { first = 0; last = 0; days = [] }, [])

same_piece : (x y : Piece) → Some x ≡ Some y → x ≡ y
same_piece x y h = cc

pub loop-i-preserved : goal.loop-i-preserved
loop-i-preserved c =
    let old = c.args.old.now in let new = c.args.new.now in
    let i = c.loop-i.i in let j = c.loop-i.j in
    let both = c.in-Both.ensures.both refl in
    let within : i < length old = both.0 in
    let within_too : j < length new = both.1 in
    let piece = slice_index_or old i no_piece in
    let there : slice_index_or new j no_piece ≡ piece =
    same_piece (slice_index_or new j no_piece) piece (sym (get-index new j no_piece within_too)
    ∙ sym both.2 ∙ get-index old i no_piece within) in
    let is : take (i + 1) old ≡ take i old ++ piece ∷ [] = take_more old i no_piece within in
    let is_too : take (j + 1) new ≡ take j new ++ piece ∷ [] = take_more new j no_piece within_too
    ∙ ap (λ (p : Piece). take j new ++ p ∷ []) there in
    record {
      in_old = omega arith;
      in_new = omega arith;
      days = λ once once_too.
          c.loop-i.invariant.days once once_too
          ∙ both_more (take i old) (take j new) piece (disjoint_next old i piece is once)
          (disjoint_next new j piece is_too once_too)
          ∙ sym (ap₂ days_between is is_too);
    }
