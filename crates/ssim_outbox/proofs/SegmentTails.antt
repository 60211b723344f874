-- The tail that a segment line gives has its values.
use Rattle.std.proofs.Common.{◌≡◌, ◌∙◌, ℕ, List, [], ◌∷◌, length, refl, sym, ap, lit≤, IsTrue}
use Rattle.std.proofs.Common.{Option, Some, None, IfSome, IfNone, true}
use Rattle.std.specs.Prelude.{replicate}
use Rattle.std.specs.List.{AllZip}
use Rattle.ssim_values.specs.Station.{is_station}
use Rattle.ssim_columns.specs.Columns.{filled}
use Rattle.ssim_columns.specs.Numbers.{digits}
use Rattle.ssim_columns.specs.Segment.{new_tail}
use Rattle.ssim_columns.specs.clauses.Segment.{tail_columns}
use Rattle.ssim_columns.proofs.lemmas.CarriedTexts.{filled_carried, length_station}
use Rattle.ssim_columns.proofs.lemmas.NewTails.{is_new_tail}
use Rattle.ssim_columns.proofs.lemmas.Places.{all_placed}
use Rattle.ssim_columns.proofs.lemmas.Segments.{tail_part}
use Rattle.ssim_text.specs.Left.{without_end}
use Rattle.ssim_text.specs.Lines.{station_in}
use Rattle.ssim_text.specs.declared.segment.SegmentLine.{SegmentLine}
use Rattle.ssim_text.proofs.LegsAgain.{station_read}
use Rattle.ssim_text.proofs.MadeLines.{segment_line_within}
use Rattle.ssim_text.proofs.Runs.{none_some}
use Rattle.ssim_outbox.specs.internal.ColumnLines.{HasSegment}
use Rattle.ssim_outbox.proofs.FilledColumns.{filled_end}

abbrev tail_widths : List ℕ
tail_widths = 13 ∷ 2 ∷ 3 ∷ 3 ∷ 3 ∷ 155 ∷ []

-- the columns of a new tail
record TailIs (n : ℕ) (board off text d : List ℕ) : Type 0 where
  identifier : tail_columns 31 33 d ≡ digits 3 n
  board_point : tail_columns 34 36 d ≡ board
  off_point : tail_columns 37 39 d ≡ off
  texts : tail_columns 40 194 d ≡ filled 155 text

tail_is : (points : List ℕ) (n : ℕ) (board off text : List ℕ) → IsTrue (is_station board)
    → IsTrue (is_station off) → TailIs n board off text (new_tail points n board off text)
unfolding new_tail
tail_is points n board off text h k =
    let d = new_tail points n board off text in
    let rows = replicate 13 32
    ∷ filled 2 points
    ∷ digits 3 n
    ∷ board
    ∷ off
    ∷ filled 155 text
    ∷ [] in
    let long : AllZip (λ w p. length p ≡ w) tail_widths rows = (
      refl,
      (
        (filled_carried 2 points).0,
        (
          refl,
          (length_station board h, (length_station off k, ((filled_carried 155 text).0, tt))),
        ),
      ),
    ) in
    let p = all_placed tail_widths rows long in
    let len = (is_new_tail points n board off text h k).len in
    record {
      identifier = sym (tail_part d 31 33 len (lit≤ tt) (lit≤ tt) (lit≤ tt)) ∙ p.1.1.0;
      board_point = sym (tail_part d 34 36 len (lit≤ tt) (lit≤ tt) (lit≤ tt)) ∙ p.1.1.1.0;
      off_point = sym (tail_part d 37 39 len (lit≤ tt) (lit≤ tt) (lit≤ tt)) ∙ p.1.1.1.1.0;
      texts = sym (tail_part d 40 194 len (lit≤ tt) (lit≤ tt) (lit≤ tt)) ∙ p.1.1.1.1.1.0;
    }

-- the columns of a tail have the values of the segment line
pub record HasValues (s : SegmentLine) (d : List ℕ) : Type 0 where
  pub identifier : tail_columns 31 33 d ≡ digits 3 s.identifier
  pub board : tail_columns 34 36 d ≡ s.board
  pub off : tail_columns 37 39 d ≡ s.off
  pub text : without_end (tail_columns 40 194 d) ≡ s.text

pub has_values : (s : SegmentLine) (d : List ℕ) → HasSegment s d → HasValues s d
has_values s d h =
    let w = segment_line_within s h.is_line in
    let t = tail_is h.points s.identifier s.board s.off s.text w.board w.off in
    let at = λ (first last : ℕ). ap (tail_columns first last) h.made in
    record {
      identifier = at 31 33 ∙ t.identifier;
      board = at 34 36 ∙ t.board_point;
      off = at 37 39 ∙ t.off_point;
      text = ap without_end (at 40 194 ∙ t.texts)
          ∙ filled_end 155 s.text w.few w.text.printable ∙ w.text.ended;
    }

-- the station that is read of its letters
pub station_found : (text : List ℕ) (found : Option (List ℕ)) (station : List ℕ)
    → IfSome found (λ s. station_in text ≡ Some s) → IfNone found (station_in text ≡ None)
    → text ≡ station → is_station station ≡ true → found ≡ Some station
station_found text None station some none same is =
    absurd (none_some station (sym none ∙ ap station_in same ∙ station_read station is))
station_found text (Some found) station some none same is =
    sym some ∙ (ap station_in same ∙ station_read station is)
