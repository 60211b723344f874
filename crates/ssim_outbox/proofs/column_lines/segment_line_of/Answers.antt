-- The points, the identifier and the text are those of the segment line that the tail has.
use Rattle.std.proofs.Common.{◌≡◌, ◌∙◌, ap, sym}
use Rattle.ssim_text.specs.Grammar.{IsSegmentLine}
use Rattle.ssim_text.specs.Left.{without_end}
use Rattle.ssim_text.specs.declared.segment.SegmentLine.{SegmentLine}
use Rattle.ssim_text.proofs.MadeLines.{segment_line_within}
use Rattle.ssim_text.proofs.Runs.{none_some, some_same}
use Rattle.ssim_outbox.proofs.ColumnReads.{made_is}
use Rattle.ssim_outbox.proofs.SegmentTails.{has_values, station_found}
use Rattle.ssim_outbox.proofs.column_lines.segment_line_of.Goals as goal

pub returns-in_default-clause-found : goal.returns-in_default-clause-found
returns-in_default-clause-found c = λ s h.
    let is = c.board_point.ensures ∙ (has_values s c.args.tail.now h).board in
    absurd (none_some s.board (sym c.in_default.is
    ∙ station_found c.board_point.result c.read_station.result s.board c.read_station.ensures.some
    c.read_station.ensures.none is (segment_line_within s h.is_line).board))

pub returns-in_default-read_station-clause-found :
    goal.returns-in_default-read_station-clause-found
returns-in_default-read_station-clause-found c = λ s h.
    let is = c.off_point.ensures ∙ (has_values s c.args.tail.now h).off in
    absurd (none_some s.off (sym c.in_default-read_station.is
    ∙ station_found c.off_point.result c.read_station-2.result s.off c.read_station-2.ensures.some
    c.read_station-2.ensures.none is (segment_line_within s h.is_line).off))

pub returns-clause-found : goal.returns-clause-found
returns-clause-found c = λ s h.
    let v = has_values s c.args.tail.now h in
    let w = segment_line_within s h.is_line in
    let board = some_same c.in-Some.board s.board (sym c.in-Some.is
    ∙ station_found c.board_point.result c.read_station.result s.board c.read_station.ensures.some
    c.read_station.ensures.none (c.board_point.ensures ∙ v.board) w.board) in
    let off = some_same c.in-Some-read_station.off s.off (sym c.in-Some-read_station.is
    ∙ station_found c.off_point.result c.read_station-2.result s.off c.read_station-2.ensures.some
    c.read_station-2.ensures.none (c.off_point.ensures ∙ v.off) w.off) in
    let identifier = c.number_of-identifier.ensures s.identifier w.identifier
    (c.data_element_identifier.ensures ∙ v.identifier) in
    let text = c.without_end.ensures ∙ ap without_end c.data-data.ensures ∙ v.text in
    let own : SegmentLine = record {
      board = c.in-Some.board;
      off = c.in-Some-read_station.off;
      identifier = c.number_of-identifier.result;
      text = c.without_end.result.now;
    } in
    let same : own ≡ s = λ i. record {
      board = board i;
      off = off i;
      identifier = identifier i;
      text = text i;
    } in
    made_is IsSegmentLine c.in_ok-new.field-0 own s c.in_ok-new.ensures.value c.in_ok-new.ensures.none
    same h.is_line
