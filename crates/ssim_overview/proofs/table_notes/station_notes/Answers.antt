-- The notes of one rank more, by its rows and ends.
use Rattle.std.proofs.Common.{◌≡◌, ◌<◌, ◌∙◌, ◌++◌, List, map, length, ap, ap₂, sym, subst, arith}
use Rattle.std.proofs.lemmas.List.{length-map}
use Rattle.ssim_base.specs.Stations.{Row}
use Rattle.ssim_overview.specs.StationNotes.{notes_on}
use Rattle.ssim_overview.specs.Totals.{station_at}
use Rattle.ssim_overview.specs.internal.StationNotes.{AreEnds, DatedEnd, is_marked, rank_notes}
use Rattle.ssim_overview.specs.internal.StationNotes.{records_ends}
use Rattle.ssim_overview.specs.declared.table_notes.StationNote.{StationNote}
use Rattle.ssim_overview.proofs.NoteStations.{notes_are}
use Rattle.ssim_overview.proofs.Ranks.{at_map, rank_more}
use Rattle.ssim_overview.proofs.table_notes.station_notes.Goals as goal

pub loop-rank-preserved : goal.loop-rank-preserved
loop-rank-preserved c =
    let table = c.in_ok-table.table.items in let ends = c.in_ok-ends.ends.items in
    let k = c.loop-rank.rank in
    let below = c.loop-rank-test.true in
    let rows_len : length table ≡ 17576 = sym (length-map table (λ list. list.items))
    ∙ c.in_ok-table.ensures.len in
    let ends_len : length ends ≡ 17576 = sym (length-map ends (λ list. list.items))
    ∙ c.in_ok-ends.ensures.len in
    let in_rows : k < length table = omega arith in let in_ends : k < length ends = omega arith in
    rank_more (rank_notes (map (λ list. list.items) table) (map (λ list. list.items) ends)) k
    c.loop-rank.notes.items c.push_station.new.notes.items c.loop-rank.invariant
    (c.in_ok-push_station.ensures
    ∙ ap (λ (l : List StationNote). c.loop-rank.notes.items ++ l)
    (ap₂ (λ (rows : List Row) (own : List DatedEnd).
    notes_on (station_at k) (λ kind. is_marked (station_at k) kind rows own))
    (c.deref-in-loop-rank.ensures.value ∙ ap (λ list. list.items) c.index.ensures
    ∙ sym (at_map (λ list. list.items) table k c.index.result.now in_rows))
    (c.deref-in-loop-rank-2.ensures.value ∙ ap (λ list. list.items) c.index-in-loop-rank.ensures
    ∙ sym (at_map (λ list. list.items) ends k c.index-in-loop-rank.result.now in_ends))))

pub returns : goal.returns
returns c =
    let table = c.in_ok-table.table.items in let ends = c.in_ok-ends.ends.items in
    let over = c.loop-rank-test.false in let to = c.loop-rank.auto.rank-end in
    let done : c.loop-rank.rank ≡ 17576 = omega arith in
    notes_are c.args.records.now c.args.rows.now (map (λ list. list.items) table)
    (map (λ list. list.items) ends)
    c.in_ok-table.ensures
    (subst (λ rows. AreEnds (map (λ list. list.items) rows) (records_ends c.args.records.now)
    (map (λ list. list.items) ends)) c.deref.ensures.value c.in_ok-ends.ensures)
    c.loop-rank.notes.items c.loop-rank.rank done c.loop-rank.invariant
