-- The notes of both kinds, or none if there is no end.
use Rattle.std.proofs.Common.{◌∙◌, List, Bool, ap, false, slice_index_or, sym}
use Rattle.std.proofs.lemmas.Result.{on_ok_weaker}
use Rattle.ssim_base.specs.Stations.{Row}
use Rattle.ssim_overview.specs.Totals.{station_at}
use Rattle.ssim_overview.specs.internal.StationNotes.{is_marked}
use Rattle.ssim_overview.specs.declared.table_notes.NoteKind.TheVariants.{Missing, Other}
use Rattle.ssim_overview.proofs.NoteStations.{empty_is, no_notes, two_notes}
use Rattle.ssim_overview.proofs.table_notes.push_station.Goals as goal

pub returns-then-is_empty : goal.returns-then-is_empty
returns-then-is_empty c =
    no_notes (station_at c.args.rank) c.args.rows.now c.args.ends.now c.args.notes.now.items
    (empty_is c.args.ends.now (sym c.is_empty.ensures ∙ c.if-is_empty.true))

pub returns : goal.returns
returns c =
    let s = c.station_at-station.result in let ends = c.args.ends.now in
    on_ok_weaker c.push_note-2.result (λ added.
    two_notes (station_at c.args.rank) s c.args.rows.now ends c.deref-2.result.now
    c.deref-4.result.now c.args.notes.now.items c.push_note.new.notes.items
    c.push_note-2.new.notes.items c.station_at-station.ensures
    (λ n lt. ap (λ (l : List Bool). slice_index_or l n false) c.deref-2.ensures.value
    ∙ c.in_ok-missing.ensures.each n lt
    ∙ ap (λ (rows : List Row). is_marked s Missing rows ends n)
    (c.deref.ensures.value ∙ c.in_ok-rows.ensures))
    (λ n lt. ap (λ (l : List Bool). slice_index_or l n false) c.deref-4.ensures.value
    ∙ c.in_ok-other.ensures.each n lt
    ∙ ap (λ (rows : List Row). is_marked s Other rows ends n)
    (c.deref-3.ensures.value ∙ c.in_ok-rows.ensures))
    c.in_ok-push_note.ensures added) c.push_note-2.ensures
