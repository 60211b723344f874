-- The note of the first and the last date, and their number.
use Rattle.std.proofs.Common.{◌∙◌, ◌++◌, List, ap, false, slice_index_or}
use Rattle.ssim_overview.specs.declared.table_notes.StationNote.{StationNote}
use Rattle.ssim_overview.proofs.NoteDates.{marks_counted}
use Rattle.ssim_overview.proofs.NoteStations.{some_note}
use Rattle.ssim_overview.proofs.table_notes.push_note.Goals as goal

pub returns : goal.returns
returns c =
    let marks = c.args.marks.now in
    c.in_ok-push.ensures.items ∙ ap (λ (l : List StationNote). c.args.notes.now.items ++ l)
    (some_note c.args.station c.args.kind (λ n. slice_index_or marks n false) c.in-Some.days
    c.count_marks.result c.in-Some.ensures (c.count_marks.ensures ∙ marks_counted marks c.requires))
