-- The words, with the table and the name between them.
use Rattle.std.proofs.Common.{codes}
use Rattle.ssim_sql.specs.Literal.{quote}
use Rattle.ssim_sql.proofs.Joining.{five_joined}
use Rattle.ssim_sql.proofs.script.push_delete.Goals as goal

pub returns : goal.returns
returns c =
    five_joined c.args.script.now.items (codes "DELETE FROM ") c.args.table.now
    (codes " WHERE timetable = ") (quote c.args.name.now) (codes ";\n")
    c.in_ok-extend_from_slice.ensures.items c.in_ok-extend_from_slice-2.ensures.items
    c.in_ok-extend_from_slice-3.ensures.items c.in_ok-push_text.ensures
    c.in_ok-extend_from_slice-4.ensures.items
