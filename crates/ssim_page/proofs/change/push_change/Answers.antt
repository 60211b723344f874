-- The begin of the article, its lines, and its end.
use Rattle.std.proofs.Common.{codes}
use Rattle.ssim_page.specs.Changes.{change, change_lines, change_title}
use Rattle.ssim_page.proofs.Joining.{three_joined}
use Rattle.ssim_page.proofs.change.push_change.Goals as goal

pub returns : goal.returns
unfolding change
returns c =
    let piece = c.args.piece.now in
    three_joined c.args.page.now.items (change_title c.args.name.now piece.0) (change_lines piece.1)
    (codes "</pre></article>\n")
    c.in_ok-push_title.ensures c.in_ok-push_lines.ensures
    c.in_ok-extend_from_slice.ensures.items
