-- The link and the period, and what comes before and after them.
use Rattle.std.proofs.Common.{codes}
use Rattle.ssim_page.specs.Changes.{change_title}
use Rattle.ssim_page.specs.Link.{dated_link}
use Rattle.ssim_page.proofs.Joining.{three_joined}
use Rattle.ssim_page.proofs.change.push_title.Goals as goal

pub returns : goal.returns
unfolding change_title
returns c =
    three_joined c.args.page.now.items (codes "<article><h3>")
    (dated_link c.args.name.now c.args.period) (codes "</h3><pre>\n")
    c.in_ok-extend_from_slice.ensures.items c.in_ok-push_dated_link.ensures
    c.in_ok-extend_from_slice-2.ensures.items
