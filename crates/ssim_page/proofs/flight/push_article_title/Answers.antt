-- The name twice, and what comes before, between and after.
use Rattle.std.proofs.Common.{codes}
use Rattle.ssim_page.specs.Flight.{article_title}
use Rattle.ssim_page.proofs.Joining.{five_joined}
use Rattle.ssim_page.proofs.flight.push_article_title.Goals as goal

pub returns : goal.returns
unfolding article_title
returns c =
    five_joined c.args.page.now.items (codes "<article id=\"") c.args.name.now (codes "\"><h3>") c.args.name.now (codes "</h3><pre>\n")
    c.in_ok-extend_from_slice.ensures.items c.in_ok-extend_from_slice-2.ensures.items
    c.in_ok-extend_from_slice-3.ensures.items c.in_ok-extend_from_slice-4.ensures.items
    c.in_ok-extend_from_slice-5.ensures.items
