-- The begin of the section, its articles, and its end.
use Rattle.std.proofs.Common.{codes}
use Rattle.ssim_page.specs.Changes.{change_articles, change_section}
use Rattle.ssim_page.proofs.Joining.{three_joined}
use Rattle.ssim_page.proofs.change.push_section.Goals as goal

pub returns : goal.returns
unfolding change_section
returns c =
    three_joined c.args.page.now.items (codes "<section id=\"changes\"><h2>Changes</h2>\n")
    (change_articles c.args.airline c.args.flights.now) (codes "</section>\n")
    c.in_ok-extend_from_slice.ensures.items c.in_ok-push_articles.ensures
    c.in_ok-extend_from_slice-2.ensures.items
