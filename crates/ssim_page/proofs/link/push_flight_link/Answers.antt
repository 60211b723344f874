-- The name twice, and what comes before, between and after.
use Rattle.std.proofs.Common.{codes}
use Rattle.ssim_page.specs.Link.{flight_link}
use Rattle.ssim_page.proofs.Joining.{five_joined}
use Rattle.ssim_page.proofs.link.push_flight_link.Goals as goal

pub returns : goal.returns
unfolding flight_link
returns c =
    five_joined c.args.page.now.items (codes "<a href=\"#") c.args.name.now (codes "\">")
    c.args.name.now (codes "</a>")
    c.in_ok-extend_from_slice.ensures.items c.in_ok-extend_from_slice-2.ensures.items
    c.in_ok-extend_from_slice-3.ensures.items c.in_ok-extend_from_slice-4.ensures.items
    c.in_ok-extend_from_slice-5.ensures.items
