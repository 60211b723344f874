-- The link, and the period.
use Rattle.std.proofs.Common.{◌∷◌}
use Rattle.std.proofs.lemmas.Result.{on_ok_weaker}
use Rattle.ssim_listing.proofs.Joining.{joined}
use Rattle.ssim_listing.specs.Lines.{period_text}
use Rattle.ssim_page.specs.Link.{dated_link, flight_link}
use Rattle.ssim_page.proofs.link.push_dated_link.Goals as goal

pub returns : goal.returns
unfolding dated_link
returns c =
    on_ok_weaker c.push_period.result
    (λ d. joined c.args.page.now.items (flight_link c.args.name.now) (32 ∷ period_text c.args.period)
    c.in_ok-push_flight_link.ensures d)
    c.push_period.ensures
