-- The days, and the days of operation.
use Rattle.std.proofs.Common.{◌∙◌, ◌++◌, ◌∷◌, ap}
use Rattle.std.proofs.lemmas.Result.{on_ok_weaker}
use Rattle.ssim_listing.proofs.Joining.{joined}
use Rattle.ssim_listing.specs.LegText.{dotted}
use Rattle.ssim_values.specs.Day.{day_text}
use Rattle.ssim_values.specs.DayMask.{places_of}
use Rattle.ssim_page.proofs.link.push_period.Goals as goal

pub returns : goal.returns
returns c =
    let old = c.args.page.now.items in
    let days = 32 ∷ day_text c.first.result ++ 32 ∷ day_text c.last.result in
    on_ok_weaker c.push_shown.result
    (λ d. joined old days (32 ∷ dotted c.write.result) c.in_ok-push_days.ensures d
    ∙ (λ i. old ++ (32 ∷ ((day_text (c.first.ensures.value i)
    ++ 32 ∷ day_text (c.last.ensures.value i))
    ++ (32 ∷ dotted ((c.write.ensures.places ∙ ap places_of c.mask.ensures.value) i))))))
    c.push_shown.ensures
