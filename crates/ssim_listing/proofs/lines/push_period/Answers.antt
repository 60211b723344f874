-- The name, the days and the days of operation, one after another.
use Rattle.std.proofs.Common.{◌∙◌, ◌++◌, ◌∷◌, [], List, ℕ, ap}
use Rattle.ssim_values.specs.Day.{day_text}
use Rattle.ssim_values.specs.DayMask.{places_of}
use Rattle.ssim_base.specs.Export.{line}
use Rattle.ssim_listing.specs.LegText.{dotted}
use Rattle.ssim_listing.proofs.Joining.{four, joined}
use Rattle.ssim_listing.proofs.lines.push_period.Goals as goal

pub returns : goal.returns
returns c =
    let old = c.args.lines.now.items in
    let name = c.args.name.now in
    let first = 32 ∷ day_text c.first.result in
    let last = 32 ∷ day_text c.last.result in
    let days = 32 ∷ dotted c.write.result in
    let dates = joined old (name ++ first) last (joined old name first c.in_ok-extend_from_slice.ensures.items c.in_ok-push_day.ensures) c.in_ok-push_day-2.ensures in
    joined old (((name ++ first) ++ last) ++ days) (10 ∷ []) (joined old ((name ++ first) ++ last) days dates c.in_ok-push_shown.ensures) c.in_ok-push.ensures.items
    ∙ (ap (λ (bs : List ℕ). old ++ line bs) (four name first last days)
    ∙ (λ i. old ++ line (name ++ 32 ∷ ((day_text (c.first.ensures.value i) ++ 32 ∷ day_text (c.last.ensures.value i)) ++ (32 ∷ dotted ((c.write.ensures.places ∙ ap places_of c.mask.ensures.value) i))))))
