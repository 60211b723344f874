-- The flight, the date, the line of the leg and the line end, one after another.
use Rattle.std.proofs.Common.{◌≡◌, ◌∙◌, ◌++◌, ◌∷◌, [], List, ℕ, ap}
use Rattle.ssim_values.specs.Day.{day_text}
use Rattle.ssim_listing.proofs.Joining.{joined}
use Rattle.ssim_listing.proofs.dates.VecU8PrintedDatedName.print.Goals as goal

pub returns : goal.returns
returns c =
    let old = c.args.lines.now.items in
    let name = c.args.start.now.name.now in
    let day = 32 ∷ day_text c.args.start.now.day in
    let leg = c.deref.result.now in
    joined old ((name ++ day) ++ 32 ∷ leg) (10 ∷ [])
    (joined old (name ++ day) (32 ∷ leg)
    (joined old name day c.in_ok-extend_from_slice.ensures.items c.in_ok-push_day.ensures)
    (joined c.push_day.new.lines.items (32 ∷ []) leg c.in_ok-push.ensures.items c.in_ok-extend_from_slice-2.ensures.items))
    c.in_ok-push-2.ensures.items
    ∙ ap (λ (text : List ℕ). old ++ (((name ++ day) ++ 32 ∷ text) ++ 10 ∷ [])) c.deref.ensures.value
