-- The parts of the day's text, and the number of its month.
use Rattle.std.proofs.Common.{◌∙◌, ◌<◌, ◌∷◌, [], List, ℕ, ap, get_or, subst}
use Rattle.ssim_values.specs.Calendar.{day_limit}
use Rattle.ssim_values.proofs.CalendarLemmas.{day_number_bound}
use Rattle.ssim_listing.proofs.IsoDates.{iso_is}
use Rattle.ssim_listing.proofs.iso.iso_date.Goals as goal

pub returns : goal.returns
returns c =
    let text = c.write.result in
    let spelled = c.write.ensures.spells in
    let within = subst (λ (n : ℕ). n < day_limit) spelled.number (day_number_bound spelled.year spelled.month spelled.day spelled.is_date) in
    let month = c.in-Some.ensures.some in
    ap (λ (ds : List ℕ). 50 ∷ 48 ∷ get_or text 5 0 ∷ get_or text 6 0 ∷ 45 ∷ get_or ds 0 0 ∷ get_or ds 1 0 ∷ 45 ∷ get_or text 0 0 ∷ get_or text 1 0 ∷ [])
    c.write_two_digits.ensures
    ∙ iso_is c.args.day c.in-Some.month text within c.write.ensures.value month.0 month.1 month.2
