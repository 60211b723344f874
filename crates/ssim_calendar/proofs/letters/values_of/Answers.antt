-- The different values of one day more.
use Rattle.std.proofs.Common.{◌≡◌, ◌∙◌, ◌<◌, ◌≤◌, ℕ, Some, length, slice_get, ap, sym, arith}
use Rattle.ssim_periods.proofs.DayLemmas.{day_count-is}
use Rattle.ssim_calendar.specs.Letters.{new_values}
use Rattle.ssim_calendar.proofs.NewValues.{new_more, there}
use Rattle.ssim_calendar.proofs.letters.values_of.Goals as goal

pub loop-number-preserved : goal.loop-number-preserved
loop-number-preserved g c =
    let days = c.args.days.now.days in let n = c.loop-number.number in let v = c.at.result.now in
    let at : slice_get days n ≡ Some v = ap (λ (k : ℕ). slice_get days k) (sym c.day_at.ensures) ∙ c.at.ensures in
    let before : n < length days = there days n v at in
    let within : n ≤ length days = omega arith in
    c.in_ok-add_new.ensures ∙ sym
    (new_more g.V.Value.alike g.V.Value.nothing g.met.V.Value.exact days c.loop-number.values n v
    within at c.loop-number.invariant)

pub returns : goal.returns
returns g c =
    let test = c.loop-number-test.false in let end = c.loop-number.auto.number-end in
    let whole : c.loop-number.number ≡ 36525 = omega arith in
    c.loop-number.invariant ∙ ap (λ (k : ℕ). new_values g.V.Value.alike g.V.Value.nothing c.args.days.now.days k) (whole ∙ sym day_count-is)
