-- No row divides the period if the next point is its end.
use Rattle.std.proofs.Common.{◌≡◌, ◌+◌, arith, sym, ◌∙◌}
use Rattle.std.proofs.lemmas.Bool.Decides.{nat_tests}
use Rattle.ssim_schedule.proofs.Acts.{uniform_part}
use Rattle.ssim_schedule.proofs.effect.is_uniform.Goals as goal

pub returns : goal.returns
returns c = λ h.
    let period = c.args.period.now in
    let end : c.next_point.result ≡ c.number.result + 1 = grind (arith, nat_tests, h) in
    let last : c.number.result ≡ period.last = c.number.ensures.value ∙ c.last.ensures.value in
    uniform_part c.args.rows.now c.args.action.now period c.number-first.result c.next_point.result (sym (c.number-first.ensures.value ∙ c.first.ensures.value)) (omega (arith, end, last)) c.next_point.ensures.steady
