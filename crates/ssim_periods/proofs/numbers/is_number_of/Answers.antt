use Rattle.std.proofs.Common.{◌≡◌, ◌+◌, ◌<◌, ◌-◌, length, Some, map, sym, ap, ◌∙◌, arith}
use Rattle.ssim_periods.specs.internal.Gather.{numbered}
use Rattle.ssim_periods.proofs.NumberLemmas.{number-read}
use Rattle.ssim_periods.proofs.numbers.is_number_of.Goals as goal

pub returns-else-values-number : goal.returns-else-values-number
returns-else-values-number g c = λ t.
    let nothing = g.V.Value.nothing in let refs = c.args.values.now in let n = c.number.inside.number in let at = c.index-values-number in
    let some = c.if-values-number.false.0 in let high = c.if-values-number.false.1 in
    let next : n ≡ n - 1 + 1 = omega arith in let within : n - 1 < length refs = omega arith in
    let same = (g.met.V.Value.exact c.args.value.now at.result.now).0 (sym c.same.ensures ∙ t) in
    ap (numbered nothing (map (λ other. other.now) refs)) (sym c.number.view_is)
    ∙ number-read nothing (λ other. other.now) refs n (n - 1) at.result next within at.is ∙ ap Some (sym same)
