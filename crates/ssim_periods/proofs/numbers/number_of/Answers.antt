use Rattle.std.proofs.Common.{◌≡◌, Some, sym, rules}
use Rattle.ssim_periods.specs.internal.Gather.{numbered}
use Rattle.ssim_periods.proofs.NumberLemmas.{gathered-numbered}
use Rattle.ssim_periods.proofs.numbers.number_of.Goals as goal

pub returns-then-is_number_of-clause-values : goal.returns-then-is_number_of-clause-values
returns-then-is_number_of-clause-values g c =
    let nothing = g.V.Value.nothing in let values = c.args.values.now in let x = c.args.value.now in
    let is : numbered nothing values c.args.above ≡ Some x = search rules in
    sym (gathered-numbered g.V.Value.alike nothing g.met.V.Value.exact values x c.args.above is)

pub returns-then-is_number_of-2-clause-values : goal.returns-then-is_number_of-2-clause-values
returns-then-is_number_of-2-clause-values g c =
    let nothing = g.V.Value.nothing in let values = c.args.values.now in let x = c.args.value.now in
    let is : numbered nothing values c.args.beside ≡ Some x = search rules in
    sym (gathered-numbered g.V.Value.alike nothing g.met.V.Value.exact values x c.args.beside is)
