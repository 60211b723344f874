-- After the last number no flight is left.
use Rattle.std.proofs.Common.{◌++◌, List, sym, ap, ◌∙◌, arith}
use Rattle.std.proofs.lemmas.List.{append-nil}
use Rattle.ssim_values.specs.Flight.{FlightNumber}
use Rattle.ssim_base.proofs.LegTables.{none-past}
use Rattle.ssim_base.proofs.leg_table.push_all.Goals as goal

pub returns : goal.returns
returns c =
    sym (ap (λ (fs : List FlightNumber). c.loop-number.all.items ++ fs) (none-past c.args.numbers.now c.loop-number.number (omega arith) (λ below. omega arith)) ∙ append-nil c.loop-number.all.items)
    ∙ c.loop-number.invariant
