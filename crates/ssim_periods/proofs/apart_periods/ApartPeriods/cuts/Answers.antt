use Rattle.std.proofs.Common.{ap}
use Rattle.ssim_periods.proofs.ApartLemmas.{weekly}
use Rattle.ssim_periods.proofs.apart_periods.ApartPeriods.cuts.Goals as goal

pub returns-clause-weekly : goal.returns-clause-weekly
returns-clause-weekly g c m n le lt same free =
    weekly g.V.Value.nothing c.self.inside.entries.items c.self.inside.cuts.days c.days.result.now c.args.self.now.days m n
    (ap (λ s. s.days) c.self.view_is) c.self.invariant.1.divided c.days.ensures le lt same free
