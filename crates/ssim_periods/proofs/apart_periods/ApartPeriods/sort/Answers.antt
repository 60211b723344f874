-- In any order the periods hold the same days with the same values.
use Rattle.std.proofs.Common.{◌∙◌}
use Rattle.ssim_periods.proofs.ListPieces.{apart-moved, seen-moved}
use Rattle.ssim_periods.proofs.apart_periods.ApartPeriods.sort.Goals as goal

pub invariant_of-self-2 : goal.invariant_of-self-2
invariant_of-self-2 g c =
    (c.self.invariant.0, apart-moved g.V.Value.nothing c.self.inside.entries.items c.sort_by_key.new.self.items c.self.inside.cuts.days c.sort_by_key.ensures.permutation c.self.invariant.1)

pub returns : goal.returns
returns g c =
    seen-moved g.V.Value.nothing c.self.inside.entries.items c.sort_by_key.new.self.items c.self.inside.cuts.days c.sort_by_key.ensures.permutation c.self.invariant.1 ∙ c.self.view_is
