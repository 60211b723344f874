-- The periods, their values and their cuts are copies.
use Rattle.std.proofs.Common.{◌∙◌}
use Rattle.ssim_periods.proofs.CopyLemmas.{same_seen}
use Rattle.ssim_periods.proofs.apart_periods.ApartPeriods.shared.Goals as goal

pub returns : goal.returns
returns g c =
    c.of.ensures
    ∙ same_seen g.V.Value.nothing c.in_ok-entries.entries.items c.self.inside.entries.items _ _
    (c.in_ok-entries.ensures ∙ c.deref.ensures.value) c.in_ok-copy.ensures
    ∙ c.self.view_is
