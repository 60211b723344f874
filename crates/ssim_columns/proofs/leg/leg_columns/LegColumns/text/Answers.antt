-- The columns of the field are at their places in the leg's bytes.
use Rattle.std.proofs.Common.{◌∙◌, List, ℕ, ap}
use Rattle.ssim_columns.specs.Leg.{leg_columns}
use Rattle.ssim_columns.proofs.leg.leg_columns.LegColumns.text.Goals as goal

pub returns-clause-value : goal.returns-clause-value
returns-clause-value c =
    c.bytes_before-before.ensures.value c.self.inside.bytes c.self.invariant.len
    ∙ ap (λ (d : List ℕ). leg_columns c.args.field.first c.args.field.last d) c.self.view_is

pub returns-clause-valid : goal.returns-clause-valid
returns-clause-valid c = rw (← c.self.view_is) c.self.invariant
