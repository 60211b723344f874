-- Each field is valid if the table has no fault.
use Rattle.std.proofs.Common.{sym, ◌∙◌}
use Rattle.ssim_columns.specs.Leg.{leg_table}
use Rattle.ssim_columns.proofs.lemmas.Rows.{each_stands}
use Rattle.ssim_columns.proofs.leg.leg_head.read_leg_head.Goals as goal

pub head_of-requires : goal.head_of-requires
head_of-requires c = each_stands c.args.bytes.now leg_table (sym c.leg_fault.ensures ∙ c.in-None.is)
