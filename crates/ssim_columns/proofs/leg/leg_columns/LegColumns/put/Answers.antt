-- The fields of a record are copied out of it.
use Rattle.ssim_columns.proofs.lemmas.OwnColumns.{are_leg_columns}
use Rattle.ssim_columns.proofs.leg.leg_columns.LegColumns.put.Goals as goal

pub invariant_of-self : goal.invariant_of-self
invariant_of-self c = rw c.put_own.ensures (are_leg_columns c.args.bytes.now c.told-bytes c.requires)

pub returns-clause-valid : goal.returns-clause-valid
returns-clause-valid c = rw c.put_own.ensures (are_leg_columns c.args.bytes.now c.told-bytes c.requires)
