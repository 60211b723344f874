-- The fields of a record are copied out of it.
use Rattle.ssim_columns.proofs.lemmas.OwnColumns.{are_leg_columns}
use Rattle.ssim_columns.proofs.leg.leg_columns.own_columns_at.Goals as goal

pub invariant_of-result : goal.invariant_of-result
invariant_of-result c = rw c.put_own.ensures (are_leg_columns c.args.bytes.now c.told-bytes c.requires)

pub returns-clause-valid : goal.returns-clause-valid
returns-clause-valid c = rw c.put_own.ensures (are_leg_columns c.args.bytes.now c.told-bytes c.requires)
