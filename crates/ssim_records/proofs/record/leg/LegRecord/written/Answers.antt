-- The written spelling spells the record.
use Rattle.ssim_columns.proofs.lemmas.Legs.{spells_leg}
use Rattle.ssim_records.proofs.record.leg.LegRecord.written.Goals as goal

pub returns-clause-spells : goal.returns-clause-spells
returns-clause-spells c = rw c.write_over.ensures.value (spells_leg _ c.write_over.ensures.is_leg)
