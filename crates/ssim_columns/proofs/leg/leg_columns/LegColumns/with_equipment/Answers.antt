-- Valid columns with other equipment are valid.
use Rattle.ssim_columns.specs.clauses.LegParts.{equipment_fields}
use Rattle.ssim_columns.proofs.lemmas.LegChanges.{equipment_stands}
use Rattle.ssim_columns.proofs.leg.leg_columns.LegColumns.with_equipment.Goals as goal

pub invariant_of-result : goal.invariant_of-result
invariant_of-result c =
    equipment_stands (equipment_fields c.args.equipment.now) c.self.inside.bytes c.put.new.bytes c.self.invariant c.put.array_long c.put.ensures.changes

pub returns-clause-changes : goal.returns-clause-changes
returns-clause-changes c = rw (← c.self.view_is) c.put.ensures.changes
