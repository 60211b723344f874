-- The four texts are written one after another, and no two of them touch.
use Rattle.std.proofs.Common.{◌≡◌, ◌∙◌, refl, sym, subst}
use Rattle.ssim_columns.specs.clauses.LegParts.{ChangesEquipment, equipment_fields}
use Rattle.ssim_columns.proofs.lemmas.LegChanges.{equipment_changes, equipment_writes, equipment_written}
use Rattle.ssim_columns.proofs.lemmas.Overlay.{written}
use Rattle.ssim_columns.proofs.leg.leg_parts.LegEquipment.put.Goals as goal

all_written : (c : goal.After-put_filled-4) → c.put_filled-4.new.bytes ≡ written (equipment_writes (equipment_fields c.args.self.now)) c.args.bytes.now
all_written c = rw (c.put_filled-4.ensures, c.put_filled-3.ensures, c.put_filled-2.ensures, c.put_filled.ensures) refl

pub returns-clause-value : goal.returns-clause-value
returns-clause-value c = all_written c ∙ equipment_written (equipment_fields c.args.self.now) c.args.bytes.now c.told-bytes

pub returns-clause-changes : goal.returns-clause-changes
returns-clause-changes c =
    subst (ChangesEquipment (equipment_fields c.args.self.now) c.args.bytes.now) (sym (all_written c)) (equipment_changes (equipment_fields c.args.self.now) c.args.bytes.now c.told-bytes)
