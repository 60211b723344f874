-- A field is column 14, or within 37 to 127, or within 129 to 194.
use Rattle.ssim_columns.proofs.lemmas.OwnColumns.{middle_after, service_after, tail_after}
use Rattle.ssim_columns.proofs.leg.leg_columns.bytes_before.Goals as goal

pub returns-then-field : goal.returns-then-field
returns-then-field c = service_after c.args.field c.requires c.if-field.true

pub returns-then-field-2 : goal.returns-then-field-2
returns-then-field-2 c = middle_after c.args.field c.requires c.if-field.false c.if-field-2.true

pub returns-else-field-2 : goal.returns-else-field-2
returns-else-field-2 c = tail_after c.args.field c.requires c.if-field-2.false
