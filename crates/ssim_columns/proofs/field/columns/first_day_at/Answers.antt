-- A valid start is a day.
use Rattle.ssim_columns.proofs.lemmas.Places.{is_first_day}
use Rattle.ssim_columns.proofs.field.columns.first_day_at.Goals as goal

pub day_in-requires-clause-is_day : goal.day_in-requires-clause-is_day
day_in-requires-clause-is_day c = rw (c.text.ensures.value) (is_first_day c.args.bytes.now c.requires.valid)
