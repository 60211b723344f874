-- A valid end is open or a day not before its start.
use Rattle.std.proofs.Common.{sym, ◌∙◌}
use Rattle.ssim_columns.proofs.lemmas.Places.{is_last_day}
use Rattle.ssim_columns.proofs.lemmas.Days.{is_end}
use Rattle.ssim_columns.proofs.field.columns.last_day_at.Goals as goal

pub unwrap-requires : goal.unwrap-requires
unwrap-requires c = rw (c.end_from.ensures, c.text-last.ensures.value) (is_last_day c.args.bytes.now c.args.first c.requires.valid c.requires.first)

pub returns-clause-below : goal.returns-clause-below
returns-clause-below c = is_end c.args.first _ c.unwrap.result (sym c.end_from.ensures ∙ c.unwrap.ensures)
