-- Records with the same columns have the same days.
use Rattle.std.proofs.Common.{ap, ◌∙◌}
use Rattle.ssim_values.specs.DayMask.{days_of}
use Rattle.ssim_columns.proofs.lemmas.SameColumns.{days_read}
use Rattle.ssim_columns.proofs.latest_columns.DayMaskInColumns8.read.Goals as goal

pub returns : goal.returns
returns c =
    let read = c.days_of.ensures ∙ ap days_of c.text.ensures.value in
    days_read c.days_of.result c.args.bytes.now read
