-- Each part of the row has its length, so the bytes of the line are those of the parts.
use Rattle.std.proofs.Common.{◌∙◌}
use Rattle.ssim_records.proofs.CarriedTexts.{length_station}
use Rattle.ssim_held.proofs.RowLines.{length_written_day, row_written}
use Rattle.ssim_held.proofs.row_line.write_row.Goals as goal

pub returns-clause-value : goal.returns-clause-value
returns-clause-value c =
    row_written c.write.result c.write-2.result c.write-3.result c.write-4.result c.args.row.now (length_station c.write.result c.write.ensures.letters)
    (length_written_day c.first.result c.write-2.result c.write-2.ensures.value c.write-2.ensures.spells) (length_written_day c.last.result c.write-3.result c.write-3.ensures.value c.write-3.ensures.spells)
    (c.write.ensures.value ∙ c.station.ensures) c.first.ensures.value c.write-2.ensures.value c.last.ensures.value c.write-3.ensures.value c.variation.ensures c.write-4.ensures.value
