-- Each part of the row has its length, so the bytes of the line are those of the parts.
use Rattle.std.proofs.Common.{◌∙◌}
use Rattle.ssim_records.proofs.CarriedTexts.{length_station}
use Rattle.ssim_held.proofs.RowLines.{length_written_day, row_written}
use Rattle.ssim_program.proofs.command.stations.row_line.Goals as goal

pub returns : goal.returns
returns c =
    row_written c.write.result c.write-2.result c.write-3.result c.write-4.result c.args.row.now
    (length_station c.write.result c.write.ensures.letters)
    (length_written_day c.first.result c.write-2.result c.write-2.ensures.value
    c.write-2.ensures.spells)
    (length_written_day c.last.result c.write-3.result c.write-3.ensures.value
    c.write-3.ensures.spells)
    (c.write.ensures.value ∙ c.station.ensures) c.first.ensures c.write-2.ensures.value
    c.last.ensures c.write-3.ensures.value c.variation.ensures c.write-4.ensures.value
