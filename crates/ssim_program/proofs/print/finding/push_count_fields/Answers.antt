-- What the fields of the counts write, piece by piece.
use Rattle.std.proofs.Common.{append_assoc}
use Rattle.std.proofs.lemmas.Result.{on_ok_weaker}
use Rattle.ssim_program.proofs.Printers.{if_written}
use Rattle.ssim_program.proofs.print.finding.push_count_fields.Goals as goal

pub returns : goal.returns
returns c =
    if_written _ c.writeln.result c.written.result c.written.ensures
    (on_ok_weaker c.writeln.result (λ written. simp append_assoc written) c.writeln.ensures.bytes)
