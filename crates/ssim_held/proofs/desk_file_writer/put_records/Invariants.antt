-- What was put, and the records that are left, is the whole part.
use Rattle.std.proofs.Common.{◌++◌}
use Rattle.ssim_records.specs.Record.{written}
use Rattle.ssim_base.specs.Export.{line}
use Rattle.ssim_held.specs.File.{records_part}
use Rattle.ssim_held.proofs.FileParts.{ArePut}
use Rattle.ssim_held.proofs.desk_file_writer.put_records.Given as goal

abbrev pub invariant-loop-record : goal.invariant-loop-record
invariant-loop-record g l =
    ArePut (λ r. line (written r)) (λ r. Unit {0}) (l.fn.block ++ records_part l.records)
    (g.W.Sink.state l.fn.out) l.records l.record-index l.block (g.W.Sink.state l.out)
