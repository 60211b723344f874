-- What is put of the fill that is left is put of all of it.
use Rattle.std.proofs.Common.{ℕ, List, ◌++◌, replicate, Result}
use Rattle.std.specs.List.{flat_map}
use Rattle.ssim_records.specs.Device.{Writer}
use Rattle.ssim_records.specs.Frames.{fill}
use Rattle.ssim_base.specs.Export.{line}
use Rattle.ssim_base.specs.clauses.Sinks.{PutsUpTo}
use Rattle.ssim_base.specs.declared.output_buffer.WriteFault.{WriteFault}
use Rattle.ssim_base.proofs.output_buffer.put_fill.Given as goal

abbrev pub invariant-loop-left : goal.invariant-loop-left
invariant-loop-left g l =
    (after : Writer) (held : List ℕ) (result : Result (Unit {0}) WriteFault)
    → PutsUpTo (l.block ++ flat_map line (replicate l.left fill)) held (g.W.Sink.state l.out) after result
    → PutsUpTo (l.fn.block ++ flat_map line (replicate l.count fill)) held (g.W.Sink.state l.fn.out) after result

abbrev pub decreases-loop-left : goal.decreases-loop-left
decreases-loop-left g l = l.left
