-- The sink took the bytes up to the rest, and no put failed.
use Rattle.std.proofs.Common.{length}
use Rattle.ssim_base.specs.clauses.Sinks.{GrowsUpTo}
use Rattle.ssim_base.proofs.output_buffer.put_all.Given as goal

abbrev pub invariant-loop-rest : goal.invariant-loop-rest
invariant-loop-rest g l = GrowsUpTo l.bytes l.rest (g.W.Sink.state l.fn.out) (g.W.Sink.state l.out)

abbrev pub decreases-loop-rest : goal.decreases-loop-rest
decreases-loop-rest g l = length l.rest
