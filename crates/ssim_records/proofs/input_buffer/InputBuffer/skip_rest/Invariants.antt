-- The reader gives the bytes that are left.
use Rattle.std.proofs.Common.{◌≡◌, ◌-◌}
use Rattle.ssim_records.specs.Device.{Reader}
use Rattle.ssim_records.specs.clauses.InputBuffer.{Gives, Input}
use Rattle.ssim_records.proofs.input_buffer.InputBuffer.skip_rest.Given as goal

pub record Goes {R : Type 0} (state : R → Reader) (old new : Input) (before reader : R) : Type 0 where
  pub limit : new.limit ≡ old.limit
  pub gives : Gives (state before) (state reader) old.came new.came

abbrev pub invariant-loop : goal.invariant-loop
invariant-loop g l = Goes g.R.Source.state l.initial.self l.self l.initial.reader l.reader

abbrev pub decreases-loop : goal.decreases-loop
decreases-loop g l = l.self.limit - l.self.came
