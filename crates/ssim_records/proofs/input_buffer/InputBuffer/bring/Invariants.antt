-- Nothing is used while bytes are fetched.
use Rattle.std.proofs.Common.{◌≡◌, ◌≤◌, ◌-◌, []}
use Rattle.ssim_records.specs.Device.{Reader}
use Rattle.ssim_records.specs.clauses.InputBuffer.{Gives, Input, Uses}
use Rattle.ssim_records.proofs.input_buffer.InputBuffer.bring.Given as goal

pub record Goes {R : Type 0} (state : R → Reader) (old new : Input) (before reader : R) : Type 0 where
  pub within : new.came ≤ new.limit
  pub limit : new.limit ≡ old.limit
  pub uses : Uses [] old (state before).left new (state reader).left
  pub gives : Gives (state before) (state reader) old.came new.came

abbrev pub invariant-loop-self : goal.invariant-loop-self
invariant-loop-self g l = Goes g.R.Source.state l.initial.self l.self l.initial.reader l.reader

abbrev pub decreases-loop-self : goal.decreases-loop-self
decreases-loop-self g l = l.self.limit - l.self.came
