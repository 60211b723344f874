-- The bytes so far were used.
use Rattle.std.proofs.Common.{◌≡◌, ◌-◌, ◌^◌, ℕ, List, length}
use Rattle.ssim_records.specs.Device.{Reader}
use Rattle.ssim_records.specs.clauses.InputBuffer.{Gives, Input, Uses}
use Rattle.ssim_held.proofs.desk_file_reader.rest.read_rest.Given as goal

pub record Goes {R : Type 0} (state : R → Reader) (bytes : List ℕ) (old new : Input) (before reader : R) : Type 0 where
  pub limit : new.limit ≡ old.limit
  pub uses : Uses bytes old (state before).left new (state reader).left
  pub gives : Gives (state before) (state reader) old.came new.came

abbrev pub invariant-loop-bytes : goal.invariant-loop-bytes
invariant-loop-bytes g l = Goes g.R.Source.state l.bytes.items l.initial.input l.input l.initial.reader l.reader

abbrev pub decreases-loop-bytes : goal.decreases-loop-bytes
decreases-loop-bytes g l = 2 ^ 64 - length l.bytes.items
