-- The bytes so far are a line without LF, and were used.
use Rattle.std.proofs.Common.{◌≡◌, ◌-◌, ◌^◌, ℕ, List, [], length}
use Rattle.ssim_records.specs.Device.{Reader}
use Rattle.ssim_records.specs.clauses.InputBuffer.{Gives, Input, Uses}
use Rattle.ssim_text.specs.Bytes.{from}
use Rattle.ssim_held.proofs.desk_file_reader.saved_records.take_line.Given as goal

pub record Goes {R : Type 0} (state : R → Reader) (line : List ℕ) (old new : Input) (before reader : R) : Type 0 where
  pub no_end : from 10 line ≡ []
  pub limit : new.limit ≡ old.limit
  pub uses : Uses line old (state before).left new (state reader).left
  pub gives : Gives (state before) (state reader) old.came new.came

abbrev pub invariant-loop-line : goal.invariant-loop-line
invariant-loop-line g l = Goes g.R.Source.state l.line.items l.initial.input l.input l.initial.reader l.reader

abbrev pub decreases-loop-line : goal.decreases-loop-line
decreases-loop-line g l = 2 ^ 64 - length l.line.items
