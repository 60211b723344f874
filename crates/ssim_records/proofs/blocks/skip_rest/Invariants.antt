-- The bytes that came are those that the reader no longer has left.
use Rattle.std.proofs.Common.{◌≡◌, ◌≤◌, ◌+◌, ◌-◌, ℕ}
use Rattle.ssim_records.specs.clauses.Blocks.{BytesCame, StaysLeft}
use Rattle.ssim_records.specs.Device.{Reader}
use Rattle.ssim_records.proofs.blocks.skip_rest.Given as goal

pub record Goes {R : Type 0} (state : R → Reader) (limit came0 came : ℕ) (before reader : R) : Type 0 where
  pub came_fits : came ≤ limit + 1
  pub more : came0 ≤ came
  pub left : StaysLeft (state before).left (state reader).left
  pub bytes : BytesCame (state before) (state reader) came0 came
  pub no_failure : (state reader).failures ≡ (state before).failures

abbrev pub invariant-loop-came : goal.invariant-loop-came
invariant-loop-came g l = Goes g.R.Source.state l.limit l.initial.came l.came l.initial.reader l.reader

abbrev pub decreases-loop-came : goal.decreases-loop-came
decreases-loop-came g l = l.limit + 1 - l.came
