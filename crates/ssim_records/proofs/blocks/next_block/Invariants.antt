-- What is ahead stays the same while bytes are fetched.
use Rattle.std.proofs.Common.{◌≡◌, ◌≤◌, ◌+◌, ◌-◌, ℕ, Bool, List, length}
use Rattle.ssim_records.specs.clauses.Blocks.{BytesCame}
use Rattle.ssim_records.specs.Device.{Reader}
use Rattle.ssim_records.proofs.Framing.{Stays}
use Rattle.ssim_records.proofs.blocks.next_block.Given as goal

pub record Goes {R : Type 0} (state : R → Reader) (after_block : Bool) (limit came0 came : ℕ) (old held : List ℕ) (before reader : R) : Type 0 where
  pub came_fits : came ≤ limit + 1
  pub stays : Stays after_block came0 old (state before).left came held (state reader).left
  pub bytes : BytesCame (state before) (state reader) came0 came
  pub no_failure : (state reader).failures ≡ (state before).failures
  pub few : length held + came0 ≤ length old + came

abbrev pub invariant-loop-limit : goal.invariant-loop-limit
invariant-loop-limit g l = Goes g.R.Source.state l.after_block l.limit l.initial.came l.came l.initial.window l.window l.initial.reader l.reader

abbrev pub decreases-loop-limit : goal.decreases-loop-limit
decreases-loop-limit g l = l.limit + 1 - l.came
