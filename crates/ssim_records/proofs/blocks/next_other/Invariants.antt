-- The blocks so far were fill, and those other than fill stay the same.
use Rattle.std.proofs.Common.{◌≡◌, ◌≤◌, ◌+◌, ◌-◌, ◌*◌, ℕ, List, length}
use Rattle.std.specs.Prelude.{nat_lt}
use Rattle.ssim_records.specs.clauses.Blocks.{BytesCame, Fetches}
use Rattle.ssim_records.specs.Device.{Reader}
use Rattle.ssim_records.proofs.Framing.{Skipped}
use Rattle.ssim_records.proofs.blocks.next_other.Given as goal

pub record Goes {R : Type 0} (state : R → Reader) (limit came0 came number0 number : ℕ) (held0 held : List ℕ) (before reader : R) : Type 0 where
  pub came_fits : came ≤ limit + 1
  pub not_less : number0 ≤ number
  pub counted : 200 * number + length held ≤ came
  pub skipped : Skipped limit number0 came0 held0 (state before).left number came held (state reader).left
  pub fetched : Fetches (nat_lt 0 number0) number0 held0 (state before).left number held (state reader).left
  pub bytes : BytesCame (state before) (state reader) came0 came
  pub no_failure : (state reader).failures ≡ (state before).failures

abbrev pub invariant-loop-more : goal.invariant-loop-more
invariant-loop-more g l = Goes g.R.Source.state l.limit l.initial.came l.came l.initial.number l.number l.initial.window l.window l.initial.reader l.reader

abbrev pub decreases-loop-more : goal.decreases-loop-more
decreases-loop-more g l = (l.limit + 1 - l.came) + length l.window
