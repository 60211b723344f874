-- The bytes that are left stay the same, and each turn holds more of them.
use Rattle.std.proofs.Common.{◌≡◌, ◌-◌, length}
use Rattle.std.specs.Io.KnownBytes.{prepend_known}
use Rattle.ssim_records.proofs.peekable.Peekable.look.Given as goal

abbrev pub invariant-loop-self : goal.invariant-loop-self
invariant-loop-self g l =
    (prepend_known l.self.first (g.R.Source.state l.self.reader).left
    ≡ prepend_known l.initial.self.first (g.R.Source.state l.initial.self.reader).left)
    × (l.self.came ≡ l.initial.self.came)
    × ((g.R.Source.state l.self.reader).failures ≡ (g.R.Source.state l.initial.self.reader).failures)

abbrev pub decreases-loop-self : goal.decreases-loop-self
decreases-loop-self g l = 9 - length l.self.first
