-- Each line passed has printable bytes alone.
use Rattle.std.proofs.Common.{◌≡◌, map, drop}
use Rattle.ssim_text.specs.Left.{first_unprintable}
use Rattle.ssim_text.proofs.lines.first_unprintable.Given as goal

abbrev pub invariant-loop-line : goal.invariant-loop-line
invariant-loop-line l = first_unprintable (map (λ x. (x.number, x.bytes.now)) (drop l.line-index l.lines)) ≡ first_unprintable (map (λ x. (x.number, x.bytes.now)) l.lines)
