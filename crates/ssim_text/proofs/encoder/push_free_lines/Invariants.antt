-- The lines so far are written.
use Rattle.std.proofs.Common.{◌≡◌, ◌++◌, map, take}
use Rattle.ssim_text.specs.Grammar.{FreePart}
use Rattle.ssim_text.specs.Canonical.{written}
use Rattle.ssim_text.proofs.encoder.push_free_lines.Given as goal

abbrev pub invariant-loop-line : goal.invariant-loop-line
invariant-loop-line l = l.out.items ≡ l.initial.out.items ++ written (map FreePart (take l.line-index l.lines))
