-- The bytes passed come before the mark.
use Rattle.std.proofs.Common.{◌≡◌, ◌++◌, take, drop}
use Rattle.ssim_text.specs.Bytes.{before, from}
use Rattle.ssim_text.proofs.bytes.cut.Given as goal

abbrev pub invariant-loop-at : goal.invariant-loop-at
invariant-loop-at l = record { before : before l.mark l.text ≡ take l.at l.text ++ before l.mark (drop l.at l.text); from : from l.mark l.text ≡ from l.mark (drop l.at l.text) }
