use Rattle.std.proofs.Common.{◌≡◌, ◌++◌, take}
use Rattle.ssim_values.proofs.designator.push_all.Given as goal

abbrev pub invariant-loop-byte : goal.invariant-loop-byte
invariant-loop-byte l = l.text.items ≡ l.initial.text.items ++ take l.byte-index l.bytes
