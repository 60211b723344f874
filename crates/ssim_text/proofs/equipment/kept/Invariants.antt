-- The bytes so far are kept.
use Rattle.std.proofs.Common.{◌≡◌, take}
use Rattle.ssim_text.proofs.equipment.kept.Given as goal

abbrev pub invariant-loop-byte : goal.invariant-loop-byte
invariant-loop-byte l = l.bytes.items ≡ take l.byte-index l.text
