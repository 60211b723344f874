-- The bytes so far were added.
use Rattle.std.proofs.Common.{◌≡◌, ◌++◌, string_bytes, take}
use Rattle.std.specs.List.{flat_map}
use Rattle.ssim_program.specs.print.Names.{escaped_byte}
use Rattle.ssim_program.proofs.print.name.push_escaped.Given as goal

abbrev pub invariant-loop-byte : goal.invariant-loop-byte
invariant-loop-byte l = string_bytes l.printed ≡ string_bytes l.fn.printed ++ flat_map escaped_byte (take l.byte-index l.bytes)
