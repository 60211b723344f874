-- The characters so far were added.
use Rattle.std.proofs.Common.{◌≡◌, string_bytes}
use Rattle.std.specs.List.{flat_map}
use Rattle.ssim_program.specs.print.Names.{printed_char}
use Rattle.ssim_program.proofs.print.name.printed_name.Given as goal

abbrev pub invariant-loop-c : goal.invariant-loop-c
invariant-loop-c l = string_bytes l.printed ≡ flat_map printed_char l.yielded
