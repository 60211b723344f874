-- All are digits if those that were passed and those that are left are.
use Rattle.std.proofs.Common.{◌≡◌, ◌&&◌, drop}
use Rattle.std.specs.List.{list_all}
use Rattle.ssim_command_line.specs.Line.{is_digit}
use Rattle.ssim_command_line.proofs.board_form.are_digits.Given as goal

abbrev pub invariant-loop-byte : goal.invariant-loop-byte
invariant-loop-byte l = (l.all && list_all is_digit (drop l.byte-index l.text)) ≡ list_all is_digit l.text
