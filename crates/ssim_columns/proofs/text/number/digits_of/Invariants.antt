use Rattle.std.proofs.Common.{◌≡◌, ◌<◌, ◌^◌, drop}
use Rattle.ssim_columns.specs.Numbers.{digits_after}
use Rattle.ssim_columns.proofs.text.number.digits_of.Given as goal

abbrev pub invariant-loop-byte : goal.invariant-loop-byte
invariant-loop-byte l = (l.number < 10 ^ l.byte-index) × (digits_after l.number (drop l.byte-index l.text) ≡ digits_after 0 l.text)
