-- The number so far is the number of the digits passed.
use Rattle.std.proofs.Common.{◌≡◌, ◌<◌, ◌^◌, take}
use Rattle.ssim_values.specs.Flight.{number_of}
use Rattle.ssim_text.proofs.reference.number.Given as goal

abbrev pub invariant-loop-digit : goal.invariant-loop-digit
invariant-loop-digit l = record { value : l.number ≡ number_of (take l.digit-index l.digits); below : l.number < 10 ^ l.digit-index }
