-- The texts of the legs so far.
use Rattle.std.proofs.Common.{◌≡◌, map, take}
use Rattle.ssim_listing.specs.LegText.{leg_text}
use Rattle.ssim_listing.specs.internal.FlightDates.{seen_texts}
use Rattle.ssim_listing.proofs.dates.texts_of.Given as goal

abbrev pub invariant-loop-leg : goal.invariant-loop-leg
invariant-loop-leg l = seen_texts l.texts.items ≡ map leg_text (take l.leg-index l.legs)
