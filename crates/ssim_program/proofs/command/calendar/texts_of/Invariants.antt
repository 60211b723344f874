-- The lines of the legs so far.
use Rattle.std.proofs.Common.{◌≡◌, map, take}
use Rattle.ssim_calendar.specs.clauses.Legend.{texts_of}
use Rattle.ssim_program.specs.print.Calendar.{legend_text}
use Rattle.ssim_program.proofs.command.calendar.texts_of.Given as goal

abbrev pub invariant-loop-leg : goal.invariant-loop-leg
invariant-loop-leg l = texts_of l.texts.items ≡ map (legend_text l.itineraries) (take l.leg-index l.legs)
