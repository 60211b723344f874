-- The lines of the itineraries so far.
use Rattle.std.proofs.Common.{◌≡◌, map, take}
use Rattle.ssim_calendar.specs.clauses.Legend.{texts_of}
use Rattle.ssim_program.specs.print.Calendar.{legend_text}
use Rattle.ssim_program.proofs.command.calendar.entries_of.Given as goal

abbrev pub invariant-loop-itinerary : goal.invariant-loop-itinerary
invariant-loop-itinerary l =
    map (λ texts. texts_of texts.items) l.entries.items ≡ map (map (legend_text l.itineraries)) (take l.itinerary-index l.shown)
