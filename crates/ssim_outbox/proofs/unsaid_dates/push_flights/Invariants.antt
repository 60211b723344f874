-- The lines of the flights so far were added.
use Rattle.std.proofs.Common.{◌≡◌, ◌++◌, take}
use Rattle.std.specs.List.{flat_map}
use Rattle.ssim_outbox.specs.internal.AddedLines.{divided_lines}
use Rattle.ssim_outbox.proofs.unsaid_dates.push_flights.Given as goal

abbrev pub invariant-loop-flight : goal.invariant-loop-flight
invariant-loop-flight l =
    l.lines.items
    ≡ l.initial.lines.items ++ flat_map (divided_lines l.airline l.rows) (take l.flight-index l.unsaid)
