-- The flights so far are those that the messages so far name.
use Rattle.std.proofs.Common.{◌≡◌, take}
use Rattle.ssim_program.specs.internal.Spans.{flights_named}
use Rattle.ssim_program.proofs.chosen_findings.flights_of.Given as goal

abbrev pub invariant-loop-held : goal.invariant-loop-held
invariant-loop-held l = l.flights.items ≡ flights_named (take l.held-index l.messages)
