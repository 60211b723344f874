-- The flights so far are those that the messages so far name.
use Rattle.std.proofs.Common.{◌≡◌, take}
use Rattle.ssim_desk.specs.internal.Changes.{flights_of}
use Rattle.ssim_desk.proofs.flights.flights_of.Given as goal

abbrev pub invariant-loop-held : goal.invariant-loop-held
invariant-loop-held l = l.flights.items ≡ flights_of (take l.held-index l.messages)
