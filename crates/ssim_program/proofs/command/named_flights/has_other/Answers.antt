-- The next flight is another airline's, or one more is the airline's.
use Rattle.std.proofs.Common.{◌≡◌, sym, subst}
use Rattle.std.proofs.lemmas.List.{take_all}
use Rattle.std.proofs.lemmas.List.Elements.{All-more, All-same}
use Rattle.ssim_program.specs.Messages.{IsOf}
use Rattle.ssim_program.proofs.Airlines.{equal_bytes, other_bytes}
use Rattle.ssim_program.proofs.command.named_flights.has_other.Goals as goal

pub loop-flight-preserved : goal.loop-flight-preserved
loop-flight-preserved c =
    let airline = c.args.airline in let flight = c.flight-item.result in
    let same : flight.airline ≡ airline = equal_bytes flight.airline airline c.ne.result c.ne.ensures c.if-ne.false in
    All-more (IsOf airline) c.args.flights.now c.loop-flight.flight-index flight c.loop-flight-test.true c.loop-flight.invariant (subst (IsOf airline) c.flight-item.is same)

pub returns-then-ne-clause-other : goal.returns-then-ne-clause-other
returns-then-ne-clause-other c = λ _ all.
    let airline = c.args.airline in let flight = c.flight-item.result in
    let same : IsOf airline flight = subst (IsOf airline) (sym c.flight-item.is) (all c.loop-flight.flight-index flight c.loop-flight-test.true) in
    other_bytes flight.airline airline c.ne.result c.ne.ensures c.if-ne.true same

pub returns-clause-none : goal.returns-clause-none
returns-clause-none c = λ _.
    All-same (IsOf c.args.airline) c.args.flights.now _ (sym (take_all c.loop-flight.flight-index c.args.flights.now c.loop-flight-test.false)) c.loop-flight.invariant
