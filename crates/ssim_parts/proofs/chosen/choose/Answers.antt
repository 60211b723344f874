-- One more flight, and at the end all.
use Rattle.std.proofs.Common.{List, sym, ap, subst, ◌∙◌}
use Rattle.std.specs.List.{All}
use Rattle.std.proofs.lemmas.List.Elements.{All-get_or, All-same}
use Rattle.ssim_values.specs.Flight.{FlightNumber, IsFlight}
use Rattle.ssim_base.specs.Timetable.{is_among}
use Rattle.ssim_parts.proofs.Choosing.{all_chosen, none_yet, one_more}
use Rattle.ssim_parts.proofs.chosen.choose.Goals as goal

pub loop-flight-init : goal.loop-flight-init
loop-flight-init c = none_yet c.args.choice.now c.args.schedule.now c.flights.ensures.whole

pub loop-flight-preserved : goal.loop-flight-preserved
loop-flight-preserved c =
    let items = c.deref-flight-items in
    let flights = items.result.now in
    let i = c.loop-flight.flight-index in
    let f = c.flight-item.result in
    let within = c.loop-flight-test.true in
    let exist : All IsFlight flights =
    All-same IsFlight flights c.in_ok-flights.flights.items items.ensures.value
    c.in_ok-flights.ensures.exist in
    let exists : IsFlight f =
    subst IsFlight (sym c.flight-item.is) (All-get_or IsFlight flights i f within exist) in
    one_more c.args.choice.now c.args.schedule.now c.loop-flight.schedule
    c.choose_dates.new.schedule flights i f within c.flight-item.is exists
    c.in_ok-choose_dates.ensures c.loop-flight.invariant

pub returns : goal.returns
returns c =
    let items = c.deref-flight-items in
    all_chosen c.args.choice.now c.args.schedule.now c.loop-flight.schedule items.result.now
    c.loop-flight.flight-index c.loop-flight-test.false
    (λ g is none. c.in_ok-flights.ensures.others g is
    (ap (λ (fs : List FlightNumber). is_among fs g) (sym items.ensures.value) ∙ none))
    c.loop-flight.invariant
