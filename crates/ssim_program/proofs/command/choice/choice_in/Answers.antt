-- The words make a choice, or the first of them that does not is refused.
use Rattle.std.proofs.Common.{◌≡◌, ◌⊎◌, ◌∙◌, ℕ, Bor, List, None, Some, Ok, Err, map, rules, sym, ap}
use Rattle.std.proofs.Common.{subst}
use Rattle.std.specs.Prelude.{All}
use Rattle.ssim_values.specs.Flight.{FlightNumber}
use Rattle.ssim_values.specs.declared.designator.Designator.{Designator}
use Rattle.ssim_values.specs.declared.fault.Fault.TheVariants as value_fault
use Rattle.ssim_words.specs.Aircraft.{typed_aircraft}
use Rattle.ssim_words.specs.Several.{each_read}
use Rattle.ssim_words.specs.Station.{typed_station}
use Rattle.ssim_command_line.specs.Line.{choice_line}
use Rattle.ssim_program.specs.Choices.{choice_in}
use Rattle.ssim_program.specs.Messages.{IsOf}
use Rattle.ssim_program.specs.print.Refusal.{IsMemory}
use Rattle.ssim_program.specs.declared.refusal.Refusal.TheVariants as refused
use Rattle.ssim_program.proofs.ChoiceSteps.{made, no_aircraft, no_airline, no_dates, no_first}
use Rattle.ssim_program.proofs.ChoiceSteps.{no_last, no_stations}
use Rattle.ssim_program.proofs.command.choice.choice_in.Goals as goal

pub returns-in_err-stations : goal.returns-in_err-stations
returns-in_err-stations c =
    let words = choice_line c.args.words.now in
    let flights = map (λ t. t.now) c.args.flights.now in
    let named = c.in_ok-named.named.items in
    let names = c.in_ok-named.ensures.ok in
    let why = c.in_err-stations.field-0.0 in
    let is : c.from_residual-in_err-stations.result ≡ Err why = search rules in
    rw is (no_stations c.args.airline words flights named names why
    (subst (λ (ws : List (Bor (List ℕ))). IsMemory why
    ⊎ ((why ≡ refused.Value value_fault.BadStation)
    × (each_read typed_station (map (λ t. t.now) ws) ≡ None))) c.deref.ensures.value
    c.in_err-stations.ensures.err))

pub returns-in_err-aircraft : goal.returns-in_err-aircraft
returns-in_err-aircraft c =
    let words = choice_line c.args.words.now in
    let flights = map (λ t. t.now) c.args.flights.now in
    let named = c.in_ok-named.named.items in
    let names = c.in_ok-named.ensures.ok in
    let stations = c.in_ok-stations.stations.items in
    let are = subst (λ (ws : List (Bor (List ℕ))).
    each_read typed_station (map (λ t. t.now) ws) ≡ Some stations) c.deref.ensures.value
    c.in_ok-stations.ensures.ok in
    let why = c.in_err-aircraft.field-0.0 in
    let is : c.from_residual-in_err-aircraft.result ≡ Err why = search rules in
    rw is (no_aircraft c.args.airline words flights named names stations are why
    (subst (λ (ws : List (Bor (List ℕ))). IsMemory why ⊎ ((why ≡ refused.Aircraft)
    × (each_read typed_aircraft (map (λ t. t.now) ws) ≡ None))) c.deref-2.ensures.value
    c.in_err-aircraft.ensures.err))

pub returns-in_err-first : goal.returns-in_err-first
returns-in_err-first c =
    let words = choice_line c.args.words.now in
    let flights = map (λ t. t.now) c.args.flights.now in
    let named = c.in_ok-named.named.items in
    let names = c.in_ok-named.ensures.ok in
    let stations = c.in_ok-stations.stations.items in
    let are = subst (λ (ws : List (Bor (List ℕ))).
    each_read typed_station (map (λ t. t.now) ws) ≡ Some stations) c.deref.ensures.value
    c.in_ok-stations.ensures.ok in
    let aircraft = c.in_ok-aircraft.aircraft.items in
    let types = subst (λ (ws : List (Bor (List ℕ))).
    each_read typed_aircraft (map (λ t. t.now) ws) ≡ Some aircraft) c.deref-2.ensures.value
    c.in_ok-aircraft.ensures.ok in
    let why = c.in_err-first.field-0.0 in
    let is : c.from_residual-in_err-first.result ≡ Err why = search rules in
    rw is (no_first c.args.airline words flights named names stations are aircraft types why
    c.in_err-first.ensures.err)

pub returns-in_err-last : goal.returns-in_err-last
returns-in_err-last c =
    let words = choice_line c.args.words.now in
    let flights = map (λ t. t.now) c.args.flights.now in
    let named = c.in_ok-named.named.items in
    let names = c.in_ok-named.ensures.ok in
    let stations = c.in_ok-stations.stations.items in
    let are = subst (λ (ws : List (Bor (List ℕ))).
    each_read typed_station (map (λ t. t.now) ws) ≡ Some stations) c.deref.ensures.value
    c.in_ok-stations.ensures.ok in
    let aircraft = c.in_ok-aircraft.aircraft.items in
    let types = subst (λ (ws : List (Bor (List ℕ))).
    each_read typed_aircraft (map (λ t. t.now) ws) ≡ Some aircraft) c.deref-2.ensures.value
    c.in_ok-aircraft.ensures.ok in
    let why = c.in_err-last.field-0.0 in
    let is : c.from_residual-in_err-last.result ≡ Err why = search rules in
    rw is (no_last c.args.airline words flights named names stations are aircraft types
    c.in_ok-first.first c.in_ok-first.ensures.ok why c.in_err-last.ensures.err)

pub returns-then-has_other : goal.returns-then-has_other
returns-then-has_other c =
    let words = choice_line c.args.words.now in
    let flights = map (λ t. t.now) c.args.flights.now in
    let named = c.in_ok-named.named.items in
    let names = c.in_ok-named.ensures.ok in
    let stations = c.in_ok-stations.stations.items in
    let are = subst (λ (ws : List (Bor (List ℕ))).
    each_read typed_station (map (λ t. t.now) ws) ≡ Some stations) c.deref.ensures.value
    c.in_ok-stations.ensures.ok in
    let aircraft = c.in_ok-aircraft.aircraft.items in
    let types = subst (λ (ws : List (Bor (List ℕ))).
    each_read typed_aircraft (map (λ t. t.now) ws) ≡ Some aircraft) c.deref-2.ensures.value
    c.in_ok-aircraft.ensures.ok in
    no_airline c.args.airline words flights named names stations are aircraft types
    c.in_ok-first.first c.in_ok-first.ensures.ok c.in_ok-last.last c.in_ok-last.ensures.ok
    c.from.result c.from.ensures
    (λ all. c.has_other.ensures.other c.if-has_other.true
    (subst (λ (ds : List Designator). All (IsOf c.args.airline) ds) (sym c.deref-3.ensures.value)
    all))

pub returns-then-are_turned : goal.returns-then-are_turned
returns-then-are_turned c =
    let words = choice_line c.args.words.now in
    let flights = map (λ t. t.now) c.args.flights.now in
    let named = c.in_ok-named.named.items in
    let names = c.in_ok-named.ensures.ok in
    let stations = c.in_ok-stations.stations.items in
    let are = subst (λ (ws : List (Bor (List ℕ))).
    each_read typed_station (map (λ t. t.now) ws) ≡ Some stations) c.deref.ensures.value
    c.in_ok-stations.ensures.ok in
    let aircraft = c.in_ok-aircraft.aircraft.items in
    let types = subst (λ (ws : List (Bor (List ℕ))).
    each_read typed_aircraft (map (λ t. t.now) ws) ≡ Some aircraft) c.deref-2.ensures.value
    c.in_ok-aircraft.ensures.ok in
    let all = subst (λ (ds : List Designator). All (IsOf c.args.airline) ds)
    c.deref-3.ensures.value (c.has_other.ensures.none c.if-has_other.false) in
    no_dates c.args.airline words flights named names stations are aircraft types
    c.in_ok-first.first c.in_ok-first.ensures.ok c.in_ok-last.last c.in_ok-last.ensures.ok all
    c.from-then-are_turned.result c.from-then-are_turned.ensures
    (c.are_turned.ensures.turned c.if-are_turned.true)

pub returns : goal.returns
returns c =
    let words = choice_line c.args.words.now in
    let flights = map (λ t. t.now) c.args.flights.now in
    let named = c.in_ok-named.named.items in
    let names = c.in_ok-named.ensures.ok in
    let stations = c.in_ok-stations.stations.items in
    let are = subst (λ (ws : List (Bor (List ℕ))).
    each_read typed_station (map (λ t. t.now) ws) ≡ Some stations) c.deref.ensures.value
    c.in_ok-stations.ensures.ok in
    let aircraft = c.in_ok-aircraft.aircraft.items in
    let types = subst (λ (ws : List (Bor (List ℕ))).
    each_read typed_aircraft (map (λ t. t.now) ws) ≡ Some aircraft) c.deref-2.ensures.value
    c.in_ok-aircraft.ensures.ok in
    let all = subst (λ (ds : List Designator). All (IsOf c.args.airline) ds)
    c.deref-3.ensures.value (c.has_other.ensures.none c.if-has_other.false) in
    let first = c.in_ok-first.first in
    let last = c.in_ok-last.last in
    let numbers = c.in_ok-flights.ensures ∙ ap (map (λ d. d.flight)) c.deref-4.ensures.value in
    subst (λ (fs : List FlightNumber). choice_in c.args.airline words flights (Ok (record {
      flights = fs;
      first = first;
      last = last;
      stations = stations;
      aircraft = aircraft;
    })))
    (sym numbers)
    (made c.args.airline words flights named names stations are aircraft types first
    c.in_ok-first.ensures.ok last c.in_ok-last.ensures.ok all
    (c.are_turned.ensures.rising c.if-are_turned.false))
