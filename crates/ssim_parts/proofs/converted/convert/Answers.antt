-- One flight more, and at the end all.
use Rattle.std.proofs.Common.{◌≡◌, ◌∙◌, ◌≤◌, ◌<◌, ◌++◌, ◌∷◌, [], List, map, take, length, get_or, sym}
use Rattle.std.proofs.Common.{ap}
use Rattle.std.proofs.Common.{subst, arith}
use Rattle.std.specs.List.{AllByRecursion}
use Rattle.std.proofs.lemmas.List.{get_or-map, map_more, take_all}
use Rattle.ssim_values.specs.Flight.{FlightNumber}
use Rattle.ssim_periods.proofs.DayLemmas.{day_count-is}
use Rattle.ssim_base.specs.Export.{all_flights, pieces}
use Rattle.ssim_schedule.specs.FlightPieces.{Divided, divided_flights}
use Rattle.ssim_schedule.specs.clauses.Schedule.{Flown, days_in}
use Rattle.ssim_parts.specs.FlightFates.{FatePiece, FlightFate, fate_pieces}
use Rattle.ssim_parts.proofs.NewTimetable.{all_converted, each_divided, flight_fate}
use Rattle.ssim_parts.proofs.NewTimetable.{length_names, names, one_more}
use Rattle.ssim_parts.proofs.Parting.{all_at}
use Rattle.ssim_parts.proofs.converted.convert.Goals as goal

pub loop-one-init : goal.loop-one-init
loop-one-init c = record {
  converted = λ g exists. c.requires g exists;
  fates = c.new-fates.ensures.items;
}

-- a flight of the list has the pieces of its days
listed : (old : Flown) (items : List Divided) (i : _) (one : Divided)
    → items ≡ divided_flights (days_in old) → i < length items → one ≡ get_or items i one
    → one.1 ≡ pieces (days_in old one.0)
listed old items i one are within is =
    subst (λ (flight : Divided). flight.1 ≡ pieces (days_in old flight.0)) (sym is)
    (all_at (λ (flight : Divided). flight.1 ≡ pieces (days_in old flight.0)) items i one within
    (subst (AllByRecursion (λ flight. flight.1 ≡ pieces (days_in old flight.0))) (sym are)
    (each_divided (days_in old) all_flights)))

pub look_at_each-requires : goal.look_at_each-requires
look_at_each-requires c =
    let old = c.args.old.now in
    let items = c.deref-one-items.result.now in
    let are : items ≡ divided_flights (days_in old) =
    c.deref-one-items.ensures.value ∙ c.in_ok-flights-2.ensures
    ∙ ap (λ (f : Flown). divided_flights (days_in f)) c.in_ok-copy.ensures in
    c.pieces.ensures
    ∙ listed old items c.loop-one.one-index c.one-item.result are c.loop-one-test.true c.one-item.is
    ∙ ap (λ (g : FlightNumber). pieces (days_in old g)) (sym c.flight-flight.ensures)

pub loop-one-preserved : goal.loop-one-preserved
loop-one-preserved c =
    let rows = c.args.rows.now in
    let wanted = c.args.wanted in
    let old = c.args.old.now in
    let items = c.deref-one-items.result.now in
    let i = c.loop-one.one-index in
    let one = c.one-item.result in
    let f = c.flight-flight.result in
    let within = c.loop-one-test.true in
    let are : items ≡ divided_flights (days_in old) =
    c.deref-one-items.ensures.value ∙ c.in_ok-flights-2.ensures
    ∙ ap (λ (f : Flown). divided_flights (days_in f)) c.in_ok-copy.ensures in
    let is = c.pieces-in-loop-one.ensures ∙ listed old items i one are within c.one-item.is
    ∙ ap (λ (g : FlightNumber). pieces (days_in old g)) (sym c.flight-flight.ensures) in
    let whole : length (days_in old f) ≡ 36525 =
    c.flights.ensures.whole f c.exists.ensures ∙ day_count-is in
    let named : f ≡ (get_or items i one).0 =
    c.flight-flight.ensures ∙ ap (λ (flight : Divided). flight.0) c.one-item.is in
    let long : i < length (names items) = omega (arith, length_names items) in
    let own = flight_fate rows wanted (days_in old) in
    record {
      converted =
          one_more rows wanted old c.loop-one.schedule c.convert_flight.new.schedule (names items)
          i f long
          (named ∙ sym (get_or-map (λ (flight : Divided). flight.0) items i one f within))
          c.exists.ensures (c.in_ok-pieces.ensures.days (days_in old f) whole is)
          c.loop-one.invariant.converted;
      fates = c.in_ok-push.ensures.items
          ∙ ap (λ (xs : List FlightFate). xs ++ (f, c.in_ok-pieces.pieces.items) ∷ [])
          c.loop-one.invariant.fates
          ∙ ap (λ (ps : List FatePiece). map own (take i items) ++ (f, ps) ∷ [])
          (c.in_ok-pieces.ensures.fates (days_in old f) whole is)
          ∙ ap (λ (g : FlightNumber). map own (take i items)
          ++ (g, fate_pieces rows wanted (days_in old g)) ∷ []) named
          ∙ sym (map_more own items i one within);
    }

pub returns-clause-days : goal.returns-clause-days
returns-clause-days c =
    let old = c.args.old.now in
    let items = c.deref-one-items.result.now in
    let are : items ≡ divided_flights (days_in old) =
    c.deref-one-items.ensures.value ∙ c.in_ok-flights-2.ensures
    ∙ ap (λ (f : Flown). divided_flights (days_in f)) c.in_ok-copy.ensures in
    let past = c.loop-one-test.false in
    let done : length (names items) ≤ c.loop-one.one-index =
    omega (arith, length_names items) in
    all_converted c.args.rows.now c.args.wanted old c.loop-one.schedule (names items)
    c.loop-one.one-index done (ap names are) c.loop-one.invariant.converted

pub returns-clause-fates : goal.returns-clause-fates
returns-clause-fates c =
    let old = c.args.old.now in
    let items = c.deref-one-items.result.now in
    let are : items ≡ divided_flights (days_in old) =
    c.deref-one-items.ensures.value ∙ c.in_ok-flights-2.ensures
    ∙ ap (λ (f : Flown). divided_flights (days_in f)) c.in_ok-copy.ensures in
    let own = flight_fate c.args.rows.now c.args.wanted (days_in old) in
    c.loop-one.invariant.fates
    ∙ ap (map own) (take_all c.loop-one.one-index items c.loop-one-test.false)
    ∙ ap (map own) are
