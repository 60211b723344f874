-- A flight with leg records is pushed, and one without is passed over.
use Rattle.std.proofs.Common.{◌≡◌, ◌+◌, ◌*◌, ◌<◌, ◌++◌, ◌∷◌, [], ℕ, List, length, refl, sym, ap, ◌∙◌, arith}
use Rattle.std.proofs.lemmas.Option.{slice_get_read}
use Rattle.ssim_values.specs.Flight.{FlightNumber}
use Rattle.ssim_base.specs.Export.{flight_at, flight_count}
use Rattle.ssim_base.specs.internal.LegTable.{entries_of, flights_left, has_legs, legs_in}
use Rattle.ssim_base.proofs.LegTables.{in-range, pass-next, push-next, skip-flights}
use Rattle.ssim_base.proofs.leg_table.push_flights.Goals as goal
use Rattle.ssim_base.proofs.leg_table.push_flights.Goals.{then-has_legs+in_ok-push, else-has_legs}

pub loop-suffix-preserved : goal.loop-suffix-preserved
loop-suffix-preserved c = λ has is.
    let flights = c.args.flights.now in
    let suffix = c.loop-suffix.suffix in
    let n = 27 * c.args.number + suffix in
    let all = c.args.all.now.items ++ flights_left has (27 * c.args.number) in
    let so = c.loop-suffix.invariant has is in
    let within : suffix < length flights = omega arith in
    let below : suffix < 27 = omega arith in
    let next : n + 1 ≡ 27 * c.args.number + (suffix + 1) = omega arith in
    let its : legs_in flights suffix ≡ c.index-flights-suffix.result.entries.items = ap entries_of (slice_get_read flights (length flights) suffix c.index-flights-suffix.result refl within c.index-flights-suffix.is) in
    let here = is suffix below ∙ ap has_legs its ∙ sym c.has_legs.ensures in
    let range : n < flight_count = in-range c.args.number suffix c.requires below in
    elim c.if-has_legs.branch [
      | then-has_legs+in_ok-push w ↦
          let pushed = w.in_ok-push.ensures.items ∙ ap (λ (f : FlightNumber). c.loop-suffix.all.items ++ f ∷ []) w.flight_of.ensures in
          rw w.all-is
          (ap (λ (fs : List FlightNumber). fs ++ flights_left has (27 * c.args.number + (suffix + 1))) pushed
          ∙ ap (λ (k : ℕ). (c.loop-suffix.all.items ++ flight_at n ∷ []) ++ flights_left has k) (sym next)
          ∙ push-next has n c.loop-suffix.all.items all range (here ∙ w.if-has_legs.true) so)
      | else-has_legs w ↦
          rw w.all-is
          (ap (λ (k : ℕ). c.loop-suffix.all.items ++ flights_left has k) (sym next) ∙ pass-next has n c.loop-suffix.all.items all range (here ∙ w.if-has_legs.false) so)
    ]

pub returns : goal.returns
returns c = λ has is.
    let flights = c.args.flights.now in
    let suffix = c.loop-suffix.suffix in
    ap (λ (fs : List FlightNumber). c.loop-suffix.all.items ++ fs) (sym (skip-flights has flights c.args.number suffix c.requires (omega arith) (λ below. omega arith) is))
    ∙ c.loop-suffix.invariant has is
