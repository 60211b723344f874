-- The flight of the next place is added if the place is marked.
use Rattle.std.proofs.Common.{◌≡◌, ◌<◌, Vec, length, true, false, List, [], ◌∷◌, ◌++◌, sym, ap, ◌∙◌, arith}
use Rattle.std.specs.Prelude.{slice_index_or}
use Rattle.std.specs.List.{filter}
use Rattle.std.specs.declared.alloc.Global.{Global}
use Rattle.std.proofs.lemmas.List.{append-nil, get_or_default}
use Rattle.ssim_values.specs.Flight.{FlightNumber}
use Rattle.ssim_base.specs.Export.{flight_at}
use Rattle.ssim_schedule.specs.internal.FlightSet.{is_marked}
use Rattle.ssim_schedule.proofs.Divisions.{flights_from, marked_all, marked_next}
use Rattle.ssim_schedule.proofs.builder.flight_set.FlightSet.flights.Goals as goal
use Rattle.ssim_schedule.proofs.builder.flight_set.FlightSet.flights.Goals.{then-index+in_ok-push, else-index}

pub loop-place-preserved : goal.loop-place-preserved
loop-place-preserved c =
    let marks = c.args.self.now.marks.items in
    let k = c.loop-place.place in
    let less : k < length marks = let low = c.loop-place-test.true in let whole = c.args.self.now.whole in let ok = c.args.self.now.marks.ok in omega arith in
    let at : slice_index_or marks k false ≡ c.index.result.now = get_or_default marks k false c.index.result.now less ∙ sym c.index.ensures in
    elim c.if-index.branch [
      | then-index+in_ok-push w ↦
          ap (λ (v : Vec FlightNumber Global). v.items) w.flights-is ∙ w.in_ok-push.ensures.items
          ∙ ap (λ (f : FlightNumber). c.loop-place.flights.items ++ f ∷ []) w.flight_at.ensures
          ∙ ap (λ (fs : List FlightNumber). fs ++ flight_at k ∷ []) c.loop-place.invariant
          ∙ sym (marked_next marks k true (at ∙ w.if-index.true))
      | else-index w ↦
          ap (λ (v : Vec FlightNumber Global). v.items) w.flights-is ∙ c.loop-place.invariant
          ∙ sym (marked_next marks k false (at ∙ w.if-index.false) ∙ append-nil (filter (is_marked marks) (flights_from 0 k)))
    ]

pub returns : goal.returns
returns c =
    let marks = c.args.self.now.marks.items in
    let k = c.loop-place.place in
    let all : k ≡ 270000 = let done = c.loop-place-test.false in let to = c.loop-place.auto.place-end in omega arith in
    c.loop-place.invariant ∙ marked_all marks k all
