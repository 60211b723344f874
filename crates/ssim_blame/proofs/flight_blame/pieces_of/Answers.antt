-- The days begin as those of the data set, and the messages leave on each what its steps do.
use Rattle.std.proofs.Common.{◌≡◌, ◌∙◌, ◌≤◌, ℕ, [], List, ap, refl, subst}
use Rattle.std.specs.Prelude.{IsTrue}
use Rattle.std.proofs.lemmas.Result.{IfOk-weaker}
use Rattle.ssim_values.specs.Flight.{IsFlight, is_suffix}
use Rattle.ssim_values.specs.Period.{DayRange}
use Rattle.ssim_periods.specs.Days.{each_day}
use Rattle.ssim_periods.specs.Pieces.{pieces_of}
use Rattle.ssim_periods.specs.clauses.Days.{changed_by_each}
use Rattle.ssim_periods.proofs.DayLemmas.{each_day-same}
use Rattle.ssim_base.specs.BaseSeen.{BaseSeen}
use Rattle.ssim_base.specs.Export.{same_itinerary}
use Rattle.ssim_base.specs.Timetable.{Legs, itinerary}
use Rattle.ssim_base.specs.clauses.ItineraryLaws.{exact_itinerary}
use Rattle.ssim_desk.specs.DateSteps.{entry_steps, steps_on}
use Rattle.ssim_blame.specs.Makers.{maker_on, same_maker}
use Rattle.ssim_blame.specs.declared.made.MadeItinerary.{MadeItinerary}
use Rattle.ssim_blame.specs.declared.maker.Maker.TheVariants.{Nobody}
use Rattle.ssim_blame.specs.internal.Made.{after_steps, from_data_set, nothing_made}
use Rattle.ssim_blame.proofs.Acted.{steps_leave}
use Rattle.ssim_blame.proofs.Given.{pieces_give}
use Rattle.ssim_blame.proofs.flight_blame.pieces_of.Goals as goal

pub returns : goal.returns
returns c =
    let desk = c.args.desk.now in let flight = c.args.flight in
    let first = itinerary desk.base.records flight in
    let exists : IsFlight flight = record {
      number_to = subst (λ n. n ≤ 9999) c.number.ensures.value c.number.ensures.bound;
      suffixed = subst (λ s. IsTrue (is_suffix s)) c.suffix.ensures.value c.suffix.ensures.suffix;
    } in
    let put = λ (legs : Legs) (old : MadeItinerary). from_data_set legs in
    let items = c.in_ok-pieces.field-0.items in
    let begun : c.replace_each.new.self.days ≡ each_day (λ n. from_data_set (first n)) =
    c.in_ok-replace_each.ensures.days
    ∙ ap (λ (ps : List (DayRange × Legs)). changed_by_each put ps c.new-days.result.days)
    c.deref.ensures.value
    ∙ ap (changed_by_each put items) c.new-days.ensures.days
    ∙ ap (λ (ps : List (DayRange × Legs)).
    changed_by_each put ps (each_day (λ (n : ℕ). nothing_made)))
    (c.in_ok-pieces.ensures.pieces
    ∙ ap (pieces_of same_itinerary []) (c.in_ok-days.ensures ∙ c.requires exists))
    ∙ pieces_give same_itinerary [] exact_itinerary from_data_set nothing_made first refl in
    let rows_are = c.rows.ensures ∙ ap (λ (b : BaseSeen). b.rows) c.base.ensures in
    let made = λ (n : ℕ). after_steps (from_data_set (first n)) (steps_on desk flight n) in
    let acted : c.act_all.new.days.days ≡ each_day made =
    c.in_ok-act_all.ensures (λ n. from_data_set (first n)) begun
    ∙ (λ i. each_day (λ n. after_steps (from_data_set (first n))
    (entry_steps (rows_are i) flight n (c.held.ensures.value i) (first n)))) in
    IfOk-weaker c.makers_of.result _ _
    (λ pieces are. are ∙ ap (pieces_of same_maker Nobody)
    (each_day-same (λ n. (made n).maker) (maker_on desk flight)
    (λ n within. ap (λ (m : MadeItinerary). m.maker)
    (steps_leave (from_data_set (first n)) (steps_on desk flight n)))))
    (c.makers_of.ensures made acted)
