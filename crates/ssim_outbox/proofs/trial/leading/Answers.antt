-- The actions act on the legs of the old itinerary, and the test compares what they leave with the
-- new one.
use Rattle.std.proofs.Common.{◌∙◌, sym, ap}
use Rattle.ssim_base.specs.clauses.ItineraryLaws.{exact_itinerary}
use Rattle.ssim_outbox.specs.Reach.{after_all}
use Rattle.ssim_outbox.proofs.trial.leading.Goals as goal

pub returns-then-same-clause-leads : goal.returns-then-same-clause-leads
returns-then-same-clause-leads c =
    let rows = c.args.rows.now in let acting = c.in_ok-acting.acting.items in
    let day = ap (λ d. d.day) c.in_ok-date.ensures in
    let begun = ap (λ d. d.legs) c.in_ok-date.ensures ∙ c.in_ok-legs.ensures ∙ c.legs.ensures in
    let made = c.in_ok-itinerary.ensures ∙ c.in_ok-acting.ensures.same
    ∙ (λ i. after_all rows (day i) acting (begun i)) in
    sym made
    ∙ (exact_itinerary c.in_ok-itinerary.field-0 c.args.new.now).0
    (sym c.same-2.ensures ∙ c.if-same.true)

pub returns-clause-finds : goal.returns-clause-finds
returns-clause-finds c = λ same.
    let rows = c.args.rows.now in let actions = c.args.actions.items in
    let day = ap (λ d. d.day) c.in_ok-date.ensures in
    let begun = ap (λ d. d.legs) c.in_ok-date.ensures ∙ c.in_ok-legs.ensures ∙ c.legs.ensures in
    let made = c.in_ok-itinerary.ensures ∙ c.in_ok-acting.ensures.legs
    ∙ (λ i. after_all rows (day i) actions (begun i)) in
    sym c.if-same.false ∙ c.same-2.ensures
    ∙ (exact_itinerary c.in_ok-itinerary.field-0 c.args.new.now).1 (made ∙ same)
