-- The steps begin with the legs of the data set.
use Rattle.std.proofs.Common.{◌≡◌, ◌++◌, ap, ◌∙◌}
use Rattle.ssim_base.specs.Timetable.{itinerary}
use Rattle.ssim_desk.specs.DateSteps.{entry_steps, legs_left}
use Rattle.ssim_desk.proofs.DateStepLemmas.{entries-left}
use Rattle.ssim_desk.proofs.date_step.history_of.Goals as goal

pub returns-clause-last : goal.returns-clause-last
returns-clause-last c =
    let base = c.args.base.now in let flight = c.args.flight.now in let day = c.args.day in let messages = c.args.messages.now in
    let begun : c.in_ok-date.date.legs ≡ itinerary base.records flight day = ap (λ d. d.legs) c.in_ok-date.ensures ∙ c.in_ok-legs.ensures in
    let first : c.in_ok-first.first ≡ itinerary base.records flight day = c.in_ok-first.ensures ∙ begun in
    let steps : c.push_messages.new.steps.items ≡ entry_steps base.rows flight day messages (itinerary base.records flight day) =
    c.in_ok-push_messages.ensures
    ∙ (λ i. c.new-steps.ensures.items i ++ entry_steps (c.rows.ensures i) flight (c.in_ok-date.ensures i).day messages (begun i)) in
    (λ i. legs_left (first i) (steps i)) ∙ entries-left base.rows flight day messages (itinerary base.records)
