-- The sub-messages and their dates are those of the message.
use Rattle.std.proofs.Common.{◌≡◌, ◌∙◌, ◌++◌, ap, map, subst}
use Rattle.ssim_text.specs.Message.{MessageValue}
use Rattle.ssim_desk.specs.Meaning.{after_subs, subs_findings}
use Rattle.ssim_program.specs.internal.SomeFlights.{Shows}
use Rattle.ssim_program.specs.internal.Spans.{part_sub}
use Rattle.ssim_program.proofs.chosen_findings.act.Goals as goal

pub returns-clause-shows : goal.returns-clause-shows
returns-clause-shows c = λ before shows.
    let subs = c.subs-subs.ensures.value ∙ ap (λ (m : MessageValue). m.subs) c.message.ensures in
    subst (Shows c.act_each.new.schedule)
    (λ i. after_subs c.args.rows.now (subs i)
    (map (part_sub c.args.choice.now) (c.dates.ensures.value i)) before)
    (c.in_ok-act_each.ensures.shows before shows)

pub returns-clause-found : goal.returns-clause-found
returns-clause-found c = λ before shows.
    let subs = c.subs-subs.ensures.value ∙ ap (λ (m : MessageValue). m.subs) c.message.ensures in
    c.in_ok-act_each.ensures.found before shows
    ∙ (λ i. c.new-found.ensures.items i ++ subs_findings c.args.rows.now (subs i)
    (map (part_sub c.args.choice.now) (c.dates.ensures.value i)) before)
