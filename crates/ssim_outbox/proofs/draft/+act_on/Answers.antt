-- The finding says whether the first action acts on each date, and the others act on what it leaves.
use Rattle.std.proofs.Common.{◌∙◌, ◌≤◌, List, length, sym, ap, subst}
use Rattle.std.specs.Prelude.{IsTrue}
use Rattle.ssim_values.specs.Flight.{IsFlight, is_suffix}
use Rattle.ssim_text.specs.declared.action.Action.{Action}
use Rattle.ssim_base.specs.Timetable.{Days}
use Rattle.ssim_schedule.specs.clauses.Schedule.{days_in}
use Rattle.ssim_outbox.specs.internal.Drafts.{ActOnEach}
use Rattle.ssim_outbox.proofs.Findings.{each_after, long_after}
use Rattle.ssim_outbox.proofs.draft.+act_on.Goals as goal

pub returns-then-rest_act-clause-as_long : goal.returns-then-rest_act-clause-as_long
returns-then-rest_act-clause-as_long t c = λ g.
    c.in_ok-rest_act-in-Some.ensures.as_long g
    ∙ ap (λ (days : Days). length days) (c.in_ok-finding-in-Some.ensures.days g)
    ∙ long_after c.args.rows.now c.in-Some.action.now c.args.flight c.args.period
    (days_in c.args.schedule.now) g

pub returns-else-rest_act-clause-as_long : goal.returns-else-rest_act-clause-as_long
returns-else-rest_act-clause-as_long t c = λ g.
    c.in_ok-rest_act-in-Some.ensures.as_long g
    ∙ ap (λ (days : Days). length days) (c.in_ok-finding-in-Some.ensures.days g)
    ∙ long_after c.args.rows.now c.in-Some.action.now c.args.flight c.args.period
    (days_in c.args.schedule.now) g

pub returns-then-rest_act-clause-each : goal.returns-then-rest_act-clause-each
returns-then-rest_act-clause-each t c = λ acted.
    let rows = c.args.rows.now in let action = c.in-Some.action.now in
    let flight = c.args.flight in let period = c.args.period in
    let before = c.args.schedule.now in let mid = c.apply_sub.new.self in
    let exists : IsFlight flight = record {
      number_to = subst (λ n. n ≤ 9999) c.number.ensures.value c.number.ensures.bound;
      suffixed = subst (λ s. IsTrue (is_suffix s)) c.suffix.ensures.value c.suffix.ensures.suffix;
    } in
    let found = c.in_ok-finding-in-Some in
    subst (λ (actions : List Action). ActOnEach rows actions flight period before)
    (sym c.in-Some.ensures.cases.0)
    (each_after rows action c.in-Some.rest.now flight period before mid found.finding exists
    found.ensures.finding (c.is_all_acted.ensures acted) found.ensures.each_date
    (λ g. ap (λ (days : Days). length days) (found.ensures.days g)
    ∙ long_after rows action flight period (days_in before) g)
    (c.in_ok-rest_act-in-Some.ensures.each c.if-rest_act.true))
