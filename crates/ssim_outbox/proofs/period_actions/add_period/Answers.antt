-- Sub-messages of a period that were tried, and are added.
use Rattle.std.proofs.Common.{◌≡◌, ◌<◌, ◌≤◌, true, ℕ, List, length, refl, subst}
use Rattle.std.specs.Prelude.{IsTrue}
use Rattle.std.proofs.lemmas.Option.{slice_get_within}
use Rattle.std.proofs.lemmas.Result.{on_ok_weaker}
use Rattle.ssim_values.specs.Flight.{FlightNumber, IsFlight, is_suffix}
use Rattle.ssim_periods.specs.Calendar.{day_count, holds}
use Rattle.ssim_base.specs.Timetable.{Days}
use Rattle.ssim_text.specs.declared.action.Action.{Action}
use Rattle.ssim_schedule.specs.clauses.Schedule.{Flown, days_in}
use Rattle.ssim_outbox.specs.internal.Drafts.{ActOnEach, Acts, AreAsLong, IsChangeOf, IsMadeOn}
use Rattle.ssim_outbox.proofs.Settling.{kept_period}
use Rattle.ssim_outbox.proofs.period_actions.add_period.Goals as goal

pub returns : goal.returns
returns c =
    let change = c.args.change.now in let flight = change.flight in
    let period = c.args.period in let actions = c.args.actions.items in
    let tried = c.act_on.new.schedule in
    let acts : Acts c.args.rows.now actions flight period c.args.draft.now.schedule tried =
    subst (λ (tried_actions : List Action).
    Acts c.args.rows.now tried_actions flight period c.args.draft.now.schedule tried)
    c.deref.ensures.value
    (subst (λ (begun : Flown). Acts c.args.rows.now c.deref.result.now flight period begun tried)
    c.in_ok-trial.ensures c.in_ok-each.ensures.acts) in
    let each : ActOnEach c.args.rows.now actions flight period c.args.draft.now.schedule =
    subst (λ (tried_actions : List Action).
    ActOnEach c.args.rows.now tried_actions flight period c.args.draft.now.schedule)
    c.deref.ensures.value
    (subst (ActOnEach c.args.rows.now c.deref.result.now flight period)
    c.in_ok-trial.ensures (c.in_ok-each.ensures.each c.if-not-each.false)) in
    let as_long : AreAsLong c.args.draft.now.schedule tried =
    subst (λ (begun : Flown). AreAsLong begun tried) c.in_ok-trial.ensures c.in_ok-each.ensures.as_long in
    let first = c.if-not-is_made.ensures.first refl in
    let made = c.if-not-is_made.ensures.made refl in
    let made_of : (from to : FlightNumber → Days) → IsChangeOf from to change → (n : ℕ) → n < day_count
    → holds period n ≡ true → IsMadeOn (days_in tried flight)
    (days_in c.args.draft.now.schedule flight) (to flight) n =
    (λ from to is n within held.
    subst (λ (days : Days). IsMadeOn (days_in tried flight) (days_in c.args.draft.now.schedule flight)
    days n)
    is.new_days (made n within held)) in
    let exists : IsFlight flight = record {
      number_to = subst (λ n. n ≤ 9999) c.number.ensures.value c.number.ensures.bound;
      suffixed = subst (λ s. IsTrue (is_suffix s)) c.suffix.ensures.value c.suffix.ensures.suffix;
    } in
    let last_of : (from to : FlightNumber → Days) → IsChangeOf from to change
    → period.last < length (from flight) =
    (λ from to is. subst (λ (days : Days). period.last < length days) is.old_days
    (subst (λ (day : ℕ). day < length change.old.days) c.last.ensures.value
    (slice_get_within change.old.days c.last.result c.at.result.now c.at.ensures))) in
    on_ok_weaker c.push_subs.result
    (λ subs from to change_is is. kept_period c.args.rows.now from to c.args.draft.now
    (record { subs = c.push_subs.new.subs; schedule = tried }) actions flight period exists first.0 is
    c.requires first.1 (made_of from to change_is) subs acts as_long
    (last_of from to change_is) each)
    c.push_subs.ensures
