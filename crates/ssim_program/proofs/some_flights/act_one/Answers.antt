-- The clauses of the schedule, stated of its timetable.
use Rattle.std.proofs.Common.{◌≤◌, subst}
use Rattle.std.specs.Prelude.{IsTrue}
use Rattle.ssim_values.specs.Flight.{IsFlight, is_suffix}
use Rattle.ssim_base.proofs.Results.{if_ok, on_ok}
use Rattle.ssim_desk.proofs.Shown.{found_told, shows_told}
use Rattle.ssim_program.proofs.some_flights.act_one.Goals as goal

exists : (c : goal.After-apply_sub) → IsFlight c.args.dated.flight
exists c = record {
  number_to = subst (λ n. n ≤ 9999) c.number.ensures.value c.number.ensures.bound;
  suffixed = subst (λ s. IsTrue (is_suffix s)) c.suffix.ensures.value c.suffix.ensures.suffix;
}

pub returns-clause-shows : goal.returns-clause-shows
returns-clause-shows c =
    on_ok c.apply_sub.result
    (λ days before shows. shows_told c.args.rows.now c.args.sub.now.action
    c.with.result.action.now c.args.dated c.with.result.flight c.with.result.period
    c.args.schedule.now c.apply_sub.new.self before c.with.ensures.action c.with.ensures.flight
    c.with.ensures.period (exists c) days shows)
    c.apply_sub.ensures.days

pub returns-clause-found : goal.returns-clause-found
returns-clause-found c =
    if_ok c.apply_sub.result
    (λ finding found before shows. found_told c.args.rows.now c.args.sub.now.action
    c.with.result.action.now c.args.dated c.with.result.flight c.with.result.period
    c.args.schedule.now before finding c.with.ensures.action c.with.ensures.flight
    c.with.ensures.period (exists c) found shows)
    c.apply_sub.ensures.finding
