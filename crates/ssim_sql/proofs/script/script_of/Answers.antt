-- The parts of the script, one after another. The name is that of the carrier record.
use Rattle.std.proofs.Common.{◌∙◌, ◌++◌, ℕ, List, [], ap}
use Rattle.ssim_base.specs.Base.{end_of}
use Rattle.ssim_sql.specs.DayRows.{day_statement, with_flights, with_messages}
use Rattle.ssim_sql.specs.Messages.{held_statements}
use Rattle.ssim_sql.specs.Script.{beginning, change_statements, ending, flight_statements}
use Rattle.ssim_sql.specs.Script.{script_of_flights}
use Rattle.ssim_sql.specs.Timetable.{timetable_statement}
use Rattle.ssim_sql.proofs.Joining.{seven_joined}
use Rattle.ssim_sql.proofs.script.script_of.Goals as goal

pub returns : goal.returns
unfolding script_of_flights
returns c =
    let carrier = c.args.carrier.now in let desk = c.args.desk in
    let name = c.in_ok-name.ensures in
    let flights = c.in_ok-flights.ensures.flights in
    let changes = c.deref-9.ensures.value ∙ c.in_ok-flights.ensures.changes in
    let to_begin = c.deref-2.ensures.value ∙ name in
    let to_row = c.deref-4.ensures.value ∙ name in
    let to_flights = c.deref-5.ensures.value ∙ name in
    let to_changes = c.deref-8.ensures.value ∙ name in
    let messages = c.message_count-messages.ensures in
    let days = c.days_with-days.ensures
    ∙ ap (with_messages (carrier.first, end_of carrier)) c.held.ensures.value in
    let of_days = c.deref-3.ensures.value ∙ flights in
    let of_rows = c.deref-6.ensures.value ∙ flights in
    let span = c.with_flights.ensures ∙ (λ k. with_flights (days k) (of_days k)) in
    let held = c.deref-7.ensures.value ∙ c.in_ok-held.ensures
    ∙ ap (λ (n : List ℕ). held_statements n desk) (c.deref.ensures.value ∙ name) in
    seven_joined [] (beginning c.deref-2.result.now) (day_statement c.with_flights.result)
    (timetable_statement c.deref-4.result.now carrier c.message_count-messages.result)
    (flight_statements c.deref-5.result.now carrier c.deref-6.result.now)
    c.deref-7.result.now
    (change_statements c.deref-8.result.now carrier c.deref-9.result.now) ending
    c.in_ok-script.ensures c.in_ok-push_days.ensures c.in_ok-script-2.ensures
    c.in_ok-script-3.ensures c.in_ok-extend_from_slice.ensures.items c.in_ok-script-4.ensures
    c.in_ok-push_ending.ensures
    ∙ (λ k. beginning (to_begin k) ++ day_statement (span k)
    ++ timetable_statement (to_row k) carrier (messages k)
    ++ flight_statements (to_flights k) carrier (of_rows k) ++ held k
    ++ change_statements (to_changes k) carrier (changes k) ++ ending)
