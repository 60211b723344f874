-- Both ends are those of the line that the columns have.
use Rattle.std.proofs.Common.{◌≡◌, ◌∙◌, sym}
use Rattle.ssim_text.specs.Grammar.{IsLegLine}
use Rattle.ssim_text.proofs.Runs.{none_some, some_same}
use Rattle.ssim_outbox.proofs.ColumnReads.{made_is}
use Rattle.ssim_outbox.proofs.column_lines.leg_line_of.Goals as goal

pub returns-in_err-departure_of-clause-found : goal.returns-in_err-departure_of-clause-found
returns-in_err-departure_of-clause-found c = λ line h.
    absurd (none_some line.departure (sym c.in_err-departure_of.was ∙ c.departure_of.ensures line h))

pub returns-in_err-arrival_of-clause-found : goal.returns-in_err-arrival_of-clause-found
returns-in_err-arrival_of-clause-found c = λ line h.
    absurd (none_some line.arrival (sym c.in_err-arrival_of.was ∙ c.arrival_of.ensures line h))

pub returns-clause-found : goal.returns-clause-found
returns-clause-found c = λ line h.
    let departure = some_same _ line.departure (sym c.in_ok-departure_of.was ∙ c.departure_of.ensures line h) in
    let arrival = some_same _ line.arrival (sym c.in_ok-arrival_of.was ∙ c.arrival_of.ensures line h) in
    let same : record { departure = c.in_ok-departure_of.field-0; arrival = c.in_ok-arrival_of.field-0 } ≡ line =
    (λ i. record { departure = departure i; arrival = arrival i }) in
    made_is IsLegLine c.new.result _ line c.new.ensures.value c.new.ensures.none same h.is_line
