-- The words make a choice, or not.
use Rattle.std.proofs.Common.{◌≡◌, ◌∙◌, Err, Ok, List, ℕ, ap, inl, inr, map, rules, subst}
use Rattle.ssim_base.specs.Base.{airline_of}
use Rattle.ssim_command_line.specs.Line.{span_line}
use Rattle.ssim_program.specs.Choices.{choice_in}
use Rattle.ssim_program.specs.Spans.{dates_alone}
use Rattle.ssim_program.specs.Messages.{printed_messages}
use Rattle.ssim_program.proofs.command.texts.texts.Goals as goal

pub returns-in_err-choice-clause-answer : goal.returns-in_err-choice-clause-answer
returns-in_err-choice-clause-answer g c =
    let why = c.in_err-choice.field-0.0 in
    let here = c.airline.ensures ∙ ap airline_of c.data_set.ensures in
    let is : c.from_residual-in_err-choice.result ≡ Err why = search rules in
    rw is (inr (
      c.in_ok-desk.desk,
      c.in_ok-desk.ensures.answer,
      inl (subst (λ (a : List ℕ). choice_in a (dates_alone (span_line c.args.span))
          (map (λ t. t.now) c.args.flights.now) (Err why)) here c.in_err-choice.ensures),
    ))

pub returns-clause-answer : goal.returns-clause-answer
returns-clause-answer g c =
    let desk = c.in_ok-desk.desk in
    let choice = c.in_ok-choice.choice in
    let here = c.airline.ensures ∙ ap airline_of c.data_set.ensures in (
      desk,
      c.in_ok-desk.ensures.answer,
      (
        choice,
        subst (λ (a : List ℕ). choice_in a (dates_alone (span_line c.args.span))
            (map (λ t. t.now) c.args.flights.now) (Ok choice)) here c.in_ok-choice.ensures,
        c.in_ok-text.ensures
            ∙ (λ i. printed_messages c.args.csv (c.has_end.ensures i) choice (c.held.ensures.value i)),
      ),
    )
