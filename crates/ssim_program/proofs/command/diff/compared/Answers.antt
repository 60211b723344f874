-- The data sets are of one airline and one time mode, or not; and the words make a choice, or not.
use Rattle.std.proofs.Common.{◌≡◌, ◌∙◌, Bool, Err, List, ℕ, Ok, ap, ap₂, inl, inr, map, refl, rules, subst}
use Rattle.ssim_desk.specs.Desk.{days_of_desk}
use Rattle.ssim_command_line.specs.Line.{choice_line}
use Rattle.ssim_difference.specs.ChosenDates.{chosen_side}
use Rattle.ssim_program.specs.Choices.{choice_in}
use Rattle.ssim_program.specs.print.Difference.{printed_difference}
use Rattle.ssim_program.specs.declared.refusal.Refusal.TheVariants as refused
use Rattle.ssim_program.proofs.command.diff.compared.Goals as goal

pub returns-in_err-compare : goal.returns-in_err-compare
returns-in_err-compare c before has =
    let fault = c.in_err-compare.field-0.0 in
    let is : c.from_residual-in_err-compare.result ≡ Err (refused.Publication fault) = search rules in
    rw is (inr (
      c.args.old.now.carrier,
      has.has_carrier,
      inr (
        c.in_ok-new.new.carrier,
        c.in_ok-new.ensures.has_carrier,
        inl (fault, c.in_err-compare.ensures.err, refl),
      ),
    ))

pub returns-in_err-choice : goal.returns-in_err-choice
returns-in_err-choice c before has =
    let why = c.in_err-choice.field-0.0 in
    let is : c.from_residual-in_err-choice.result ≡ Err why = search rules in
    let made = subst (λ (a : List ℕ). choice_in a (choice_line c.args.words.now.choice.now)
    (map (λ t. t.now) c.args.words.now.flights.now) (Err why)) c.airline-airline.ensures
    c.in_err-choice.ensures in
    rw is (inr (
      c.args.old.now.carrier,
      has.has_carrier,
      inr (
        c.in_ok-new.new.carrier,
        c.in_ok-new.ensures.has_carrier,
        inr (tt {0}, (c.in_ok-compare.ensures.airline, c.in_ok-compare.ensures.mode), inl made),
      ),
    ))

pub returns : goal.returns
returns c before has =
    let choice = c.in_ok-choice.choice in
    let mine = c.args.old.now.carrier in
    let old = days_of_desk before in
    let new = days_of_desk c.args.desk in (
      mine,
      has.has_carrier,
      (
        c.in_ok-new.new.carrier,
        c.in_ok-new.ensures.has_carrier,
        (
          tt {0},
          (c.in_ok-compare.ensures.airline, c.in_ok-compare.ensures.mode),
          (
            choice,
            subst (λ (a : List ℕ). choice_in a (choice_line c.args.words.now.choice.now)
                (map (λ t. t.now) c.args.words.now.flights.now) (Ok choice)) c.airline-airline.ensures
                c.in_ok-choice.ensures,
            ap₂ (λ (lines : List ℕ) (found : Bool). (lines, found))
                (c.in_ok-report.ensures.lines old new (c.deref.ensures.value ∙ has.flights_are)
                (c.deref-2.ensures.value ∙ c.in_ok-new.ensures.flights_are)
                ∙ ap (λ (a : List ℕ). printed_difference c.args.words.now.form a (chosen_side choice old new old)
                (chosen_side choice old new new)) c.airline-airline.ensures)
                (c.in_ok-report.ensures.found old new (c.deref.ensures.value ∙ has.flights_are)
                (c.deref-2.ensures.value ∙ c.in_ok-new.ensures.flights_are)),
          ),
        ),
      ),
    )
