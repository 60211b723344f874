-- The words make a choice, or not.
use Rattle.std.proofs.Common.{◌≡◌, ◌∙◌, List, ℕ, Result, Ok, Err, ap, inl, inr, map, rules, subst}
use Rattle.ssim_base.specs.Base.{airline_of}
use Rattle.ssim_desk.specs.Desk.{days_of_desk}
use Rattle.ssim_parts.specs.Chosen.{chosen_days}
use Rattle.ssim_command_line.specs.Line.{choice_line}
use Rattle.ssim_program.specs.Acts.{prints}
use Rattle.ssim_program.specs.Answer.{Answer, ◌>>=◌}
use Rattle.ssim_program.specs.Choices.{choice_in}
use Rattle.ssim_program.specs.Exports.{export_in}
use Rattle.ssim_program.specs.Timetables.{timetable_in}
use Rattle.ssim_program.proofs.command.select.select.Goals as goal

-- two steps that give values, and then a third one
after_both : {A B C : Type 0} (one : Answer A) (next : A → Answer B) (last : A → B → Answer C)
    (a : A) (b : B) → one (Ok a) → next a (Ok b) → (r : Result C _) → last a b r
    → (one >>= (λ x. next x >>= last x)) r
after_both one next last a b is are (Ok x) gives = (a, is, (b, are, gives))
after_both one next last a b is are (Err why) gives = inr (a, is, inr (b, are, gives))

pub returns-in_err-choice-clause-answer : goal.returns-in_err-choice-clause-answer
returns-in_err-choice-clause-answer g c =
    let why = c.in_err-choice.field-0.0 in
    let here = c.airline.ensures ∙ ap airline_of c.data_set.ensures in
    let is : c.from_residual-in_err-choice.result ≡ Err why = search rules in
    rw is (inr (
      c.in_ok-desk.desk,
      c.in_ok-desk.ensures.read,
      inl (subst (λ (a : List ℕ). choice_in a (choice_line c.args.words.now)
          (map (λ t. t.now) c.args.flights.now) (Err why)) here c.in_err-choice.ensures),
    ))

pub returns-clause-answer : goal.returns-clause-answer
returns-clause-answer g c =
    let desk = c.in_ok-desk.desk in
    let words = choice_line c.args.words.now in
    let flights = map (λ t. t.now) c.args.flights.now in
    let here = c.airline.ensures ∙ ap airline_of c.data_set.ensures in
    after_both (timetable_in (g.S.Store.files c.args.store.now) c.args.file.now)
    (λ d. choice_in (airline_of d.base.records) words flights)
    (λ d choice. prints (export_in d.base.records (chosen_days choice (days_of_desk d)))) desk
    c.in_ok-choice.choice c.in_ok-desk.ensures.read
    (subst (λ (a : List ℕ). choice_in a words flights (Ok c.in_ok-choice.choice)) here
    c.in_ok-choice.ensures)
