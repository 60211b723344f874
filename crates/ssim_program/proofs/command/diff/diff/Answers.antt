-- Both timetables are read and compared, or not.
use Rattle.std.proofs.Common.{◌≡◌, Err, List, map, Ok, Option, Result, inl, inr, rules, subst}
use Rattle.ssim_program.specs.Answers.{diff, differences}
use Rattle.ssim_program.specs.Files.{Files}
use Rattle.ssim_program.specs.Timetables.{ReadsTimetable, RefusesTimetable}
use Rattle.ssim_program.specs.internal.Program.{Reports}
use Rattle.ssim_held.specs.Entries.{DeskSeen}
use Rattle.ssim_command_line.specs.Line.{ChoiceTexts, Text, choice_line}
use Rattle.ssim_command_line.specs.declared.command_line.DiffForm.{DiffForm}
use Rattle.ssim_program.specs.declared.made.Report.{Report}
use Rattle.ssim_program.specs.declared.refusal.Refusal.{Refusal}
use Rattle.ssim_program.proofs.command.diff.diff.Goals as goal

both : (files : Option Files) (form : DiffForm) (words : ChoiceTexts) (from to : Text) (flights : List Text)
    (old new : DeskSeen) (r : Result Report Refusal) → ReadsTimetable files from old
    → ReadsTimetable files to new → Reports (differences form words flights old new) r
    → Reports (diff files form words from to flights) r
both files form words from to flights old new (Ok report) mine theirs differ =
    (old, mine, (new, theirs, differ))
both files form words from to flights old new (Err why) mine theirs differ =
    inr (old, mine, inr (new, theirs, differ))

pub returns-in_err-old-clause-answer : goal.returns-in_err-old-clause-answer
returns-in_err-old-clause-answer g c =
    let is : c.from_residual.result ≡ Err c.in_err-old.field-0.0 = search rules in
    rw is (inl c.in_err-old.ensures.refused)

pub returns-in_err-desk-clause-answer : goal.returns-in_err-desk-clause-answer
returns-in_err-desk-clause-answer g c =
    let why = c.in_err-desk.field-0.0 in let read = c.in_ok-old.ensures.read in
    let is : c.from_residual-in_err-desk.result ≡ Err why = search rules in
    rw is (inr (read.0, read.1, inl (subst (λ (f : Option Files). RefusesTimetable f c.args.to.now why) c.open_flights.ensures.same c.in_err-desk.ensures.refused)))

pub returns-clause-answer : goal.returns-clause-answer
returns-clause-answer g c =
    let desk = c.in_ok-desk.desk in let read = c.in_ok-old.ensures.read in
    both (g.S.Store.files c.args.store.now) c.args.words.now.form
    (choice_line c.args.words.now.choice.now) c.args.from.now c.args.to.now
    (map (λ t. t.now) c.args.words.now.flights.now) read.0 desk c.compared.result read.1
    (subst (λ (f : Option Files). ReadsTimetable f c.args.to.now desk) c.open_flights.ensures.same c.in_ok-desk.ensures.read) (c.compared.ensures read.0 read.2)
