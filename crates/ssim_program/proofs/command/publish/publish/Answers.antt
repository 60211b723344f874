-- Both timetables are read, and the messages are made, or not.
use Rattle.std.proofs.Common.{◌≡◌, ◌∙◌, ◌∷◌, [], Err, List, Option, ap, inl, inr, rules, subst}
use Rattle.ssim_command_line.specs.Line.{Text}
use Rattle.ssim_program.specs.Acts.{Act, Keep, Print}
use Rattle.ssim_program.specs.Files.{Files}
use Rattle.ssim_program.specs.Timetables.{ReadsTimetable, RefusesTimetable}
use Rattle.ssim_program.proofs.command.publish.publish.Goals as goal

pub returns-in_err-old-clause-answer : goal.returns-in_err-old-clause-answer
returns-in_err-old-clause-answer g c =
    let why = c.in_err-old.field-0.0 in
    let is : c.from_residual-in_err-old.result ≡ Err why = search rules in
    rw is (inr (tt, c.in_ok-place.ensures.held, inl (subst (λ (f : Option Files). RefusesTimetable f c.args.from.now why) c.hold.ensures.same c.in_err-old.ensures.refused)))

pub returns-in_err-new-clause-answer : goal.returns-in_err-new-clause-answer
returns-in_err-new-clause-answer g c =
    let why = c.in_err-new.field-0.0 in
    let same = c.open_timetable.ensures.same ∙ c.hold.ensures.same in
    let is : c.from_residual-in_err-new.result ≡ Err why = search rules in
    let mine = subst (λ (f : Option Files). ReadsTimetable f c.args.from.now c.in_ok-old.old) c.hold.ensures.same c.in_ok-old.ensures.read in
    rw is (inr (tt, c.in_ok-place.ensures.held, inr (c.in_ok-old.old, mine, inl (subst (λ (f : Option Files). RefusesTimetable f c.args.to.now why) same c.in_err-new.ensures.refused))))

pub returns-in-Err-clause-answer : goal.returns-in-Err-clause-answer
returns-in-Err-clause-answer g c =
    let same = c.open_timetable.ensures.same ∙ c.hold.ensures.same in
    let mine = subst (λ (f : Option Files). ReadsTimetable f c.args.from.now c.in_ok-old.old) c.hold.ensures.same c.in_ok-old.ensures.read in
    let theirs = subst (λ (f : Option Files). ReadsTimetable f c.args.to.now c.in_ok-new.new) same c.in_ok-new.ensures.read in
    inr (tt, c.in_ok-place.ensures.held, inr (c.in_ok-old.old, mine, inr (c.in_ok-new.new, theirs, inl (c.in-Err.fault, c.in-Err.ensures.err, c.from.ensures))))

pub returns-clause-answer : goal.returns-clause-answer
returns-clause-answer g c =
    let same = c.open_timetable.ensures.same ∙ c.hold.ensures.same in
    let mine = subst (λ (f : Option Files). ReadsTimetable f c.args.from.now c.in_ok-old.old) c.hold.ensures.same c.in_ok-old.ensures.read in
    let theirs = subst (λ (f : Option Files). ReadsTimetable f c.args.to.now c.in_ok-new.new) same c.in_ok-new.ensures.read in
    let lines = c.in-Ok.made.lines.items in let mail = c.in-Ok.made.mail.items in
    let keep : (out : Text) → List Act = λ out. Print lines ∷ Keep out mail ∷ [] in
    (tt, c.in_ok-place.ensures.held, (c.in_ok-old.old, mine, (c.in_ok-new.new, theirs, ((lines, mail), c.in-Ok.ensures.ok, ap keep c.in_ok-place.ensures.name))))
