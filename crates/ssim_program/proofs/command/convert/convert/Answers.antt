-- The timetable is read, and its data set is made, or not.
use Rattle.std.proofs.Common.{◌≡◌, ◌∙◌, ◌∷◌, [], Err, List, Ok, Option, ap, inl, inr, rules, subst}
use Rattle.std.proofs.Common.{sym, ℕ}
use Rattle.ssim_values.specs.declared.time_mode.TimeMode.{TimeMode}
use Rattle.ssim_base.specs.Base.{airline_of}
use Rattle.ssim_command_line.specs.Line.{Text}
use Rattle.ssim_program.specs.Acts.{Act, Keep, Print}
use Rattle.ssim_program.specs.Converting.{converted, mode_named}
use Rattle.ssim_program.specs.Files.{Files}
use Rattle.ssim_program.specs.Timetables.{ReadsTimetable, RefusesTimetable}
use Rattle.ssim_program.specs.declared.refusal.Refusal.TheVariants as refused
use Rattle.ssim_program.proofs.command.convert.convert.Goals as goal

pub returns-in_err-desk-clause-answer : goal.returns-in_err-desk-clause-answer
returns-in_err-desk-clause-answer g c =
    let why = c.in_err-desk.field-0.0 in
    let is : c.from_residual-in_err-desk.result ≡ Err why = search rules in
    rw is (inr (
      tt,
      c.in_ok-place.ensures.held,
      inl (subst
          (λ (f : Option Files). RefusesTimetable f c.args.file.now why) c.hold.ensures.same
          c.in_err-desk.ensures.refused),
    ))

pub returns-in-Err-clause-answer : goal.returns-in-Err-clause-answer
returns-in-Err-clause-answer g c =
    let desk = c.in_ok-desk.desk in
    let mine = subst (λ (f : Option Files). ReadsTimetable f c.args.file.now desk)
    c.hold.ensures.same c.in_ok-desk.ensures.read in
    let airline = c.airline-airline.ensures ∙ ap airline_of c.data_set.ensures in
    let named = subst (λ (m : TimeMode).
    converted m desk (Err (refused.Export (airline_of desk.base.records) c.in-Err.fault)))
    c.mode_named.ensures c.in-Err.ensures.err in
    let refuses = subst (λ (a : List ℕ).
    converted (mode_named c.args.mode) desk (Err (refused.Export a c.in-Err.fault))) (sym airline)
    named in
    inr (tt, c.in_ok-place.ensures.held, inr (desk, mine, inl refuses))

pub returns-clause-answer : goal.returns-clause-answer
returns-clause-answer g c =
    let desk = c.in_ok-desk.desk in
    let mine = subst (λ (f : Option Files). ReadsTimetable f c.args.file.now desk)
    c.hold.ensures.same c.in_ok-desk.ensures.read in
    let set = c.in-Ok.made.0.items in let lines = c.in-Ok.made.1.items in
    let made = subst (λ (m : TimeMode). converted m desk (Ok (set, lines)))
    c.mode_named.ensures c.in-Ok.ensures.ok in
    let keep : (out : Text) → List Act = λ out. Keep out set ∷ Print lines ∷ [] in (
      tt,
      c.in_ok-place.ensures.held,
      (
        desk,
        mine,
        (
          (set, lines),
          made,
          (c.in-Ok.ensures.again, ap keep c.in_ok-place.ensures.name),
        ),
      ),
    )
