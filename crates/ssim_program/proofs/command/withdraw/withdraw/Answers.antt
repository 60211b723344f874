-- The messages are withdrawn, or a word is no reference.
use Rattle.std.proofs.Common.{◌≡◌, ◌∷◌, [], Err, Option, inl, inr, map, refl, rules, subst, sym, Ok, ap, ◌∙◌}
use Rattle.std.proofs.lemmas.Result.{err_from_is_err_and}
use Rattle.ssim_held.specs.Entries.{AreRising, DeskSeen}
use Rattle.ssim_held.specs.File.{desk_file}
use Rattle.ssim_program.specs.Acts.{Keep, Print}
use Rattle.ssim_program.specs.Desks.{desk_in}
use Rattle.ssim_program.specs.Files.{Files}
use Rattle.ssim_program.specs.Withdrawing.{WithdrawsFrom}
use Rattle.ssim_program.specs.print.Effects.{with_effects}
use Rattle.ssim_program.specs.declared.refusal.Refusal.TheVariants as refused
use Rattle.ssim_program.specs.declared.refusal.Refusal.{Refusal}
use Rattle.ssim_program.proofs.command.withdraw.withdraw.Goals as goal

pub returns-in_err-lines-clause-answer : goal.returns-in_err-lines-clause-answer
returns-in_err-lines-clause-answer g c =
    let err = err_from_is_err_and c.from_residual-in_err-lines.result c.from_residual-in_err-lines.ensures.1 in
    let is : c.from_residual-in_err-lines.result ≡ Err c.in_err-lines.field-0.0 = err.1 ∙ ap (λ (e : Refusal). Err e) err.2 in
    let read = subst (λ (f : Option Files). desk_in f c.args.file.now (Ok c.in_ok-desk.desk)) c.hold.ensures.same c.in_ok-desk.ensures.ok in
    rw is (inr (tt, c.in_ok-place.ensures.held, inr (c.in_ok-desk.desk, read, inl c.in_err-lines.ensures.why)))

pub returns-clause-answer : goal.returns-clause-answer
returns-clause-answer g c =
    let desk = c.in_ok-desk-2.desk in let lines = c.in_ok-lines.lines.items in let effects = c.args.effects in let first = c.in_ok-desk.desk in
    let read = subst (λ (f : Option Files). desk_in f c.args.file.now (Ok c.in_ok-desk.desk)) c.hold.ensures.same c.in_ok-desk.ensures.ok in
    let done = subst (λ (d : DeskSeen). WithdrawsFrom (map (λ t. t.now) c.args.words.now) c.in_ok-desk.desk d lines) (sym c.in_ok-desk-2.ensures) c.in_ok-lines.ensures.done in
    let printed : c.push_effects.new.lines.items ≡ with_effects effects first desk lines =
    c.in_ok-push_effects.ensures effects first c.in_ok-desk.ensures.kept (sym done.base) in
    let rising = subst AreRising c.held.ensures.value c.held.ensures.rising in (
      tt,
      c.in_ok-place.ensures.held,
      (
        c.in_ok-desk.desk,
        read,
        (
          (desk, lines),
          done,
          (
            rising,
            λ i. Print (printed i) ∷ Keep (c.in_ok-place.ensures.name i) (desk_file desk.base desk.held) ∷ [],
          ),
        ),
      ),
    )

pub returns-in_err-push_effects-clause-answer : goal.returns-in_err-push_effects-clause-answer
returns-in_err-push_effects-clause-answer g c =
    let err = err_from_is_err_and c.from_residual-in_err-push_effects.result c.from_residual-in_err-push_effects.ensures.1 in
    let is : c.from_residual-in_err-push_effects.result ≡ Err refused.Memory = err.1 ∙ ap (λ (e : Refusal). Err e) err.2 in rw is (inl (inl refl))
