-- The second desk is refused, or the merge.
use Rattle.std.proofs.Common.{◌≡◌, ◌∙◌, ◌∷◌, [], Err, Option, ap, inl, inr, length, refl, rules, subst, sym, Ok}
use Rattle.std.proofs.lemmas.Result.{err_from_is_err_and}
use Rattle.ssim_held.specs.Entries.{AreRising}
use Rattle.ssim_held.specs.File.{desk_file}
use Rattle.ssim_program.specs.Acts.{Keep, Print}
use Rattle.ssim_program.specs.Desks.{desk_in, held_line}
use Rattle.ssim_program.specs.Files.{Files}
use Rattle.ssim_program.specs.print.Effects.{with_effects}
use Rattle.ssim_program.specs.declared.refusal.Refusal.TheVariants as refused
use Rattle.ssim_program.specs.declared.refusal.Refusal.{Refusal}
use Rattle.ssim_program.proofs.command.merge.merge.Goals as goal

pub returns-in_err-other-clause-answer : goal.returns-in_err-other-clause-answer
returns-in_err-other-clause-answer g c =
    let why = c.in_err-other.field-0.0 in
    let same = c.open_holdings.ensures.same ∙ c.hold.ensures.same in
    let err = err_from_is_err_and c.from_residual-in_err-other.result c.from_residual-in_err-other.ensures.1 in
    let is : c.from_residual-in_err-other.result ≡ Err why = err.1 ∙ ap (λ (e : Refusal). Err e) err.2 in
    let read = subst (λ (f : Option Files). desk_in f c.args.words.now.desk.now (Ok c.in_ok-desk.desk)) c.hold.ensures.same c.in_ok-desk.ensures.answer in
    rw is (inr (tt, c.in_ok-place.ensures.held, inr (c.in_ok-desk.desk, read, inl (subst (λ (f : Option Files). desk_in f c.args.words.now.other.now (Err why)) same c.in_err-other.ensures.answer))))

pub returns-in-Err-clause-answer : goal.returns-in-Err-clause-answer
returns-in-Err-clause-answer g c =
    let same = c.open_holdings.ensures.same ∙ c.hold.ensures.same in
    let read = subst (λ (f : Option Files). desk_in f c.args.words.now.desk.now (Ok c.in_ok-desk.desk)) c.hold.ensures.same c.in_ok-desk.ensures.answer in
    let theirs = subst (λ (f : Option Files). desk_in f c.args.words.now.other.now (Ok c.in_ok-other.other)) same c.in_ok-other.ensures.answer in
    inr (tt, c.in_ok-place.ensures.held, inr (c.in_ok-desk.desk, read, inr (c.in_ok-other.other, theirs, inl c.in-Err.ensures.why)))

pub returns-in_err-before-clause-answer : goal.returns-in_err-before-clause-answer
returns-in_err-before-clause-answer g c =
    let err = err_from_is_err_and c.from_residual-in_err-before.result c.from_residual-in_err-before.ensures.1 in
    let is : c.from_residual-in_err-before.result ≡ Err refused.Memory = err.1 ∙ ap (λ (e : Refusal). Err e) err.2 in rw is (inl (inl refl))

pub returns-in_err-push_effects-clause-answer : goal.returns-in_err-push_effects-clause-answer
returns-in_err-push_effects-clause-answer g c =
    let err = err_from_is_err_and c.from_residual-in_err-push_effects.result c.from_residual-in_err-push_effects.ensures.1 in
    let is : c.from_residual-in_err-push_effects.result ≡ Err refused.Memory = err.1 ∙ ap (λ (e : Refusal). Err e) err.2 in rw is (inl (inl refl))

pub returns-clause-answer : goal.returns-clause-answer
returns-clause-answer g c =
    let same = c.open_holdings.ensures.same ∙ c.hold.ensures.same in
    let mine = c.in_ok-desk.desk in let effects = c.args.words.now.effects in
    let read = subst (λ (f : Option Files). desk_in f c.args.words.now.desk.now (Ok mine)) c.hold.ensures.same c.in_ok-desk.ensures.answer in
    let theirs = subst (λ (f : Option Files). desk_in f c.args.words.now.other.now (Ok c.in_ok-other.other)) same c.in_ok-other.ensures.answer in
    let after = c.merge_desks.new.desk in
    let held : c.in_ok-lines.lines.items ≡ held_line (length after.held) = c.in_ok-lines.ensures ∙ ap held_line (ap length c.held.ensures.value) in
    let lines : c.push_effects.new.lines.items ≡ with_effects effects mine after (held_line (length after.held)) =
    c.in_ok-push_effects.ensures effects mine c.in_ok-before.ensures
    (sym c.in-Ok.ensures.merged.base) ∙ ap (with_effects effects mine after) held in (
      tt,
      c.in_ok-place.ensures.held,
      (
        mine,
        read,
        (
          c.in_ok-other.other,
          theirs,
          (
            after,
            c.in-Ok.ensures.merged,
            (
              subst AreRising c.held.ensures.value c.held.ensures.rising,
              λ i. Keep (c.in_ok-place.ensures.name i) (desk_file after.base after.held) ∷ Print (lines i) ∷ [],
            ),
          ),
        ),
      ),
    )
