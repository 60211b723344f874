-- The second desk is refused, or another airline, or a conflict; or the messages are carried.
use Rattle.std.proofs.Common.{◌≡◌, ◌∙◌, ◌∷◌, ◌++◌, [], Err, Option, Ok, ap, inl, inr, rules, subst, sym}
use Rattle.std.proofs.Common.{length, refl, true≢false}
use Rattle.std.proofs.lemmas.Result.{err_from_is_err_and}
use Rattle.ssim_held.specs.File.{desk_file}
use Rattle.ssim_program.specs.Acts.{Keep, Print}
use Rattle.ssim_program.specs.Carrying.{AreOfOneAirline}
use Rattle.ssim_program.specs.Desks.{desk_in, held_line}
use Rattle.ssim_program.specs.Files.{Files}
use Rattle.ssim_program.specs.print.Effects.{with_effects}
use Rattle.ssim_program.specs.declared.refusal.Refusal.TheVariants as refused
use Rattle.ssim_program.specs.declared.refusal.Refusal.{Refusal}
use Rattle.ssim_program.proofs.command.carry.carry.Goals as goal

pub returns-in_err-other-clause-answer : goal.returns-in_err-other-clause-answer
returns-in_err-other-clause-answer g c =
    let why = c.in_err-other.field-0.0 in
    let same = c.open_holdings.ensures.same ∙ c.hold.ensures.same in
    let err = err_from_is_err_and c.from_residual-in_err-other.result c.from_residual-in_err-other.ensures.1 in
    let is : c.from_residual-in_err-other.result ≡ Err why = err.1 ∙ ap (λ (e : Refusal). Err e) err.2 in
    let read =
    subst (λ (f : Option Files). desk_in f c.args.mine.now (Ok c.in_ok-desk.desk))
    c.hold.ensures.same c.in_ok-desk.ensures.answer in
    rw is (inr (
      tt,
      c.in_ok-place.ensures.held,
      inr (
        c.in_ok-desk.desk,
        read,
        inl
            (subst (λ (f : Option Files). desk_in f c.args.theirs.now (Err why)) same
            c.in_err-other.ensures.answer),
      ),
    ))

pub returns-then-not-are_of_one_airline-clause-answer
    : goal.returns-then-not-are_of_one_airline-clause-answer
returns-then-not-are_of_one_airline-clause-answer g c =
    let same = c.open_holdings.ensures.same ∙ c.hold.ensures.same in
    let read =
    subst (λ (f : Option Files). desk_in f c.args.mine.now (Ok c.in_ok-desk.desk))
    c.hold.ensures.same c.in_ok-desk.ensures.answer in
    let theirs =
    subst (λ (f : Option Files). desk_in f c.args.theirs.now (Ok c.in_ok-other.other)) same
    c.in_ok-other.ensures.answer in
    let apart : AreOfOneAirline c.in_ok-desk.desk c.in_ok-other.other → ⊥ =
    λ one. true≢false (sym (c.are_of_one_airline.ensures.1 one) ∙ c.if-not-are_of_one_airline.true) in
    inr (
      tt,
      c.in_ok-place.ensures.held,
      inr
          (c.in_ok-desk.desk, read, inr (c.in_ok-other.other, theirs, inl (apart, c.from.ensures))),
    )

pub returns-in-Err-clause-answer : goal.returns-in-Err-clause-answer
returns-in-Err-clause-answer g c =
    let same = c.open_holdings.ensures.same ∙ c.hold.ensures.same in
    let read =
    subst (λ (f : Option Files). desk_in f c.args.mine.now (Ok c.in_ok-desk.desk))
    c.hold.ensures.same c.in_ok-desk.ensures.answer in
    let theirs =
    subst (λ (f : Option Files). desk_in f c.args.theirs.now (Ok c.in_ok-other.other)) same
    c.in_ok-other.ensures.answer in
    let one = c.are_of_one_airline.ensures.0 c.if-not-are_of_one_airline.false in
    inr (
      tt,
      c.in_ok-place.ensures.held,
      inr (
        c.in_ok-desk.desk,
        read,
        inr
            (c.in_ok-other.other, theirs, inr (tt, one, inl c.in-Err.ensures.why)),
      ),
    )

pub returns-in_err-before-clause-answer : goal.returns-in_err-before-clause-answer
returns-in_err-before-clause-answer g c =
    let err = err_from_is_err_and c.from_residual-in_err-before.result c.from_residual-in_err-before.ensures.1 in
    let is : c.from_residual-in_err-before.result ≡ Err refused.Memory = err.1 ∙ ap (λ (e : Refusal). Err e) err.2 in rw is (inl (inl refl))

pub returns-in_err-push_effects-clause-answer : goal.returns-in_err-push_effects-clause-answer
returns-in_err-push_effects-clause-answer g c =
    let err = err_from_is_err_and c.from_residual-in_err-push_effects.result c.from_residual-in_err-push_effects.ensures.1 in
    let is : c.from_residual-in_err-push_effects.result ≡ Err refused.Memory = err.1 ∙ ap (λ (e : Refusal). Err e) err.2 in rw is (inl (inl refl))

pub returns-clause-answer : goal.returns-clause-answer
returns-clause-answer g c =
    let same = c.open_holdings.ensures.same ∙ c.hold.ensures.same in
    let read =
    subst (λ (f : Option Files). desk_in f c.args.mine.now (Ok c.in_ok-desk.desk))
    c.hold.ensures.same c.in_ok-desk.ensures.answer in
    let theirs =
    subst (λ (f : Option Files). desk_in f c.args.theirs.now (Ok c.in_ok-other.other)) same
    c.in_ok-other.ensures.answer in
    let one = c.are_of_one_airline.ensures.0 c.if-not-are_of_one_airline.false in
    let made = c.in-Ok.made in
    let done = c.in-Ok.ensures.done in
    let effects = c.args.effects in
    let lines
    : c.push_effects.new.lines.items ≡ with_effects effects c.in_ok-desk.desk made.0
    (done.lines ++ held_line (length made.0.held)) =
    c.in_ok-push_effects.ensures effects c.in_ok-desk.desk c.in_ok-before.ensures (sym done.carry.base)
    ∙ ap (with_effects effects c.in_ok-desk.desk made.0) done.all in (
      tt,
      c.in_ok-place.ensures.held,
      (
        c.in_ok-desk.desk,
        read,
        (
          c.in_ok-other.other,
          theirs,
          (
            tt,
            one,
            (
              (made.0, done.lines),
              done.carry,
              (
                done.rising,
                λ i. Keep (c.in_ok-place.ensures.name i)
                    (desk_file made.0.base made.0.held) ∷ Print (lines i) ∷ [],
              ),
            ),
          ),
        ),
      ),
    )
