-- A desk is refused, or has another base, or the two conflict; or they are merged.
use Rattle.std.proofs.Common.{◌≡◌, ◌∙◌, ◌∷◌, [], Err, Option, Ok, inl, inr, rules, refl, subst, sym, ap}
use Rattle.std.proofs.Common.{length, true≢false}
use Rattle.std.proofs.lemmas.Result.{err_from_is_err_and}
use Rattle.ssim_held.specs.Entries.{AreRising}
use Rattle.ssim_held.specs.File.{desk_file}
use Rattle.ssim_program.specs.Acts.{Keep, Print}
use Rattle.ssim_program.specs.Desks.{desk_in, held_line}
use Rattle.ssim_program.specs.Files.{Files}
use Rattle.ssim_program.specs.MergingSince.{IsOver, older_in}
use Rattle.ssim_program.specs.print.Effects.{with_effects}
use Rattle.ssim_program.specs.declared.refusal.Refusal.{Refusal}
use Rattle.ssim_program.specs.declared.refusal.Refusal.TheVariants as refused
use Rattle.ssim_program.proofs.KeptBase.{since_base}
use Rattle.ssim_program.proofs.command.merge_since.merge_since.Goals as goal

pub returns-in_err-desk-clause-answer : goal.returns-in_err-desk-clause-answer
returns-in_err-desk-clause-answer g c =
    let why = c.in_err-desk.field-0.0 in
    let same = c.open_older.ensures.same ∙ c.hold.ensures.same in
    let is : c.from_residual-in_err-desk.result ≡ Err why = search rules in
    let older =
    subst (λ (f : Option Files). older_in f c.args.since.now (Ok c.in_ok-old.old))
    c.hold.ensures.same c.in_ok-old.ensures.answer in
    rw is (inr (
      tt,
      c.in_ok-place.ensures.held,
      inr (
        c.in_ok-old.old,
        older,
        inl
            (subst (λ (f : Option Files). desk_in f c.args.words.now.desk.now (Err why)) same
            c.in_err-desk.ensures.answer),
      ),
    ))

pub returns-in_err-other-clause-answer : goal.returns-in_err-other-clause-answer
returns-in_err-other-clause-answer g c =
    let why = c.in_err-other.field-0.0 in
    let once = c.open_older.ensures.same ∙ c.hold.ensures.same in
    let same = c.open_holdings.ensures.same ∙ once in
    let err = err_from_is_err_and c.from_residual-in_err-other.result
    c.from_residual-in_err-other.ensures.1 in
    let is : c.from_residual-in_err-other.result ≡ Err why = err.1 ∙ ap (λ (e : Refusal). Err e) err.2 in
    let older =
    subst (λ (f : Option Files). older_in f c.args.since.now (Ok c.in_ok-old.old))
    c.hold.ensures.same c.in_ok-old.ensures.answer in
    let read =
    subst (λ (f : Option Files). desk_in f c.args.words.now.desk.now (Ok c.in_ok-desk.desk)) once
    c.in_ok-desk.ensures.answer in
    rw is (inr (
      tt,
      c.in_ok-place.ensures.held,
      inr (
        c.in_ok-old.old,
        older,
        inr (
          c.in_ok-desk.desk,
          read,
          inl
              (subst (λ (f : Option Files). desk_in f c.args.words.now.other.now (Err why)) same
              c.in_err-other.ensures.answer),
        ),
      ),
    ))

pub returns-then-not-is_over-clause-answer : goal.returns-then-not-is_over-clause-answer
returns-then-not-is_over-clause-answer g c =
    let once = c.open_older.ensures.same ∙ c.hold.ensures.same in
    let same = c.open_holdings.ensures.same ∙ once in
    let older =
    subst (λ (f : Option Files). older_in f c.args.since.now (Ok c.in_ok-old.old))
    c.hold.ensures.same c.in_ok-old.ensures.answer in
    let read =
    subst (λ (f : Option Files). desk_in f c.args.words.now.desk.now (Ok c.in_ok-desk.desk)) once
    c.in_ok-desk.ensures.answer in
    let theirs =
    subst (λ (f : Option Files). desk_in f c.args.words.now.other.now (Ok c.in_ok-other.other)) same
    c.in_ok-other.ensures.answer in
    let apart : IsOver c.in_ok-old.old c.in_ok-desk.desk → ⊥ =
    λ over. true≢false (sym (c.is_over.ensures.1 over) ∙ c.if-not-is_over.true) in
    inr (
      tt,
      c.in_ok-place.ensures.held,
      inr (
        c.in_ok-old.old,
        older,
        inr
            (c.in_ok-desk.desk, read, inr (c.in_ok-other.other, theirs, inl (apart, c.from.ensures))),
      ),
    )

pub returns-in-Err-clause-answer : goal.returns-in-Err-clause-answer
returns-in-Err-clause-answer g c =
    let once = c.open_older.ensures.same ∙ c.hold.ensures.same in
    let same = c.open_holdings.ensures.same ∙ once in
    let older =
    subst (λ (f : Option Files). older_in f c.args.since.now (Ok c.in_ok-old.old))
    c.hold.ensures.same c.in_ok-old.ensures.answer in
    let read =
    subst (λ (f : Option Files). desk_in f c.args.words.now.desk.now (Ok c.in_ok-desk.desk)) once
    c.in_ok-desk.ensures.answer in
    let theirs =
    subst (λ (f : Option Files). desk_in f c.args.words.now.other.now (Ok c.in_ok-other.other)) same
    c.in_ok-other.ensures.answer in
    let over = c.is_over.ensures.0 c.if-not-is_over.false in
    inr (
      tt,
      c.in_ok-place.ensures.held,
      inr (
        c.in_ok-old.old,
        older,
        inr (
          c.in_ok-desk.desk,
          read,
          inr (c.in_ok-other.other, theirs, inr (tt, over, inl c.in-Err.ensures)),
        ),
      ),
    )

pub returns-in_err-lines-clause-answer : goal.returns-in_err-lines-clause-answer
returns-in_err-lines-clause-answer g c =
    let once = c.open_older.ensures.same ∙ c.hold.ensures.same in
    let same = c.open_holdings.ensures.same ∙ once in
    let err = err_from_is_err_and c.from_residual-in_err-lines.result
    c.from_residual-in_err-lines.ensures.1 in
    let is : c.from_residual-in_err-lines.result ≡ Err refused.Memory =
    err.1 ∙ ap (λ (e : Refusal). Err e) err.2 in
    let older =
    subst (λ (f : Option Files). older_in f c.args.since.now (Ok c.in_ok-old.old))
    c.hold.ensures.same c.in_ok-old.ensures.answer in
    let read =
    subst (λ (f : Option Files). desk_in f c.args.words.now.desk.now (Ok c.in_ok-desk.desk)) once
    c.in_ok-desk.ensures.answer in
    let theirs =
    subst (λ (f : Option Files). desk_in f c.args.words.now.other.now (Ok c.in_ok-other.other)) same
    c.in_ok-other.ensures.answer in
    let over = c.is_over.ensures.0 c.if-not-is_over.false in
    rw is (inr (
      tt,
      c.in_ok-place.ensures.held,
      inr (
        c.in_ok-old.old,
        older,
        inr (
          c.in_ok-desk.desk,
          read,
          inr (
            c.in_ok-other.other,
            theirs,
            inr (tt, over, inr (c.in-Ok.after, c.in-Ok.ensures, refl)),
          ),
        ),
      ),
    ))

pub returns-in_err-before-clause-answer : goal.returns-in_err-before-clause-answer
returns-in_err-before-clause-answer g c =
    let err = err_from_is_err_and c.from_residual-in_err-before.result c.from_residual-in_err-before.ensures.1 in
    let is : c.from_residual-in_err-before.result ≡ Err refused.Memory = err.1 ∙ ap (λ (e : Refusal). Err e) err.2 in rw is (inl (inl refl))

pub returns-in_err-push_effects-clause-answer : goal.returns-in_err-push_effects-clause-answer
returns-in_err-push_effects-clause-answer g c =
    let err = err_from_is_err_and c.from_residual-in_err-push_effects.result c.from_residual-in_err-push_effects.ensures.1 in
    let is : c.from_residual-in_err-push_effects.result ≡ Err refused.Memory = err.1 ∙ ap (λ (e : Refusal). Err e) err.2 in rw is (inl (inl refl))

pub returns-clause-answer : goal.returns-clause-answer
returns-clause-answer g c =
    let once = c.open_older.ensures.same ∙ c.hold.ensures.same in
    let same = c.open_holdings.ensures.same ∙ once in
    let older =
    subst (λ (f : Option Files). older_in f c.args.since.now (Ok c.in_ok-old.old))
    c.hold.ensures.same c.in_ok-old.ensures.answer in
    let read =
    subst (λ (f : Option Files). desk_in f c.args.words.now.desk.now (Ok c.in_ok-desk.desk)) once
    c.in_ok-desk.ensures.answer in
    let theirs =
    subst (λ (f : Option Files). desk_in f c.args.words.now.other.now (Ok c.in_ok-other.other)) same
    c.in_ok-other.ensures.answer in
    let over = c.is_over.ensures.0 c.if-not-is_over.false in
    let after = c.in-Ok.after in
    let effects = c.args.words.now.effects in
    let held : c.in_ok-lines.lines.items ≡ held_line (length after.held) =
    c.in_ok-lines.ensures ∙ ap held_line (ap length c.held.ensures.value) in
    let lines
    : c.push_effects.new.lines.items ≡ with_effects effects c.in_ok-desk.desk after
    (held_line (length after.held)) =
    c.in_ok-push_effects.ensures effects c.in_ok-desk.desk c.in_ok-before.ensures
    (sym (since_base c.in_ok-old.old c.in_ok-desk.desk c.in_ok-other.other after c.in-Ok.ensures))
    ∙ ap (with_effects effects c.in_ok-desk.desk after) held in (
      tt,
      c.in_ok-place.ensures.held,
      (
        c.in_ok-old.old,
        older,
        (
          c.in_ok-desk.desk,
          read,
          (
            c.in_ok-other.other,
            theirs,
            (
              tt,
              over,
              (
                after,
                c.in-Ok.ensures,
                (
                  subst AreRising c.held.ensures.value c.held.ensures.rising,
                  λ i. Keep (c.in_ok-place.ensures.name i) (desk_file after.base after.held)
                      ∷ Print (lines i) ∷ [],
                ),
              ),
            ),
          ),
        ),
      ),
    )
