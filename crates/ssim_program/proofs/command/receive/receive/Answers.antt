-- The texts were received, and are to be printed and kept.
use Rattle.std.proofs.Common.{◌≡◌, ◌∷◌, ◌∙◌, ◌&&◌, Bool, Err, List, ℕ, Ok, Option, ap, ap₂, inl, inr, map, option_map, refl, rules, subst}
use Rattle.std.proofs.lemmas.Result.{err_from_is_err_and}
use Rattle.ssim_command_line.specs.Line.{Text}
use Rattle.ssim_command_line.specs.declared.command_line.ReceiveForm.{ReceiveForm}
use Rattle.ssim_program.specs.Acts.{Act, Print, found_then}
use Rattle.ssim_program.specs.Answers.{receive}
use Rattle.ssim_program.specs.Files.{Files}
use Rattle.ssim_program.specs.Receiving.{places_in, received}
use Rattle.ssim_program.specs.declared.refusal.Refusal.{Refusal}
use Rattle.ssim_program.specs.internal.Receive.{HasReceived}
use Rattle.ssim_program.specs.declared.made.Contents.TheVariants as contents
use Rattle.ssim_program.proofs.Receiving.{keeps_received}
use Rattle.ssim_program.proofs.command.receive.receive.Goals as goal

pub returns-clause-answer : goal.returns-clause-answer
returns-clause-answer g c =
    let names = map (λ t. t.now) c.args.words.now.texts.now in
    let refused = option_map (λ t. t.now) c.args.words.now.refused in let form = c.args.words.now.form in
    let r = c.in_ok-received.received in let places = c.in_ok-places.places in
    let h = subst (λ (f : Option Files). HasReceived form f c.args.file.now names r.desk r.found r.lines.items r.refused.items) c.hold_places.ensures.same c.in_ok-received.ensures.ok in (
      tt,
      c.in_ok-places.ensures.held,
      (
        h.before,
        h.reads,
        (
          (h.receipts, r.desk),
          (h.received, h.rising),
          ap₂ (λ (b : Bool) (acts : List Act). found_then b acts) (c.is_told.ensures ∙ ap (λ (b : Bool). form.status && b) h.found_is)
              (ap₂ (λ (lines : List ℕ) (acts : List Act). Print lines ∷ acts) h.lines_are
              (keeps_received g.S.Hold.Hold.file places.refused c.kept_texts-refused.result places.desk refused c.args.out.now (contents.Bytes r.refused) (contents.DeskFile r.desk) h.receipts r.desk
              c.kept_texts-refused.ensures c.in_ok-places.ensures.names.1 c.in_ok-places.ensures.names.0 h.texts_are refl)),
        ),
      ),
    )

-- a desk that was not received is not read, or memory ran out
not_received : (files : Option Files) (refused : Option Text) (form : ReceiveForm) (file out : Text) (names : List Text) (why : Refusal) → places_in files refused file out names (Ok tt)
    → received files file names (Err why) → receive files refused form file out names (Err why)
not_received files refused form file out names why may (inl not_read) = inr (tt, may, inl not_read)
not_received files refused form file out names why may (inr (before, read, memory)) = inr (tt, may, inr (before, read, inl memory))

pub returns-in_err-received-clause-answer : goal.returns-in_err-received-clause-answer
returns-in_err-received-clause-answer g c =
    let why = c.in_err-received.field-0.0 in
    let err = err_from_is_err_and c.from_residual-in_err-received.result c.from_residual-in_err-received.ensures.1 in
    let is : c.from_residual-in_err-received.result ≡ Err why = err.1 ∙ ap (λ (e : Refusal). Err e) err.2 in
    let names = map (λ t. t.now) c.args.words.now.texts.now in
    rw is (not_received _ (option_map (λ t. t.now) c.args.words.now.refused) c.args.words.now.form c.args.file.now c.args.out.now names why c.in_ok-places.ensures.held
    (subst (λ (f : Option Files). received f c.args.file.now names (Err why)) c.hold_places.ensures.same c.in_err-received.ensures.err))
