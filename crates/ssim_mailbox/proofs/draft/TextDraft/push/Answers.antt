-- The line is empty.
use Rattle.std.proofs.Common.{◌≡◌, true, sym, ◌∙◌, Result, Ok, Err, OnOk}
use Rattle.ssim_mailbox.specs.Texts.{is_empty}
use Rattle.ssim_mailbox.specs.internal.Lines.{line_of}
use Rattle.ssim_mailbox.proofs.draft.TextDraft.push.Goals as goal

then_too : {A E P Q : Type 0} (result : Result A E) → (P → Q) → OnOk result P → OnOk result Q
then_too (Ok x) more h = more h
then_too (Err e) more h = tt

pub returns-then-is_empty-clause-draft : goal.returns-then-is_empty-clause-draft
returns-then-is_empty-clause-draft c =
    let empty : is_empty (line_of c.args.line.now) ≡ true = sym c.is_empty.ensures ∙ c.if-is_empty.true in
    then_too c.push_empty.result (λ h. h (line_of c.args.line.now) empty) c.push_empty.ensures.draft
