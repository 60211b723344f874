-- The bytes of the line and LF are added, and the text ends there.
use Rattle.std.proofs.Common.{◌∙◌, ◌++◌, ap, append_assoc, arith, [], ◌∷◌, List, ℕ}
use Rattle.std.proofs.lemmas.Grind.{common_steps}
use Rattle.ssim_mailbox.specs.internal.Lines.{line_of}
use Rattle.ssim_mailbox.proofs.Drafts.{filled}
use Rattle.ssim_mailbox.proofs.draft.TextDraft.push_filled.Goals as goal

pub returns-clause-draft : goal.returns-clause-draft
returns-clause-draft c full begun h =
    let d = c.args.self.now in
    let line = c.args.line.now in
    let added = c.in_ok-push.ensures.items ∙ ap (λ (bytes : List ℕ). bytes ++ 10 ∷ []) c.in_ok-extend_from_slice.ensures.items ∙ append_assoc d.bytes.items line.bytes.now (10 ∷ []) in
    filled d.line c.number_from-self.result d.bytes.items c.push.new.self.items d.end c.len-self.result begun (line_of line) full c.number_from-self.ensures added (grind (arith, common_steps)) h
