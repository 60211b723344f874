-- An empty line is one more LF after bytes, and nothing before them.
use Rattle.std.proofs.Common.{arith}
use Rattle.std.proofs.lemmas.Grind.{common_steps}
use Rattle.ssim_mailbox.proofs.Drafts.{emptied, emptied_none}
use Rattle.ssim_mailbox.proofs.draft.TextDraft.push_empty.Goals as goal

pub returns-in_ok-push-clause-draft : goal.returns-in_ok-push-clause-draft
returns-in_ok-push-clause-draft c line empty begun h =
    let d = c.args.self.now in
    emptied d.line d.bytes.items c.push.new.self.items d.end begun line empty (grind (arith, common_steps)) c.in_ok-push.ensures.items h

pub returns-else-not-is_empty-clause-draft : goal.returns-else-not-is_empty-clause-draft
returns-else-not-is_empty-clause-draft c line empty begun h =
    let d = c.args.self.now in
    emptied_none d.line d.bytes.items d.end begun line (grind (arith, common_steps)) empty h
