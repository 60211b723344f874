-- The lines of the draft and those that are left have the texts.
use Rattle.std.proofs.Common.{◌≡◌, List, length}
use Rattle.ssim_mailbox.specs.Lines.{MailLine}
use Rattle.ssim_mailbox.specs.Texts.{parts_of}
use Rattle.ssim_mailbox.specs.internal.Lines.{lines_left, pieces_left}
use Rattle.ssim_mailbox.specs.internal.Texts.{AreRolesOf, IsDraft, texts_left, texts_with}
use Rattle.ssim_mailbox.proofs.text.read_text.Given as goal

abbrev pub invariant-loop-line : goal.invariant-loop-line
invariant-loop-line l =
    (begun : List MailLine) × IsDraft l.draft begun × AreRolesOf l.roles l.lines
    × (texts_left l.fn.lines ≡ texts_with begun l.draft.free (parts_of (lines_left l.lines)))

abbrev pub decreases-loop-line : goal.decreases-loop-line
decreases-loop-line l = length (pieces_left l.lines)
