-- The line of a file that cannot be read is that of its refusal.
use Rattle.std.proofs.Common.{◌≡◌, ◌++◌, List, ℕ, OnOk, Some, ap, subst, sym}
use Rattle.std.specs.Fmt.{digits}
use Rattle.ssim_base.specs.Export.{line}
use Rattle.ssim_program.specs.Receiving.{receipt_text}
use Rattle.ssim_program.specs.internal.Receive.{receipt_of}
use Rattle.ssim_program.specs.print.Names.{printed_name}
use Rattle.ssim_program.specs.declared.command.receive.receipt.Receipt.{Receipt}
use Rattle.ssim_program.specs.declared.refusal.Refusal.TheVariants as refused
use Rattle.ssim_program.proofs.RefusalTexts.{named_file}
use Rattle.ssim_program.proofs.command.receive.receipt.push_line.Goals as goal

pub returns-in_ok-name-in-Unread : goal.returns-in_ok-name-in-Unread
unfolding digits
returns-in_ok-name-in-Unread c =
    let old = c.args.lines.now.items in
    let name = printed_name c.in-Unread.file.now in
    subst (λ (r : Receipt). OnOk c.add_line-in-Unread.result (c.add_line-in-Unread.new.lines.items ≡ old ++ line (receipt_text (receipt_of r)))) (sym c.in-Unread.is)
    (subst (λ (text : List ℕ). OnOk c.add_line-in-Unread.result (c.add_line-in-Unread.new.lines.items ≡ old ++ line text)) (named_file (refused.File c.in_ok-name-in-Unread.name) name (ap Some c.in_ok-name-in-Unread.ensures)) c.add_line-in-Unread.ensures)
