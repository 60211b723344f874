-- The line is the first of those that are left, and its role says what becomes of it.
use Rattle.std.proofs.Common.{◌∙◌, ◌++◌, List, Option, option_map, ap, sym}
use Rattle.std.specs.Option.{option_to_list}
use Rattle.ssim_mailbox.specs.Texts.{MailText, parts_of, texts_of, with_line}
use Rattle.ssim_mailbox.specs.clauses.Mail.{mail_of}
use Rattle.ssim_mailbox.specs.Lines.{MailLine}
use Rattle.ssim_mailbox.specs.FreeTexts.{cut_parts}
use Rattle.ssim_mailbox.specs.internal.Lines.{line_of, lines_left}
use Rattle.ssim_mailbox.specs.internal.Texts.{texts_with}
use Rattle.ssim_mailbox.proofs.Reading.{ended_here, next_parts, next_roles, role_here}
use Rattle.ssim_mailbox.proofs.text.read_text.Goals as goal

pub returns-then-is_ended_by-clause-text : goal.returns-then-is_ended_by-clause-text
returns-then-is_ended_by-clause-text c =
    let (begun, draft, are, texts) = c.loop-line.invariant in
    let old = c.loop-line.lines in
    let new = c.next.new.self in
    let line = line_of c.in-Some.line in
    let (piece, bytes, here) = role_here c.args.roles.now old new line _ are c.in-Some.ensures in
    let role = c.of-role.ensures 0 piece (lines_left new) bytes here in
    let parts = next_parts old new line c.of-role.result c.in-Some.ensures role in
    texts ∙ ap (texts_with begun c.loop-line.draft.free) parts
    ∙ ended_here begun c.loop-line.draft.free c.of-role.result line (parts_of (lines_left new)) (c.is_ended_by.ensures.yes c.if-is_ended_by.true).1
    ∙ ap (λ (text : Option MailText). option_to_list text ++ texts_of (cut_parts (with_line c.of-role.result line (parts_of (lines_left new))))) (sym (c.into_text-then-is_ended_by.ensures.text begun draft))
    ∙ ap (λ (ps : List (List MailLine)). option_to_list (option_map mail_of c.into_text-then-is_ended_by.result) ++ texts_of (cut_parts ps)) (sym parts)

pub loop-line-preserved : goal.loop-line-preserved
loop-line-preserved c =
    let (begun, draft, are, texts) = c.loop-line.invariant in
    let old = c.loop-line.lines in
    let new = c.next.new.self in
    let line = line_of c.in-Some.line in
    let (piece, bytes, here) = role_here c.args.roles.now old new line _ are c.in-Some.ensures in
    let role = c.of-role.ensures 0 piece (lines_left new) bytes here in
    let (more, has, same) = c.in_ok-add.ensures begun draft in (
      more,
      has,
      next_roles c.args.roles.now old new line are c.in-Some.ensures,
      texts ∙ ap (texts_with begun c.loop-line.draft.free) (next_parts old new line c.of-role.result c.in-Some.ensures role) ∙ same (parts_of (lines_left new)),
    )

pub returns-in_err-add-clause-roles : goal.returns-in_err-add-clause-roles
returns-in_err-add-clause-roles c =
    let (begun, draft, are, texts) = c.loop-line.invariant in
    next_roles c.args.roles.now c.loop-line.lines c.next.new.self (line_of c.in-Some.line) are c.in-Some.ensures
