-- The rows, message by message, are those of all sub-messages.
use Rattle.std.proofs.Common.{◌∙◌, ◌++◌, [], List, ℕ, ap}
use Rattle.std.proofs.lemmas.List.{append-nil}
use Rattle.ssim_base.proofs.Results.{if_ok}
use Rattle.ssim_sql.specs.Statements.{statements}
use Rattle.ssim_sql.specs.declared.constant.heads.TheConstants.{SUB_MESSAGE_HEAD}
use Rattle.ssim_sql.specs.internal.SubRows.{rows_of_subs}
use Rattle.ssim_sql.proofs.Rows.{of_subs}
use Rattle.ssim_sql.proofs.held.with_subs.Goals as goal

pub returns : goal.returns
returns c =
    let name = c.args.name.now in
    let held = c.args.held.now in let findings = c.args.findings.now in
    if_ok c.complete.result
    (λ made is. is ∙ c.in_ok-put_subs_of_all.ensures [] ∙ c.table_after-table.ensures _
    ∙ ap (λ (rows : List (List ℕ)). c.args.script.items ++ statements SUB_MESSAGE_HEAD.now rows)
    (append-nil (rows_of_subs name held findings) ∙ of_subs name held findings))
    c.complete.ensures
