-- The rows of changes are those of their legs.
use Rattle.std.proofs.Common.{◌∙◌, ◌++◌, List, ℕ, ap}
use Rattle.ssim_base.proofs.Results.{if_ok}
use Rattle.ssim_sql.specs.ChangeRows.{change_rows}
use Rattle.ssim_sql.specs.Script.{change_statements}
use Rattle.ssim_sql.specs.Statements.{statements}
use Rattle.ssim_sql.specs.declared.constant.heads.TheConstants.{CHANGE_HEAD}
use Rattle.ssim_sql.proofs.Rows.{of_changes}
use Rattle.ssim_sql.proofs.script.with_changes.Goals as goal

pub returns : goal.returns
unfolding change_statements
returns c =
    let name = c.args.name.now in let changes = c.args.changes.now in
    if_ok c.each_after.result
    (λ made is. is
    ∙ ap (λ (rows : List (List ℕ)). c.args.script.items ++ statements CHANGE_HEAD.now rows)
    (of_changes name c.time_mode.result c.airline.result changes
    ∙ (λ k. change_rows name (c.time_mode.ensures k) (c.airline.ensures k) changes)))
    c.each_after.ensures
