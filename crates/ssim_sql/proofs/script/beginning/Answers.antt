-- The first line, the tables, and what is deleted.
use Rattle.std.proofs.Common.{◌∙◌, ◌++◌, [], List, ℕ, ap, codes}
use Rattle.ssim_sql.specs.Script.{beginning, deletes}
use Rattle.ssim_sql.specs.declared.constant.tables.TheConstants.{TABLES}
use Rattle.ssim_sql.proofs.Joining.{three_joined}
use Rattle.ssim_sql.proofs.script.beginning.Goals as goal

pub returns : goal.returns
unfolding beginning
returns c =
    let first = codes "BEGIN;\n" in
    three_joined [] first TABLES.now (deletes c.args.name.now)
    (c.in_ok-extend_from_slice.ensures.items
    ∙ ap (λ (bs : List ℕ). bs ++ first) c.new-script.ensures.items)
    c.in_ok-extend_from_slice-2.ensures.items c.in_ok-push_deletes.ensures
