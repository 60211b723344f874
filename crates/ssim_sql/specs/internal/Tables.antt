-- A script with a table whose rows come next.
use Rattle.std.specs.Prelude.{ℕ, List, ◌++◌}
use Rattle.ssim_sql.specs.Statements.{statements_from}
use Rattle.ssim_sql.specs.declared.table.Table.{Table}

-- the script with these rows added, and the end of the last statement
unfoldable pub script_with : Table → List (List ℕ) → List ℕ
script_with table rows =
    table.script.items ++ statements_from table.head.now table.place rows
