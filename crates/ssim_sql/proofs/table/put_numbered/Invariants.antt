-- The rows so far, and those of the values that are left, are all rows.
use Rattle.std.proofs.Common.{◌≡◌, ℕ, List, ◌+◌, ◌++◌, drop}
use Rattle.ssim_sql.specs.Statements.{numbered}
use Rattle.ssim_sql.specs.internal.Tables.{script_with}
use Rattle.ssim_sql.proofs.table.put_numbered.Given as goal

abbrev pub invariant-loop-place : goal.invariant-loop-place
invariant-loop-place g l =
    let row = g.T.Numbered.text_at l.context in
    (later : List (List ℕ)) →
    script_with l.table (numbered row (l.place + 1) (drop l.place l.items) ++ later)
    ≡ script_with l.initial.table (numbered row 1 l.items ++ later)
