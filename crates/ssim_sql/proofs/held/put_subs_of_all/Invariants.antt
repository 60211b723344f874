-- The rows so far, and those of the messages that are left, are the rows of all.
use Rattle.std.proofs.Common.{◌≡◌, ◌++◌, List, ℕ, drop}
use Rattle.ssim_sql.specs.internal.SubRows.{rows_of_subs}
use Rattle.ssim_sql.specs.internal.Tables.{script_with}
use Rattle.ssim_sql.proofs.held.put_subs_of_all.Given as goal

abbrev pub invariant-loop-message : goal.invariant-loop-message
invariant-loop-message l =
    let name = l.of.name.now in
    (later : List (List ℕ)) →
    script_with l.table (rows_of_subs name (drop l.message-index l.held) l.left ++ later)
    ≡ script_with l.initial.table (rows_of_subs name l.held l.findings ++ later)
