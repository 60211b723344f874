-- The rows of the values so far were added.
use Rattle.std.proofs.Common.{◌≡◌, ℕ, List, ◌++◌, take}
use Rattle.std.specs.List.{flat_map}
use Rattle.ssim_sql.specs.internal.Tables.{script_with}
use Rattle.ssim_sql.proofs.table.put_each.Given as goal

abbrev pub invariant-loop-item : goal.invariant-loop-item
invariant-loop-item g l =
    (later : List (List ℕ)) → script_with l.table later ≡ script_with l.initial.table
    (flat_map (g.T.Rowed.rows l.context) (take l.item-index l.items) ++ later)
