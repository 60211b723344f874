-- The texts of the values so far were added.
use Rattle.std.proofs.Common.{◌≡◌, ◌++◌, take}
use Rattle.std.specs.List.{flat_map}
use Rattle.ssim_lines.proofs.printed.push_each.Given as goal

abbrev pub invariant-loop-item : goal.invariant-loop-item
invariant-loop-item g l =
    l.lines.items
    ≡ l.initial.lines.items ++ flat_map (g.T.Printed.text l.context) (take l.item-index l.items)
