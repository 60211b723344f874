-- The rows of the values so far were added.
use Rattle.std.proofs.Common.{◌≡◌, ◌++◌, take}
use Rattle.std.specs.List.{flat_map}
use Rattle.ssim_listing.proofs.rowed.put_each.Given as goal

abbrev pub invariant-loop-item : goal.invariant-loop-item
invariant-loop-item g l =
    l.rows ≡ l.initial.rows ++ flat_map (g.T.Rowed.text l.context) (take l.item-index l.items)
