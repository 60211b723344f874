-- What the pieces so far say is added.
use Rattle.std.proofs.Common.{map, take}
use Rattle.ssim_overview.specs.internal.SaidRows.{AddsSayings, pieces_say}
use Rattle.ssim_overview.proofs.sayings.push_pieces.Given as goal

abbrev pub invariant-loop-piece : goal.invariant-loop-piece
invariant-loop-piece l =
    AddsSayings (pieces_say (take l.piece-index l.pieces))
    (map (λ list. list.items) l.initial.sayings.items) (map (λ list. list.items) l.sayings.items)
