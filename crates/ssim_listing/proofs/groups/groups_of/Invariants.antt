-- The groups of the legs of the pieces so far.
use Rattle.std.proofs.Common.{◌≡◌, ℕ, List, take}
use Rattle.ssim_listing.specs.Lines.{legs_of}
use Rattle.ssim_listing.specs.LegText.{leg_text}
use Rattle.ssim_listing.specs.clauses.Groups.{group_in, group_of}
use Rattle.ssim_listing.proofs.groups.groups_of.Given as goal

abbrev pub invariant-loop-piece : goal.invariant-loop-piece
invariant-loop-piece l =
    (text : List ℕ) → group_in l.groups text ≡ group_of leg_text
    (legs_of (take l.piece-index l.pieces)) text
