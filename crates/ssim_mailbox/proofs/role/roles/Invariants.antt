-- The roles so far are those of the lines after the rest, and `below` is what these begin with.
use Rattle.std.proofs.Common.{◌≡◌, ◌++◌, List, ℕ, length}
use Rattle.std.specs.Prelude.{◌==◌, reverse}
use Rattle.std.specs.List.{slice_split}
use Rattle.ssim_mailbox.specs.internal.Roles.{ArePiecesAhead, AreRoles}
use Rattle.ssim_mailbox.proofs.role.roles.Given as goal

abbrev pub invariant-loop-roles : goal.invariant-loop-roles
invariant-loop-roles l =
    (done : List (List ℕ)) × (slice_split (λ b. b == 10) l.mailbox ≡ slice_split (λ b. b == 10) l.rest ++ done)
    × AreRoles (reverse l.roles.items) done × ArePiecesAhead l.below done

abbrev pub decreases-loop-roles : goal.decreases-loop-roles
decreases-loop-roles l = length l.rest
