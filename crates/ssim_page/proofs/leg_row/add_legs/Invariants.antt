-- The groups after the legs so far.
use Rattle.std.proofs.Common.{◌≡◌, ◌++◌, ℕ, List, take}
use Rattle.ssim_base.specs.Timetable.{Legs}
use Rattle.ssim_listing.specs.clauses.Groups.{group_in, group_of}
use Rattle.ssim_page.specs.LegRow.{leg_row}
use Rattle.ssim_page.proofs.leg_row.add_legs.Given as goal

abbrev pub invariant-loop-leg : goal.invariant-loop-leg
invariant-loop-leg l =
    (before : Legs) → ((row : List ℕ) → group_in l.initial.groups row ≡ group_of leg_row before row)
    → (row : List ℕ) → group_in l.groups row ≡ group_of leg_row (before ++ take l.leg-index l.legs) row
