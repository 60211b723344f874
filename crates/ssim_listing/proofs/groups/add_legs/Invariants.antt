-- The groups after the legs so far.
use Rattle.std.proofs.Common.{◌≡◌, ◌++◌, ℕ, List, take}
use Rattle.ssim_base.specs.Timetable.{Legs}
use Rattle.ssim_listing.specs.LegText.{leg_text}
use Rattle.ssim_listing.specs.clauses.Groups.{group_in, group_of}
use Rattle.ssim_listing.proofs.groups.add_legs.Given as goal

abbrev pub invariant-loop-leg : goal.invariant-loop-leg
invariant-loop-leg l =
    (before : Legs) → ((text : List ℕ)
    → group_in l.initial.groups text ≡ group_of leg_text before text)
    → (text : List ℕ) → group_in l.groups text ≡ group_of leg_text (before ++ take l.leg-index l.legs)
    text
