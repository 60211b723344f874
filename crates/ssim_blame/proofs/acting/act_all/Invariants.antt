-- What the messages that are left will make of the days so far is what all messages make of the
-- first ones.
use Rattle.std.proofs.Common.{◌≡◌, ℕ, drop}
use Rattle.ssim_periods.specs.Days.{each_day}
use Rattle.ssim_desk.specs.DateSteps.{entry_steps}
use Rattle.ssim_blame.specs.declared.made.MadeItinerary.{MadeItinerary}
use Rattle.ssim_blame.specs.internal.Made.{after_steps}
use Rattle.ssim_blame.proofs.acting.act_all.Given as goal

abbrev pub invariant-loop-held : goal.invariant-loop-held
invariant-loop-held l =
    (before : ℕ → MadeItinerary) → l.initial.days.days ≡ each_day before
    → (now : ℕ → MadeItinerary) × (l.days.days ≡ each_day now)
    × ((n : ℕ) → after_steps (now n) (entry_steps l.acting.rows.now l.acting.flight n
    (drop l.held-index l.messages) (now n).itinerary)
    ≡ after_steps (before n) (entry_steps l.acting.rows.now l.acting.flight n l.messages
    (before n).itinerary))
