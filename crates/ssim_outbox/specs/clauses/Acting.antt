-- Sub-messages each of which acts on every date that it names.
use Rattle.std.specs.Prelude.{ℕ, List, [], ◌∷◌}
use Rattle.ssim_text.specs.declared.action.Action.{Action}
use Rattle.ssim_base.specs.Stations.{Row}
use Rattle.ssim_base.specs.Timetable.{Legs}
use Rattle.ssim_schedule.specs.Acts.{after_on}
use Rattle.ssim_outbox.specs.Acting.{DoesAct}

-- of actions, one after another, each acts on what those before it leave
abbrev pub ActEach : List Row → ℕ → List Action → Legs → Type 0
ActEach rows day [] legs = Unit {0}
ActEach rows day (action ∷ actions) legs =
    DoesAct rows action day legs × ActEach rows day actions (after_on rows action day legs)
