-- Which itineraries messages can make of an itinerary on one date.
use Rattle.std.specs.Prelude.{◌≡◌, ℕ, List, [], ◌∷◌, Contains}
use Rattle.std.specs.List.{AllByRecursion}
use Rattle.ssim_text.specs.Message.{MessageValue}
use Rattle.ssim_text.specs.Spelling.{SpellsMessage}
use Rattle.ssim_text.specs.declared.action.Action.{Action}
use Rattle.ssim_text.specs.declared.action.Sub.{Sub}
use Rattle.ssim_base.specs.Stations.{Row}
use Rattle.ssim_base.specs.Timetable.{Legs}
use Rattle.ssim_schedule.specs.Acts.{after_on}

-- Some text has a sub-message with this action. The flight, the dates and the reference of the text
-- are left open: they do not restrict the action.
pub record IsSaid (action : Action) : Type 0 where
  pub text : List ℕ
  pub message : MessageValue
  pub spelled : SpellsMessage message text
  pub sub : Sub
  pub contained : Contains message.subs sub
  pub action_is : sub.action ≡ action

-- what a flight has on a day after actions, one after another, by these rows of a station table
abbrev pub after_all : List Row → ℕ → List Action → Legs → Legs
after_all rows day [] legs = legs
after_all rows day (action ∷ actions) legs =
    after_all rows day actions (after_on rows action day legs)

-- the actions, each of which some text has, make the new itinerary of the old one on this day
pub record Leads (rows : List Row) (day : ℕ) (actions : List Action) (old new : Legs) : Type 0 where
  pub said : AllByRecursion IsSaid actions
  pub result : after_all rows day actions old ≡ new

-- some list of sub-messages makes the new itinerary of the old one on this day
pub record Reach (rows : List Row) (day : ℕ) (old new : Legs) : Type 0 where
  pub actions : List Action
  pub leads : Leads rows day actions old new
