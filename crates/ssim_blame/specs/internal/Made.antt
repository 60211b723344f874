-- An itinerary with its maker, and how sub-messages change both.
use Rattle.std.specs.Prelude.{ℕ, Bool, ◌&&◌, if◌then◌else◌, List, [], ◌∷◌}
use Rattle.std.specs.Ordering.{ordering_then}
use Rattle.std.specs.declared.cmp.Ordering.{Ordering}
use Rattle.ssim_base.specs.Export.{same_itinerary}
use Rattle.ssim_base.specs.Stations.{Row}
use Rattle.ssim_base.specs.Timetable.{Legs}
use Rattle.ssim_text.specs.declared.action.Action.{Action}
use Rattle.ssim_schedule.specs.Effect.{effect}
use Rattle.ssim_schedule.specs.clauses.ItineraryOrder.{itinerary_cmp}
use Rattle.ssim_desk.specs.declared.date_step.DateStep.{DateStep}
use Rattle.ssim_blame.specs.Makers.{data_set_maker, is_acted, name_of, same_maker}
use Rattle.ssim_blame.specs.clauses.MakerOrder.{maker_cmp}
use Rattle.ssim_blame.specs.declared.made.MadeItinerary.{MadeItinerary}
use Rattle.ssim_blame.specs.declared.maker.Maker.{Maker}
use Rattle.ssim_blame.specs.declared.maker.Maker.TheVariants.{Nobody, Sub}
use Rattle.ssim_blame.specs.declared.maker.SubName.{SubName}

-- legs with their maker
abbrev pub made : Legs → Maker → MadeItinerary
made legs maker = record { itinerary = legs; maker = maker }

-- no legs, made by nobody
abbrev pub nothing_made : MadeItinerary
nothing_made = made [] Nobody

-- whether two are equal: the legs are, and the makers
abbrev pub same_made : MadeItinerary → MadeItinerary → Bool
same_made d e = same_itinerary d.itinerary e.itinerary && same_maker d.maker e.maker

-- an order: by the legs, then by the makers
abbrev pub made_cmp : MadeItinerary → MadeItinerary → Ordering
made_cmp d e =
    ordering_then (itinerary_cmp d.itinerary e.itinerary) (maker_cmp d.maker e.maker)

-- the legs of the data set
abbrev pub from_data_set : Legs → MadeItinerary
from_data_set legs = made legs (data_set_maker legs)

-- what a sub-message of this name leaves on a day
abbrev pub acted : List Row → Action → ℕ → SubName → MadeItinerary → MadeItinerary
acted rows action day name before =
    let found = effect rows action day before.itinerary in
    made found.0 (if is_acted found.1 then Sub name else before.maker)

-- what steps leave
abbrev pub after_steps : MadeItinerary → List DateStep → MadeItinerary
after_steps before [] = before
after_steps before (step ∷ steps) =
    after_steps (made step.itinerary (if is_acted step.reason then Sub (name_of step)
    else before.maker)) steps
