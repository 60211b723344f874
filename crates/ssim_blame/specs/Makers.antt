-- Which message acted last on each date of a flight: the maker of what the flight has there.
use Rattle.std.specs.Prelude.{◌≡◌, ℕ, ◌<◌, Bool, true, false, if◌then◌else◌, List, [], ◌∷◌}
use Rattle.std.specs.Prelude.{length, map, nat_lt}
use Rattle.std.specs.List.{list_all}
use Rattle.std.specs.Str.{bytes_eq}
use Rattle.ssim_values.specs.Flight.{FlightNumber}
use Rattle.ssim_values.specs.Period.{DayRange}
use Rattle.ssim_periods.specs.Calendar.{day_count}
use Rattle.ssim_periods.specs.Days.{each_day}
use Rattle.ssim_periods.specs.Pieces.{held_on, pieces_of}
use Rattle.ssim_base.specs.Timetable.{Legs, itinerary}
use Rattle.ssim_text.specs.Reference.{reference_numbers}
use Rattle.ssim_text.specs.declared.action.Action.{Action}
use Rattle.ssim_text.specs.declared.action.Action.TheVariants as action
use Rattle.ssim_text.specs.declared.kind.ActionIdentifier.{ActionIdentifier}
use Rattle.ssim_text.specs.declared.kind.ActionIdentifier.TheVariants.{New, Cnl, Rpl, Eqt, Tim}
use Rattle.ssim_schedule.specs.FlightPieces.{in_order}
use Rattle.ssim_schedule.specs.declared.finding.Reason.{Reason}
use Rattle.ssim_schedule.specs.declared.finding.Reason.TheVariants.{Acted}
use Rattle.ssim_held.specs.Entries.{DeskSeen}
use Rattle.ssim_desk.specs.DateSteps.{steps_on}
use Rattle.ssim_desk.specs.Desk.{timetable_of}
use Rattle.ssim_desk.specs.declared.date_step.DateStep.{DateStep}
use Rattle.ssim_blame.specs.declared.maker.Maker.{Maker}
use Rattle.ssim_blame.specs.declared.maker.Maker.TheVariants.{Nobody, DataSet, Sub}
use Rattle.ssim_blame.specs.declared.maker.SubName.{SubName}

-- ---- a date

-- whether a sub-message acted
abbrev pub is_acted : Reason → Bool
is_acted Acted = true
is_acted _ = false

-- the sub-message of a step: the reference of its message, its number there, and its action
abbrev pub name_of : DateStep → SubName
name_of step = record { reference = step.reference; sub = step.sub; action = step.action }

-- the last sub-message that acted among steps, or the maker before them if none did
abbrev pub last_acted : Maker → List DateStep → Maker
last_acted maker [] = maker
last_acted maker (step ∷ steps) =
    last_acted (if is_acted step.reason then Sub (name_of step) else maker) steps

-- the maker if no sub-message acted: the data set, if it has the flight
abbrev pub data_set_maker : Legs → Maker
data_set_maker [] = Nobody
data_set_maker (leg ∷ legs) = DataSet

-- the maker of what a flight has on a date: the last sub-message that acted, by `history`, or else
-- the data set, or nobody
abbrev pub maker_on : DeskSeen → FlightNumber → ℕ → Maker
maker_on desk flight day =
    last_acted (data_set_maker (itinerary desk.base.records flight day)) (steps_on desk flight day)

-- ---- a flight

-- the number of an action
abbrev pub action_number : ActionIdentifier → ℕ
action_number New = 0
action_number Cnl = 1
action_number Rpl = 2
action_number Eqt = 3
action_number Tim = 4

-- a maker as a list of numbers, of which no two makers have the same
abbrev pub maker_numbers : Maker → List ℕ
maker_numbers Nobody = []
maker_numbers DataSet = 0 ∷ []
maker_numbers (Sub name) =
    1 ∷ name.sub ∷ action_number name.action ∷ reference_numbers name.reference

-- whether two makers are equal
abbrev pub same_maker : Maker → Maker → Bool
same_maker one other = bytes_eq (maker_numbers one) (maker_numbers other)

-- a period with the maker on its dates
abbrev pub MakerPiece : Type 0
MakerPiece = DayRange × Maker

-- the canonical division of the dates of a flight by their makers
abbrev pub maker_pieces : DeskSeen → FlightNumber → List MakerPiece
maker_pieces desk flight = pieces_of same_maker Nobody (each_day (maker_on desk flight))

-- a flight and its pieces
abbrev pub Blamed : Type 0
Blamed = FlightNumber × List MakerPiece

-- a flight with the pieces of its makers
abbrev pub blamed : DeskSeen → FlightNumber → Blamed
blamed desk flight = (flight, maker_pieces desk flight)

-- the flights of a list, by number and then by suffix, each once with its pieces
abbrev pub blamed_among : DeskSeen → List FlightNumber → List Blamed
blamed_among desk flights = map (blamed desk) (in_order flights)

-- ---- laws

-- whether an action that makes new legs has a leg line, as each text has
abbrev pub has_lines : Action → Bool
has_lines (action.New new) = nat_lt 0 (length new.legs)
has_lines (action.Rpl new) = nat_lt 0 (length new.legs)
has_lines _ = true

-- whether a flight with these legs flies
abbrev pub flies : Legs → Bool
flies [] = false
flies (leg ∷ legs) = true

-- whether an action is no cancellation
abbrev pub keeps_flying : ActionIdentifier → Bool
keeps_flying Cnl = false
keeps_flying _ = true

-- whether a date with this maker has the flight: if there is one, and it did not cancel it
abbrev pub flies_by : Maker → Bool
flies_by Nobody = false
flies_by DataSet = true
flies_by (Sub name) = keeps_flying name.action

-- The law with `show`: a flight flies on a date exactly if the date has a maker whose action is not
-- CNL.
abbrev pub FliesUnlessCancelled : Type 0
FliesUnlessCancelled =
    (desk : DeskSeen) (flight : FlightNumber) (day : ℕ)
    → list_all (λ e. list_all (λ sub. has_lines sub.action) e.message.subs) desk.held ≡ true
    → flies (timetable_of desk flight day) ≡ flies_by (maker_on desk flight day)

-- the maker of a date in a list of its own; an empty list for nobody
abbrev pub named_alone : Maker → List Maker
named_alone Nobody = []
named_alone maker = maker ∷ []

-- The law with `history`: on each date exactly one piece names the maker of the date, or none does
-- if nobody made anything.
abbrev pub NamesEachDateOnce : Type 0
NamesEachDateOnce =
    (desk : DeskSeen) (flight : FlightNumber) (day : ℕ) → day < day_count
    → held_on (maker_pieces desk flight) day ≡ named_alone (maker_on desk flight day)
