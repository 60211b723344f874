-- What each sub-message does with a flight on one date.
use Rattle.std.specs.Prelude.{ℕ, ◌+◌, Bool, ◌&&◌, if◌then◌else◌, List, [], ◌∷◌, ◌++◌}
use Rattle.ssim_periods.specs.Calendar.{holds}
use Rattle.ssim_base.specs.Stations.{Row}
use Rattle.ssim_base.specs.Timetable.{Legs, itinerary, same_flight}
use Rattle.ssim_base.specs.declared.sub_message.ResolvedSub.{ResolvedSub}
use Rattle.ssim_schedule.specs.Effect.{effect}
use Rattle.ssim_text.specs.Grammar.{identifier_of}
use Rattle.ssim_text.specs.declared.action.Sub.{Sub}
use Rattle.ssim_text.specs.declared.reference.Reference.{Reference}
use Rattle.ssim_values.specs.Flight.{FlightNumber}
use Rattle.ssim_held.specs.Entries.{DeskSeen, Entry}
use Rattle.ssim_desk.specs.declared.date_step.DateStep.{DateStep}

-- whether the sub-message names the flight, and its period holds the day
abbrev pub is_on : FlightNumber → ℕ → ResolvedSub → Bool
is_on flight day sub = same_flight sub.flight flight && holds sub.period day

-- what the sub-message of this number does with these legs on the day, and why
abbrev pub step_of : List Row → ℕ → Reference → ℕ → Sub → Legs → DateStep
step_of rows day reference number sub legs = record {
  reference = reference;
  sub = number;
  action = identifier_of sub.action;
  reason = (effect rows sub.action day legs).1;
  itinerary = (effect rows sub.action day legs).0;
}

-- the steps of the sub-messages of a message, from this number on, that are on the flight's date;
-- each begins with the legs that the one before left
abbrev pub sub_steps : List Row → FlightNumber → ℕ → Reference → ℕ → List Sub → List ResolvedSub
    → Legs → List DateStep
sub_steps rows flight day reference number (sub ∷ subs) (dated ∷ dates) legs =
    if is_on flight day dated
    then step_of rows day reference number sub legs
    ∷ sub_steps rows flight day reference (number + 1) subs dates
    (step_of rows day reference number sub legs).itinerary
    else sub_steps rows flight day reference (number + 1) subs dates legs
sub_steps _ _ _ _ _ _ _ _ = []

-- the legs after steps: those of the last step, or those before if there is no step
abbrev pub legs_left : Legs → List DateStep → Legs
legs_left legs [] = legs
legs_left legs (step ∷ steps) = legs_left step.itinerary steps

-- the steps of messages, in their order
abbrev pub entry_steps : List Row → FlightNumber → ℕ → List Entry → Legs → List DateStep
entry_steps rows flight day [] legs = []
entry_steps rows flight day (e ∷ entries) legs =
    let steps = sub_steps rows flight day e.reference 1 e.message.subs e.dates legs in
    steps ++ entry_steps rows flight day entries (legs_left legs steps)

-- what each sub-message of a desk, in order of reference, did with a flight on a date
abbrev pub steps_on : DeskSeen → FlightNumber → ℕ → List DateStep
steps_on desk flight day =
    entry_steps desk.base.rows flight day desk.held (itinerary desk.base.records flight day)
