-- The history of flights on a date as rows of CSV.
use Rattle.std.specs.Prelude.{ℕ, Bool, if◌then◌else◌, List, [], ◌∷◌, ◌++◌, codes}
use Rattle.std.specs.Prelude.{map}
use Rattle.std.specs.Fmt.{decimal}
use Rattle.std.specs.List.{flat_map}
use Rattle.ssim_values.specs.Designator.{designator_text}
use Rattle.ssim_values.specs.Flight.{FlightNumber}
use Rattle.ssim_values.specs.declared.designator.Designator.{Designator}
use Rattle.ssim_text.specs.Lines.{identifier_text}
use Rattle.ssim_text.specs.Reference.{printed_reference}
use Rattle.ssim_base.specs.Timetable.{Legs}
use Rattle.ssim_desk.specs.declared.date_step.DateStep.{DateStep}
use Rattle.ssim_blame.specs.Makers.{is_acted}
use Rattle.ssim_listing.specs.Rows.{iso_date, leg_names, leg_row, no_leg_row, row}
use Rattle.ssim_program.specs.print.Blocks.{blocks}
use Rattle.ssim_program.specs.print.Shown.{history_on, reason_word}

-- the names of the fields
abbrev pub history_names : List (List ℕ)
history_names =
    codes "flight" ∷ codes "date" ∷ codes "reference" ∷ codes "sub" ∷ codes "action"
    ∷ codes "result" ∷ leg_names

-- a row for each leg, after these fields; one without a leg if there is none
abbrev pub legs_rows : List (List ℕ) → Legs → List ℕ
legs_rows head [] = no_leg_row head
legs_rows head (leg ∷ legs) = flat_map (leg_row head) (leg ∷ legs)

-- the rows of the legs in the data set
abbrev pub first_rows : List (List ℕ) → Legs → List ℕ
first_rows head legs = legs_rows (head ++ codes "data set" ∷ [] ∷ [] ∷ [] ∷ []) legs

-- a sub-message on a date as fields: its reference, its number, its action, and what it found
abbrev pub step_fields : DateStep → List (List ℕ)
step_fields step =
    printed_reference step.reference ∷ decimal step.sub ∷ identifier_text step.action
    ∷ reason_word step.reason ∷ []

-- the rows of the legs after a sub-message that acted; the row of one that did not
abbrev pub step_rows : List (List ℕ) → DateStep → List ℕ
step_rows head step =
    if is_acted step.reason then legs_rows (head ++ step_fields step) step.itinerary
    else no_leg_row (head ++ step_fields step)

-- the rows of a flight on a date: of its legs in the data set, and of each sub-message
abbrev pub history_rows : Designator → ℕ → Legs → List DateStep → List ℕ
history_rows designator day first steps =
    let head = designator_text designator ∷ iso_date day ∷ [] in
    first_rows head first ++ flat_map (step_rows head) steps

-- the rows of a flight of an airline on a date, by its legs in the data set and its sub-messages
abbrev pub history_rows_on : List ℕ → (FlightNumber → ℕ → Legs)
    → (FlightNumber → ℕ → List DateStep) → ℕ → FlightNumber → List ℕ
history_rows_on airline first steps day flight =
    history_rows (record { airline = airline; flight = flight }) day (first flight day)
    (steps flight day)

-- the names of the fields, and the rows of flights on a date
abbrev pub history_csv : List ℕ → (FlightNumber → ℕ → Legs)
    → (FlightNumber → ℕ → List DateStep) → ℕ → List FlightNumber → List ℕ
history_csv airline first steps day flights =
    row history_names ++ flat_map (history_rows_on airline first steps day) flights

-- the history of flights on a date: as rows, or as lines with an empty line between two flights
abbrev pub printed_history : Bool → List ℕ → (FlightNumber → ℕ → Legs)
    → (FlightNumber → ℕ → List DateStep) → ℕ → List FlightNumber → List ℕ
printed_history csv airline first steps day flights =
    if csv then history_csv airline first steps day flights
    else blocks (map (history_on airline first steps day) flights)
