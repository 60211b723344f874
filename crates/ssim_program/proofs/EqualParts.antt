-- Words make one choice of the flight dates of equal files, and the part of it has one export, one
-- list and one calendar.
use Rattle.std.proofs.Common.{◌≡◌, ◌∙◌, ℕ, ◌≤◌, List, Some, map, refl, subst}
use Rattle.std.specs.Prelude.{All}
use Rattle.ssim_values.specs.Flight.{FlightNumber}
use Rattle.ssim_values.specs.declared.designator.Designator.{Designator}
use Rattle.ssim_values.specs.declared.fault.Fault.TheVariants as value_fault
use Rattle.ssim_records.specs.Frames.{FramesAreOne}
use Rattle.ssim_records.specs.declared.record.Record.{Record}
use Rattle.ssim_base.specs.Base.{airline_of}
use Rattle.ssim_base.specs.Reading.{SameBytesSameBase}
use Rattle.ssim_base.specs.Timetable.{Days}
use Rattle.ssim_held.specs.Entries.{DeskSeen}
use Rattle.ssim_held.specs.File.{NoTwoDesks}
use Rattle.ssim_desk.specs.Desk.{days_of_desk}
use Rattle.ssim_parts.specs.Chosen.{Choosing, chosen_days}
use Rattle.ssim_words.proofs.OneFlight.{name_once}
use Rattle.ssim_words.specs.Aircraft.{typed_aircraft}
use Rattle.ssim_words.specs.Flight.{NameEach}
use Rattle.ssim_words.specs.Several.{each_read}
use Rattle.ssim_words.specs.Station.{typed_station}
use Rattle.ssim_schedule.specs.FlightPieces.{in_order}
use Rattle.ssim_command_line.specs.Line.{Calendar, ChoiceTexts, Listing, Select, Text}
use Rattle.ssim_command_line.specs.declared.command_line.ListForm.{ListForm}
use Rattle.ssim_program.specs.Acts.{Act, prints}
use Rattle.ssim_program.specs.Answer.{Answer, Gives, OneOr, OrElse, Require, ◌>>=◌}
use Rattle.ssim_program.specs.Answers.{listed}
use Rattle.ssim_program.specs.Choices.{choice_in, dated, turned_dates}
use Rattle.ssim_program.specs.Desks.{other_airline}
use Rattle.ssim_program.specs.EqualFiles.{AreAlike, DoesTheSame, PrintTheSame}
use Rattle.ssim_program.specs.Exports.{export_in}
use Rattle.ssim_program.specs.Messages.{IsOf}
use Rattle.ssim_program.specs.Timetables.{timetable_in}
use Rattle.ssim_program.specs.print.Calendar.{calendars}
use Rattle.ssim_program.specs.print.Listing.{printed_list}
use Rattle.ssim_program.specs.declared.refusal.Refusal.TheVariants as refused
use Rattle.ssim_program.proofs.Alike.{Equal, Nothing, gives_alike, one_or_alike, or_else_alike}
use Rattle.ssim_program.proofs.Alike.{require_alike, then_alike}
use Rattle.ssim_program.proofs.EqualFiles.{airlines_same, exports_alike, of_timetables, records_same}
use Rattle.ssim_program.proofs.EqualFiles.{seen}
use Rattle.ssim_program.proofs.SameReading.{SameDesk, timetable_alike}

-- a step, and then the next one of its value
step : {A B : Type 0} (one : Answer A) (next : A → Answer B) → AreAlike Equal one one
    → ((a : A) → AreAlike Equal (next a) (next a)) → AreAlike Equal (one >>= next) (one >>= next)
step one next alike later = then_alike Equal Equal one one next next alike
    (λ a b same. subst (λ (x : _). AreAlike Equal (next a) (next x)) same (later a))

module _ (airline : List ℕ) (words : ChoiceTexts) (flights : List Text) where
  abbrev named_flights : Answer (List Designator)
  named_flights = OneOr (NameEach airline flights) (refused.Value value_fault.BadDesignator)

  abbrev stations_read : Answer (List (List ℕ))
  stations_read =
      OrElse (each_read typed_station words.stations) (refused.Value value_fault.BadStation)

  abbrev aircraft_read : Answer (List (List ℕ))
  aircraft_read = OrElse (each_read typed_aircraft words.aircraft) refused.Aircraft

  abbrev first_read : Answer ℕ
  first_read = OrElse (dated 0 words.from) (refused.Value value_fault.BadDate)

  abbrev last_read : Answer ℕ
  last_read = OrElse (dated 36524 words.to) (refused.Value value_fault.BadDate)

  abbrev all_of : List Designator → Answer (Unit {0})
  all_of named = Require (All (IsOf airline) named) other_airline

  abbrev is_rising : ℕ → ℕ → Answer (Unit {0})
  is_rising first last = Require (first ≤ last) turned_dates

  module _ (named : List Designator) (stations aircraft : List (List ℕ)) where
    abbrev made : ℕ → ℕ → Unit {0} → Answer Choosing
    made first last rising = Gives (record {
      flights = map (λ d. d.flight) named;
      first = first;
      last = last;
      stations = stations;
      aircraft = aircraft;
    })

    abbrev risen : ℕ → ℕ → Unit {0} → Answer Choosing
    risen first last here = is_rising first last >>= made first last

    abbrev of_airline : ℕ → ℕ → Answer Choosing
    of_airline first last = all_of named >>= risen first last

    abbrev to_date : ℕ → Answer Choosing
    to_date first = last_read >>= of_airline first

  abbrev from_date : List Designator → List (List ℕ) → List (List ℕ) → Answer Choosing
  from_date named stations aircraft = first_read >>= to_date named stations aircraft

  abbrev of_aircraft : List Designator → List (List ℕ) → Answer Choosing
  of_aircraft named stations = aircraft_read >>= from_date named stations

  abbrev of_stations : List Designator → Answer Choosing
  of_stations named = stations_read >>= of_aircraft named

  abbrev of_flights : Unit {0} → Answer Choosing
  of_flights room = named_flights >>= of_stations

  module _ (named : List Designator) (stations aircraft : List (List ℕ)) where
    risen_alike : (first last : ℕ) (x y : Unit {0})
        → AreAlike Equal (risen named stations aircraft first last x)
        (risen named stations aircraft first last y)
    risen_alike first last x y =
        let next = made named stations aircraft first last in
        then_alike Nothing Equal (is_rising first last) (is_rising first last) next next
        (require_alike (first ≤ last) turned_dates) (λ x y both. gives_alike _ _ refl)

    airline_alike : (first last : ℕ) → AreAlike Equal (of_airline named stations aircraft first last)
        (of_airline named stations aircraft first last)
    airline_alike first last =
        let next = risen named stations aircraft first last in
        then_alike Nothing Equal (all_of named) (all_of named) next next
        (require_alike (All (IsOf airline) named) other_airline)
        (λ x y both. risen_alike first last x y)

    dates_alike : AreAlike Equal (from_date named stations aircraft)
        (from_date named stations aircraft)
    dates_alike =
        step first_read (to_date named stations aircraft)
        (or_else_alike (dated 0 words.from) (refused.Value value_fault.BadDate)) (λ first.
        step last_read (of_airline named stations aircraft first)
        (or_else_alike (dated 36524 words.to) (refused.Value value_fault.BadDate))
        (airline_alike first))

  one_choice : AreAlike Equal (choice_in airline words flights) (choice_in airline words flights)
  one_choice =
      step (Gives (tt {0})) of_flights (gives_alike (tt {0}) (tt {0}) refl) (λ room.
      step named_flights of_stations
      (one_or_alike (NameEach airline flights) (refused.Value value_fault.BadDesignator)
      (name_once airline flights)) (λ named.
      step stations_read (of_aircraft named)
      (or_else_alike (each_read typed_station words.stations)
      (refused.Value value_fault.BadStation)) (λ stations.
      step aircraft_read (from_date named stations)
      (or_else_alike (each_read typed_aircraft words.aircraft) refused.Aircraft)
      (dates_alike named stations))))

pub choice_alike : (airline other : List ℕ) (words : ChoiceTexts) (flights : List Text)
    → airline ≡ other
    → AreAlike Equal (choice_in airline words flights) (choice_in other words flights)
choice_alike airline other words flights same =
    subst (λ (a : List ℕ).
    AreAlike Equal (choice_in airline words flights) (choice_in a words flights)) same
    (one_choice airline words flights)

-- the export of the chosen part of a desk
abbrev part_of : DeskSeen → Choosing → Answer (List Act)
part_of desk choice = prints (export_in desk.base.records (chosen_days choice (days_of_desk desk)))

abbrev selected_of : ChoiceTexts → List Text → DeskSeen → Answer (List Act)
selected_of words flights desk =
    choice_in (airline_of desk.base.records) words flights >>= part_of desk

-- the lines that are made of the chosen part of a desk
abbrev pub lines_of : (DeskSeen → Choosing → List ℕ) → ChoiceTexts → List Text → DeskSeen
    → Answer (List ℕ)
lines_of lines words flights desk = do
  choice ← choice_in (airline_of desk.base.records) words flights
  Gives (lines desk choice)

abbrev listed_lines : ListForm → DeskSeen → Choosing → List ℕ
listed_lines form desk choice = printed_list form (airline_of desk.base.records)
    (listed choice.flights (chosen_days choice (days_of_desk desk)))

abbrev calendar_of : DeskSeen → Choosing → List ℕ
calendar_of desk choice = calendars (airline_of desk.base.records)
    (chosen_days choice (days_of_desk desk)) (in_order choice.flights)

-- they are alike, if equal desks and equal choices have the same
pub lines_alike : (lines : DeskSeen → Choosing → List ℕ)
    → ((desk other : DeskSeen) (choice that : Choosing) → SameDesk desk other → choice ≡ that
    → lines desk choice ≡ lines other that)
    → (words : ChoiceTexts) (flights : List Text) (desk other : DeskSeen) → SameDesk desk other
    → AreAlike Equal (lines_of lines words flights desk) (lines_of lines words flights other)
lines_alike lines are words flights desk other one =
    let mine = airline_of desk.base.records in
    let theirs = airline_of other.base.records in
    then_alike Equal Equal (choice_in mine words flights) (choice_in theirs words flights)
    (λ choice. Gives (lines desk choice)) (λ choice. Gives (lines other choice))
    (choice_alike mine theirs words flights (airlines_same desk other one))
    (λ choice that both. gives_alike (lines desk choice) (lines other that)
    (are desk other choice that one both))

parts_alike : (desk other : DeskSeen) (choice that : Choosing) → SameDesk desk other
    → choice ≡ that → AreAlike PrintTheSame (part_of desk choice) (part_of other that)
parts_alike desk other choice that one same =
    exports_alike desk.base.records other.base.records (chosen_days choice (days_of_desk desk))
    (chosen_days that (days_of_desk other)) (records_same desk other one)
    (λ i. chosen_days (same i) (days_of_desk (seen (one.0 i) (one.1 i))))

module _ (frames : FramesAreOne) (one_base : SameBytesSameBase) (no_two : NoTwoDesks) where
  pub select_alike : (words : ChoiceTexts) (flights : List Text)
      → DoesTheSame (λ file. Select words file flights)
  select_alike words flights files others name another same =
      let next = selected_of words flights in
      then_alike SameDesk PrintTheSame (timetable_in (Some files) name)
      (timetable_in (Some others) another) next next
      (timetable_alike files others name another same frames one_base no_two)
      (λ desk other one.
      let mine = airline_of desk.base.records in let theirs = airline_of other.base.records in
      then_alike Equal PrintTheSame (choice_in mine words flights) (choice_in theirs words flights)
      (part_of desk) (part_of other)
      (choice_alike mine theirs words flights (airlines_same desk other one))
      (λ choice that both. parts_alike desk other choice that one both))

  pub list_alike : (form : ListForm) (words : ChoiceTexts) (flights : List Text)
      → DoesTheSame (λ file. Listing form words file flights)
  list_alike form words flights =
      of_timetables frames one_base no_two (lines_of (listed_lines form) words flights)
      (lines_alike (listed_lines form)
      (λ desk other choice that one both. λ i. listed_lines form (seen (one.0 i) (one.1 i)) (both i))
      words flights)

  pub calendar_alike : (words : ChoiceTexts) (flights : List Text)
      → DoesTheSame (λ file. Calendar words file flights)
  calendar_alike words flights =
      of_timetables frames one_base no_two (lines_of calendar_of words flights)
      (lines_alike calendar_of
      (λ desk other choice that one both. λ i. calendar_of (seen (one.0 i) (one.1 i)) (both i))
      words flights)
