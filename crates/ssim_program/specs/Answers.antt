-- What each command does, by the files: one equation a command.
use Rattle.std.specs.Prelude.{◌≡◌, ℕ, Bool, true, false, List, [], ◌∷◌, ◌++◌, length, map, slice_range}
use Rattle.std.specs.Prelude.{Option, None, Some, Ok, Err, ◌&&◌, if◌then◌else◌}
use Rattle.std.specs.List.{flat_map}
use Rattle.ssim_values.specs.Station.{is_station}
use Rattle.ssim_values.specs.Flight.{FlightNumber}
use Rattle.ssim_values.specs.declared.fault.Fault.TheVariants as value_fault
use Rattle.ssim_records.specs.Carrier.{CarrierFields}
use Rattle.ssim_base.specs.Base.{airline_of}
use Rattle.ssim_base.specs.SavedBase.{IsBaseRecords}
use Rattle.ssim_base.specs.Timetable.{Days, days_of, itinerary}
use Rattle.ssim_schedule.specs.FlightPieces.{Divided, divided_among, divided_flights, in_order}
use Rattle.ssim_words.specs.Date.{typed_day}
use Rattle.ssim_words.specs.Typed.{typed}
use Rattle.ssim_held.specs.Entries.{AreRising, DeskSeen}
use Rattle.ssim_held.specs.File.{desk_file, row_line}
use Rattle.ssim_held.specs.declared.fault.DeskFault.TheVariants as desk_fault
use Rattle.ssim_desk.specs.DateSteps.{steps_on}
use Rattle.ssim_desk.specs.Desk.{days_of_desk, finding_lines, timetable_of}
use Rattle.ssim_difference.specs.ChosenDates.{chosen_side}
use Rattle.ssim_difference.specs.Differences as differing
use Rattle.ssim_blame.specs.Lines.{blame_lines}
use Rattle.ssim_blame.specs.Makers.{blamed_among}
use Rattle.ssim_blame.specs.Rows.{blame_rows}
use Rattle.ssim_outbox.specs.Comparable.{RefusesCarriers}
use Rattle.ssim_outbox.specs.Publication.{Publishes, RefusesPublication}
use Rattle.ssim_outbox.specs.declared.fault.OutboxFault.{OutboxFault}
use Rattle.ssim_parts.specs.Chosen.{chosen_days}
use Rattle.ssim_page.specs.Page.{whole_page}
use Rattle.ssim_page.specs.declared.heading.PageHeading.{PageHeading}
use Rattle.ssim_overview.specs.SaidRows.{said_rows}
use Rattle.ssim_sql.specs.Script.{script_of}
use Rattle.ssim_command_line.specs.Line.{Line, Text, Check, Problems, Tidy, Start, Take, Merge}
use Rattle.ssim_command_line.specs.Line.{Withdraw}
use Rattle.ssim_command_line.specs.Line.{Carry, ChoiceTexts, SpanTexts}
use Rattle.ssim_command_line.specs.Line.{Blame, Receive, Texts, Show, History, Calendar, Findings}
use Rattle.ssim_command_line.specs.Line.{Export, Rehearse, Explain, Page, Board, Diff, Publish}
use Rattle.ssim_command_line.specs.Line.{Convert, Info, Listing, Select, Split, Sql, Stations}
use Rattle.ssim_command_line.specs.declared.board_form.BoardForm.{BoardForm}
use Rattle.ssim_command_line.specs.declared.command_line.FindingsForm.{FindingsForm}
use Rattle.ssim_command_line.specs.declared.command_line.DiffForm.{DiffForm}
use Rattle.ssim_command_line.specs.declared.command_line.ListForm.{ListForm}
use Rattle.ssim_command_line.specs.declared.command_line.ModeWord.{ModeWord}
use Rattle.ssim_command_line.specs.declared.command_line.ReceiveForm.{ReceiveForm}
use Rattle.ssim_program.specs.Acts.{Act, Print, Keep, found_then, prints, prints_then, reports}
use Rattle.ssim_program.specs.Carrying.{AreOfOneAirline, carried}
use Rattle.ssim_program.specs.Converting.{converted, mode_named}
use Rattle.ssim_program.specs.Exports.{ReadsAsItself, export_in}
use Rattle.ssim_program.specs.Answer.{Answer, Finds, Gives, Known, OrElse, Require, ◌>>=◌}
use Rattle.ssim_program.specs.Choices.{choice_in}
use Rattle.ssim_program.specs.Desks.{desk_in, held_line, merged, text_taken}
use Rattle.ssim_program.specs.Explained.{Explains, RefusesExplain}
use Rattle.ssim_program.specs.Files.{Files}
use Rattle.ssim_program.specs.Made.{AreLinesOn, base_in, data_set_in, problem_lines, problems_in}
use Rattle.ssim_program.specs.Made.{has_problem, problem_rows}
use Rattle.ssim_program.specs.Messages.{flights_named, flights_on, printed_messages}
use Rattle.ssim_program.specs.Places.{place_in}
use Rattle.ssim_program.specs.Splitting.{split}
use Rattle.ssim_program.specs.Spans.{dates_alone, has_end, lines_found}
use Rattle.ssim_program.specs.Receiving.{any_refused, places_in, printed_receipts}
use Rattle.ssim_program.specs.Receiving.{received_at, received_files}
use Rattle.ssim_program.specs.Timetables.{carrier_of, known_in, shown_in, timetable_in}
use Rattle.ssim_program.specs.MergingSince.{IsOver, merged_since, older_in}
use Rattle.ssim_program.specs.Withdrawing.{withdrawn}
use Rattle.ssim_program.specs.rehearse.Rehearsal.{RehearsesFiles, RefusesLines}
use Rattle.ssim_program.specs.print.Blocks.{blocks}
use Rattle.ssim_program.specs.print.Board.{printed_board}
use Rattle.ssim_program.specs.print.Calendar.{calendars}
use Rattle.ssim_program.specs.print.Info.{info_lines}
use Rattle.ssim_program.specs.print.Difference.{reported_difference}
use Rattle.ssim_program.specs.print.Effects.{effects_then, with_effects}
use Rattle.ssim_program.specs.print.Listing.{printed_list}
use Rattle.ssim_program.specs.print.Page.{message_articles}
use Rattle.ssim_program.specs.print.HistoryRows.{printed_history}
use Rattle.ssim_program.specs.print.Shown.{findings_lines, shown_on}
use Rattle.ssim_program.specs.print.StationNotes.{start_lines}
use Rattle.ssim_program.specs.declared.content_kind.ContentKind.TheVariants as kind
use Rattle.ssim_program.specs.declared.explain.file_kind.FileKind.{FileKind}
use Rattle.ssim_program.specs.declared.explain.file_kind.FileKind.TheVariants as file_kind
use Rattle.ssim_program.specs.declared.refusal.Refusal.TheVariants as refused

-- ---- on a data set

-- a line for each note, and the summary
abbrev pub check : Option Files → Text → Answer (List ℕ)
check files name = do
  set ← data_set_in files name
  Finds (AreLinesOn set.0 set.1)

-- a line for each invalid record, and their number, or a row of CSV for each; and whether there is one
abbrev pub problems : Option Files → Bool → Text → Answer (List ℕ × Bool)
problems files csv name = do
  found ← problems_in files name
  Gives (if csv then problem_rows found else problem_lines found, has_problem found)

-- the canonical export of a data set
abbrev pub tidy : Option Files → Text → Answer (List Act)
tidy files name = do
  set ← data_set_in files name
  prints (export_in set.0 (days_of set.0))

-- ---- desks that are kept

-- A new desk, which holds no message; and, if the words ask for notes, the stations whose variations
-- the station table lacks or contradicts. The records of its base can be written.
abbrev pub start : Option Files → Bool → Text → Text → Text → Answer (List Act)
start files notes dataset stations out = do
  place ← place_in files out kind.DeskFile
  base ← base_in files dataset stations
  Known (IsBaseRecords base.records)
      (Keep out (desk_file base []) ∷ Print (start_lines notes base) ∷ [])

-- The texts in the files of these names are taken one after another, and each line is printed as it
-- is made. At last the effects on the desk that was there before are printed, if the words ask for
-- them, and the desk is kept.
abbrev pub take_each : Option Files → Bool → DeskSeen → Text → List Text → DeskSeen
    → Answer (List Act)
take_each files effects before out [] desk =
    Known (AreRising desk.held)
    (effects_then effects before desk (Keep out (desk_file desk.base desk.held) ∷ []))
take_each files effects before out (name ∷ names) desk = do
  taken ← text_taken files name desk
  prints_then taken.1 (take_each files effects before out names taken.0)

-- the desk in a file takes texts
abbrev pub take : Option Files → Bool → Text → Text → List Text → Answer (List Act)
take files effects file out names = do
  place ← place_in files out kind.DeskFile
  desk ← desk_in files file
  take_each files effects desk out names desk

-- The desk in a file tries the texts of mailboxes. The line or the row of each is printed, and the
-- effects, if the words ask for them; the refused texts are kept, if a name is given, and then the
-- desk. If the words ask for the status, it says whether there are refused texts or files that were
-- not read.
abbrev pub receive : Option Files → Option Text → ReceiveForm → Text → Text → List Text
    → Answer (List Act)
receive files refused form file out names = do
  places ← places_in files refused file out names
  before ← desk_in files file
  result ← received_at files names before
  Gives (found_then (form.status && any_refused result.0)
      (Print (with_effects form.effects before result.1 (printed_receipts form.csv result.0))
      ∷ received_files refused out result.0 result.1))

-- A desk that holds what two desks hold, in order of reference, and the number of its messages; here
-- and below also the effects on the first desk, if the words ask for them.
abbrev pub merge : Option Files → Bool → Text → Text → Text → Answer (List Act)
merge files effects file other out = do
  place ← place_in files out kind.DeskFile
  mine ← desk_in files file
  theirs ← desk_in files other
  after ← merged mine theirs
  Known (AreRising after.held) (Keep out (desk_file after.base after.held)
      ∷ Print (with_effects effects mine after (held_line (length after.held))) ∷ [])

-- A desk that holds what two desks hold, without what one of them has withdrawn since an older one,
-- and the number of its messages. The older one has the base of both (else 61).
abbrev pub merge_since : Option Files → Bool → Text → Text → Text → Text → Answer (List Act)
merge_since files effects since file other out = do
  place ← place_in files out kind.DeskFile
  old ← older_in files since
  mine ← desk_in files file
  theirs ← desk_in files other
  one ← Require (IsOver old mine) (refused.Desk desk_fault.OtherBase)
  after ← merged_since old mine theirs
  Known (AreRising after.held) (Keep out (desk_file after.base after.held)
      ∷ Print (with_effects effects mine after (held_line (length after.held))) ∷ [])

-- one of the two, by whether an older desk is named
abbrev pub merge_either : Option Files → Bool → Option Text → Text → Text → Text
    → Answer (List Act)
merge_either files effects None file other out = merge files effects file other out
merge_either files effects (Some since) file other out =
    merge_since files effects since file other out

-- A desk that holds what it held and those messages of another that mean the same in it, and what
-- became of each. The data sets are of one airline and one time mode (else 61).
abbrev pub carry : Option Files → Bool → Text → Text → Text → Answer (List Act)
carry files effects file other out = do
  place ← place_in files out kind.DeskFile
  mine ← desk_in files file
  theirs ← desk_in files other
  one ← Require (AreOfOneAirline mine theirs) (refused.Desk desk_fault.OtherBase)
  made ← carried mine theirs
  Known (AreRising made.0.held) (Keep out (desk_file made.0.base made.0.held)
      ∷ Print (with_effects effects mine made.0 (made.1 ++ held_line (length made.0.held))) ∷ [])

-- A line for each of these references, and then the desk without their messages.
abbrev pub withdraw : Option Files → Bool → Text → Text → List Text → Answer (List Act)
withdraw files effects file out references = do
  place ← place_in files out kind.DeskFile
  desk ← desk_in files file
  left ← withdrawn references desk
  Known (AreRising left.0.held)
      (Print (with_effects effects desk left.0 left.1)
      ∷ Keep out (desk_file left.0.base left.0.held) ∷ [])

-- ---- what a desk holds

-- the texts of its messages; with flights or a span of dates, of those of which one sub-message is of
-- such a flight and has such a date; or a row of CSV for each such sub-message
abbrev pub texts : Option Files → Bool → SpanTexts → Text → List Text → Answer (List ℕ)
texts files csv span file words = do
  desk ← desk_in files file
  choice ← choice_in (airline_of desk.base.records) (dates_alone span) words
  Gives (printed_messages csv (has_end span) choice desk.held)

-- flights on a date, by number and then by suffix, each once, with an empty line between two
abbrev pub show : Option Files → Text → Text → List Text → Answer (List ℕ)
show files file flight words = do
  desk ← shown_in files file
  named ← flights_on (airline_of desk.base.records) flight words
  Gives (blocks (map (shown_on (airline_of desk.base.records) (timetable_of desk) named.1)
      (in_order named.0)))

-- what the data set has for flights on a date, and what each sub-message did with it; as lines or as
-- CSV
abbrev pub history : Option Files → Bool → Text → Text → List Text → Answer (List ℕ)
history files csv file flight words = do
  desk ← shown_in files file
  named ← flights_on (airline_of desk.base.records) flight words
  Gives (printed_history csv (airline_of desk.base.records) (itinerary desk.base.records)
      (steps_on desk) named.1 (in_order named.0))

-- which message acted last on each date of flights, by number and then by suffix, each once: by
-- periods, as lines or as CSV
abbrev pub blame : Option Files → Bool → Text → List Text → Answer (List ℕ)
blame files csv file words = do
  desk ← shown_in files file
  flights ← flights_named (airline_of desk.base.records) words
  Gives (if csv then blame_rows (airline_of desk.base.records) (blamed_among desk flights)
      else blame_lines (airline_of desk.base.records) (blamed_among desk flights))

-- what each sub-message found on its dates, or on those of a span: of all flights, or of those that
-- are named; all, or those alone that did not act on a date; as lines or as CSV
abbrev pub findings : Option Files → FindingsForm → SpanTexts → Text → List Text → Answer (List ℕ)
findings files form span file words = do
  desk ← desk_in files file
  choice ← choice_in (airline_of desk.base.records) (dates_alone span) words
  Gives (findings_lines form (has_end span) choice (lines_found (has_end span) choice desk))

-- the canonical export of what a desk has
abbrev pub export : Option Files → Text → Answer (List Act)
export files file = do
  desk ← desk_in files file
  prints (export_in desk.base.records (days_of_desk desk))

-- ---- timetables of desks or data sets

-- the canonical export of the chosen part of a timetable
abbrev pub select : Option Files → ChoiceTexts → Text → List Text → Answer (List Act)
select files words file flights = do
  desk ← timetable_in files file
  choice ← choice_in (airline_of desk.base.records) words flights
  prints (export_in desk.base.records (chosen_days choice (days_of_desk desk)))

-- The data set of a timetable in a time mode is kept, and the periods are printed that have no place
-- in it. The data set is read as itself.
abbrev pub convert : Option Files → ModeWord → Text → Text → Answer (List Act)
convert files mode file out = do
  place ← place_in files out kind.DataSet
  desk ← timetable_in files file
  made ← converted (mode_named mode) desk
  Known (ReadsAsItself made.0) (Keep out made.0 ∷ Print made.1 ∷ [])

-- The departures and arrivals at a station on a local date, or from one on. The airline and the time
-- mode are those of the carrier record.
abbrev pub board : Option Files → BoardForm → Text → Text → Text → Answer (List ℕ)
board files form file station date = do
  desk ← timetable_in files file
  here ← Require (is_station (typed station) ≡ true) (refused.Value value_fault.BadStation)
  day ← OrElse (typed_day date) (refused.Value value_fault.BadDate)
  carrier ← carrier_of desk.base.records
  Gives (printed_board form carrier.airline (days_of_desk desk)
      (record { station = typed station; day = day; mode = carrier.time_mode }))

-- the flights with the pieces of their dates, by number and then by suffix: all that fly on some
-- date if none is named, or else those that are named, each once
abbrev pub listed : List FlightNumber → (FlightNumber → Days) → List Divided
listed [] days = divided_flights days
listed (flight ∷ later) days = divided_among (flight ∷ later) days

-- the chosen part of a timetable in a form
abbrev pub list : Option Files → ListForm → ChoiceTexts → Text → List Text → Answer (List ℕ)
list files form words file flights = do
  desk ← timetable_in files file
  choice ← choice_in (airline_of desk.base.records) words flights
  Gives (printed_list form (airline_of desk.base.records)
      (listed choice.flights (chosen_days choice (days_of_desk desk))))

-- the calendars of the flights that are named, by number and then by suffix, each once, of their
-- chosen dates
abbrev pub calendar : Option Files → ChoiceTexts → Text → List Text → Answer (List ℕ)
calendar files words file flights = do
  desk ← timetable_in files file
  choice ← choice_in (airline_of desk.base.records) words flights
  Gives (calendars (airline_of desk.base.records) (chosen_days choice (days_of_desk desk))
      (in_order choice.flights))

-- what a file is: its kind, its carrier record, and how much it has
abbrev pub info : Option Files → Text → Answer (List ℕ)
info files file = do
  known ← known_in files file
  carrier ← carrier_of known.1.base.records
  Gives (info_lines known.0 carrier known.1)

-- the station table that the legs of a file say, with a line for each row as a desk file has it
abbrev pub stations : Option Files → Text → Answer (List ℕ)
stations files file = do
  desk ← timetable_in files file
  Gives (flat_map row_line (said_rows (timetable_of desk)))

-- whether a file is a desk file
abbrev pub is_desk : FileKind → Bool
is_desk file_kind.Desk = true
is_desk _ = false

-- the SQL script of a file: of its legs, its messages and what these found
abbrev pub sql : Option Files → Text → Answer (List ℕ)
sql files file = do
  known ← known_in files file
  carrier ← carrier_of known.1.base.records
  Gives (script_of carrier (is_desk known.0) known.1)

-- the airline, the season in columns 11 to 13, and the time mode of a carrier record
abbrev pub heading_of : CarrierFields → PageHeading
heading_of r = record {
  airline = r.airline;
  season = slice_range r.season 5 8;
  time_mode = r.time_mode;
}

-- the carrier records are of one airline (else 41) and one time mode (else 40)
abbrev pub compared : CarrierFields → CarrierFields → Answer (Unit {0})
compared mine theirs (Ok x) =
    (theirs.airline ≡ mine.airline) × (theirs.time_mode ≡ mine.time_mode)
compared mine theirs (Err why) =
    (fault : OutboxFault) × RefusesCarriers mine theirs fault × (why ≡ refused.Publication fault)

-- on which of the chosen dates the second desk differs from the first: those of which the itinerary of
-- one of the two is chosen; and whether there is such a date
abbrev pub differences : DiffForm → ChoiceTexts → List Text → DeskSeen → DeskSeen
    → Answer (List ℕ × Bool)
differences form words flights old new = do
  mine ← carrier_of old.base.records
  theirs ← carrier_of new.base.records
  same ← compared mine theirs
  choice ← choice_in mine.airline words flights
  Gives (reported_difference form mine.airline
      (chosen_side choice (days_of_desk old) (days_of_desk new) (days_of_desk old))
      (chosen_side choice (days_of_desk old) (days_of_desk new) (days_of_desk new)))

-- on which of the chosen dates two timetables differ, in a form, and whether they differ
abbrev pub diff : Option Files → DiffForm → ChoiceTexts → Text → Text → List Text
    → Answer (List ℕ × Bool)
diff files form words from to flights = do
  old ← timetable_in files from
  new ← timetable_in files to
  differences form words flights old new

-- The page of a desk under the heading of the carrier record: the flights that fly on some date, the
-- dates on which they differ from an earlier timetable, and the messages with what they found.
abbrev pub desk_page : CarrierFields → (FlightNumber → Days) → DeskSeen → List ℕ
desk_page carrier before desk =
    whole_page (heading_of carrier) (divided_flights (days_of_desk desk))
    (differing.differences before (days_of_desk desk))
    (message_articles desk.held (finding_lines desk))

-- the page of the second desk, with its changes from the first
abbrev pub changed_page : DeskSeen → DeskSeen → Answer (List ℕ)
changed_page old new = do
  mine ← carrier_of old.base.records
  theirs ← carrier_of new.base.records
  same ← compared mine theirs
  Gives (desk_page theirs (days_of_desk old) new)

-- The page of a timetable, with its changes from another one. If no other is named, they are those
-- from its own data set.
abbrev pub page : Option Files → Option Text → Text → Answer (List ℕ)
page files None file = do
  desk ← timetable_in files file
  carrier ← carrier_of desk.base.records
  Gives (desk_page carrier (days_of desk.base.records) desk)
page files (Some from) file = do
  old ← timetable_in files from
  new ← timetable_in files file
  changed_page old new

-- the lines and the mail by which the first desk is led to the second
abbrev pub published : DeskSeen → DeskSeen → Text → Answer (List ℕ × List ℕ)
published old new reference (Ok made) = Publishes old new reference made.0 made.1
published old new reference (Err why) = (fault : OutboxFault)
    × RefusesPublication old new reference fault × (why ≡ refused.Publication fault)

-- the messages that lead one timetable to another
abbrev pub publish : Option Files → Text → Text → Text → Text → Answer (List Act)
publish files from to reference out = do
  place ← place_in files out kind.Messages
  old ← timetable_in files from
  new ← timetable_in files to
  made ← published old new reference
  Gives (Print made.0 ∷ Keep out made.1 ∷ [])

-- ---- other commands

-- the lines of a script that is run on desks
abbrev pub rehearse : Option Files → Text → Text → Text → Answer (List ℕ)
rehearse files dataset stations script (Ok lines) =
    RehearsesFiles files dataset stations script lines
rehearse files dataset stations script (Err why) = RefusesLines files dataset stations script why

-- an explanation of the refusals of a number or a name, or of what is invalid in a file; and whether
-- something is
abbrev pub explain : Option Files → Text → Answer (List ℕ × Bool)
explain files word (Ok report) = Explains files word report.0 report.1
explain files word (Err why) = RefusesExplain files word why

-- ---- all

-- what each command does
abbrev pub answers : Line → Option Files → Answer (List Act)
answers (Check name) files = prints (check files name)
answers (Problems form name) files = reports form.status (problems files form.csv name)
answers (Tidy name) files = tidy files name
answers (Start notes dataset stations out) files = start files notes dataset stations out
answers (Take effects file out names) files = take files effects file out names
answers (Receive refused form file out names) files =
    receive files refused form file out names
answers (Merge effects since file other out) files =
    merge_either files effects since file other out
answers (Carry effects file other out) files = carry files effects file other out
answers (Withdraw effects file out references) files =
    withdraw files effects file out references
answers (Texts csv span file flights) files = prints (texts files csv span file flights)
answers (Show file flight words) files = prints (show files file flight words)
answers (History csv file flight words) files = prints (history files csv file flight words)
answers (Blame csv file flights) files = prints (blame files csv file flights)
answers (Board form file station date) files = prints (board files form file station date)
answers (Listing form words file flights) files = prints (list files form words file flights)
answers (Calendar words file flights) files = prints (calendar files words file flights)
answers (Info file) files = prints (info files file)
answers (Stations file) files = prints (stations files file)
answers (Sql file) files = prints (sql files file)
answers (Page from file) files = prints (page files from file)
answers (Diff form words from to flights) files =
    reports form.status (diff files form words from to flights)
answers (Publish from to reference out) files = publish files from to reference out
answers (Findings form span file flights) files =
    prints (findings files form span file flights)
answers (Export file) files = export files file
answers (Select choice file flights) files = select files choice file flights
answers (Convert mode file out) files = convert files mode file out
answers (Split dataset prefix) files = split files dataset prefix
answers (Rehearse dataset stations script) files = prints (rehearse files dataset stations script)
answers (Explain status word) files = reports status (explain files word)
