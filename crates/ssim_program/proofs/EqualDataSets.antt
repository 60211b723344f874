-- What commands print of equal data sets.
use Rattle.std.proofs.Common.{◌≡◌, ◌∙◌, ◌⊎◌, inl, inr, ℕ, Bool, true, List, [], ◌∷◌, ◌++◌, Option, Some}
use Rattle.std.proofs.Common.{None, Ok, Err, length, nat_lt, refl, sym, ap, ap₂, subst}
use Rattle.std.specs.Prelude.{All, codes, if◌then◌else◌}
use Rattle.std.specs.List.{flat_map}
use Rattle.ssim_values.specs.Flight.{FlightNumber}
use Rattle.ssim_values.specs.Station.{is_station}
use Rattle.ssim_values.specs.declared.designator.Designator.{Designator}
use Rattle.ssim_values.specs.declared.fault.Fault.TheVariants as value_fault
use Rattle.ssim_values.specs.declared.time_mode.TimeMode.{TimeMode}
use Rattle.ssim_records.specs.Carrier.{CarrierFields}
use Rattle.ssim_records.specs.Frames.{FramesAreOne}
use Rattle.ssim_records.specs.declared.record.Record.{Record}
use Rattle.ssim_records.specs.declared.record.Record.TheVariants.{Header, Carrier}
use Rattle.ssim_words.proofs.OneFlight.{name_once, names_one}
use Rattle.ssim_words.specs.Date.{typed_day}
use Rattle.ssim_words.specs.Flight.{NameEach, NamesFlight}
use Rattle.ssim_words.specs.Typed.{typed}
use Rattle.ssim_text.specs.Reference.{OneReference}
use Rattle.ssim_base.specs.Base.{airline_of}
use Rattle.ssim_base.specs.BaseSeen.{AreFlights, BaseSeen}
use Rattle.ssim_base.specs.Export.{ExportRefusal, Frame, chapter7, line}
use Rattle.ssim_base.specs.Export as refusal
use Rattle.ssim_base.specs.Problems.{SameBytesSameProblems}
use Rattle.ssim_base.specs.Reading.{SameBytesSameBase}
use Rattle.ssim_base.specs.Timetable.{Days, days_of, itinerary}
use Rattle.ssim_base.specs.declared.fault.BaseFault.{BaseFault}
use Rattle.ssim_base.specs.declared.note.Note.{Note}
use Rattle.ssim_base.specs.declared.problems.Problems.{Problems}
use Rattle.ssim_schedule.specs.declared.export.ExportFault.{ExportFault}
use Rattle.ssim_schedule.specs.declared.export.ExportFault.TheVariants as export
use Rattle.ssim_held.specs.Entries.{DeskSeen, Entry, map_of}
use Rattle.ssim_held.specs.File.{NoTwoDesks}
use Rattle.ssim_desk.specs.DateSteps.{steps_on}
use Rattle.ssim_desk.specs.Desk.{days_of_desk, entry_lines}
use Rattle.ssim_desk.specs.Meaning.{found_by, left_by}
use Rattle.ssim_board.specs.InOrder.{board_of}
use Rattle.ssim_board.specs.Lines.{board_lines}
use Rattle.ssim_board.specs.declared.board.Board.{Board as StationBoard}
use Rattle.ssim_outbox.specs.Comparable.{RefusesCarriers}
use Rattle.ssim_outbox.specs.declared.fault.OutboxFault.{OutboxFault}
use Rattle.ssim_command_line.specs.Line.{Text, Texts, Withdraw, Show, History, Board}
use Rattle.ssim_command_line.specs.Line.{Check, Findings, Export, Page}
use Rattle.ssim_command_line.specs.Line.{Problems as ProblemsOf, Tidy}
use Rattle.ssim_command_line.specs.declared.command_line.ProblemsForm.{ProblemsForm}
use Rattle.ssim_program.specs.Acts.{Act, Print, printed_by, prints}
use Rattle.ssim_program.specs.Answer.{Answer, Finds, Gives, OneOr, OrElse, Require, ◌>>=◌}
use Rattle.ssim_program.specs.Answers.{compared, desk_page}
use Rattle.ssim_program.specs.Desks.{desk_in, other_airline}
use Rattle.ssim_program.specs.EqualFiles.{AreAlike, AreOneRefusal, DoesTheSame, DoesTheSameOfPairs}
use Rattle.ssim_program.specs.EqualFiles.{PrintTheSame, PrintsTheSame}
use Rattle.ssim_program.specs.Exports.{HasNoExport, RefusesExport, export_in}
use Rattle.ssim_program.specs.Files.{Files}
use Rattle.ssim_program.specs.Made.{AreLinesOn, IsExport, data_set_in, has_problem, problem_line, problem_lines}
use Rattle.ssim_program.specs.Made.{problem_row, problem_rows}
use Rattle.ssim_program.specs.Made.{problems_in, summary_lines}
use Rattle.ssim_program.specs.Messages.{IsOf, message_texts, messages_on}
use Rattle.ssim_program.specs.Offices.{IsSameFile}
use Rattle.ssim_program.specs.Timetables.{HasCarrier, carrier_of, shown_in, timetable_in}
use Rattle.ssim_program.specs.Withdrawing.{Withdraws}
use Rattle.ssim_program.specs.print.PrintedLine.{printed_text}
use Rattle.ssim_program.specs.print.Refusal.{IsMemory, refusal_number}
use Rattle.ssim_program.specs.print.Shown.{findings_lines, history_lines, shown_flight}
use Rattle.ssim_program.specs.declared.print.printed_line.PrintedLine.TheVariants as printed_line
use Rattle.ssim_program.specs.declared.refusal.Refusal.{Refusal}
use Rattle.ssim_program.specs.declared.refusal.Refusal.TheVariants as refused
use Rattle.ssim_program.proofs.Again.{one_export, one_frame}
use Rattle.ssim_program.proofs.Alike.{Equal, Nothing, finds_alike, gives_alike, one_or_alike}
use Rattle.ssim_program.proofs.Alike.{or_else_alike, prints_alike, reports_alike, require_alike, then_alike}
use Rattle.ssim_program.proofs.OneCount.{one_count}
use Rattle.ssim_program.proofs.Origins.{same_some}
use Rattle.ssim_program.proofs.SameReading.{SameDesk, data_set_alike, desk_alike, problems_alike}
use Rattle.ssim_program.proofs.SameReading.{shown_alike, timetable_alike}
use Rattle.ssim_program.proofs.Withdrawing.{printed_once}
use Rattle.ssim_program.proofs.EqualFiles.{exports_alike}

-- ---- data sets

module _ (frames : FramesAreOne) (one_base : SameBytesSameBase) where
  pub tidy_alike : DoesTheSame Tidy
  tidy_alike files others name another same =
      then_alike (λ set that. (set.0 ≡ that.0) × (set.1 ≡ that.1)) PrintTheSame
      (data_set_in (Some files) name) (data_set_in (Some others) another)
      (λ set. prints (export_in set.0 (days_of set.0)))
      (λ set. prints (export_in set.0 (days_of set.0)))
      (data_set_alike files others name another same frames one_base)
      (λ set that equal. exports_alike set.0 that.0 (days_of set.0) (days_of that.0) equal.0
      (ap days_of equal.0))

  check_lines : (records : List Record) (notes : List Note) (lines more : List ℕ)
      → AreLinesOn records notes lines → AreLinesOn records notes more → lines ≡ more
  check_lines records notes lines more (flights, counted, is) (those, counted_too, are) =
      is ∙ ap (λ (fs : List FlightNumber). summary_lines (length records) (length fs) notes)
      (one_count records flights those counted counted_too) ∙ sym are

  pub check_alike : DoesTheSame Check
  check_alike files others name another same =
      let mine = data_set_in (Some files) name in
      let theirs = data_set_in (Some others) another in
      let next : List Record × List Note → Answer (List ℕ) = λ set. Finds (AreLinesOn set.0 set.1) in
      prints_alike (mine >>= next) (theirs >>= next)
      (then_alike (λ set that. (set.0 ≡ that.0) × (set.1 ≡ that.1)) Equal mine theirs next next
      (data_set_alike files others name another same frames one_base)
      (λ set that equal. finds_alike (AreLinesOn set.0 set.1) (AreLinesOn that.0 that.1)
      (λ lines more is are. check_lines that.0 that.1 lines more
      (subst (λ (ns : List Note). AreLinesOn that.0 ns lines) equal.1
      (subst (λ (rs : List Record). AreLinesOn rs set.1 lines) equal.0 is)) are)))

-- the lines of some problems of a number of records, or their rows of CSV
abbrev lines_of : Bool → ℕ → List BaseFault → List ℕ
lines_of csv records faults =
    if csv then line (codes "number,name,record,column") ++ flat_map problem_row faults
    else flat_map problem_line faults ++ line
    (printed_text (printed_line.ProblemCount records (length faults)))

pub problems_same : SameBytesSameProblems → (form : ProblemsForm) → DoesTheSame (ProblemsOf form)
problems_same one form files others name another same =
    let mine = problems_in (Some files) name in
    let theirs = problems_in (Some others) another in
    let report : Problems → List ℕ × Bool =
    λ p. (if form.csv then problem_rows p else problem_lines p, has_problem p) in
    let next : Problems → Answer (List ℕ × Bool) = λ found. Gives (report found) in
    reports_alike form.status (mine >>= next) (theirs >>= next)
    (then_alike (λ p q. (p.records ≡ q.records) × (p.faults.items ≡ q.faults.items)) Equal mine theirs
    next next (problems_alike files others name another same one)
    (λ p q equal. gives_alike (report p) (report q)
    (ap₂ (λ (n : ℕ) (fs : List BaseFault). (lines_of form.csv n fs, nat_lt 0 (length fs))) equal.0
    equal.1)))
