-- Equal files are read as one value, and what a command makes of it has one outcome. So what it prints
-- is the same, or its refusal is.
use Rattle.std.proofs.Common.{false, ◌≡◌, ◌∙◌, ◌⊎◌, inl, inr, ℕ, Bool, true, List, [], ◌∷◌, ◌++◌, Option}
use Rattle.std.proofs.Common.{Some}
use Rattle.std.proofs.Common.{None, Ok, Err, length, map, refl, sym, ap, ap₂, subst}
use Rattle.std.specs.Prelude.{All}
use Rattle.std.specs.List.{flat_map}
use Rattle.ssim_values.specs.Flight.{FlightNumber}
use Rattle.ssim_values.specs.Station.{is_station}
use Rattle.ssim_values.specs.declared.designator.Designator.{Designator}
use Rattle.ssim_values.specs.declared.fault.Fault.TheVariants as value_fault
use Rattle.ssim_values.specs.declared.time_mode.TimeMode.{TimeMode}
use Rattle.ssim_records.specs.Carrier.{CarrierFields}
use Rattle.ssim_records.specs.Frames.{FramesAreOne}
use Rattle.ssim_records.specs.declared.record.Record.{Record}
use Rattle.ssim_records.specs.declared.record.Record.TheVariants.{Header, Carrier}
use Rattle.ssim_words.proofs.OneFlight.{name_once}
use Rattle.ssim_words.specs.Date.{typed_day}
use Rattle.ssim_words.specs.Flight.{NameEach}
use Rattle.ssim_words.specs.Typed.{typed}
use Rattle.ssim_text.specs.Reference.{OneReference}
use Rattle.ssim_base.specs.Base.{airline_of}
use Rattle.ssim_base.specs.BaseSeen.{AreFlights, BaseSeen}
use Rattle.ssim_base.specs.Export.{ExportRefusal, Frame, chapter7, line}
use Rattle.ssim_base.specs.Export as refusal
use Rattle.ssim_base.specs.Problems.{SameBytesSameProblems}
use Rattle.ssim_base.specs.Reading.{SameBytesSameBase}
use Rattle.ssim_base.specs.Timetable.{Days, days_of, itinerary}
use Rattle.ssim_base.specs.declared.fault.BaseFault.{BaseFault}
use Rattle.ssim_base.specs.declared.note.Note.{Note}
use Rattle.ssim_base.specs.declared.problems.Problems.{Problems}
use Rattle.ssim_schedule.specs.declared.export.ExportFault.{ExportFault}
use Rattle.ssim_schedule.specs.declared.export.ExportFault.TheVariants as export
use Rattle.ssim_held.specs.Entries.{DeskSeen, Entry, map_of}
use Rattle.ssim_held.specs.File.{NoTwoDesks, row_line}
use Rattle.ssim_schedule.specs.FlightPieces.{in_order}
use Rattle.ssim_desk.specs.DateSteps.{steps_on}
use Rattle.ssim_desk.specs.Desk.{days_of_desk, entry_lines, timetable_of}
use Rattle.ssim_desk.specs.Meaning.{found_by, left_by}
use Rattle.ssim_board.specs.declared.board.Board.{Board as StationBoard}
use Rattle.ssim_overview.specs.SaidRows.{said_rows}
use Rattle.ssim_outbox.specs.Comparable.{RefusesCarriers}
use Rattle.ssim_outbox.specs.declared.fault.OutboxFault.{OutboxFault}
use Rattle.ssim_command_line.specs.Line.{Text, Texts, Withdraw, Show, History, Board}
use Rattle.ssim_command_line.specs.Line.{Check, Findings, Export, Info, Page, Stations}
use Rattle.ssim_command_line.specs.Line.{Problems as ProblemsOf, Tidy}
use Rattle.ssim_command_line.specs.declared.board_form.BoardForm.{BoardForm}
use Rattle.ssim_program.specs.Acts.{Act, Print, printed_by, prints}
use Rattle.ssim_program.specs.Answer.{Answer, Finds, Gives, OneOr, OrElse, Require, ◌>>=◌}
use Rattle.ssim_program.specs.Answers.{compared, desk_page}
use Rattle.ssim_program.specs.Desks.{desk_in, other_airline}
use Rattle.ssim_program.specs.EqualFiles.{AreAlike, AreOneRefusal, DoesTheSame, DoesTheSameOfPairs}
use Rattle.ssim_program.specs.EqualFiles.{PrintTheSame, PrintsTheSame}
use Rattle.ssim_program.specs.Exports.{HasNoExport, RefusesExport, export_in}
use Rattle.ssim_program.specs.Files.{Files}
use Rattle.ssim_program.specs.Made.{AreLinesOn, IsExport, data_set_in, problem_line, problem_lines}
use Rattle.ssim_program.specs.Made.{problems_in, summary_lines}
use Rattle.ssim_program.specs.Messages.{IsOf, but_last, flights_on, last_of, message_texts}
use Rattle.ssim_program.specs.Messages.{messages_on}
use Rattle.ssim_program.specs.Offices.{IsSameFile}
use Rattle.ssim_program.specs.Timetables.{HasCarrier, carrier_of, known_in, shown_in, timetable_in}
use Rattle.ssim_program.specs.Withdrawing.{Withdraws}
use Rattle.ssim_program.specs.print.Board.{printed_board}
use Rattle.ssim_program.specs.print.Info.{info_lines}
use Rattle.ssim_program.specs.print.PrintedLine.{printed_text}
use Rattle.ssim_program.specs.print.Refusal.{IsMemory, refusal_number}
use Rattle.ssim_program.specs.print.Blocks.{blocks}
use Rattle.ssim_program.specs.print.HistoryRows.{printed_history}
use Rattle.ssim_program.specs.print.Shown.{findings_lines, shown_on}
use Rattle.ssim_program.specs.declared.explain.file_kind.FileKind.{FileKind}
use Rattle.ssim_program.specs.declared.explain.file_kind.FileKind.TheVariants as kind
use Rattle.ssim_program.specs.declared.print.printed_line.PrintedLine.TheVariants as printed_line
use Rattle.ssim_program.specs.declared.refusal.Refusal.{Refusal}
use Rattle.ssim_program.specs.declared.refusal.Refusal.TheVariants as refused
use Rattle.ssim_program.proofs.Again.{one_export, one_frame}
use Rattle.ssim_program.proofs.Alike.{Equal, Nothing, finds_alike, gives_alike, one_or_alike}
use Rattle.ssim_program.proofs.Alike.{or_else_alike, prints_alike, require_alike, then_alike}
use Rattle.ssim_program.proofs.OneCount.{one_count}
use Rattle.ssim_program.proofs.Origins.{same_some}
use Rattle.ssim_program.proofs.SameReading.{SameDesk, SameKnown, data_set_alike, desk_alike, known_alike}
use Rattle.ssim_program.proofs.SameReading.{problems_alike, shown_alike, timetable_alike}
use Rattle.ssim_program.proofs.Withdrawing.{printed_once}

-- ---- words

-- flights of one airline and a date, from the flights on
abbrev on_day : List ℕ → List Designator → ℕ → Answer (List FlightNumber × ℕ)
on_day airline flights day = do
  here ← Require (All (IsOf airline) flights) other_airline
  Gives (map (λ d. d.flight) flights, day)

abbrev on_date : List ℕ → Text → List Designator → Answer (List FlightNumber × ℕ)
on_date airline date flights =
    OrElse (typed_day date) (refused.Value value_fault.BadDate) >>= on_day airline flights

on_day_alike : (airline : List ℕ) (flights : List Designator) (day other : ℕ) → day ≡ other
    → AreAlike Equal (on_day airline flights day) (on_day airline flights other)
on_day_alike airline flights day other same =
    let numbers = map (λ d. d.flight) flights in
    then_alike Nothing Equal (Require (All (IsOf airline) flights) other_airline)
    (Require (All (IsOf airline) flights) other_airline) (λ here. Gives (numbers, day))
    (λ here. Gives (numbers, other))
    (require_alike (All (IsOf airline) flights) other_airline)
    (λ x y both. gives_alike (numbers, day) (numbers, other) (ap (λ (n : ℕ). (numbers, n)) same))

on_date_alike : (airline : List ℕ) (date : Text) (flights others : List Designator)
    → flights ≡ others
    → AreAlike Equal (on_date airline date flights) (on_date airline date others)
on_date_alike airline date flights others same =
    subst (λ (ds : List Designator).
    AreAlike Equal (on_date airline date flights) (on_date airline date ds)) same
    (then_alike Equal Equal (OrElse (typed_day date) (refused.Value value_fault.BadDate))
    (OrElse (typed_day date) (refused.Value value_fault.BadDate)) (on_day airline flights)
    (on_day airline flights)
    (or_else_alike (typed_day date) (refused.Value value_fault.BadDate))
    (on_day_alike airline flights))

abbrev named_on : List ℕ → Text → List Text → Unit {0} → Answer (List FlightNumber × ℕ)
named_on airline word words room =
    OneOr (NameEach airline (but_last word words)) (refused.Value value_fault.BadDesignator)
    >>= on_date airline (last_of word words)

date_alike : (airline other : List ℕ) (word : Text) (words : List Text) → airline ≡ other
    → AreAlike Equal (flights_on airline word words) (flights_on other word words)
date_alike airline other word words same =
    let named : Answer (List Designator) =
    OneOr (NameEach airline (but_last word words)) (refused.Value value_fault.BadDesignator) in
    subst (λ (a : List ℕ). AreAlike Equal (flights_on airline word words)
    (flights_on a word words)) same
    (then_alike Equal Equal (Gives (tt {0})) (Gives (tt {0})) (named_on airline word words)
    (named_on airline word words) (gives_alike (tt {0}) (tt {0}) refl)
    (λ x y both. then_alike Equal Equal named named
    (on_date airline (last_of word words)) (on_date airline (last_of word words))
    (one_or_alike (NameEach airline (but_last word words))
    (refused.Value value_fault.BadDesignator) (name_once airline (but_last word words)))
    (on_date_alike airline (last_of word words))))

-- ---- carrier records

abbrev carrier_in : CarrierFields → List Record → CarrierFields
carrier_in other (Header header ∷ Carrier carrier ∷ later) = carrier
carrier_in other _ = other

pub carrier_alike : (base other : List Record) → base ≡ other
    → AreAlike Equal (carrier_of base) (carrier_of other)
carrier_alike base other same =
    finds_alike (HasCarrier base) (HasCarrier other)
    (λ carrier that (header, later, is) (head, rest, are). ap (carrier_in carrier) (sym is ∙ same
    ∙ are))

-- carrier records have one refusal
one_carriers : (mine theirs : CarrierFields) (fault other : OutboxFault)
    → RefusesCarriers mine theirs fault → RefusesCarriers mine theirs other → fault ≡ other
one_carriers mine theirs fault other (inl p) (inl q) = p.0 ∙ sym q.0
one_carriers mine theirs fault other (inl p) (inr q) = absurd (p.1 q.1)
one_carriers mine theirs fault other (inr p) (inl q) = absurd (q.1 p.1)
one_carriers mine theirs fault other (inr p) (inr q) = p.0 ∙ sym q.0

not_alike : (mine theirs : CarrierFields) (fault : OutboxFault) → theirs.airline ≡ mine.airline
    → theirs.time_mode ≡ mine.time_mode → RefusesCarriers mine theirs fault → ⊥
not_alike mine theirs fault airline mode (inl p) = p.1 airline
not_alike mine theirs fault airline mode (inr p) = p.2 mode

compared_alike : (mine theirs : CarrierFields)
    → AreAlike Nothing (compared mine theirs) (compared mine theirs)
compared_alike mine theirs = record {
  values = λ x y p q. tt;
  refusals =
      λ why that (fault, p, is) (other, q, are). inr
      (inr (inl (is ∙ ap refused.Publication (one_carriers mine theirs fault other p q)
      ∙ sym are)));
  first = λ x that p (fault, q, are). absurd (not_alike mine theirs fault p.0 p.1 q);
  second = λ why y (fault, p, is) q. absurd (not_alike mine theirs fault q.0 q.1 p);
}

-- ---- exports

export_refusal : (base : List Record) (days : FlightNumber → Days) (fault : ExportFault)
    (bytes : List ℕ) → HasNoExport base days fault → IsExport base days bytes → fault ≡ export.Memory
export_refusal base days (export.Variations flight) bytes none is =
    let frame = one_frame is.0 none.0 base is.1 none.1 in
    let both : Ok bytes ≡ Err (refusal.Variations flight) =
    sym is.2 ∙ ap (λ (f : Frame). chapter7 f days) frame ∙ none.2 in absurd cc
export_refusal base days export.Records bytes none is =
    let frame = one_frame is.0 none.0 base is.1 none.1 in
    let both : Ok bytes ≡ Err refusal.Records = sym is.2 ∙ ap (λ (f : Frame). chapter7 f days) frame
    ∙ none.2 in absurd cc
export_refusal base days export.WriteFault bytes none is = absurd none
export_refusal base days export.Memory bytes none is = refl

-- the export of some days is refused for one reason, but for memory
one_refusal : (base : List Record) (days : FlightNumber → Days) (fault other : ExportFault)
    → HasNoExport base days fault → HasNoExport base days other → (fault ≡ export.Memory)
    ⊎ (other ≡ export.Memory) ⊎ (fault ≡ other)
one_refusal base days export.WriteFault other p q = absurd p
one_refusal base days export.Memory other p q = inl refl
one_refusal base days (export.Variations flight) export.WriteFault p q = absurd q
one_refusal base days (export.Variations flight) export.Memory p q = inr (inl refl)
one_refusal base days (export.Variations flight) (export.Variations other) p q =
    let frame = one_frame p.0 q.0 base p.1 q.1 in
    let both : Err (refusal.Variations flight) ≡ Err (refusal.Variations other) =
    sym p.2 ∙ ap (λ (f : Frame). chapter7 f days) frame ∙ q.2 in
    let same : flight ≡ other = cc in inr (inr (ap export.Variations same))
one_refusal base days (export.Variations flight) export.Records p q =
    let frame = one_frame p.0 q.0 base p.1 q.1 in
    let both : Err (refusal.Variations flight) ≡ Err refusal.Records =
    sym p.2 ∙ ap (λ (f : Frame). chapter7 f days) frame ∙ q.2 in absurd cc
one_refusal base days export.Records export.WriteFault p q = absurd q
one_refusal base days export.Records export.Memory p q = inr (inl refl)
one_refusal base days export.Records (export.Variations other) p q =
    let frame = one_frame p.0 q.0 base p.1 q.1 in
    let both : Err refusal.Records ≡ Err (refusal.Variations other) =
    sym p.2 ∙ ap (λ (f : Frame). chapter7 f days) frame ∙ q.2 in absurd cc
one_refusal base days export.Records export.Records p q = inr (inr refl)

of_memory : (base : List Record) (fault : ExportFault) (why : Refusal)
    → why ≡ refused.Export (airline_of base) fault → fault ≡ export.Memory → IsMemory why
of_memory base fault why is memory =
    ap refusal_number (is ∙ ap (refused.Export (airline_of base)) memory)

pub export_in_alike : (base : List Record) (days : FlightNumber → Days)
    → AreAlike Equal (export_in base days) (export_in base days)
export_in_alike base days = record {
  values = one_export base days;
  refusals =
      λ why that (fault, p, is) (other, q, are). by why that fault other is are
      (one_refusal base days fault other p q);
  first = λ bytes that is (fault, q, are). of_memory base fault that are
      (export_refusal base days fault bytes q is);
  second = λ why bytes (fault, p, is) are. of_memory base fault why is
      (export_refusal base days fault bytes p are);
}
  where
    by : (why that : Refusal) (fault other : ExportFault)
        → why ≡ refused.Export (airline_of base) fault → that ≡ refused.Export (airline_of base) other
        → (fault ≡ export.Memory) ⊎ (other ≡ export.Memory) ⊎ (fault ≡ other) → AreOneRefusal why that
    by why that fault other is are (inl memory) = inl (of_memory base fault why is memory)
    by why that fault other is are (inr (inl memory)) =
        inr (inl (of_memory base other that are memory))
    by why that fault other is are (inr (inr same)) =
        inr (inr (inl (is ∙ ap (refused.Export (airline_of base)) same ∙ sym are)))

pub exports_alike : (base other : List Record) (days those : FlightNumber → Days) → base ≡ other
    → days ≡ those
    → AreAlike PrintTheSame (prints (export_in base days)) (prints (export_in other those))
exports_alike base other days those same same_days =
    prints_alike (export_in base days) (export_in other those)
    (subst (λ (ds : FlightNumber → Days). AreAlike Equal (export_in base days) (export_in other ds))
    same_days
    (subst (λ (b : List Record). AreAlike Equal (export_in base days) (export_in b days)) same
    (export_in_alike base days)))

-- ---- desk files

-- a desk, whatever its latest change applied
abbrev pub seen : BaseSeen → List Entry → DeskSeen
seen base held = record { base = base; held = held; applied = 0 }

-- the lines that are made of flights on a date
abbrev dated : (DeskSeen → List FlightNumber × ℕ → List ℕ) → Text → List Text → DeskSeen
    → Answer (List ℕ)
dated lines word words desk = do
  named ← flights_on (airline_of desk.base.records) word words
  Gives (lines desk named)

abbrev shown_lines : DeskSeen → List FlightNumber × ℕ → List ℕ
shown_lines desk named =
    blocks (map (shown_on (airline_of desk.base.records) (left_by desk.base desk.held) named.1)
    (in_order named.0))

abbrev lines_of_history : Bool → DeskSeen → List FlightNumber × ℕ → List ℕ
lines_of_history csv desk named =
    printed_history csv (airline_of desk.base.records) (itinerary desk.base.records)
    (steps_on desk) named.1 (in_order named.0)

abbrev export_of : DeskSeen → Answer (List Act)
export_of desk = prints (export_in desk.base.records (days_of_desk desk))

pub airlines_same : (desk other : DeskSeen) → SameDesk desk other
    → airline_of desk.base.records ≡ airline_of other.base.records
airlines_same desk other one = ap (λ (b : BaseSeen). airline_of b.records) one.0

module _ (no_two : NoTwoDesks) where
  pub export_alike : DoesTheSame Export
  export_alike files others name another same =
      let days : DeskSeen → FlightNumber → Days = days_of_desk in
      then_alike SameDesk PrintTheSame (desk_in (Some files) name) (desk_in (Some others) another)
      export_of export_of (desk_alike files others name another same no_two)
      (λ desk other one. exports_alike desk.base.records other.base.records (days desk) (days other)
      (ap (λ (b : BaseSeen). b.records) one.0) (λ i. days (seen (one.0 i) (one.1 i))))

  pub withdraw_same : OneReference → (out : Text) (references : List Text)
      → PrintsTheSame (λ file. Withdraw false file out references)
  withdraw_same one_each out words files others name another acts again same
      (_, may, (desk, read, (left, is, (rising, all))))
      (_, may_too, (other, reads, (last, are, (rising_too, all_too)))) =
      let one = (desk_alike files others name another same no_two).values desk other read reads in
      let lines : left.1 ≡ last.1 =
      printed_once one_each words (map_of other.held) (map_of left.0.held) (map_of last.0.held)
      left.1 last.1
      (subst (λ (es : List Entry). Withdraws words (map_of es) (map_of left.0.held) left.1) one.1
      is.withdraws) are.withdraws in
      ap printed_by all ∙ ap (λ (bs : List ℕ). bs ++ []) lines ∙ sym (ap printed_by all_too)

-- ---- timetables

abbrev board_at : TimeMode → List ℕ → ℕ → StationBoard
board_at mode station day = record { station = station; day = day; mode = mode }

abbrev lines_on : BoardForm → List ℕ → DeskSeen → ℕ → CarrierFields → List ℕ
lines_on form station desk day carrier =
    printed_board form carrier.airline (days_of_desk desk) (board_at carrier.time_mode station day)

abbrev board_on : BoardForm → List ℕ → DeskSeen → ℕ → Answer (List ℕ)
board_on form station desk day = do
  carrier ← carrier_of desk.base.records
  Gives (lines_on form station desk day carrier)

abbrev board_dated : BoardForm → Text → Text → DeskSeen → Unit {0} → Answer (List ℕ)
board_dated form station date desk here =
    OrElse (typed_day date) (refused.Value value_fault.BadDate) >>= board_on form (typed station) desk

abbrev board_of_desk : BoardForm → Text → Text → DeskSeen → Answer (List ℕ)
board_of_desk form station date desk =
    Require (is_station (typed station) ≡ true) (refused.Value value_fault.BadStation) >>= board_dated
    form station date desk

abbrev page_of : DeskSeen → Answer (List ℕ)
page_of desk = do
  carrier ← carrier_of desk.base.records
  Gives (desk_page carrier (days_of desk.base.records) desk)

-- what is made of two desks and their carrier records
abbrev pub Made : Type 0 → Type 1
Made A = DeskSeen → DeskSeen → CarrierFields → CarrierFields → Answer A

-- what is made of equal ones is alike
abbrev pub IsOfDesks : {A : Type 0} → Made A → Type 0
IsOfDesks made =
    (old first new second : DeskSeen) → SameDesk old first → SameDesk new second
    → (mine ours theirs others : CarrierFields) → mine ≡ ours → theirs ≡ others
    → AreAlike Equal (made old new mine theirs) (made first second ours others)

-- what is made of two timetables, from the comparison of the carrier records on
abbrev pub made_between : {A : Type 0} → Made A → DeskSeen → DeskSeen → CarrierFields → CarrierFields
    → Unit {0} → Answer A
made_between made old new mine theirs same = made old new mine theirs

abbrev pub between : {A : Type 0} → Made A → DeskSeen → DeskSeen → CarrierFields → CarrierFields
    → Answer A
between made old new mine theirs = compared mine theirs >>= made_between made old new mine theirs

abbrev pub from_carrier : {A : Type 0} → Made A → DeskSeen → DeskSeen → CarrierFields → Answer A
from_carrier made old new mine = carrier_of new.base.records >>= between made old new mine

abbrev pub of_desks : {A : Type 0} → Made A → DeskSeen → DeskSeen → Answer A
of_desks made old new = carrier_of old.base.records >>= from_carrier made old new

abbrev pub to_new : {A : Type 0} → Made A → Files → Text → DeskSeen → Answer A
to_new made files to old = timetable_in (Some files) to >>= of_desks made old

abbrev changed_lines : DeskSeen → DeskSeen → CarrierFields → List ℕ
changed_lines old new theirs = desk_page theirs (days_of_desk old) new

abbrev changed : Made (List ℕ)
changed old new mine theirs = Gives (changed_lines old new theirs)

-- what is said of a file hangs on the base and the messages of its desk alone
seen_lines : (k : FileKind) (carrier : CarrierFields) (desk : DeskSeen)
    → info_lines k carrier desk ≡ info_lines k carrier (seen desk.base desk.held)
seen_lines kind.Desk carrier desk = refl
seen_lines kind.DataSet carrier desk = refl
seen_lines kind.Script carrier desk = refl
seen_lines kind.Message carrier desk = refl
seen_lines kind.Stations carrier desk = refl

-- the station table that a desk's timetable says
abbrev table_lines : DeskSeen → List ℕ
table_lines desk = flat_map row_line (said_rows (timetable_of desk))

abbrev info_of : FileKind × DeskSeen → Answer (List ℕ)
info_of known =
    carrier_of known.1.base.records >>= (λ carrier. Gives (info_lines known.0 carrier known.1))

pub records_same : (desk other : DeskSeen) → SameDesk desk other
    → desk.base.records ≡ other.base.records
records_same desk other one = ap (λ (b : BaseSeen). b.records) one.0

module _ (frames : FramesAreOne) (one_base : SameBytesSameBase) (no_two : NoTwoDesks) where
  -- what is made of the timetables of equal files is alike
  pub of_timetables : (next : DeskSeen → Answer (List ℕ))
      → ((desk other : DeskSeen) → SameDesk desk other → AreAlike Equal (next desk) (next other))
      → (files others : Files) (name another : Text) → IsSameFile files name others another
      → AreAlike PrintTheSame (prints (timetable_in (Some files) name >>= next))
      (prints (timetable_in (Some others) another >>= next))
  of_timetables next on files others name another same =
      let mine = timetable_in (Some files) name in
      let theirs = timetable_in (Some others) another in
      prints_alike (mine >>= next) (theirs >>= next)
      (then_alike SameDesk Equal mine theirs next next
      (timetable_alike files others name another same frames one_base no_two) on)

  -- what is made of a flight on a date of equal files is alike
  of_shown : (lines : DeskSeen → List FlightNumber × ℕ → List ℕ)
      → ((desk other : DeskSeen) (named that : List FlightNumber × ℕ) → SameDesk desk other
      → named ≡ that → lines desk named ≡ lines other that)
      → (word : Text) (words : List Text) (files others : Files) (name another : Text)
      → IsSameFile files name others another
      → AreAlike PrintTheSame (prints (shown_in (Some files) name >>= dated lines word words))
      (prints (shown_in (Some others) another >>= dated lines word words))
  of_shown lines are word words files others name another same =
      let mine = shown_in (Some files) name in
      let theirs = shown_in (Some others) another in
      let next = dated lines word words in
      prints_alike (mine >>= next) (theirs >>= next)
      (then_alike SameDesk Equal mine theirs next next
      (shown_alike files others name another same frames one_base no_two)
      (λ desk other one. then_alike Equal Equal
      (flights_on (airline_of desk.base.records) word words)
      (flights_on (airline_of other.base.records) word words) (λ named. Gives (lines desk named))
      (λ named. Gives (lines other named))
      (date_alike (airline_of desk.base.records) (airline_of other.base.records) word words
      (airlines_same desk other one))
      (λ named that both. gives_alike (lines desk named) (lines other that)
      (are desk other named that one both))))

  pub show_alike : (flight : Text) (words : List Text)
      → DoesTheSame (λ file. Show file flight words)
  show_alike = of_shown shown_lines (λ desk other named that one both.
      λ i. shown_lines (seen (one.0 i) (one.1 i)) (both i))

  pub history_alike : (csv : Bool) (flight : Text) (words : List Text)
      → DoesTheSame (λ file. History csv file flight words)
  history_alike csv = of_shown (lines_of_history csv) (λ desk other named that one both.
      λ i. lines_of_history csv (seen (one.0 i) (one.1 i)) (both i))

  pub board_alike : (form : BoardForm) (station date : Text)
      → DoesTheSame (λ file. Board form file station date)
  board_alike form station date = of_timetables (board_of_desk form station date)
      (λ desk other one. then_alike Nothing Equal
      (Require (is_station (typed station) ≡ true) (refused.Value value_fault.BadStation))
      (Require (is_station (typed station) ≡ true) (refused.Value value_fault.BadStation))
      (board_dated form station date desk) (board_dated form station date other)
      (require_alike (is_station (typed station) ≡ true) (refused.Value value_fault.BadStation))
      (λ x y both. then_alike Equal Equal (OrElse (typed_day date) (refused.Value value_fault.BadDate))
      (OrElse (typed_day date) (refused.Value value_fault.BadDate)) (board_on form (typed station) desk)
      (board_on form (typed station) other)
      (or_else_alike (typed_day date) (refused.Value value_fault.BadDate))
      (λ day that same_day. then_alike Equal Equal (carrier_of desk.base.records)
      (carrier_of other.base.records)
      (λ carrier. Gives (lines_on form (typed station) desk day carrier))
      (λ carrier. Gives (lines_on form (typed station) other that carrier))
      (carrier_alike desk.base.records other.base.records (records_same desk other one))
      (λ carrier those same_carrier. gives_alike (lines_on form (typed station) desk day carrier)
      (lines_on form (typed station) other that those)
      (λ i. lines_on form (typed station) (seen (one.0 i) (one.1 i)) (same_day i)
      (same_carrier i))))))

  pub page_alike : DoesTheSame (Page None)
  page_alike = of_timetables page_of
      (λ desk other one.
      let lines : DeskSeen → CarrierFields → List ℕ =
      λ d carrier. desk_page carrier (days_of d.base.records) d in
      then_alike Equal Equal (carrier_of desk.base.records) (carrier_of other.base.records)
      (λ carrier. Gives (lines desk carrier)) (λ carrier. Gives (lines other carrier))
      (carrier_alike desk.base.records other.base.records (records_same desk other one))
      (λ carrier those both. gives_alike (lines desk carrier) (lines other those)
      (λ i. lines (seen (one.0 i) (one.1 i)) (both i))))

  pub info_alike : DoesTheSame Info
  info_alike files others name another same =
      let mine = known_in (Some files) name in
      let theirs = known_in (Some others) another in
      prints_alike (mine >>= info_of) (theirs >>= info_of)
      (then_alike SameKnown Equal mine theirs info_of info_of
      (known_alike files others name another same frames one_base no_two)
      (λ known other one. then_alike Equal Equal (carrier_of known.1.base.records)
      (carrier_of other.1.base.records)
      (λ carrier. Gives (info_lines known.0 carrier known.1))
      (λ carrier. Gives (info_lines other.0 carrier other.1))
      (carrier_alike known.1.base.records other.1.base.records
      (records_same known.1 other.1 one.1))
      (λ carrier those both. gives_alike (info_lines known.0 carrier known.1)
      (info_lines other.0 those other.1)
      (seen_lines known.0 carrier known.1
      ∙ (λ i. info_lines (one.0 i) (both i) (seen (one.1.0 i) (one.1.1 i)))
      ∙ sym (seen_lines other.0 those other.1)))))

  pub stations_alike : DoesTheSame Stations
  stations_alike = of_timetables (λ desk. Gives (table_lines desk))
      (λ desk other one. gives_alike (table_lines desk) (table_lines other)
      (λ i. table_lines (seen (one.0 i) (one.1 i))))

  between_alike : {A : Type 0} (made : Made A) → IsOfDesks made → (old first new second : DeskSeen)
      → SameDesk old first → SameDesk new second → (mine ours theirs others : CarrierFields)
      → mine ≡ ours → theirs ≡ others
      → AreAlike Equal (between made old new mine theirs)
      (between made first second ours others)
  between_alike made is old first new second one two mine ours theirs others same same_too =
      then_alike Nothing Equal (compared mine theirs) (compared ours others)
      (made_between made old new mine theirs) (made_between made first second ours others)
      (subst (λ (c : CarrierFields). AreAlike Nothing (compared mine theirs) (compared ours c))
      same_too (subst
      (λ (c : CarrierFields). AreAlike Nothing (compared mine theirs) (compared c theirs)) same
      (compared_alike mine theirs)))
      (λ x y both. is old first new second one two mine ours theirs others same same_too)

  desks_alike : {A : Type 0} (made : Made A) → IsOfDesks made → (old first new second : DeskSeen)
      → SameDesk old first → SameDesk new second → AreAlike Equal (of_desks made old new) (of_desks made first second)
  desks_alike made is old first new second one two =
      then_alike Equal Equal (carrier_of old.base.records) (carrier_of first.base.records)
      (from_carrier made old new) (from_carrier made first second)
      (carrier_alike old.base.records first.base.records (records_same old first one))
      (λ mine ours same. then_alike Equal Equal (carrier_of new.base.records)
      (carrier_of second.base.records) (between made old new mine) (between made first second ours)
      (carrier_alike new.base.records second.base.records (records_same new second two))
      (λ theirs others. between_alike made is old first new second one two mine ours theirs others
      same))

  pub pairs_alike : {A : Type 0} (made : Made A) → IsOfDesks made → (files others : Files)
      (from to here there : Text)
      → IsSameFile files from others here → IsSameFile files to others there
      → AreAlike Equal (timetable_in (Some files) from >>= to_new made files to)
      (timetable_in (Some others) here >>= to_new made others there)
  pairs_alike made is files others from to here there same same_too =
      then_alike SameDesk Equal (timetable_in (Some files) from) (timetable_in (Some others) here)
      (to_new made files to) (to_new made others there)
      (timetable_alike files others from here same frames one_base no_two)
      (λ old first one. then_alike SameDesk Equal (timetable_in (Some files) to)
      (timetable_in (Some others) there) (of_desks made old) (of_desks made first)
      (timetable_alike files others to there same_too frames one_base no_two)
      (λ new second. desks_alike made is old first new second one))

  pub changed_page_alike : DoesTheSameOfPairs (λ from. Page (Some from))
  changed_page_alike files others from to here there same same_too =
      prints_alike (timetable_in (Some files) from >>= to_new changed files to)
      (timetable_in (Some others) here >>= to_new changed others there)
      (pairs_alike changed
      (λ old first new second one two mine ours theirs others' is is_too.
      gives_alike (changed_lines old new theirs) (changed_lines first second others')
      (λ i. changed_lines (seen (one.0 i) (one.1 i)) (seen (two.0 i) (two.1 i)) (is_too i)))
      files others from to here there same same_too)
