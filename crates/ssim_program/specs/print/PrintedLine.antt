-- The lines that commands print, without their line ends.
use Rattle.std.specs.Prelude.{ℕ, List, ◌∷◌, ◌++◌, codes}
use Rattle.std.specs.Fmt.{decimal}
use Rattle.ssim_schedule.specs.declared.finding.Finding.{Finding}
use Rattle.ssim_text.specs.Lines.{identifier_text}
use Rattle.ssim_text.specs.Reference.{printed_reference}
use Rattle.ssim_text.specs.declared.kind.ActionIdentifier.{ActionIdentifier}
use Rattle.ssim_text.specs.declared.reference.Reference.{Reference}
use Rattle.ssim_values.specs.Designator.{designator_text}
use Rattle.ssim_values.specs.declared.designator.Designator.{Designator}
use Rattle.ssim_desk.specs.declared.finding_line.FindingLine.{FindingLine}
use Rattle.ssim_program.specs.declared.print.printed_line.PrintedLine.{PrintedLine}
use Rattle.ssim_program.specs.declared.print.printed_line.PrintedLine.TheVariants as printed

-- the text of a line: a note on a record's serial or check reference; the summary of records,
-- flights and notes; the number of records and problems; what became of a text; what became of a
-- reference; a message that is not carried; how many messages a desk holds
abbrev pub printed_text : PrintedLine → List ℕ
printed_text (printed.SerialNote n) = codes "note Serial record " ++ decimal n
printed_text (printed.CheckReferenceNote n) = codes "note CheckReference record " ++ decimal n
printed_text (printed.Summary records flights notes) =
    codes "ok records " ++ decimal records ++ codes " flights " ++ decimal flights
    ++ codes " notes "
    ++ decimal notes
printed_text (printed.ProblemCount records problems) =
    codes "records " ++ decimal records ++ codes " problems " ++ decimal problems
printed_text (printed.Taken reference) = codes "taken " ++ printed_reference reference
printed_text (printed.Repeated reference) = codes "repeated " ++ printed_reference reference
printed_text (printed.Withdrawn reference) = codes "withdrawn " ++ printed_reference reference
printed_text (printed.NotHeld reference) = codes "not held " ++ printed_reference reference
printed_text (printed.Left reference) = codes "left " ++ printed_reference reference
printed_text (printed.Held n) = codes "held " ++ decimal n

-- on how many dates a sub-message acted, and on how many each reason kept it from acting
abbrev pub counts_text : Finding → List ℕ
counts_text f =
    codes " acted " ++ decimal f.acted ++ codes " absent " ++ decimal f.absent ++ codes " present "
    ++ decimal f.present
    ++ codes " leg " ++ decimal f.leg ++ codes " station " ++ decimal f.station

-- a sub-message: the reference, its number, its action and its flight
abbrev pub sub_text : FindingLine → List ℕ
sub_text found =
    printed_reference found.reference ++ 32 ∷ decimal found.sub ++ 32 ∷ identifier_text found.action
    ++ 32 ∷ designator_text found.designator

-- what a sub-message found
abbrev pub finding_text : FindingLine → List ℕ
finding_text found = sub_text found ++ counts_text found.finding

-- the names of the fields of CSV
abbrev pub finding_names : List ℕ
finding_names = codes "reference,sub,action,flight,acted,absent,present,no_leg,no_station"

-- a sub-message as fields of CSV: its reference, its number, its action and its flight
abbrev pub sub_fields : Reference → ℕ → ActionIdentifier → Designator → List ℕ
sub_fields reference number action designator =
    printed_reference reference ++ 44 ∷ decimal number ++ 44 ∷ identifier_text action
    ++ 44 ∷ designator_text designator

-- the numbers of dates as fields of CSV, each after a comma
abbrev pub count_fields : Finding → List ℕ
count_fields f =
    44 ∷ decimal f.acted ++ 44 ∷ decimal f.absent ++ 44 ∷ decimal f.present ++ 44 ∷ decimal f.leg
    ++ 44 ∷ decimal f.station

-- what a sub-message found, as a row of CSV
abbrev pub finding_row : FindingLine → List ℕ
finding_row found =
    sub_fields found.reference found.sub found.action found.designator ++ count_fields found.finding
