-- What `split` does with one section, whatever comes next.
use Rattle.std.specs.Prelude.{◌≡◌, ◌⊎◌, ◌++◌, ◌∷◌, ℕ, List, [], Option, Result, Ok, Err}
use Rattle.std.specs.Prelude.{codes, string_bytes}
use Rattle.ssim_records.specs.declared.fault.RecordFault.TheVariants as record_fault
use Rattle.ssim_base.specs.declared.fault.BaseFault.{BaseFault}
use Rattle.ssim_base.specs.declared.fault.BaseFault.TheVariants as base
use Rattle.ssim_parts.specs.Sections.{SectionRead}
use Rattle.ssim_parts.specs.clauses.Sections.{outcome_seen}
use Rattle.ssim_parts.specs.declared.section.DataSetRead.{DataSetRead}
use Rattle.ssim_command_line.specs.Line.{Text}
use Rattle.ssim_program.specs.Acts.{Print, Keep}
use Rattle.ssim_program.specs.Places.{place_in}
use Rattle.ssim_program.specs.Splitting as split
use Rattle.ssim_program.specs.Splitting.{KeptAs, RefusedAs, Section, is_kept}
use Rattle.ssim_program.specs.World.{Performs, World}
use Rattle.ssim_program.specs.print.Refusal.{IsOfFile}
use Rattle.ssim_program.specs.declared.content_kind.ContentKind.TheVariants as kind
use Rattle.ssim_program.specs.declared.command.split.SectionFate.{SectionFate}
use Rattle.ssim_program.specs.declared.command.split.SectionFate.TheVariants as made
use Rattle.ssim_program.specs.declared.refusal.Refusal.{Refusal}
use Rattle.ssim_program.specs.declared.refusal.Refusal.TheVariants as refused

-- what becomes of a section, as contracts see it
abbrev pub fate_seen : SectionFate → split.SectionFate
fate_seen (made.Kept name bytes lines) = KeptAs (string_bytes name) bytes.items lines.items
fate_seen (made.Refused line) = RefusedAs line.items

-- a section whose data set was read
abbrev pub read_seen : Option (List ℕ) → ℕ → DataSetRead → SectionRead
read_seen airline records read =
    record { airline = airline; records = records; outcome = outcome_seen (Ok read) }

-- the refusal of a file that is not read, by its fault
abbrev pub IsReadFault : Text → BaseFault → Refusal → Type 0
IsReadFault name base.Memory why = why ≡ refused.Memory
IsReadFault name (base.Read (record_fault.ReadFault n)) why = IsOfFile 91 (codes "File") name why
IsReadFault name (base.Read (record_fault.ReaderNeverEnds n)) why =
    IsOfFile 91 (codes "File") name why
IsReadFault name fault why = why ≡ refused.DataSet fault

-- The file of a section is held and kept, and its lines are printed; or its file is not held, and
-- nothing is done. Or the line of its refusal is printed.
abbrev pub ActsAs : split.SectionFate → World → World → Result (Unit {0}) Refusal → Type 0
ActsAs (KeptAs name bytes lines) before after result =
    (place_in before.files name kind.DataSet (Ok tt)
    × Performs (Keep name bytes ∷ Print lines ∷ []) before after result)
    ⊎ ((why : Refusal) × place_in before.files name kind.DataSet (Err why) × (result ≡ Err why)
    × (after ≡ before))
ActsAs (RefusedAs line) before after result = Performs (Print line ∷ []) before after result

-- A section is put: what becomes of it, and its acts are done. Or memory ran out before.
abbrev pub PutsSection : Text → List Section → SectionRead → List Section → World → World
    → Result (Unit {0}) Refusal → Type 0
PutsSection prefix done read now before after (Ok x) =
    (fate : split.SectionFate) × split.fate_of prefix done read (Ok fate)
    × (now ≡ done ++ (read.airline, is_kept fate) ∷ []) × ActsAs fate before after (Ok x)
PutsSection prefix done read now before after (Err why) = (result : Result split.SectionFate Refusal)
    × split.fate_of prefix done read result × StopsAt result before after why
  where
    StopsAt : Result split.SectionFate Refusal → World → World → Refusal → Type 0
    StopsAt (Ok fate) before after why = ActsAs fate before after (Err why)
    StopsAt (Err other) before after why = (why ≡ other) × (after ≡ before)
