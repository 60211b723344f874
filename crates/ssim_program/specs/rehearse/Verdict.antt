-- When a rehearsal ends with `same`.
use Rattle.std.specs.Prelude.{◌≡◌, ◌<◌, ℕ, List, ◌++◌, All, codes, length, Option}
use Rattle.ssim_base.specs.Export.{line}
use Rattle.ssim_schedule.specs.declared.export.ExportFault.TheVariants as export
use Rattle.ssim_text.specs.Message.{MessageValue}
use Rattle.ssim_text.specs.declared.reference.Reference.{Reference}
use Rattle.ssim_held.specs.Held.{DeskState}
use Rattle.ssim_desk.specs.Deliveries.{Reached}
use Rattle.ssim_desk.specs.declared.steps.Answer.{Answer}
use Rattle.ssim_desk.specs.declared.steps.Step.{Step}
use Rattle.ssim_command_line.specs.Line.{Text}
use Rattle.ssim_program.specs.Files.{Files}
use Rattle.ssim_program.specs.rehearse.Rehearsal.{RehearsesFiles}
use Rattle.ssim_program.specs.declared.rehearse.line.RehearsalLine.{RehearsalLine}
use Rattle.ssim_program.specs.declared.rehearse.line.RehearsalLine.TheVariants as printed

-- the line says that there was no memory for the export of a desk
abbrev pub IsWithoutMemory : RehearsalLine → Type 0
IsWithoutMemory (printed.NotExported desk airline export.Memory) = Unit {0}
IsWithoutMemory _ = ⊥

-- each message that reached a desk in a run reached every desk
abbrev pub ReachedAll : List DeskState → List Step → List Answer → Type 0
ReachedAll start steps answers =
    (d e : ℕ) (reference : Reference) (message : MessageValue) → d < length start → e < length start
    → Reached start steps answers d reference message
    → Reached start steps answers e reference message

-- If the same messages reached all desks of a script, the last line that `rehearse` prints is
-- `same`, unless a line of a desk says that there was no memory for its export.
abbrev pub EndsWithSame : Type 0
EndsWithSame =
    (files : Option Files) (dataset stations script : Text) (bytes : List ℕ)
    (r : RehearsesFiles files dataset stations script bytes)
    → ReachedAll r.rehearsed.start r.steps r.rehearsed.answers
    → All (λ l. IsWithoutMemory l → ⊥) r.lines
    → (before : List ℕ) × (bytes ≡ before ++ line (codes "same"))
