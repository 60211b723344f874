-- The export of a desk into an empty buffer is what the buffer has.
use Rattle.std.proofs.Common.{◌∙◌, ◌++◌, ◌≡◌, ℕ, List, [], Some, Ok, Err, refl, sym, ap, subst}
use Rattle.ssim_records.specs.clauses.Device.{Buffer}
use Rattle.ssim_records.specs.Device.{Writer}
use Rattle.ssim_schedule.specs.declared.export.ExportFault.{ExportFault}
use Rattle.ssim_schedule.specs.declared.export.ExportFault.TheVariants as export
use Rattle.ssim_held.specs.Held.{DeskState}
use Rattle.ssim_desk.specs.clauses.Desk.{WritesDesk}
use Rattle.ssim_desk.specs.Meaning.{Exports}
use Rattle.ssim_program.specs.rehearse.Rehearsal.{IsOutcome}

-- a buffer as a sink
abbrev pub writer_of : Buffer → Writer
writer_of s = record { taken = Some s.bytes; failures = s.failures; device = 0 }

pub exports_ok : (desk : DeskState) (old new : Buffer) → old.bytes ≡ []
    → WritesDesk desk (writer_of old) (writer_of new) (Ok tt) → Exports desk (Ok new.bytes)
exports_ok desk old new none w =
    subst (λ (bytes : List ℕ). Exports desk (Ok bytes))
    (sym (w.2.taken ∙ ap (λ (front : List ℕ). front ++ w.0) none)) w.1

pub exports_err : (desk : DeskState) (old new : Buffer) (fault : ExportFault)
    → WritesDesk desk (writer_of old) (writer_of new) (Err fault)
    → (fault ≡ export.WriteFault → ⊥) → IsOutcome desk (Err fault)
exports_err desk old new (export.Variations flight) w other = w
exports_err desk old new export.Records w other = w
exports_err desk old new export.WriteFault w other = absurd (other refl)
exports_err desk old new export.Memory w other = tt
