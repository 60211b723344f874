-- What an export leaves on a printer, from what the crates below say of it.
use Rattle.std.proofs.Common.{◌≡◌, inl, inr, ℕ, List, [], ◌∷◌, ◌++◌, OnOk, Result, Ok, Err, refl, ap, subst, append-nil}
use Rattle.std.specs.Io.KnownBytes.{Appends}
use Rattle.std.proofs.KnownBytes.{Appends-trans}
use Rattle.ssim_values.specs.Flight.{FlightNumber}
use Rattle.ssim_records.specs.declared.record.Record.{Record}
use Rattle.ssim_base.specs.Base.{airline_of}
use Rattle.ssim_schedule.specs.clauses.ExportResult.{RefusesBase}
use Rattle.ssim_base.specs.Timetable.{Days}
use Rattle.ssim_schedule.specs.declared.export.ExportFault.{ExportFault}
use Rattle.ssim_schedule.specs.declared.export.ExportFault.TheVariants.{Variations, Records, WriteFault, Memory}
use Rattle.ssim_program.specs.Acts.{Print, prints}
use Rattle.ssim_program.specs.Again.{GrowsByItself}
use Rattle.ssim_program.specs.Exports.{export_in}
use Rattle.ssim_program.specs.World.{world}
use Rattle.ssim_program.specs.internal.Export.{IsWritten, PrintsExport}
use Rattle.ssim_program.specs.print.Paper.{Paper, writer_of}
use Rattle.ssim_program.specs.internal.Print.{Prints}
use Rattle.ssim_program.specs.declared.refusal.Refusal.{Refusal}
use Rattle.ssim_program.specs.declared.refusal.Refusal.TheVariants as refused
use Rattle.ssim_program.proofs.Acting.{refuses}
use Rattle.ssim_program.proofs.Again.{grows_by_itself}
use Rattle.ssim_program.proofs.Printers.{breaks_after, flushed_after}

module _ (base : List Record) (days : FlightNumber → Days) (before mid : Paper) where
  -- the export was written, and then flushed, or the flush failed
  pub flushed : (after : Paper) (r : Result (Unit {0}) Refusal) → IsWritten base days before mid (Ok tt) → Prints [] mid after r → PrintsExport base days before after r
  flushed after (Ok x) w h files n =
      let bytes = w.ok.2.0 in (
        Print bytes ∷ [],
        inl (bytes, (w.ok.0, w.ok.1, w.ok.2.1), refl),
        inl (world files n after, (flushed_after bytes before mid after w.ok.2.2 h.0, h.1, refl, refl), refl),
      )
  flushed after (Err why) w h files n =
      let bytes = w.ok.2.0 in (
        Print bytes ∷ [],
        inl (bytes, (w.ok.0, w.ok.1, w.ok.2.1), refl),
        inr (why, (h.0, breaks_after bytes before mid after w.ok.2.2 h.1, refl, refl), refl),
      )

  -- what was written is read as itself
  pub itself : (after : Paper) (r : Result (Unit {0}) Refusal) → IsWritten base days before mid (Ok tt) → Prints [] mid after r → OnOk r (GrowsByItself before.taken after.taken)
  itself after (Ok x) w h =
      let own : GrowsByItself before.taken mid.taken = grows_by_itself base days (writer_of before) (writer_of mid) w.reads_back in
      let longer : Appends before.taken after.taken (own.0 ++ []) = Appends-trans before.taken mid.taken after.taken own.0 [] own.2 h.0.taken in
      (own.0, own.1, subst (λ (bs : List ℕ). Appends before.taken after.taken bs) (append-nil own.0) longer)
  itself after (Err why) w h = tt

  -- the sink failed, and took a part of the export
  pub not_written : RefusesBase writer_of base days before mid WriteFault → PrintsExport base days before mid (Err refused.WriteFault)
  not_written h files n = (Print h.2.0 ∷ [], inl (h.2.0, (h.0, h.1, h.2.1), refl), inr (refused.WriteFault, (refl, h.2.2, refl, refl), refl))

  -- there is no export
  pub not_exported : (airline : List ℕ) (fault : ExportFault) → airline ≡ airline_of base → (fault ≡ WriteFault → ⊥) → RefusesBase writer_of base days before mid fault
      → PrintsExport base days before mid (Err (refused.Export airline fault))
  not_exported airline (Variations flight) is other h files n =
      refuses (prints (export_in base days)) (world files n before) (world files n mid) (refused.Export airline (Variations flight))
      (Variations flight, (h.0, h.1, h.2.0), ap (λ a. refused.Export a (Variations flight)) is) (ap (world files n) h.2.1)
  not_exported airline Records is other h files n =
      refuses (prints (export_in base days)) (world files n before) (world files n mid) (refused.Export airline Records)
      (Records, (h.0, h.1, h.2.0), ap (λ a. refused.Export a Records) is) (ap (world files n) h.2.1)
  not_exported airline Memory is other h files n =
      refuses (prints (export_in base days)) (world files n before) (world files n mid) (refused.Export airline Memory)
      (Memory, tt, ap (λ a. refused.Export a Memory) is) (ap (world files n) h.2)
  not_exported airline WriteFault is other h files n = absurd (other refl)
