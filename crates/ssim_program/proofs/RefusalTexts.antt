-- The lines of refusals, computed.
use Rattle.std.proofs.Common.{◌≡◌, ℕ, List, ◌∷◌, ◌++◌, Option, Some, refl, ap, arith}
use Rattle.std.specs.Prelude.{codes}
use Rattle.std.specs.Fmt.{decimal, digits}
use Rattle.ssim_values.specs.Calendar.{day_of_month, month_of, year_of}
use Rattle.ssim_values.specs.Day.{day_text}
use Rattle.ssim_values.specs.Fault.{fault_number}
use Rattle.ssim_values.specs.declared.fault.Fault.{Fault}
use Rattle.ssim_records.specs.Record.{fault_number as record_fault_number}
use Rattle.ssim_records.specs.declared.fault.RecordFault.{RecordFault}
use Rattle.ssim_records.specs.declared.fault.RecordFault.TheVariants.{BadColumn}
use Rattle.ssim_text.specs.Fault as text
use Rattle.ssim_text.specs.declared.fault.Fault.{Fault as TextRefusal}
use Rattle.ssim_text.specs.declared.fault.TextFault.TheVariants as text_fault
use Rattle.ssim_text.specs.Values.{no_originator}
use Rattle.ssim_text.specs.declared.kind.Kind.TheVariants.{Ssm}
use Rattle.ssim_base.specs.Export.{line}
use Rattle.ssim_base.specs.Base.{refusal_number as base_refusal_number}
use Rattle.ssim_base.specs.declared.fault.BaseFault.TheVariants as base
use Rattle.ssim_base.specs.declared.fault.BaseRefusal.{BaseRefusal}
use Rattle.ssim_base.specs.declared.resolution.ResolveFault.TheVariants as resolve
use Rattle.ssim_base.specs.declared.stations.StationFault.TheVariants as stations
use Rattle.ssim_held.specs.declared.fault.DeskFault.TheVariants as desk
use Rattle.ssim_outbox.specs.declared.fault.OutboxFault.TheVariants as outbox
use Rattle.ssim_schedule.specs.declared.export.ExportFault.TheVariants as export
use Rattle.ssim_program.specs.print.Refusal.{named_text, refusal_file, refusal_head, refusal_name}
use Rattle.ssim_program.specs.print.Refusal.{refusal_number, refusal_place, refusal_text}
use Rattle.ssim_program.specs.declared.refusal.Refusal.{Refusal}
use Rattle.ssim_program.specs.declared.refusal.Refusal.TheVariants as refused

-- ---- out of memory: a fault that has the number 90 is no other one

not_value : (fault : Fault) → fault_number fault ≡ 90 → ⊥
not_value fault is = grind arith

not_record : (fault : RecordFault) → record_fault_number fault ≡ 90 → ⊥
not_record fault is = grind arith

not_base : (fault : BaseRefusal) → base_refusal_number fault ≡ 90 → ⊥
not_base fault is = grind arith

not_text : (fault : TextRefusal) → text.fault_number fault ≡ 90 → ⊥
not_text fault is = grind arith

pub memory_text : (r : Refusal) → refusal_number r ≡ 90 → refusal_text r ≡ codes "refused 90 Memory"
unfolding digits
memory_text (refused.Value fault) is = absurd (not_value fault is)
memory_text refused.Reference is = absurd (omega (arith, is))
memory_text refused.Aircraft is = absurd (omega (arith, is))
memory_text (refused.DataSet base.Memory) is = refl
memory_text (refused.DataSet (base.Read fault)) is = absurd (not_record fault is)
memory_text (refused.DataSet (base.Refused n why)) is = absurd (not_base why is)
memory_text (refused.Stations stations.Memory) is = refl
memory_text (refused.Stations (stations.Stations n)) is = absurd (omega (arith, is))
memory_text (refused.Desk desk.Memory) is = refl
memory_text (refused.Desk (desk.Text text_fault.Memory)) is = refl
memory_text (refused.Desk (desk.Text (text_fault.Refused fault n))) is = absurd (not_text fault is)
memory_text (refused.Desk (desk.Resolve resolve.Memory)) is = refl
memory_text (refused.Desk (desk.Resolve resolve.TimeMode)) is = absurd (omega (arith, is))
memory_text (refused.Desk (desk.Resolve (resolve.Airline n))) is = absurd (omega (arith, is))
memory_text (refused.Desk (desk.Resolve (resolve.NoSuchDate n))) is = absurd (omega (arith, is))
memory_text (refused.Desk (desk.Resolve (resolve.Period n))) is = absurd (omega (arith, is))
memory_text (refused.Desk (desk.Conflict reference)) is = absurd (omega (arith, is))
memory_text (refused.Desk desk.OtherBase) is = absurd (omega (arith, is))
memory_text (refused.Desk (desk.Read fault)) is = absurd (not_record fault is)
memory_text (refused.Desk (desk.File offset)) is = absurd (omega (arith, is))
memory_text (refused.Publication outbox.Memory) is = refl
memory_text (refused.Publication outbox.OtherAirline) is = absurd (omega (arith, is))
memory_text (refused.Publication outbox.OtherMode) is = absurd (omega (arith, is))
memory_text (refused.Publication outbox.Reference) is = absurd (omega (arith, is))
memory_text (refused.Publication outbox.Date) is = absurd (omega (arith, is))
memory_text (refused.Publication (outbox.Order reference)) is = absurd (omega (arith, is))
memory_text (refused.Publication outbox.References) is = absurd (omega (arith, is))
memory_text (refused.Export airline (export.Variations flight)) is = absurd (omega (arith, is))
memory_text (refused.Export airline export.Records) is = absurd (omega (arith, is))
memory_text (refused.Export airline export.WriteFault) is = absurd (omega (arith, is))
memory_text (refused.Export airline export.Memory) is = refl
memory_text refused.WriteFault is = absurd (omega (arith, is))
memory_text (refused.Script n) is = absurd (omega (arith, is))
memory_text refused.Memory is = refl
memory_text (refused.File name) is = absurd (omega (arith, is))
memory_text (refused.Busy name) is = absurd (omega (arith, is))
memory_text (refused.Occupied name) is = absurd (omega (arith, is))

-- ---- other lines

write_fault_line : line (refusal_text refused.WriteFault) ≡ codes "refused 52 WriteFault\n"
unfolding digits
write_fault_line = refl

-- a refusal that names a file
pub named_file : (r : Refusal) (file : List ℕ) → refusal_file r ≡ Some file → refusal_text r ≡ codes "refused " ++ decimal (refusal_number r) ++ 32 ∷ refusal_name r ++ 32 ∷ file
named_file r file is = ap (λ (o : Option (List ℕ)). refusal_head r ++ named_text o (refusal_place r)) is

-- ---- a record with its column, an element of a desk file, a message

column_text : refusal_text (refused.DataSet (base.Read (BadColumn 3 37))) ≡ codes "refused 12 BadColumn record 3 column 37"
unfolding digits
column_text = refl

offset_text : refusal_text (refused.Desk (desk.File 844)) ≡ codes "refused 62 DeskFile offset 844"
unfolding digits
offset_text = refl

-- another message under the reference SSM 01JUN25 00001 001
conflict_text : refusal_text (refused.Desk (desk.Conflict (record { date = 9283; group = 1; serial = 1; kind = Ssm; originator = no_originator })))
    ≡ codes "refused 60 Conflict SSM 01JUN25 00001 001"
unfolding day_text year_of month_of day_of_month digits
conflict_text = refl
