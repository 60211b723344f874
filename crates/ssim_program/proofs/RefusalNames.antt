-- The number of a refusal determines its name, and so its line's beginning: if a word names one refusal
-- of a number, it names all.
use Rattle.std.proofs.Common.{◌≡◌, ◌∙◌, ◌==◌, ◌<◌, ℕ, true, true≢false, nat_lt, List, [], ◌∷◌}
use Rattle.std.proofs.Common.{◌++◌, if◌then◌else◌, codes, map, refl, sym, ap, subst, inl, inr, ⊎_elim}
use Rattle.std.proofs.lemmas.Bool.{and_parts, eqb-true, ltb-true, or_cases}
use Rattle.std.specs.Char.{to_ascii_lowercase}
use Rattle.std.specs.Fmt.{decimal}
use Rattle.std.specs.List.{list_all, list_any}
use Rattle.ssim_values.specs.Fault.{fault_name, fault_number}
use Rattle.ssim_values.specs.declared.fault.Fault.{Fault}
use Rattle.ssim_values.specs.declared.fault.Fault.TheVariants as value
use Rattle.ssim_records.specs.Record as records
use Rattle.ssim_records.specs.declared.fault.RecordFault.{RecordFault}
use Rattle.ssim_records.specs.declared.fault.RecordFault.TheVariants as record_fault
use Rattle.ssim_text.specs.Fault as text
use Rattle.ssim_text.specs.declared.fault.Fault.{Fault as LineFault}
use Rattle.ssim_text.specs.declared.fault.Fault.TheVariants as line_fault
use Rattle.ssim_text.specs.declared.fault.TextFault.TheVariants as text_fault
use Rattle.ssim_base.specs.Base.{refusal_number as base_refusal_number}
use Rattle.ssim_base.specs.Fault.{refusal_name as base_refusal_name}
use Rattle.ssim_base.specs.declared.fault.BaseFault.TheVariants as base
use Rattle.ssim_base.specs.declared.fault.BaseRefusal.{BaseRefusal}
use Rattle.ssim_base.specs.declared.fault.BaseRefusal.TheVariants as base_refused
use Rattle.ssim_base.specs.declared.resolution.ResolveFault.TheVariants as resolve
use Rattle.ssim_base.specs.declared.stations.StationFault.TheVariants as stations
use Rattle.ssim_held.specs.declared.fault.DeskFault.TheVariants as desk
use Rattle.ssim_outbox.specs.declared.fault.OutboxFault.TheVariants as outbox
use Rattle.ssim_schedule.specs.declared.export.ExportFault.TheVariants as export
use Rattle.ssim_guide.specs.Words.{is_refusal, refusal_numbers}
use Rattle.ssim_command_line.specs.Line.{Text}
use Rattle.ssim_program.specs.Explained.{Names}
use Rattle.ssim_program.specs.Foreign.{begins_with}
use Rattle.ssim_program.specs.print.Refusal.{refusal_head, refusal_name, refusal_number}
use Rattle.ssim_program.specs.declared.refusal.Refusal.{Refusal}
use Rattle.ssim_program.specs.declared.refusal.Refusal.TheVariants as refused

-- ---- the names in order of number

abbrev names : List (ℕ × List ℕ)
names = (1, codes "BadDate") ∷ (2, codes "BadDays") ∷ (3, codes "BadStation")
    ∷ (4, codes "BadTime") ∷ (5, codes "BadVariation") ∷ (6, codes "BadDesignator")
    ∷ (7, codes "EmptyPeriod") ∷ (10, codes "Short") ∷ (11, codes "BadType")
    ∷ (12, codes "BadColumn") ∷ (13, codes "ReadFault") ∷ (14, codes "ReaderNeverEnds")
    ∷ (20, codes "BadKind") ∷ (21, codes "BadReference") ∷ (22, codes "BadAction")
    ∷ (23, codes "BadFlight") ∷ (24, codes "BadPeriod") ∷ (25, codes "BadEquipment")
    ∷ (26, codes "BadLeg") ∷ (27, codes "Extra") ∷ (28, codes "TooMany")
    ∷ (29, codes "NotAscii") ∷ (30, codes "NoHeader") ∷ (31, codes "NoCarrier")
    ∷ (32, codes "NoTrailer") ∷ (33, codes "OtherAirline") ∷ (34, codes "Overlap")
    ∷ (35, codes "Segment") ∷ (36, codes "Overflow") ∷ (37, codes "Frequency")
    ∷ (38, codes "Continuation") ∷ (39, codes "Stations") ∷ (40, codes "TimeMode")
    ∷ (41, codes "Airline") ∷ (42, codes "NoSuchDate") ∷ (43, codes "Period")
    ∷ (50, codes "Variations") ∷ (51, codes "Records") ∷ (52, codes "WriteFault")
    ∷ (60, codes "Conflict") ∷ (61, codes "OtherBase") ∷ (62, codes "DeskFile")
    ∷ (63, codes "Script") ∷ (64, codes "Order") ∷ (65, codes "References")
    ∷ (90, codes "Memory") ∷ (91, codes "File") ∷ (92, codes "Busy")
    ∷ (93, codes "Occupied") ∷ []

abbrev name_in : List (ℕ × List ℕ) → ℕ → List ℕ
name_in [] number = []
name_in (row ∷ rows) number = if row.0 == number then row.1 else name_in rows number

-- the name of a number
abbrev name_of : ℕ → List ℕ
name_of number = name_in names number

-- ---- each refusal has the name of its number

of_value : (fault : Fault) → fault_name fault ≡ name_of (fault_number fault)
of_value value.BadDate = refl
of_value value.BadDays = refl
of_value value.BadStation = refl
of_value value.BadTime = refl
of_value value.BadVariation = refl
of_value value.BadDesignator = refl
of_value value.EmptyPeriod = refl

of_record : (fault : RecordFault) → records.fault_name fault ≡ name_of (records.fault_number fault)
of_record (record_fault.Short n) = refl
of_record (record_fault.BadType n) = refl
of_record (record_fault.BadColumn n column) = refl
of_record (record_fault.ReadFault n) = refl
of_record (record_fault.ReaderNeverEnds n) = refl

of_line : (fault : LineFault) → text.fault_name fault ≡ name_of (text.fault_number fault)
of_line line_fault.BadKind = refl
of_line line_fault.BadReference = refl
of_line line_fault.BadAction = refl
of_line line_fault.BadFlight = refl
of_line line_fault.BadPeriod = refl
of_line line_fault.BadEquipment = refl
of_line line_fault.BadLeg = refl
of_line line_fault.Extra = refl
of_line line_fault.TooMany = refl
of_line line_fault.NotAscii = refl

of_base : (fault : BaseRefusal) → base_refusal_name fault ≡ name_of (base_refusal_number fault)
of_base base_refused.BadType = refl
of_base base_refused.OpenEnd = refl
of_base base_refused.NoHeader = refl
of_base base_refused.NoCarrier = refl
of_base base_refused.NoTrailer = refl
of_base base_refused.OtherAirline = refl
of_base base_refused.Overlap = refl
of_base base_refused.Segment = refl
of_base base_refused.Overflow = refl
of_base base_refused.Frequency = refl
of_base base_refused.Continuation = refl

named : (r : Refusal) → refusal_name r ≡ name_of (refusal_number r)
named (refused.Value fault) = of_value fault
named refused.Reference = refl
named refused.Aircraft = refl
named (refused.DataSet base.Memory) = refl
named (refused.DataSet (base.Read fault)) = of_record fault
named (refused.DataSet (base.Refused n why)) = of_base why
named (refused.Stations stations.Memory) = refl
named (refused.Stations (stations.Stations n)) = refl
named (refused.Desk desk.Memory) = refl
named (refused.Desk (desk.Text text_fault.Memory)) = refl
named (refused.Desk (desk.Text (text_fault.Refused fault n))) = of_line fault
named (refused.Desk (desk.Resolve resolve.Memory)) = refl
named (refused.Desk (desk.Resolve resolve.TimeMode)) = refl
named (refused.Desk (desk.Resolve (resolve.Airline n))) = refl
named (refused.Desk (desk.Resolve (resolve.NoSuchDate n))) = refl
named (refused.Desk (desk.Resolve (resolve.Period n))) = refl
named (refused.Desk (desk.Conflict reference)) = refl
named (refused.Desk desk.OtherBase) = refl
named (refused.Desk (desk.Read fault)) = of_record fault
named (refused.Desk (desk.File offset)) = refl
named (refused.Publication outbox.Memory) = refl
named (refused.Publication outbox.OtherAirline) = refl
named (refused.Publication outbox.OtherMode) = refl
named (refused.Publication outbox.Reference) = refl
named (refused.Publication outbox.Date) = refl
named (refused.Publication (outbox.Order reference)) = refl
named (refused.Publication outbox.References) = refl
named (refused.Export airline (export.Variations flight)) = refl
named (refused.Export airline export.Records) = refl
named (refused.Export airline export.WriteFault) = refl
named (refused.Export airline export.Memory) = refl
named refused.WriteFault = refl
named (refused.Script n) = refl
named refused.Memory = refl
named (refused.File name) = refl
named (refused.Busy name) = refl
named (refused.Occupied name) = refl

-- ---- refusals of one number

module _ (a b : Refusal) (is : refusal_number a ≡ refusal_number b) where
  same_name : refusal_name a ≡ refusal_name b
  same_name = named a ∙ ap name_of is ∙ sym (named b)

  same_head : refusal_head a ≡ refusal_head b
  same_head =
      ap (λ (n : ℕ). codes "refused " ++ decimal n ++ 32 ∷ refusal_name a) is
      ∙ ap (λ (name : List ℕ). codes "refused " ++ decimal (refusal_number b) ++ 32 ∷ name) same_name

  -- a word that names one names the other
  pub names_both : (word : Text) → Names word a → Names word b
  names_both word (inl name) =
      inl (ap (map to_ascii_lowercase) (sym same_name) ∙ name)
  names_both word (inr line) =
      inr (ap (begins_with word) (sym same_head) ∙ line)

-- ---- no number is greater than 93

below : (numbers : List ℕ) (number : ℕ) → list_all (λ n. nat_lt n 94) numbers ≡ true
    → list_any (λ n. n == number) numbers ≡ true → number < 94
below [] number all any = absurd (true≢false (sym any))
below (n ∷ numbers) number all any =
    let parts = and_parts (nat_lt n 94) (list_all (λ m. nat_lt m 94) numbers) all in
    ⊎_elim (λ is. subst (λ (m : ℕ). m < 94) (eqb-true n number is) (ltb-true n 94 parts.0))
    (λ later. below numbers number parts.1 later)
    (or_cases (n == number) (list_any (λ m. m == number) numbers) any)

pub at_most_93 : (number : ℕ) → is_refusal number ≡ true → number < 94
at_most_93 number known = below refusal_numbers number refl known
