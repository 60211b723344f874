-- The export of a schedule is the export of its timetable.
use Rattle.std.proofs.Common.{◌≡◌, ℕ, List, Result, ap, subst, ◌∙◌}
use Rattle.ssim_records.specs.Device.{Writer}
use Rattle.ssim_records.specs.declared.record.Record.{Record}
use Rattle.ssim_base.proofs.ReadingBack.{reads_back_as}
use Rattle.ssim_base.proofs.Whole.{same_export}
use Rattle.ssim_base.specs.BaseSeen.{BaseSeen, base_with}
use Rattle.ssim_base.specs.Export.{ExportRefusal, Frame, chapter7, export_bytes, result_map}
use Rattle.ssim_schedule.specs.clauses.ExportResult.{ReadsBackBase, Refuses, RefusesBase, Writes}
use Rattle.ssim_schedule.specs.clauses.ExportResult.{WritesBase}
use Rattle.ssim_schedule.specs.clauses.Schedule.{Flown}
use Rattle.ssim_base.specs.Stations.{Row}
use Rattle.ssim_base.specs.Timetable.{Days, itinerary}
use Rattle.ssim_schedule.specs.declared.export.ExportFault.{ExportFault}
use Rattle.ssim_values.specs.Flight.{FlightNumber, IsFlight}
use Rattle.ssim_held.specs.Entries.{DeskSeen, Entry}
use Rattle.ssim_desk.specs.Meaning.{after_entries, left_by}
use Rattle.ssim_desk.specs.internal.Changes.{Shows}

module _ (days others : FlightNumber → Days) (same : (flight : FlightNumber) → IsFlight flight → days flight ≡ others flight) where
  pub same_chapter7 : (frame : Frame) → chapter7 frame days ≡ chapter7 frame others
  same_chapter7 frame = ap (result_map export_bytes) (same_export frame days others same)

  module _ (records : List Record) where
    pub writes : (old new : Writer) → WritesBase records days old new
        → WritesBase records others old new
    writes old new (frame, has, w) = (
      frame,
      has,
      subst (λ (e : Result (List ℕ) ExportRefusal). Writes e old new)
          (same_chapter7 frame) w,
    )

    pub refuses : {W : Type 0} (state : W → Writer) (old new : W) (fault : ExportFault)
        → RefusesBase state records days old new fault → RefusesBase state records others old new fault
    refuses state old new fault (frame, has, r) = (
      frame,
      has,
      subst (λ (e : Result (List ℕ) ExportRefusal). Refuses state e old new fault)
          (same_chapter7 frame) r,
    )

    pub reads_back : (old new : Writer) → ReadsBackBase records days old new
        → ReadsBackBase records others old new
    reads_back old new (frame, has, bytes, took, back) =
        (frame, has, bytes, took, reads_back_as frame days others bytes same back)

-- The messages have acted on the timetable of the base. The schedule has the timetable that they
-- leave.
pub left : (base : BaseSeen) (entries : List Entry) (rows : List Row) (messages : List Entry) (schedule : Flown) → rows ≡ base.rows → messages ≡ entries
    → Shows schedule (after_entries rows messages (itinerary base.records)) → Shows schedule (left_by base entries)
left base entries rows messages schedule same_rows same_messages shows =
    subst (λ (es : List Entry). Shows schedule (after_entries base.rows es (itinerary base.records))) same_messages
    (subst (λ (rs : List Row). Shows schedule (after_entries rs messages (itinerary base.records))) same_rows shows)

-- ---- the parts that a desk is taken into

abbrev desk_of : BaseSeen → List Entry → DeskSeen
desk_of base held = record { base = base; held = held; applied = 0 }

-- a desk whose base has these records and these rows
abbrev pub desk_with : List Record → List Row → List Entry → DeskSeen
desk_with records rows held = desk_of (base_with records rows) held

-- it is the desk whose base has these parts
pub taken_apart : (records : List Record) (rows : List Row) (held : List Entry) (base : BaseSeen)
    (desk : DeskSeen) → base_with records rows ≡ base
    → desk_of base held ≡ desk → desk_with records rows held ≡ desk
taken_apart records rows held base desk parts is = ap (λ (b : BaseSeen). desk_of b held) parts ∙ is
