-- What a desk shows is what its messages mean.
use Rattle.std.proofs.Common.{◌≡◌, ℕ, ◌<◌, IfErr, List, [], OnOk, Result, Ok, Err, slice_index_or, refl, sym, ap, ◌∙◌}
use Rattle.std.proofs.lemmas.List.Elements.{All-weaker}
use Rattle.ssim_records.specs.Device.{Writer}
use Rattle.ssim_periods.proofs.DayLemmas.{day_count-is}
use Rattle.ssim_base.proofs.Calendars.{at-each_day}
use Rattle.ssim_base.specs.BaseSeen.{BaseSeen}
use Rattle.ssim_base.specs.Export.{ExportRefusal, Frame, chapter7}
use Rattle.ssim_base.specs.ReadBack.{HasFrame}
use Rattle.ssim_schedule.specs.clauses.ExportResult.{RefusesBase, WritesBase}
use Rattle.ssim_schedule.specs.clauses.Schedule.{Flown, days_in}
use Rattle.ssim_schedule.specs.declared.export.ExportFault.{ExportFault}
use Rattle.ssim_schedule.specs.declared.export.ExportFault.TheVariants.{Variations, Records, WriteFault, Memory}
use Rattle.ssim_base.specs.Timetable.{Legs}
use Rattle.ssim_values.specs.Flight.{FlightNumber, IsFlight}
use Rattle.ssim_held.specs.Entries.{AreEntries, DeskSeen, Entry, IsEntry, state_of}
use Rattle.ssim_held.proofs.Entries.{entries-map_of}
use Rattle.ssim_desk.specs.clauses.Desk.{WritesDesk}
use Rattle.ssim_desk.specs.Desk.{days_of_desk, timetable_of}
use Rattle.ssim_desk.specs.Meaning.{Exports, HasDates, Lists, Means, Timetable, found_by, left_by}
use Rattle.ssim_desk.specs.clauses.Meaning.{Finds}
use Rattle.ssim_desk.specs.internal.Changes.{IsAfter}
use Rattle.ssim_desk.proofs.Meanings.{has_one_meaning}

-- a desk's messages are listed as it keeps them
pub lists_held : (desk : DeskSeen) → AreEntries desk.base.records desk.held → Lists (state_of desk) desk.held
lists_held desk h = record {
  held = sym (entries-map_of desk.held h.rising);
  dated = All-weaker (IsEntry desk.base.records) (HasDates desk.base.records) (λ e is. (is.text, is.resolves, is.dated)) desk.held h.each;
}

-- a desk has a meaning
pub has_meaning : (desk : DeskSeen) → AreEntries desk.base.records desk.held → Means (state_of desk) (timetable_of desk)
has_meaning desk h = (desk.held, lists_held desk h, refl)

-- the messages of a desk find what the desk lists
pub has_findings : (desk : DeskSeen) → AreEntries desk.base.records desk.held → Finds (state_of desk) (found_by desk.base desk.held)
has_findings desk h = (desk.held, lists_held desk h, refl)

pub only_meaning : (desk : DeskSeen) → AreEntries desk.base.records desk.held → (timetable : Timetable) → Means (state_of desk) timetable → timetable_of desk ≡ timetable
only_meaning desk h timetable means = has_one_meaning (state_of desk) (timetable_of desk) timetable (has_meaning desk h) means

-- a flight's itinerary in the schedule after some messages
pub legs_after : (base : BaseSeen) (entries : List Entry) (schedule : Flown) → IsAfter base entries schedule → (flight : FlightNumber) → IsFlight flight → (day : ℕ) → day < 36525
    → slice_index_or (days_in schedule flight) day [] ≡ left_by base entries flight day
legs_after base entries schedule is flight exists day within =
    ap (λ (days : List Legs). slice_index_or days day []) (is.shows flight exists) ∙ at-each_day (left_by base entries flight) day (rw day_count-is within)

-- a timetable in the frame of the desk's base has this export
exported : (desk : DeskSeen) → AreEntries desk.base.records desk.held → (frame : Frame)
    → HasFrame frame desk.base.records → (export : Result (List ℕ) ExportRefusal)
    → chapter7 frame (days_of_desk desk) ≡ export → Exports (state_of desk) export
exported desk entries frame has export is =
    record {
      frame = frame;
      has_frame = has;
      timetable = timetable_of desk;
      means = has_meaning desk entries;
      exported = sym is;
    }

-- what an export in the frame of a base leaves is what the export of the desk leaves
pub writes_desk : {W : Type 0} (state : W → Writer) (desk : DeskSeen) (old new : W)
    (r : Result (Unit {0}) ExportFault) → AreEntries desk.base.records desk.held
    → OnOk r (WritesBase desk.base.records (days_of_desk desk) (state old) (state new))
    → IfErr r (RefusesBase state desk.base.records (days_of_desk desk) old new)
    → WritesDesk (state_of desk) (state old) (state new) r
writes_desk state desk old new (Ok x) entries w e =
    (w.2.0, exported desk entries w.0 w.1 _ w.2.1, w.2.2)
writes_desk state desk old new (Err (Variations flight)) entries w e =
    exported desk entries e.0 e.1 _ e.2.0
writes_desk state desk old new (Err Records) entries w e = exported desk entries e.0 e.1 _ e.2.0
writes_desk state desk old new (Err WriteFault) entries w e =
    (e.2.0, exported desk entries e.0 e.1 _ e.2.1, e.2.2)
writes_desk state desk old new (Err Memory) entries w e = tt
