-- What each flight has on each date, by what a desk holds.
use Rattle.std.specs.{Prelude.{◌≡◌, ℕ, ◌&&◌, if◌then◌else◌, List, [], ◌∷◌, All, Result}, FinMap.entries}
use Rattle.ssim_periods.specs.{Calendar.holds, Days.each_day}
use Rattle.ssim_records.specs.declared.record.Record.{Record}
use Rattle.ssim_base.specs.{BaseSeen.BaseSeen, Export.{ExportRefusal, Frame, chapter7}, ReadBack.HasFrame}
use Rattle.ssim_schedule.specs.{Acts.{after_on, finding_of}}
use Rattle.ssim_base.specs.{Resolve.ResolvesIn, Stations.Row, Timetable.{Legs, itinerary, same_flight}}
use Rattle.ssim_schedule.specs.{declared.finding.Finding.Finding}
use Rattle.ssim_base.specs.declared.sub_message.ResolvedSub.{ResolvedSub}
use Rattle.ssim_base.specs.declared.resolution.ResolvedText.{ResolvedText}
use Rattle.ssim_text.specs.declared.action.{Action.Action, Sub.Sub}
use Rattle.ssim_values.specs.Flight.{FlightNumber}
use Rattle.ssim_held.specs.{Held.{DeskState, IsDesk}, Entries.{Entry, keyed}}

-- what each flight has on each date
abbrev pub Timetable : Type 0
Timetable = FlightNumber → ℕ → Legs

-- the timetable after a sub-message, which changes its flight on the dates of its period, each date
-- by itself
abbrev pub after_one : List Row → Action → ResolvedSub → Timetable → Timetable
after_one rows action sub before flight day =
    if same_flight sub.flight flight && holds sub.period day
    then after_on rows action day (before flight day)
    else before flight day

-- the timetable after the sub-messages of a text, in order, each with its full dates
abbrev pub after_subs : List Row → List Sub → List ResolvedSub → Timetable → Timetable
after_subs rows (sub ∷ subs) (dated ∷ dates) before =
    after_subs rows subs dates (after_one rows sub.action dated before)
after_subs _ _ _ before = before

-- the timetable after the sub-messages of an entry
abbrev pub after_entry : List Row → Entry → Timetable → Timetable
after_entry rows e before = after_subs rows e.message.subs e.dates before

-- the timetable after entries, applied in order
abbrev pub after_entries : List Row → List Entry → Timetable → Timetable
after_entries rows [] before = before
after_entries rows (e ∷ entries) before = after_entries rows entries (after_entry rows e before)

-- what each sub-message of a text finds: the number of its dates that get each reason
abbrev pub subs_findings : List Row → List Sub → List ResolvedSub → Timetable → List Finding
subs_findings rows (sub ∷ subs) (dated ∷ dates) before =
    finding_of rows sub.action dated.period (each_day (before dated.flight))
    ∷ subs_findings rows subs dates (after_one rows sub.action dated before)
subs_findings _ _ _ _ = []

-- the findings of each entry in order, one list an entry
abbrev pub entries_findings : List Row → List Entry → Timetable → List (List Finding)
entries_findings rows [] before = []
entries_findings rows (e ∷ entries) before =
    subs_findings rows e.message.subs e.dates before
    ∷ entries_findings rows entries (after_entry rows e before)

-- the timetable that these messages, in this order, leave of a base
abbrev pub left_by : BaseSeen → List Entry → Timetable
left_by base entries = after_entries base.rows entries (itinerary base.records)

-- what each sub-message of these messages finds
abbrev pub found_by : BaseSeen → List Entry → List (List Finding)
found_by base entries = entries_findings base.rows entries (itinerary base.records)

-- the dates of the entry are those of its message as it resolves
abbrev pub HasDates : List Record → Entry → Type 0
HasDates records e =
    (text : ResolvedText) × ResolvesIn records e.message text × (text.subs.items ≡ e.dates)

-- the list has what the desk holds, in order of reference, with the dates that the base gives
pub record Lists (desk : DeskState) (listed : List Entry) : Type 0 where
  pub held : keyed listed ≡ entries desk.held
  pub dated : All (HasDates desk.base.records) listed

-- the meaning of a desk: what its messages, in order of reference, leave of its base's timetable
abbrev pub Means : DeskState → Timetable → Type 0
Means desk timetable =
    (listed : List Entry) × Lists desk listed × (timetable ≡ left_by desk.base listed)

-- Every desk has a meaning.
abbrev pub HasMeaning : Type 0
HasMeaning = (desk : DeskState) → IsDesk desk → (timetable : Timetable) × Means desk timetable

-- A desk has at most one meaning.
abbrev pub HasOneMeaning : Type 0
HasOneMeaning =
    (desk : DeskState) (one other : Timetable) → Means desk one → Means desk other → one ≡ other

-- the result of an export: the chapter 7 bytes of the desk's meaning, or the reason why there are
-- none
pub record Exports (desk : DeskState) (answer : Result (List ℕ) ExportRefusal) : Type 0 where
  pub frame : Frame
  pub has_frame : HasFrame frame desk.base.records
  pub timetable : Timetable
  pub means : Means desk timetable
  pub exported : answer ≡ chapter7 frame (λ flight. each_day (timetable flight))

-- Every desk has an export result.
abbrev pub HasExport : Type 0
HasExport =
    (desk : DeskState) → IsDesk desk → (answer : Result (List ℕ) ExportRefusal)
    × Exports desk answer

-- A desk has at most one export result.
abbrev pub HasOneExport : Type 0
HasOneExport = (desk : DeskState) (one other : Result (List ℕ) ExportRefusal) → Exports desk one
    → Exports desk other → one ≡ other
