-- The base of a data set, and the first invalid record.
use Rattle.std.specs.Prelude.{◌≡◌, ℕ, ◌+◌, ◌-◌, ◌<◌, IfSome, reverse, slice_get, take, Bool, true, false, not, ◌&&◌, ◌||◌, ◌==◌, nat_eq, nat_lt, min, if◌then◌else◌, List, [], ◌∷◌, ◌++◌, map, Option, Some, None, Result, Ok, Err, unwrap_or}
use Rattle.std.specs.List.{list_any}
use Rattle.std.specs.Str.{bytes_eq}
use Rattle.ssim_values.specs.Calendar.{day_limit}
use Rattle.ssim_values.specs.Period.{DayRange}
use Rattle.ssim_periods.specs.CommonDays.{meet}
use Rattle.ssim_records.specs.Carrier.{CarrierFields}
use Rattle.ssim_records.specs.Leg.{LegFields, Name}
use Rattle.ssim_records.specs.Record.{fault_number, serial_of}
use Rattle.ssim_records.specs.declared.record.Record.{Record}
use Rattle.ssim_records.specs.declared.record.Record.TheVariants.{Header, Carrier, Leg, Segment, Trailer}
use Rattle.ssim_columns.specs.declared.field.end_code.EndCode.{EndCode}
use Rattle.ssim_columns.specs.declared.field.end_code.EndCode.TheVariants.{Continuation, End}
use Rattle.ssim_base.specs.Timetable.{same_flight, same_name, period_of}
use Rattle.ssim_records.specs.declared.fault.RecordFault.{RecordFault}
use Rattle.ssim_base.specs.declared.fault.BaseFault.{BaseFault}
use Rattle.ssim_base.specs.declared.fault.BaseFault.TheVariants as fault
use Rattle.ssim_base.specs.declared.fault.BaseFault.TheVariants.{Read, Refused}
use Rattle.ssim_base.specs.declared.fault.BaseRefusal.{BaseRefusal}
use Rattle.ssim_base.specs.declared.fault.BaseRefusal.TheVariants as refused
use Rattle.ssim_base.specs.declared.note.Note.{Note}
use Rattle.ssim_base.specs.declared.note.Note.TheVariants.{Serial, CheckReference}

-- the refusal if the test holds
abbrev pub refuse_if : Bool → BaseRefusal → Option BaseRefusal
refuse_if test refusal = if test then Some refusal else None

-- the first refusal, or else the second
abbrev pub or_else : Option BaseRefusal → Option BaseRefusal → Option BaseRefusal
or_else (Some refusal) later = Some refusal
or_else None later = later

-- the first refusal of the list
abbrev pub first_of : List (Option BaseRefusal) → Option BaseRefusal
first_of [] = None
first_of (answer ∷ answers) = or_else answer (first_of answers)

-- ---- what a record meets in those before it, the latest of which comes first

-- the airline of the carrier record
abbrev pub airline_of : List Record → List ℕ
airline_of [] = []
airline_of (Carrier r ∷ records) = r.airline
airline_of (_ ∷ records) = airline_of records

-- the last day of a carrier record's validity; an open end means 730 days after the start, within
-- the calendar
abbrev pub end_of : CarrierFields → ℕ
end_of r = unwrap_or r.last (min (r.first + 730) (day_limit - 1))

-- the end of the carrier record
abbrev pub carrier_end : List Record → ℕ
carrier_end [] = 0
carrier_end (Carrier r ∷ records) = end_of r
carrier_end (_ ∷ records) = carrier_end records

-- a leg record with its last day; an open end means the last day of the carrier's validity
abbrev pub closed : ℕ → LegFields → LegFields
closed end' r = record r { last = Some (unwrap_or r.last end') }

-- whether a record is a trailer
abbrev pub is_trailer : Record → Bool
is_trailer (Trailer r) = true
is_trailer _ = false

-- whether a record gives a leg of this flight and sequence on a date of this period
abbrev pub overlaps : Name → DayRange → Record → Bool
overlaps name period (Leg e) =
    (same_flight name.flight e.name.flight && nat_eq name.sequence e.name.sequence)
    && meet period (period_of e)
overlaps name period _ = false

-- whether a record is a leg record with this name
abbrev pub is_leg_named : Name → Record → Bool
is_leg_named name (Leg r) = same_name name r.name
is_leg_named name _ = false

-- ---- why a record is refused

-- the refusal of a record out of order: a header comes first, then a carrier, then legs and
-- segments, then a trailer, and nothing after it
abbrev pub place_refusal : List Record → Record → Option BaseRefusal
place_refusal [] (Header r) = None
place_refusal [] _ = Some refused.NoHeader
place_refusal (first ∷ []) (Carrier r) = None
place_refusal (first ∷ []) _ = Some refused.NoCarrier
place_refusal (last ∷ second ∷ more) (Header r) = Some refused.BadType
place_refusal (last ∷ second ∷ more) (Carrier r) = Some refused.BadType
place_refusal (last ∷ second ∷ more) _ = refuse_if (is_trailer last) refused.BadType

-- whether an overflow byte means an overflow: it is neither blank nor 0
abbrev pub is_overflow : ℕ → Bool
is_overflow b = not (b == 32 || b == 48)

-- whether a frequency rate is valid: blank or 1
abbrev pub is_rate : ℕ → Bool
is_rate b = b == 32 || b == 49

-- whether the end code of a trailer announces a continuation
abbrev pub is_continued : EndCode → Bool
is_continued Continuation = true
is_continued End = false

-- the first refusal of a record's own fields, checked against the earlier records
abbrev pub own_refusal : List Record → Record → Option BaseRefusal
own_refusal earlier (Leg r) =
    let leg = closed (carrier_end earlier) r in
    first_of (
    refuse_if (not (bytes_eq r.name.airline (airline_of earlier))) refused.OtherAirline
    ∷ refuse_if (is_overflow r.overflow) refused.Overflow
    ∷ refuse_if (not (is_rate r.rate)) refused.Frequency
    ∷ refuse_if (nat_lt (period_of leg).last r.first) refused.OpenEnd
    ∷ refuse_if (list_any (overlaps r.name (period_of leg)) earlier) refused.Overlap
    ∷ [])
own_refusal earlier (Segment r) = first_of (
    refuse_if (not (bytes_eq r.name.airline (airline_of earlier))) refused.OtherAirline
    ∷ refuse_if (is_overflow r.overflow) refused.Overflow
    ∷ refuse_if (not (list_any (is_leg_named r.name) earlier)) refused.Segment
    ∷ [])
own_refusal earlier (Trailer r) = first_of (
    refuse_if (not (bytes_eq r.airline (airline_of earlier))) refused.OtherAirline
    ∷ refuse_if (is_continued r.code) refused.Continuation
    ∷ [])
own_refusal earlier _ = None

-- the refusal of a record after the earlier ones: of its order first, then of its fields
abbrev pub refusal_at : List Record → Record → Option BaseRefusal
refusal_at earlier r = or_else (place_refusal earlier r) (own_refusal earlier r)

-- the refusal at the end of the records, if a header, carrier or trailer is missing
abbrev pub missing : List Record → Option BaseRefusal
missing [] = Some refused.NoHeader
missing (only ∷ []) = Some refused.NoCarrier
missing (last ∷ second ∷ more) = refuse_if (not (is_trailer last)) refused.NoTrailer

-- ---- the base

-- a record as the base has it: without serial, check reference, rate and overflow, and with its end
abbrev pub kept : List Record → Record → Record
kept earlier (Header r) = Header (record r { serial = 0 })
kept earlier (Carrier r) = Carrier (record r { serial = 0 })
kept earlier (Leg r) =
    Leg (record (closed (carrier_end earlier) r) { rate = 32; overflow = 32; serial = 0 })
kept earlier (Segment r) = Segment (record r { overflow = 32; serial = 0 })
kept earlier (Trailer r) = Trailer (record r { check = 0; serial = 0 })

-- how the records of an input end: `Done n` after the last record, whose number is n - 1, or
-- `Broken` at a record that cannot be read
pub data Ending : Type 0 where
  Done : ℕ → Ending
  Broken : RecordFault → Ending

-- the refusal of the record with this number, or else a later fault
abbrev pub at_record : ℕ → Option BaseRefusal → Option BaseFault → Option BaseFault
at_record number (Some refusal) later = Some (Refused number refusal)
at_record number None later = later

-- the fault at the end of the records: the reader's, or a record that is missing
abbrev pub at_end : Ending → Option BaseRefusal → Option BaseFault
at_end (Broken fault) lacking = Some (Read fault)
at_end (Done number) lacking = at_record number lacking None

-- the records of a base in order, after the earlier ones; of the earlier ones the latest comes
-- first
abbrev pub kept_all : List Record → List Record → List Record
kept_all earlier [] = []
kept_all earlier (r ∷ later) = kept earlier r ∷ kept_all (kept earlier r ∷ earlier) later

-- The fault of a data set names the first invalid record: the least n such that record n is refused
-- after records 1 to n - 1. If no record is refused, the fault is the one of the end. `earlier` has
-- the accepted records, the latest first.
abbrev pub first_refusal : Ending → List Record → List (ℕ × Record) → Option BaseFault
first_refusal ending earlier [] = at_end ending (missing earlier)
first_refusal ending earlier (r ∷ later) =
    at_record r.0 (refusal_at earlier r.1) (first_refusal ending (kept earlier r.1 ∷ earlier) later)

-- ---- the numbers of refusals

-- the number of each refusal
abbrev pub refusal_number : BaseRefusal → ℕ
refusal_number refused.BadType = 11
refusal_number refused.OpenEnd = 12
refusal_number refused.NoHeader = 30
refusal_number refused.NoCarrier = 31
refusal_number refused.NoTrailer = 32
refusal_number refused.OtherAirline = 33
refusal_number refused.Overlap = 34
refusal_number refused.Segment = 35
refusal_number refused.Overflow = 36
refusal_number refused.Frequency = 37
refusal_number refused.Continuation = 38

-- the number of each fault
abbrev pub base_fault_number : BaseFault → ℕ
base_fault_number fault.Memory = 90
base_fault_number (Read f) = fault_number f
base_fault_number (Refused n refusal) = refusal_number refusal

-- ---- notes

-- the note if the test holds
abbrev pub note_if : Bool → Note → List Note
note_if test note = if test then note ∷ [] else []

-- the note on the check reference of a trailer
abbrev pub check_notes : ℕ → ℕ → Record → List Note
check_notes number previous (Trailer r) =
    note_if (not (nat_eq r.check previous)) (CheckReference number)
check_notes number previous _ = []

-- the notes of records with their numbers; the serial of the record before the first is taken as 0
abbrev pub notes_of : ℕ → List (ℕ × Record) → List Note
notes_of previous [] = []
notes_of previous (r ∷ later) =
    note_if (not (nat_eq (serial_of r.1) (previous + 1))) (Serial r.0)
    ++ (check_notes r.0 previous r.1 ++ notes_of (serial_of r.1) later)

-- ---- the whole

-- what a data set is read as: records and notes, or a fault
abbrev pub Outcome : Type 0
Outcome = Result (List Record × List Note) BaseFault

-- the refusal, or else the base
abbrev pub unless_refused : Option BaseFault → List Record × List Note → Outcome
unless_refused (Some refusal) base = Err refusal
unless_refused None base = Ok base

-- what a data set is read as: its records and notes, or the fault of its first invalid record
abbrev pub data_set : Ending → List (ℕ × Record) → Outcome
data_set ending records =
    unless_refused (first_refusal ending [] records)
    (kept_all [] (map (λ r. r.1) records), notes_of 0 records)

-- ---- the first invalid record

-- the records before record k, counted from 0, as the base has them; the latest comes first
abbrev pub before_record : List (ℕ × Record) → ℕ → List Record
before_record records k = reverse (kept_all [] (map (λ r. r.1) (take k records)))

-- record k is allowed after the records before it
abbrev pub IsAllowed : List (ℕ × Record) → ℕ → Type 0
IsAllowed records k =
    IfSome (slice_get records k) (λ r. refusal_at (before_record records k) r.1 ≡ None)

-- If record k is refused after the records before it, and each of these is allowed, then the data
-- set is refused for record k.
abbrev pub NamesTheFirst : Type 0
NamesTheFirst =
    (ending : Ending) (records : List (ℕ × Record)) (k : ℕ) (r : ℕ × Record) (refusal : BaseRefusal)
    → ((j : ℕ) → j < k → IsAllowed records j) → slice_get records k ≡ Some r
    → refusal_at (before_record records k) r.1 ≡ Some refusal
    → data_set ending records ≡ Err (Refused r.0 refusal)

-- If each record is allowed, the ending and a missing record decide.
abbrev pub NamesTheEnd : Type 0
NamesTheEnd =
    (ending : Ending) (records : List (ℕ × Record)) → ((j : ℕ) → IsAllowed records j)
    → let base = kept_all [] (map (λ r. r.1) records) in
    data_set ending records ≡ unless_refused (at_end ending (missing (reverse base)))
    (base, notes_of 0 records)
