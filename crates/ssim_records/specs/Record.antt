-- Records of any type: what they say, how they are written, and why bytes are refused.
use Rattle.std.specs.Prelude.{ℕ, false, ◌≡◌, ◌==◌, ◌+◌, if◌then◌else◌, List, [], ◌∷◌, ◌++◌, Option, Some, None, slice_index, map, codes}
use Rattle.std.specs.List.{flat_map}
use Rattle.ssim_columns.specs.declared.field.Field.{Field}
use Rattle.ssim_records.specs.declared.fault.RecordFault.{RecordFault}
use Rattle.ssim_records.specs.declared.fault.RecordFault.TheVariants.{Short, BadType, BadColumn, ReadFault, ReaderNeverEnds}
use Rattle.ssim_records.specs.declared.record.Record.{Record}
use Rattle.ssim_records.specs.declared.record.Record.TheVariants.{Header, Carrier, Leg, Segment, Trailer}
use Rattle.ssim_columns.specs.Columns.{first_fault}
use Rattle.ssim_records.specs.Frames.{Frames, fill, others}
use Rattle.ssim_records.specs.Header.{SpellsHeader, IsHeader, header_table, written_header}
use Rattle.ssim_records.specs.Carrier.{SpellsCarrier, IsCarrier, carrier_table, written_carrier}
use Rattle.ssim_columns.specs.Leg.{SpellsLeg, IsLeg, leg_table, written_leg}
use Rattle.ssim_columns.specs.Segment.{SpellsSegment, IsSegment, segment_table, written_segment}
use Rattle.ssim_records.specs.Trailer.{SpellsTrailer, IsTrailer, trailer_table, written_trailer}

-- the 200 bytes spell the record
abbrev pub Spells : Record → List ℕ → Type 0
Spells (Header r) bytes = SpellsHeader r bytes
Spells (Carrier r) bytes = SpellsCarrier r bytes
Spells (Leg r) bytes = SpellsLeg r bytes
Spells (Segment r) bytes = SpellsSegment r bytes
Spells (Trailer r) bytes = SpellsTrailer r bytes

-- the record has a spelling: each of its values fits its columns
abbrev pub IsRecord : Record → Type 0
IsRecord (Header r) = IsHeader r
IsRecord (Carrier r) = IsCarrier r
IsRecord (Leg r) = IsLeg r
IsRecord (Segment r) = IsSegment r
IsRecord (Trailer r) = IsTrailer r

-- the bytes as which a record is written
abbrev pub written : Record → List ℕ
written (Header r) = written_header r
written (Carrier r) = written_carrier r
written (Leg r) = written_leg r
written (Segment r) = written_segment r
written (Trailer r) = written_trailer r

-- ---- faults

-- the fields of the type that column 1 says
unfoldable pub table_of : ℕ → Option (List Field)
table_of kind =
    if kind == 49 then Some header_table
    else (if kind == 50 then Some carrier_table
    else (if kind == 51 then Some leg_table
    else (if kind == 52 then Some segment_table
    else (if kind == 53 then Some trailer_table else None))))

-- the fault of a record with an invalid column, if there is one
abbrev pub column_fault : ℕ → Option ℕ → Option RecordFault
column_fault n None = None
column_fault n (Some column) = Some (BadColumn n column)

-- the fault of a record by the table of its type; without a table its type is invalid
abbrev pub fault_by : ℕ → List ℕ → Option (List Field) → Option RecordFault
fault_by n bytes None = Some (BadType n)
fault_by n bytes (Some table) = column_fault n (first_fault bytes table)

-- the fault of 200 bytes: an unknown type, or else the first column of the first invalid field
abbrev pub fault_of : ℕ → List ℕ → Option RecordFault
fault_of n bytes = fault_by n bytes (table_of (slice_index bytes 0))

-- the number of each fault
abbrev pub fault_number : RecordFault → ℕ
fault_number (Short n) = 10
fault_number (BadType n) = 11
fault_number (BadColumn n column) = 12
fault_number (ReadFault n) = 13
fault_number (ReaderNeverEnds n) = 14

-- the record that a fault names
abbrev pub fault_record : RecordFault → ℕ
fault_record (Short n) = n
fault_record (BadType n) = n
fault_record (BadColumn n column) = n
fault_record (ReadFault n) = n
fault_record (ReaderNeverEnds n) = n

-- the name of each fault
abbrev pub fault_name : RecordFault → List ℕ
fault_name (Short n) = codes "Short"
fault_name (BadType n) = codes "BadType"
fault_name (BadColumn n column) = codes "BadColumn"
fault_name (ReadFault n) = codes "ReadFault"
fault_name (ReaderNeverEnds n) = codes "ReaderNeverEnds"

-- ---- serials

-- the serial of a record
abbrev pub serial_of : Record → ℕ
serial_of (Header r) = r.serial
serial_of (Carrier r) = r.serial
serial_of (Leg r) = r.serial
serial_of (Segment r) = r.serial
serial_of (Trailer r) = r.serial

-- ---- records that are written one after another

-- the block of a record, or of fill
abbrev pub block_of : Option Record → List ℕ
block_of None = fill
block_of (Some r) = written r

-- records and fill, each followed by LF
abbrev pub lines : List (Option Record) → List ℕ
lines = flat_map (λ r. block_of r ++ 10 ∷ [])

-- the records with their numbers, fill counted, as they are written
abbrev pub numbered : ℕ → List (Option Record) → List (ℕ × List ℕ)
numbered n [] = []
numbered n (None ∷ later) = numbered (n + 1) later
numbered n (Some r ∷ later) = (n + 1, written r) ∷ numbered (n + 1) later

-- fill, or a record that can be written
abbrev pub IsItem : Option Record → Type 0
IsItem None = Unit {0}
IsItem (Some r) = IsRecord r

-- each record among these can be written
abbrev pub AreItems : List (Option Record) → Type 0
AreItems [] = Unit {0}
AreItems (x ∷ later) = IsItem x × AreItems later

-- Records and fill, written as lines, are framed as their blocks, and the records have their
-- numbers.
abbrev pub WrittenIsFramed : Type 0
WrittenIsFramed = (items : List (Option Record)) → AreItems items
    → Frames 0 false (lines items) (map block_of items) []
    × (others 0 (map block_of items) ≡ numbered 0 items)

-- The bytes as which a record is written spell it.
abbrev pub WrittenSpells : Type 0
WrittenSpells = (r : Record) → IsRecord r → Spells r (written r)
