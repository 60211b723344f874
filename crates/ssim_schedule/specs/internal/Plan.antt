-- What is to be exported, flight by flight: pieces instead of days.
use Rattle.std.specs.Prelude.{◌≡◌, ℕ, ◌+◌, ◌&&◌, nat_lt, if◌then◌else◌, List, [], ◌∷◌, map, length, slice_index, Option, Some, None}
use Rattle.std.specs.List.{flat_map, All}
use Rattle.ssim_values.specs.Flight.{FlightNumber}
use Rattle.ssim_values.specs.Period.{DayRange}
use Rattle.ssim_records.specs.Leg.{Name}
use Rattle.ssim_records.specs.Record.{written}
use Rattle.ssim_records.specs.declared.record.Record.{Record}
use Rattle.ssim_base.specs.ReadBack.{IsWritable}
use Rattle.ssim_base.specs.Timetable.{Legs}
use Rattle.ssim_schedule.specs.internal.SharedLegs.{legs_count}
use Rattle.ssim_base.specs.Export as refusal
use Rattle.ssim_base.specs.Export.{ExportRefusal, Frame, Piece, export_bytes, leg_records, line, numbered, pieces, pieces_records, section_bytes, sections, tail_record}
use Rattle.ssim_schedule.specs.FlightPieces.{Divided}
use Rattle.ssim_schedule.specs.internal.Table.{Table}
use Rattle.ssim_schedule.specs.declared.export.ExportFault.{ExportFault}
use Rattle.ssim_schedule.specs.declared.export.ExportFault.TheVariants.{Variations, Records, WriteFault, Memory}

-- the flights of a schedule with their pieces
abbrev pub plan_of : Table → List Divided
plan_of table = map (λ f. (f.flight, pieces f.periods.days)) table

-- ---- how many records there are

-- the number of records of some pieces
abbrev pub pieces_count : List Piece → ℕ
pieces_count [] = 0
pieces_count (piece ∷ later) = legs_count piece.1 + pieces_count later

-- the number of records of a plan
abbrev pub plan_count : List Divided → ℕ
plan_count [] = 0
plan_count (p ∷ plan) = pieces_count p.1 + plan_count plan

-- ---- what records may have

-- each leg of the piece can be written
abbrev pub HasWritableLegs : Piece → Type 0
HasWritableLegs piece = All IsWritable piece.1

-- each leg of all pieces of the flight can be written
abbrev pub HasWritablePieces : Divided → Type 0
HasWritablePieces p = All HasWritableLegs p.1

-- ---- the export of a plan

-- the records of a plan, with serial 0
abbrev pub plan_records : List ℕ → List Divided → List Record
plan_records airline plan = flat_map (λ p. pieces_records airline p.0 1 p.1) plan

-- the refusal of the first flight of a plan that cannot be exported; `count` is the number of
-- records before it
abbrev pub plan_refusal : ℕ → List Divided → Option ExportRefusal
plan_refusal count [] = None
plan_refusal count (p ∷ plan) =
    let after = count + pieces_count p.1 in
    if nat_lt 99 (length p.1) then Some (refusal.Variations p.0)
    else (if nat_lt 0 (length p.1) && nat_lt 999999 (after + 1) then Some refusal.Records
    else plan_refusal after plan)

-- the records as lines, with serials from n on
abbrev pub numbered_lines : ℕ → List Record → List ℕ
numbered_lines n records = flat_map (λ r. line (written r)) (numbered n records)

-- the lines of the tails of a leg with these columns
abbrev pub tail_lines : Name → List ℕ → ℕ → List (List ℕ) → List ℕ
tail_lines name columns n tails =
    numbered_lines n (map (tail_record name (slice_index columns 0)) tails)

-- the lines of the legs of a piece
abbrev pub leg_lines : List ℕ → FlightNumber → ℕ → DayRange → ℕ → Legs → List ℕ
leg_lines airline flight variation period n legs =
    numbered_lines n (flat_map (leg_records airline flight variation period) legs)

-- the lines of pieces of a flight, with itinerary variations from `variation` on
abbrev pub piece_lines : List ℕ → FlightNumber → ℕ → ℕ → List Piece → List ℕ
piece_lines airline flight variation n pieces =
    numbered_lines n (pieces_records airline flight variation pieces)

-- the lines of a plan
abbrev pub plan_lines : List ℕ → ℕ → List Divided → List ℕ
plan_lines airline n plan = numbered_lines n (plan_records airline plan)

-- the bytes of a section of one record
unfoldable pub alone_bytes : Record → List ℕ
alone_bytes one = section_bytes (one ∷ [])

-- the bytes of a plan's export
unfoldable pub plan_bytes : Frame → List Divided → List ℕ
plan_bytes frame plan = export_bytes (sections frame (plan_records frame.carrier.airline plan))

-- ---- what the measure of a plan returns

-- the fault names this refusal
abbrev pub IsRefusedAs : Option ExportRefusal → ExportFault → Type 0
IsRefusedAs answer (Variations flight) = answer ≡ Some (refusal.Variations flight)
IsRefusedAs answer Records = answer ≡ Some refusal.Records
IsRefusedAs answer WriteFault = ⊥
IsRefusedAs answer Memory = ⊥
