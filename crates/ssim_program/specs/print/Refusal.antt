-- The line that a refusal prints, without its line end.
use Rattle.std.specs.Prelude.{◌≡◌, ◌⊎◌, ℕ, List, [], ◌∷◌, ◌++◌, Option, Some, None, codes, string_bytes}
use Rattle.std.specs.Fmt.{decimal}
use Rattle.ssim_values.specs.Designator.{designator_text}
use Rattle.ssim_values.specs.Fault.{fault_name, fault_number, memory_name}
use Rattle.ssim_base.specs.Base.{base_fault_number}
use Rattle.ssim_base.specs.Fault.{base_fault_name, base_fault_place, station_fault_name, station_fault_place}
use Rattle.ssim_schedule.specs.ExportResult.{export_fault_name, export_fault_number, export_fault_place}
use Rattle.ssim_base.specs.Stations.{station_fault_number}
use Rattle.ssim_schedule.specs.declared.export.ExportFault.TheVariants as export
use Rattle.ssim_base.specs.declared.place.Place.{Place}
use Rattle.ssim_base.specs.declared.place.Place.TheVariants.{Nowhere, Record, Column, Line, SubMessage}
use Rattle.ssim_base.specs.declared.place.Place.TheVariants.{Offset, Flight, Message}
use Rattle.ssim_text.specs.Fault as text
use Rattle.ssim_text.specs.Reference.{printed_reference}
use Rattle.ssim_text.specs.declared.fault.Fault.TheVariants as text_fault
use Rattle.ssim_held.specs.Fault.{desk_fault_name, desk_fault_number, desk_fault_place}
use Rattle.ssim_outbox.specs.Fault.{outbox_fault_name, outbox_fault_number, outbox_fault_place}
use Rattle.ssim_program.specs.print.Names.{printed_name}
use Rattle.ssim_program.specs.declared.refusal.Refusal.{Refusal}
use Rattle.ssim_program.specs.declared.refusal.Refusal.TheVariants as refusal

-- the number of a refusal, which is its fault's number
abbrev pub refusal_number : Refusal → ℕ
refusal_number (refusal.Value fault) = fault_number fault
refusal_number refusal.Reference = text.fault_number text_fault.BadReference
refusal_number refusal.Aircraft = text.fault_number text_fault.BadEquipment
refusal_number (refusal.DataSet fault) = base_fault_number fault
refusal_number (refusal.Stations fault) = station_fault_number fault
refusal_number (refusal.Desk fault) = desk_fault_number fault
refusal_number (refusal.Publication fault) = outbox_fault_number fault
refusal_number (refusal.Export airline fault) = export_fault_number fault
refusal_number refusal.WriteFault = export_fault_number export.WriteFault
refusal_number (refusal.Script line) = 63
refusal_number refusal.Memory = 90
refusal_number (refusal.File name) = 91
refusal_number (refusal.Busy name) = 92
refusal_number (refusal.Occupied name) = 93

-- the name of a refusal, which is its fault's name
abbrev pub refusal_name : Refusal → List ℕ
refusal_name (refusal.Value fault) = fault_name fault
refusal_name refusal.Reference = text.fault_name text_fault.BadReference
refusal_name refusal.Aircraft = text.fault_name text_fault.BadEquipment
refusal_name (refusal.DataSet fault) = base_fault_name fault
refusal_name (refusal.Stations fault) = station_fault_name fault
refusal_name (refusal.Desk fault) = desk_fault_name fault
refusal_name (refusal.Publication fault) = outbox_fault_name fault
refusal_name (refusal.Export airline fault) = export_fault_name fault
refusal_name refusal.WriteFault = export_fault_name export.WriteFault
refusal_name (refusal.Script line) = codes "Script"
refusal_name refusal.Memory = memory_name
refusal_name (refusal.File name) = codes "File"
refusal_name (refusal.Busy name) = codes "Busy"
refusal_name (refusal.Occupied name) = codes "Occupied"

-- what a refusal names: what its fault names, or the line of a script; the file of 91, 92 and 93 is
-- no place
abbrev pub refusal_place : Refusal → Place
refusal_place (refusal.Value fault) = Nowhere
refusal_place refusal.Reference = Nowhere
refusal_place refusal.Aircraft = Nowhere
refusal_place (refusal.DataSet fault) = base_fault_place fault
refusal_place (refusal.Stations fault) = station_fault_place fault
refusal_place (refusal.Desk fault) = desk_fault_place fault
refusal_place (refusal.Publication fault) = outbox_fault_place fault
refusal_place (refusal.Export airline fault) = export_fault_place airline fault
refusal_place refusal.WriteFault = Nowhere
refusal_place (refusal.Script line) = Line line
refusal_place refusal.Memory = Nowhere
refusal_place (refusal.File name) = Nowhere
refusal_place (refusal.Busy name) = Nowhere
refusal_place (refusal.Occupied name) = Nowhere

-- the file of 91, 92 and 93
abbrev pub refusal_file : Refusal → Option (List ℕ)
refusal_file (refusal.File name) = Some (string_bytes name)
refusal_file (refusal.Busy name) = Some (string_bytes name)
refusal_file (refusal.Occupied name) = Some (string_bytes name)
refusal_file r = None

-- a place in a line, after what comes before it
abbrev pub place_text : Place → List ℕ
place_text Nowhere = []
place_text (Record n) = codes " record " ++ decimal n
place_text (Column n column) = codes " record " ++ decimal n ++ codes " column " ++ decimal column
place_text (Line n) = codes " line " ++ decimal n
place_text (SubMessage n) = codes " sub " ++ decimal n
place_text (Offset n) = codes " offset " ++ decimal n
place_text (Flight flight) = codes " flight " ++ designator_text flight
place_text (Message reference) = 32 ∷ printed_reference reference

-- a fault by its number, its name and its place, as: 12 BadColumn record 3 column 37
abbrev pub fault_text : ℕ → List ℕ → Place → List ℕ
fault_text number name place = decimal number ++ 32 ∷ name ++ place_text place

-- the file or the place that is named
abbrev pub named_text : Option (List ℕ) → Place → List ℕ
named_text (Some file) place = 32 ∷ file
named_text None place = place_text place

-- the beginning of a refusal: `refused`, the number and the name
abbrev pub refusal_head : Refusal → List ℕ
refusal_head r = codes "refused " ++ decimal (refusal_number r) ++ 32 ∷ refusal_name r

-- the text of a refusal: its beginning and what is named, as: refused 11 BadType record 3
abbrev pub refusal_text : Refusal → List ℕ
refusal_text r = refusal_head r ++ named_text (refusal_file r) (refusal_place r)

-- memory ran out, in this crate or in one below
abbrev pub IsMemory : Refusal → Type 0
IsMemory r = refusal_number r ≡ 90

-- Wherever memory ran out, the line is the same.
abbrev pub MemoryHasOneLine : Type 0
MemoryHasOneLine = (r : Refusal) → IsMemory r → refusal_text r ≡ codes "refused 90 Memory"

-- the refusal has this number and name, and the name of the file as it is printed; or memory ran out
abbrev pub IsOfFile : ℕ → List ℕ → List ℕ → Refusal → Type 0
IsOfFile number name file r = IsMemory r
    ⊎ (refusal_text r ≡ codes "refused " ++ decimal number ++ 32 ∷ name ++ 32 ∷ printed_name file)
