-- The numbers and names of the faults of a desk, and what they name.
use Rattle.std.specs.Prelude.{ℕ, List, codes}
use Rattle.ssim_records.specs.Record.{fault_name, fault_number}
use Rattle.ssim_base.specs.Fault.{record_fault_place, resolve_fault_name, resolve_fault_place}
use Rattle.ssim_base.specs.Fault.{text_fault_place}
use Rattle.ssim_base.specs.Resolve.{resolve_fault_number}
use Rattle.ssim_base.specs.declared.place.Place.{Place}
use Rattle.ssim_base.specs.declared.place.Place.TheVariants.{Nowhere, Message, Offset}
use Rattle.ssim_text.specs.Fault.{text_fault_name, text_fault_number}
use Rattle.ssim_held.specs.declared.fault.DeskFault.{DeskFault}
use Rattle.ssim_held.specs.declared.fault.DeskFault.TheVariants.{Memory, Text, Resolve, Conflict, OtherBase}
use Rattle.ssim_held.specs.declared.fault.DeskFault.TheVariants.{Read, File}

-- the number by which a fault is known
abbrev pub desk_fault_number : DeskFault → ℕ
desk_fault_number Memory = 90
desk_fault_number (Text fault) = text_fault_number fault
desk_fault_number (Resolve fault) = resolve_fault_number fault
desk_fault_number (Conflict reference) = 60
desk_fault_number OtherBase = 61
desk_fault_number (Read fault) = fault_number fault
desk_fault_number (File offset) = 62

-- the name by which a fault is known
abbrev pub desk_fault_name : DeskFault → List ℕ
desk_fault_name Memory = codes "Memory"
desk_fault_name (Text fault) = text_fault_name fault
desk_fault_name (Resolve fault) = resolve_fault_name fault
desk_fault_name (Conflict reference) = codes "Conflict"
desk_fault_name OtherBase = codes "OtherBase"
desk_fault_name (Read fault) = fault_name fault
desk_fault_name (File offset) = codes "DeskFile"

-- the line, sub-message, message, record or element that the fault names
abbrev pub desk_fault_place : DeskFault → Place
desk_fault_place Memory = Nowhere
desk_fault_place (Text fault) = text_fault_place fault
desk_fault_place (Resolve fault) = resolve_fault_place fault
desk_fault_place (Conflict reference) = Message reference
desk_fault_place OtherBase = Nowhere
desk_fault_place (Read fault) = record_fault_place fault
desk_fault_place (File offset) = Offset offset
