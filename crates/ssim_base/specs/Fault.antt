-- The names of faults, and what they name.
use Rattle.std.specs.Prelude.{ℕ, List, codes}
use Rattle.ssim_records.specs.Record.{fault_name, fault_record}
use Rattle.ssim_records.specs.declared.fault.RecordFault.{RecordFault}
use Rattle.ssim_records.specs.declared.fault.RecordFault.TheVariants as record_fault
use Rattle.ssim_text.specs.declared.fault.TextFault.{TextFault}
use Rattle.ssim_text.specs.declared.fault.TextFault.TheVariants as text_fault
use Rattle.ssim_base.specs.declared.fault.BaseFault.{BaseFault}
use Rattle.ssim_base.specs.declared.fault.BaseFault.TheVariants as base
use Rattle.ssim_base.specs.declared.fault.BaseRefusal.{BaseRefusal}
use Rattle.ssim_base.specs.declared.fault.BaseRefusal.TheVariants as refused
use Rattle.ssim_base.specs.declared.place.Place.{Place}
use Rattle.ssim_base.specs.declared.place.Place.TheVariants.{Nowhere, Record, Column, Line, SubMessage}
use Rattle.ssim_base.specs.declared.resolution.ResolveFault.{ResolveFault}
use Rattle.ssim_base.specs.declared.resolution.ResolveFault.TheVariants as resolve
use Rattle.ssim_base.specs.declared.stations.StationFault.{StationFault}
use Rattle.ssim_base.specs.declared.stations.StationFault.TheVariants as stations

-- the name of each refusal
abbrev pub refusal_name : BaseRefusal → List ℕ
refusal_name refused.BadType = codes "BadType"
refusal_name refused.OpenEnd = codes "BadColumn"
refusal_name refused.NoHeader = codes "NoHeader"
refusal_name refused.NoCarrier = codes "NoCarrier"
refusal_name refused.NoTrailer = codes "NoTrailer"
refusal_name refused.OtherAirline = codes "OtherAirline"
refusal_name refused.Overlap = codes "Overlap"
refusal_name refused.Segment = codes "Segment"
refusal_name refused.Overflow = codes "Overflow"
refusal_name refused.Frequency = codes "Frequency"
refusal_name refused.Continuation = codes "Continuation"

-- the name of each fault of a base
abbrev pub base_fault_name : BaseFault → List ℕ
base_fault_name base.Memory = codes "Memory"
base_fault_name (base.Read fault) = fault_name fault
base_fault_name (base.Refused n refusal) = refusal_name refusal

-- the name of each fault of a station table
abbrev pub station_fault_name : StationFault → List ℕ
station_fault_name stations.Memory = codes "Memory"
station_fault_name (stations.Stations n) = codes "Stations"

-- the name of each fault of resolving a message
abbrev pub resolve_fault_name : ResolveFault → List ℕ
resolve_fault_name resolve.Memory = codes "Memory"
resolve_fault_name resolve.TimeMode = codes "TimeMode"
resolve_fault_name (resolve.Airline n) = codes "Airline"
resolve_fault_name (resolve.NoSuchDate n) = codes "NoSuchDate"
resolve_fault_name (resolve.Period n) = codes "Period"

-- ---- what a fault names: nothing if memory ran out

-- what a fault of a record names: the record, or a column of it
abbrev pub record_fault_place : RecordFault → Place
record_fault_place (record_fault.BadColumn n column) = Column n column
record_fault_place fault = Record (fault_record fault)

-- what a fault of a text names: the line
abbrev pub text_fault_place : TextFault → Place
text_fault_place text_fault.Memory = Nowhere
text_fault_place (text_fault.Refused fault line) = Line line

-- what a fault of a base names: the record, or a column of it; a refused open end names column 22
abbrev pub base_fault_place : BaseFault → Place
base_fault_place base.Memory = Nowhere
base_fault_place (base.Read fault) = record_fault_place fault
base_fault_place (base.Refused n refused.OpenEnd) = Column n 22
base_fault_place (base.Refused n refusal) = Record n

-- what a fault of a station table names: the line
abbrev pub station_fault_place : StationFault → Place
station_fault_place stations.Memory = Nowhere
station_fault_place (stations.Stations n) = Line n

-- what a fault of resolving names: a sub-message, or the message as a whole for its time mode
abbrev pub resolve_fault_place : ResolveFault → Place
resolve_fault_place resolve.Memory = Nowhere
resolve_fault_place resolve.TimeMode = SubMessage 0
resolve_fault_place (resolve.Airline n) = SubMessage n
resolve_fault_place (resolve.NoSuchDate n) = SubMessage n
resolve_fault_place (resolve.Period n) = SubMessage n
