-- The numbers and names of the faults of an export, and what they name.
use Rattle.std.specs.Prelude.{ℕ, List, codes}
use Rattle.ssim_schedule.specs.declared.export.ExportFault.{ExportFault}
use Rattle.ssim_schedule.specs.declared.export.ExportFault.TheVariants.{Variations, Records, WriteFault, Memory}
use Rattle.ssim_base.specs.declared.place.Place.{Place}
use Rattle.ssim_base.specs.declared.place.Place.TheVariants.{Nowhere, Flight}

-- the number of each fault
abbrev pub export_fault_number : ExportFault → ℕ
export_fault_number (Variations flight) = 50
export_fault_number Records = 51
export_fault_number WriteFault = 52
export_fault_number Memory = 90

-- the name of each fault
abbrev pub export_fault_name : ExportFault → List ℕ
export_fault_name (Variations flight) = codes "Variations"
export_fault_name Records = codes "Records"
export_fault_name WriteFault = codes "WriteFault"
export_fault_name Memory = codes "Memory"

-- what a fault of an export names: the flight, if there is one
abbrev pub export_fault_place : List ℕ → ExportFault → Place
export_fault_place airline (Variations flight) =
    Flight (record { airline = airline; flight = flight })
export_fault_place airline Records = Nowhere
export_fault_place airline WriteFault = Nowhere
export_fault_place airline Memory = Nowhere
