-- The numbers and names of faults.
use Rattle.std.specs.Prelude.{ℕ, List, codes}
use Rattle.ssim_text.specs.declared.fault.Fault.{Fault}
use Rattle.ssim_text.specs.declared.fault.Fault.TheVariants.{BadKind, BadReference, BadAction, BadFlight}
use Rattle.ssim_text.specs.declared.fault.Fault.TheVariants.{BadPeriod, BadEquipment, BadLeg, Extra, TooMany}
use Rattle.ssim_text.specs.declared.fault.Fault.TheVariants.{NotAscii}
use Rattle.ssim_text.specs.declared.fault.TextFault.{TextFault}
use Rattle.ssim_text.specs.declared.fault.TextFault.TheVariants.{Memory, Refused}

-- the number of each fault
abbrev pub fault_number : Fault → ℕ
fault_number BadKind = 20
fault_number BadReference = 21
fault_number BadAction = 22
fault_number BadFlight = 23
fault_number BadPeriod = 24
fault_number BadEquipment = 25
fault_number BadLeg = 26
fault_number Extra = 27
fault_number TooMany = 28
fault_number NotAscii = 29

-- the name of each fault
abbrev pub fault_name : Fault → List ℕ
fault_name BadKind = codes "BadKind"
fault_name BadReference = codes "BadReference"
fault_name BadAction = codes "BadAction"
fault_name BadFlight = codes "BadFlight"
fault_name BadPeriod = codes "BadPeriod"
fault_name BadEquipment = codes "BadEquipment"
fault_name BadLeg = codes "BadLeg"
fault_name Extra = codes "Extra"
fault_name TooMany = codes "TooMany"
fault_name NotAscii = codes "NotAscii"

-- the number of a text's fault
abbrev pub text_fault_number : TextFault → ℕ
text_fault_number Memory = 90
text_fault_number (Refused fault line) = fault_number fault

-- the name of a text's fault
abbrev pub text_fault_name : TextFault → List ℕ
text_fault_name Memory = codes "Memory"
text_fault_name (Refused fault line) = fault_name fault
