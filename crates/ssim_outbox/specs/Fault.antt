-- The numbers and names of the faults, and what they name.
use Rattle.std.specs.Prelude.{ℕ, List, codes}
use Rattle.ssim_base.specs.declared.place.Place.{Place}
use Rattle.ssim_base.specs.declared.place.Place.TheVariants.{Message, Nowhere, SubMessage}
use Rattle.ssim_outbox.specs.declared.fault.OutboxFault.{OutboxFault}
use Rattle.ssim_outbox.specs.declared.fault.OutboxFault.TheVariants as fault

-- the number by which a fault is known
abbrev pub outbox_fault_number : OutboxFault → ℕ
outbox_fault_number fault.Memory = 90
outbox_fault_number fault.OtherAirline = 41
outbox_fault_number fault.OtherMode = 40
outbox_fault_number fault.Reference = 21
outbox_fault_number fault.Date = 42
outbox_fault_number (fault.Order reference) = 64
outbox_fault_number fault.References = 65

-- the name by which a fault is known
abbrev pub outbox_fault_name : OutboxFault → List ℕ
outbox_fault_name fault.Memory = codes "Memory"
outbox_fault_name fault.OtherAirline = codes "Airline"
outbox_fault_name fault.OtherMode = codes "TimeMode"
outbox_fault_name fault.Reference = codes "BadReference"
outbox_fault_name fault.Date = codes "NoSuchDate"
outbox_fault_name (fault.Order reference) = codes "Order"
outbox_fault_name fault.References = codes "References"

-- what the fault names: the messages as a whole (sub-message 0), or the message that is held
abbrev pub outbox_fault_place : OutboxFault → Place
outbox_fault_place fault.Memory = Nowhere
outbox_fault_place fault.OtherAirline = SubMessage 0
outbox_fault_place fault.OtherMode = SubMessage 0
outbox_fault_place fault.Reference = Nowhere
outbox_fault_place fault.Date = SubMessage 0
outbox_fault_place (fault.Order reference) = Message reference
outbox_fault_place fault.References = Nowhere
