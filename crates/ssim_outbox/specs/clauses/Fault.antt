-- Which fault another fault becomes.
use Rattle.ssim_outbox.specs.declared.fault.OutboxFault.{OutboxFault}
use Rattle.ssim_outbox.specs.declared.fault.OutboxFault.TheVariants as fault
use Rattle.ssim_outbox.specs.declared.send_fault.SendFault.{SendFault}
use Rattle.ssim_outbox.specs.declared.send_fault.SendFault.TheVariants as send

-- the fault where sub-messages are not sent
abbrev pub not_sent : SendFault → OutboxFault
not_sent send.Memory = fault.Memory
not_sent send.References = fault.References
