-- Which fault of a desk another fault becomes.
use Rattle.ssim_base.specs.declared.resolution.ResolveFault.{ResolveFault}
use Rattle.ssim_text.specs.declared.fault.TextFault.{TextFault}
use Rattle.ssim_held.specs.declared.fault.DeskFault.{DeskFault}
use Rattle.ssim_held.specs.declared.fault.DeskFault.TheVariants.{Memory, Text, Resolve}
use Rattle.ssim_held.specs.declared.fault.DeskFault.TheVariants.{Read}
use Rattle.ssim_base.specs.declared.resolution.ResolveFault.TheVariants as resolve_fault
use Rattle.ssim_text.specs.declared.fault.TextFault.TheVariants as text_fault
use Rattle.ssim_records.specs.declared.fault.RecordFault.TheVariants as record_fault
use Rattle.ssim_records.specs.declared.input_buffer.InputFault.{InputFault}
use Rattle.ssim_records.specs.declared.input_buffer.InputFault.TheVariants as input_fault

-- a text that is no message, or for which there is no memory
abbrev pub text_refused : TextFault → DeskFault
text_refused text_fault.Memory = Memory
text_refused fault = Text fault

-- a message that does not resolve, or for which there is no memory
abbrev pub message_refused : ResolveFault → DeskFault
message_refused resolve_fault.Memory = Memory
message_refused fault = Resolve fault

-- the fault of a desk file whose reader stopped, with record number 0
abbrev pub input_stopped : InputFault → DeskFault
input_stopped input_fault.ReadFault = Read (record_fault.ReadFault 0)
input_stopped input_fault.ReaderNeverEnds = Read (record_fault.ReaderNeverEnds 0)
