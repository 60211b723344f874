-- The lines of faults.
use Rattle.std.specs.Prelude.{ℕ, Option, Some, None}
use Rattle.ssim_text.specs.declared.fault.TextFault.{TextFault}
use Rattle.ssim_text.specs.declared.fault.TextFault.TheVariants.{Memory, Refused}

-- the line that a text's fault names, if it names one
abbrev pub text_fault_line : TextFault → Option ℕ
text_fault_line Memory = None
text_fault_line (Refused fault line) = Some line
