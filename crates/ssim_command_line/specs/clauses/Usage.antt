-- What parsing words returns: a command, or a fault.
use Rattle.std.specs.Prelude.{List, ⊤}
use Rattle.clap.specs.Faults.{fault_of}
use Rattle.clap.specs.Kinds.{IsAmong}
use Rattle.clap.specs.Values.{kind_of}
use Rattle.ssim_command_line.specs.Line.{Text}
use Rattle.ssim_command_line.specs.declared.command_line.LineFault.{LineFault}
use Rattle.ssim_command_line.specs.declared.command_line.LineFault.TheVariants as fault
use Rattle.ssim_command_line.specs.Usage.{whole_program, IsNoCommand}

-- the fault of the command line is one of these words
abbrev pub IsFaultOf : List Text → LineFault → Type 0
IsFaultOf words fault.Memory = ⊤
IsFaultOf words (fault.Shown error) = IsAmong (kind_of error) (fault_of whole_program words)
IsFaultOf words fault.NoCommand = IsNoCommand words
