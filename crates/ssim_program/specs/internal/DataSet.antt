-- The summary of a data set, and errors of a data set that are not of its bytes.
use Rattle.std.specs.Prelude.{◌≡◌, ℕ, List, Option, Some, None, codes}
use Rattle.ssim_records.specs.declared.fault.RecordFault.TheVariants as record_fault
use Rattle.ssim_base.specs.clauses.Summary.{IsSummary}
use Rattle.ssim_base.specs.declared.fault.BaseFault.{BaseFault}
use Rattle.ssim_base.specs.declared.fault.BaseFault.TheVariants as base
use Rattle.ssim_base.specs.declared.summary.Summary.{Summary}
use Rattle.ssim_program.specs.Files.{Files, IsOpened}
use Rattle.ssim_command_line.specs.Line.{Text}
use Rattle.ssim_program.specs.print.Refusal.{IsOfFile}
use Rattle.ssim_program.specs.declared.refusal.Refusal.{Refusal}
use Rattle.ssim_program.specs.declared.refusal.Refusal.TheVariants as refused
use Rattle.ssim_program.specs.Made.{file_limit}

-- the data set in the file of this name has what the summary says
abbrev pub SumsFile : Option Files → Text → Summary → Type 0
SumsFile files name summary =
    (left : Option (List ℕ)) × IsOpened files name left × IsSummary file_limit left summary

-- a refusal with the name of a file
abbrev pub NamesFile : Text → Option Refusal → Type 0
NamesFile name found =
    (refusal : Refusal) × (found ≡ Some refusal) × IsOfFile 91 (codes "File") name refusal

-- the refusal of a file that was not read to its end (13), or has more bytes than the limit (14),
-- or for which memory ran out; none if the fault is of the bytes
abbrev pub IsUnread : Text → BaseFault → Option Refusal → Type 0
IsUnread name base.Memory found = found ≡ Some refused.Memory
IsUnread name (base.Read (record_fault.Short n)) found = found ≡ None
IsUnread name (base.Read (record_fault.BadType n)) found = found ≡ None
IsUnread name (base.Read (record_fault.BadColumn n column)) found = found ≡ None
IsUnread name (base.Read (record_fault.ReadFault n)) found = NamesFile name found
IsUnread name (base.Read (record_fault.ReaderNeverEnds n)) found = NamesFile name found
IsUnread name (base.Refused n why) found = found ≡ None
