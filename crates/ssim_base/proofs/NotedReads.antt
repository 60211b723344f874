-- What is said of the records and the notes of a data set is said of its base.
use Rattle.std.proofs.Common.{List, Vec, Global, Ok, Err}
use Rattle.ssim_records.specs.declared.record.Record.{Record}
use Rattle.ssim_base.specs.Base.{Outcome}
use Rattle.ssim_base.specs.clauses.Reading.{Returns}
use Rattle.ssim_base.specs.internal.Reading.{ReturnsAs}
use Rattle.ssim_base.specs.declared.fault.BaseFault.{BaseFault}
use Rattle.ssim_base.specs.declared.fault.BaseFault.TheVariants as fault
use Rattle.ssim_base.specs.declared.note.Note.{Note}

abbrev pub told_of : List Record → List Note → Outcome
told_of records notes = Ok (records, notes)

abbrev pub noted : List Record × Vec Note Global → List Record × List Note
noted read = (read.0, read.1.items)

pub of_base : (e : BaseFault) (P : Outcome → Type 0) → ReturnsAs noted (Err e) P → Returns (Err e) P
of_base fault.Memory P h = tt
of_base (fault.Read f) P h = h
of_base (fault.Refused number refusal) P h = h
