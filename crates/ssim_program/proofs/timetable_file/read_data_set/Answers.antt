-- The desk is that of the records, with an empty station table.
use Rattle.std.proofs.Common.{◌∙◌, List, Result, Ok, IfOk, ap, subst}
use Rattle.ssim_records.specs.declared.record.Record.{Record}
use Rattle.ssim_base.specs.BaseSeen.{base_with}
use Rattle.ssim_base.specs.declared.fault.BaseFault.{BaseFault}
use Rattle.ssim_base.specs.declared.note.Note.{Note}
use Rattle.ssim_held.specs.Entries.{DeskSeen}
use Rattle.ssim_program.specs.Made.{ReadsFile}
use Rattle.ssim_program.proofs.timetable_file.read_data_set.Goals as goal

pub returns-in-Ok-Ok-clause-read : goal.returns-in-Ok-Ok-clause-read
returns-in-Ok-Ok-clause-read g c = λ files opened.
    let read = subst (λ (found : Result (List Record) BaseFault). IfOk found (λ set. (notes : List Note) × ReadsFile files c.args.name.now (Ok (set, notes)))) c.in-Ok-Ok.field-0-is (c.in-Ok-Ok.ensures.read files opened) in (
      c.in-Ok-Ok.data_set,
      read.0,
      read.1,
      ap (λ (d : DeskSeen). d.base) c.start.ensures ∙ ap (base_with c.in-Ok-Ok.data_set) c.new.ensures,
      ap (λ (d : DeskSeen). d.held) c.start.ensures,
    )
