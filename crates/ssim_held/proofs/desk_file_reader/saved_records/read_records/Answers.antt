-- The number and the records are those of the base, or no base comes next.
use Rattle.std.proofs.Common.{◌≡◌, List, Some, IfSome, length}
use Rattle.ssim_records.specs.clauses.InputBuffer.{Uses, ahead}
use Rattle.ssim_records.specs.declared.record.Record.{Record}
use Rattle.ssim_base.specs.SavedBase.{IsBaseRecords, saved}
use Rattle.ssim_base.specs.declared.data_set.saved_lines.SavedFault.{SavedFault}
use Rattle.ssim_held.specs.File.{records_part}
use Rattle.ssim_held.specs.internal.DeskFileReader.{IfInvalid}
use Rattle.ssim_held.proofs.Inputs.{err_map, invalid_map, ok_map}
use Rattle.ssim_held.proofs.SavedInputs.{HasNoLines, HasNoRecords, no_lines, records_used}
use Rattle.ssim_held.proofs.desk_file_reader.saved_records.read_records.Goals as goal

pub returns-in-Some-clause-ok : goal.returns-in-Some-clause-ok
returns-in-Some-clause-ok g c =
    let some = rw c.in-Some.is at c.in_ok-count.ensures.some in
    let l0 = (g.R.Source.state c.args.reader.now).left in
    let l1 = (g.R.Source.state c.take_count.new.reader).left in
    let l2 = (g.R.Source.state c.read_lines.new.reader).left in
    ok_map c.read_lines.result
    (λ (read : List Record). IsBaseRecords read × (c.in-Some.count ≡ Some (length read)) × Uses (saved read) c.take_count.new.input l1 c.read_lines.new.input l2)
    (λ (read : List Record). IsBaseRecords read × Uses (records_part read) c.args.input.now l0 c.read_lines.new.input l2)
    (λ read h. (h.0, records_used c.in-Some.count read c.args.input.now c.take_count.new.input c.read_lines.new.input l0 l1 l2 some h.1 h.2))
    c.read_lines.ensures.ok

pub returns-in-Some-clause-err : goal.returns-in-Some-clause-err
returns-in-Some-clause-err g c =
    let some = rw c.in-Some.is at c.in_ok-count.ensures.some in
    let only = rw c.in-Some.is at c.in_ok-count.ensures.only in
    let l0 = (g.R.Source.state c.args.reader.now).left in
    let l1 = (g.R.Source.state c.take_count.new.reader).left in
    let P = IfSome (ahead c.take_count.new.input l1) (HasNoLines c.in-Some.count) in
    let Q = IfSome (ahead c.args.input.now l0) HasNoRecords in
    err_map c.read_lines.result (λ (e : SavedFault). IfInvalid e P) (λ (e : SavedFault). IfInvalid e Q)
    (λ e h. invalid_map e P Q (no_lines c.in-Some.count c.args.input.now c.take_count.new.input l0 l1 some only) h)
    c.read_lines.ensures.err
