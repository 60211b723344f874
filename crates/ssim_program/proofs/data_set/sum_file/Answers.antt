-- The file was not read to its end, or memory ran out.
use Rattle.ssim_program.proofs.Within.{failures_of, refuses_read}
use Rattle.ssim_program.proofs.data_set.sum_file.Goals as goal

pub returns-in-Some-clause-refused : goal.returns-in-Some-clause-refused
returns-in-Some-clause-refused g c =
    let files = g.S.Store.files c.args.store.now in let state = g.S.File.Source.state in let e = c.in-Err.ensures.err in
    let unfailing = g.met.S.Store.unfailing c.args.store.now in
    refuses_read files c.args.name.now (state c.in_ok-file.file) (state c.read.new.reader) c.in-Err.fault c.in-Some.refusal c.in_ok-file.ensures.opened
    (failures_of files state c.in_ok-file.file unfailing) (failures_of files state c.read.new.reader unfailing) e.failure e.never_ends c.in-Some.ensures
