-- The file was not read to its end, or memory ran out.
use Rattle.ssim_program.proofs.Within.{failures_of, refuses_read}
use Rattle.ssim_program.proofs.data_set.read_opened.Goals as goal

pub returns-in-Some-clause-refused : goal.returns-in-Some-clause-refused
returns-in-Some-clause-refused g c files opened unfailing =
    let state = g.F.Source.state in let e = c.in-Err.ensures.err in
    refuses_read files c.args.name.now (state c.args.file) (state c.read.new.reader) c.in-Err.fault c.in-Some.refusal opened
    (failures_of files state c.args.file unfailing) (failures_of files state c.read.new.reader unfailing) e.failure e.never_ends c.in-Some.ensures
