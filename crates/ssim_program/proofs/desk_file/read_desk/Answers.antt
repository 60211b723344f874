-- The bytes are no desk file, or memory ran out.
use Rattle.ssim_program.proofs.Opening.{refuses_bytes}
use Rattle.ssim_program.proofs.desk_file.read_desk.Goals as goal

pub returns : goal.returns
returns g c = record {
  read = λ files opened. tt;
  refused = λ files opened unfailing. refuses_bytes files c.args.name.now (g.F.Source.state c.args.file).left c.in-Err.fault c.from.result c.in_default.not-Read opened c.in-Err.ensures.err.file c.from.ensures;
}
