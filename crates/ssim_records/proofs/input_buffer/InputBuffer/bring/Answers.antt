-- Nothing is used before the first fetch.
use Rattle.std.proofs.Common.{refl}
use Rattle.ssim_records.proofs.InputBuffers.{gives_none, uses_none}
use Rattle.ssim_records.proofs.input_buffer.InputBuffer.bring.Goals as goal

pub loop-self-init : goal.loop-self-init
loop-self-init g c = record {
  within = c.requires.within;
  limit = refl;
  uses = uses_none c.args.self.now (g.R.Source.state c.args.reader.now).left;
  gives = gives_none (g.R.Source.state c.args.reader.now) c.args.self.now.came;
}
