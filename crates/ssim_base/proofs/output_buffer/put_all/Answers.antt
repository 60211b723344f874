-- The sink took a prefix of the rest.
use Rattle.std.proofs.Common.{◌∙◌, arith}
use Rattle.std.proofs.lemmas.Bool.Decides.{nat_tests}
use Rattle.ssim_base.proofs.SinkLemmas.{then, front_taken}
use Rattle.ssim_base.proofs.output_buffer.put_all.Goals as goal

pub loop-rest-preserved : goal.loop-rest-preserved
loop-rest-preserved g c =
    let old = g.W.Sink.state c.args.out.now in
    let mid = g.W.Sink.state c.loop-rest.out in
    let new = g.W.Sink.state c.put.new.self in
    let rest = c.loop-rest.rest.now in
    let left = c.split_at.result.1.now in
    let took = front_taken c.in-Ok.n rest left mid.taken new.taken c.split_at.ensures.back
    c.in-Ok.ensures.bytes in
    record {
      taken = then c.args.bytes.now rest left old.taken mid.taken new.taken
          c.loop-rest.invariant.taken took;
      failures = grind (arith, nat_tests, c.in-Ok.ensures.failures, c.loop-rest.invariant.failures);
      device = c.put.ensures.device ∙ c.loop-rest.invariant.device;
    }
