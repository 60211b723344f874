-- The words name a command, which is obeyed, or they are answered.
use Rattle.std.proofs.Common.{inl, inr, map, refl}
use Rattle.ssim_program.proofs.Replying.{replied}
use Rattle.ssim_program.proofs.program.run_plainly.Goals as goal

pub returns-in-Ok : goal.returns-in-Ok
returns-in-Ok g c = (c.obey.ensures.0, inl (_, c.in-Ok.ensures.named, c.obey.ensures.1), c.obey.ensures.2)

pub returns-in-Err : goal.returns-in-Err
returns-in-Err g c = (
  c.without_request.new.err,
  inr (
    replied (map (λ w. w.now) c.args.words.now) c.in-Err.fault c.args.out.now c.without_request.new.out c.args.err.now c.without_request.new.err c.without_request.result c.in-Err.ensures.fault
        c.without_request.ensures,
    refl,
    refl,
  ),
  inl refl,
)
