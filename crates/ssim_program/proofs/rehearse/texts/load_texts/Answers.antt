-- One more step has its text, or the first that has none is refused.
use Rattle.std.proofs.Common.{◌∙◌}
use Rattle.ssim_program.specs.internal.Rehearse.{as_written}
use Rattle.ssim_program.proofs.Scripted.{loaded_at, refuses_at}
use Rattle.ssim_program.proofs.rehearse.texts.load_texts.Goals as goal

pub loop-next-preserved : goal.loop-next-preserved
loop-next-preserved g c =
    let old = c.loop-next.invariant in
    record {
      loaded =
          loaded_at as_written (g.S.Store.files c.loop-next.store)
          (g.S.Store.files c.args.store.now) c.args.written.now c.loop-next.next-index _
          c.loop-next.steps.items _ c.in-Ok.step
          c.loop-next-test.true old.same old.loaded c.in-Ok.ensures.ok
          c.in_ok-push-in-Ok.ensures.items;
      same = c.load_step.ensures.same ∙ old.same;
      counted = c.load_step.ensures.counted ∙ old.counted;
    }

pub returns-in-Err-clause-err : goal.returns-in-Err-clause-err
returns-in-Err-clause-err g c =
    let old = c.loop-next.invariant in
    refuses_at as_written (g.S.Store.files c.loop-next.store) (g.S.Store.files c.args.store.now)
    c.args.written.now c.loop-next.next-index _ c.loop-next.steps.items c.in-Err.refusal
    c.loop-next-test.true old.same old.loaded c.in-Err.ensures.err
