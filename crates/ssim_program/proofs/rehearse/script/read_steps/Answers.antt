-- The current line spells no step.
use Rattle.std.proofs.Common.{ℕ, List, [], get_or, inr, refl, sym}
use Rattle.ssim_program.specs.internal.Rehearse.{as_written}
use Rattle.ssim_text.specs.declared.lines.Line.{Line}
use Rattle.ssim_program.proofs.Rehearsing.{first_other}
use Rattle.ssim_program.proofs.Scripted.{any_default}
use Rattle.ssim_program.proofs.rehearse.script.read_steps.Goals as goal

seen : Line → ℕ × List ℕ
seen l = (l.number, l.bytes.now)

pub returns-in-None-clause-err : goal.returns-in-None-clause-err
unfolding seen
returns-in-None-clause-err c =
    let place = c.loop-line.line-index in
    let none : Line = record { number = 0; bytes = record { ref_ptr = (0, 0); now = [] } } in
    let line = get_or c.args.lines.now place none in
    inr (
      line.number,
      refl,
      first_other seen as_written c.args.count c.args.lines.now place line c.loop-line.steps.items
          c.loop-line-test.true
          (any_default c.args.lines.now place none line c.loop-line-test.true)
          c.loop-line.invariant.steps (sym c.in-None.ensures.value),
    )
