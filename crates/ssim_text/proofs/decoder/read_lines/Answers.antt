-- The lines that were read lead to the state: the place and the message follow from it.
use Rattle.std.proofs.Common.{[], ◌∙◌}
use Rattle.ssim_text.specs.declared.lines.Line.{Line}
use Rattle.ssim_text.proofs.Place.{read_line, refused_line, all_read, refused_after, fault_line, fault_end, spells, only_one}
use Rattle.ssim_text.proofs.decoder.read_lines.Goals as goal

nowhere : Line
nowhere = record { number = 0; bytes = record { ref_ptr = (0, 0); now = [] } }

pub returns-in-Err-Refused-clause-place : goal.returns-in-Err-Refused-clause-place
unfolding nowhere
returns-in-Err-Refused-clause-place c =
    let stop = rw c.in-Err-Refused.field-0-is at c.in-Err-Refused.ensures.err in (
      refused_line (λ (x : Line). x.bytes.now) c.loop-index.state c.args.lines.now c.loop-index.index nowhere c.loop-index.invariant stop.0 c.loop-index-test.true,
      fault_line (λ (x : Line). x.bytes.now) c.loop-index.state c.args.lines.now c.loop-index.index nowhere _ c.loop-index.invariant c.loop-index-test.true (c.in-Err-Refused.fault-is ∙ stop.1),
    )

pub loop-index-preserved : goal.loop-index-preserved
unfolding nowhere
loop-index-preserved c =
    read_line (λ (x : Line). x.bytes.now) c.loop-index.state c.in-Ok.next c.args.lines.now c.loop-index.index nowhere c.loop-index.invariant c.in-Ok.ensures.ok c.loop-index-test.true

pub returns-in-Ok-finish-clause-found : goal.returns-in-Ok-finish-clause-found
returns-in-Ok-finish-clause-found c =
    let read = all_read (λ (x : Line). x.bytes.now) c.loop-index.state c.args.lines.now c.loop-index.index c.loop-index.invariant c.loop-index-test.false c.loop-index.auto.index-end in
    spells c.loop-index.state c.in-Ok-finish.draft _ read c.in-Ok-finish.ensures.ok

pub returns-in-Ok-finish-clause-only : goal.returns-in-Ok-finish-clause-only
returns-in-Ok-finish-clause-only c =
    let read = all_read (λ (x : Line). x.bytes.now) c.loop-index.state c.args.lines.now c.loop-index.index c.loop-index.invariant c.loop-index-test.false c.loop-index.auto.index-end in
    λ n h. only_one c.loop-index.state c.in-Ok-finish.draft n _ read c.in-Ok-finish.ensures.ok h

pub returns-in-Err-Refused-finish-clause-place : goal.returns-in-Err-Refused-finish-clause-place
returns-in-Err-Refused-finish-clause-place c =
    let read = all_read (λ (x : Line). x.bytes.now) c.loop-index.state c.args.lines.now c.loop-index.index c.loop-index.invariant c.loop-index-test.false c.loop-index.auto.index-end in
    let stop = rw c.in-Err-Refused-finish.field-0-is at c.in-Err-Refused-finish.ensures.err in (
      refused_after (λ (x : Line). x.bytes.now) c.loop-index.state c.args.lines.now read stop.0,
      fault_end (λ (x : Line). x.bytes.now) c.loop-index.state c.args.lines.now _ read (c.in-Err-Refused-finish.fault-is ∙ stop.1),
    )
