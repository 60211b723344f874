-- The lines or rows are those that the form names.
use Rattle.ssim_program.proofs.command.diff.printed.Goals as goal

pub returns-then-form : goal.returns-then-form
returns-then-form c = λ old new is.
    rw c.if-form.true (c.difference_rows.ensures old new is)

pub returns-then-form-2 : goal.returns-then-form-2
returns-then-form-2 c = λ old new is.
    rw c.if-form.false (rw c.if-form-2.true (c.summary_lines.ensures old new is))

pub returns-else-form-2 : goal.returns-else-form-2
returns-else-form-2 c = λ old new is.
    rw c.if-form.false (rw c.if-form-2.false (c.difference_lines.ensures old new is))
