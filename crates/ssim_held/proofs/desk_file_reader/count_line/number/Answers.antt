-- A number that a `usize` holds is read as it is written.
use Rattle.std.proofs.Common.{Some, ap, sym, ◌∙◌}
use Rattle.ssim_held.proofs.CountLines.{number_read, no_number, decimal_utf8, reads_number}
use Rattle.ssim_held.proofs.desk_file_reader.count_line.number.Goals as goal

pub returns-then-not-is_number-clause-only : goal.returns-then-not-is_number-clause-only
returns-then-not-is_number-clause-only c = λ n h e. absurd (no_number c.args.text.now n h (sym c.is_number.ensures ∙ c.if-not-is_number.true) e)

pub returns-in_default-clause-only : goal.returns-in_default-clause-only
returns-in_default-clause-only c = λ n h e. absurd (c.in_default.ensures.cases.0 (decimal_utf8 c.args.text.now n h e))

pub returns-clause-some : goal.returns-clause-some
returns-clause-some c =
    let p = rw c.in-Ok.ensures.cases.0 at c.parse.ensures.value.0 in
    rw c.ok.ensures.value (number_read c.args.text.now c.parse.result (sym c.is_number.ensures ∙ c.if-not-is_number.false) p)

pub returns-clause-only : goal.returns-clause-only
returns-clause-only c = λ n h e.
    let p = rw c.in-Ok.ensures.cases.0 at c.parse.ensures.value.0 in
    ap Some (c.ok.ensures.value ∙ reads_number c.args.text.now c.parse.result n h e p)
