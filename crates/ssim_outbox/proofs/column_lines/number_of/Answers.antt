-- The three digits of a number spell it.
use Rattle.std.proofs.Common.{ℕ, List, ap, arith}
use Rattle.std.specs.Prelude.{slice_index_or}
use Rattle.ssim_outbox.proofs.column_lines.number_of.Goals as goal

pub returns : goal.returns
returns c = λ n few is.
    let byte = λ (k : ℕ). ap (λ (text : List ℕ). slice_index_or text k 0) is in
    let hundreds = c.value_of.ensures.value _ (byte 0) in
    let tens = c.value_of-2.ensures.value _ (byte 1) in
    let ones = c.value_of-3.ensures.value _ (byte 2) in
    omega (arith, few, hundreds, tens, ones)
