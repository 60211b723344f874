-- The number is the digits one after another.
use Rattle.ssim_columns.proofs.lemmas.Clocks.{clock_of_word}
use Rattle.ssim_columns.proofs.text.clock_digits.is_clock_to.Goals as goal

pub returns-then-digits-hours : goal.returns-then-digits-hours
returns-then-digits-hours c =
    λ h. clock_of_word c.args.text.now c.from_be_bytes-digits.result c.args.hours c.requires.len (λ i. (c.type_inv.text i).fits) (rw c.bytes_of.ensures at c.from_be_bytes-digits.ensures) c.if-digits-hours.true (c.are_digits.ensures h)
