-- The serial has four digits, and two after them.
use Rattle.std.proofs.Common.{sym, ap, ◌∙◌, arith, lit≤}
use Rattle.ssim_columns.specs.Numbers.{digits_of}
use Rattle.ssim_columns.proofs.lemmas.Serials.{serial_of_parts}
use Rattle.ssim_columns.proofs.lemmas.Slices.{length_slice}
use Rattle.ssim_columns.proofs.latest_columns.LatestColumns.serial_in.Goals as goal

pub returns-clause-value : goal.returns-clause-value
returns-clause-value c =
    let b = c.args.bytes.now in
    serial_of_parts b c.in_ok-front.front.number c.in_ok-last.last (length_slice b 198 200 (lit≤ tt) (omega (arith, c.told-bytes))) c.in_ok-front.ensures.value (ap digits_of (sym c.text.ensures.value) ∙ sym c.in_ok-last.ensures.value)
