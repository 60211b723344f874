-- The word, a blank, the digits before the first LF, and what follows it.
use Rattle.std.proofs.Common.{◌++◌, ◌∷◌, ◌∙◌, ap, length, length-append, arith}
use Rattle.std.specs.Fmt.{decimal}
use Rattle.ssim_text.proofs.LeftLemmas.{from_shorter}
use Rattle.ssim_held.proofs.CountLines.{counted_on, digits_are, later_is, lines_are, no_end}
use Rattle.ssim_held.proofs.desk_file_reader.count_line.count_line.Goals as goal

pub returns-in_err-digits-clause-only : goal.returns-in_err-digits-clause-only
returns-in_err-digits-clause-only c = λ n later h e.
    let two = c.in_ok-rest.ensures.only (decimal n ++ 10 ∷ later) (c.in_ok-after_prefix.ensures.only (32 ∷ (decimal n ++ 10 ∷ later)) (e ∙ counted_on c.args.word.now later n)) in
    absurd (no_end n c.in_ok-rest.rest.now later h two c.in_err-digits.ensures.none)

pub returns-in_err-number-clause-only : goal.returns-in_err-number-clause-only
returns-in_err-number-clause-only c = λ n later h e.
    let two = c.in_ok-rest.ensures.only (decimal n ++ 10 ∷ later) (c.in_ok-after_prefix.ensures.only (32 ∷ (decimal n ++ 10 ∷ later)) (e ∙ counted_on c.args.word.now later n)) in
    let never = c.in_err-number.ensures.only n h (digits_are n c.in_ok-rest.rest.now c.in_ok-digits.digits.now later h two c.in_ok-digits.ensures.some.0) in
    absurd cc

pub returns-clause-some : goal.returns-clause-some
returns-clause-some c =
    lines_are c.args.word.now c.args.bytes.now c.in_ok-after_prefix.field-0.now c.in_ok-rest.rest.now c.in_ok-digits.digits.now c.in_ok-digits.rest.now c.in_ok-number.field-0
    c.in_ok-after_prefix.ensures.some c.in_ok-rest.ensures.some c.in_ok-digits.ensures.some.0 c.in_ok-digits.ensures.some.1 c.in_ok-number.ensures.some

pub returns-clause-shorter : goal.returns-clause-shorter
returns-clause-shorter c =
    omega (
      arith,
      from_shorter 10 10 c.in_ok-rest.rest.now c.in_ok-digits.rest.now c.in_ok-digits.ensures.some.1,
      ap length c.in_ok-after_prefix.ensures.some,
      length-append c.args.word.now c.in_ok-after_prefix.field-0.now,
      ap length c.in_ok-rest.ensures.some,
    )

pub returns-clause-only : goal.returns-clause-only
returns-clause-only c = λ n later h e.
    let two = c.in_ok-rest.ensures.only (decimal n ++ 10 ∷ later) (c.in_ok-after_prefix.ensures.only (32 ∷ (decimal n ++ 10 ∷ later)) (e ∙ counted_on c.args.word.now later n)) in
    let is = c.in_ok-number.ensures.only n h (digits_are n c.in_ok-rest.rest.now c.in_ok-digits.digits.now later h two c.in_ok-digits.ensures.some.0) in
    (cc, later_is n c.in_ok-rest.rest.now later c.in_ok-digits.rest.now h two c.in_ok-digits.ensures.some.1)
