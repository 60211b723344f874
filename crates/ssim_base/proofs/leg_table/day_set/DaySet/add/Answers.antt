-- Setting the bit of a day adds that day alone.
use Rattle.std.proofs.Common.{ℕ, ◌<◌, ◌*◌, ◌/◌, ◌%◌, ◌^◌, length, slice_set, bit_or, ap, ◌∙◌, arith}
use Rattle.std.proofs.lemmas.List.{get_or_default}
use Rattle.ssim_base.specs.internal.Dates.{has_date}
use Rattle.ssim_base.proofs.DateLemmas.{date-added}
use Rattle.ssim_base.proofs.leg_table.day_set.DaySet.add.Goals as goal

pub returns-clause-days : goal.returns-clause-days
returns-clause-days c = λ n.
    let words = c.args.self.now.words.items in
    let day = c.args.day in
    let within : day / 64 < length words = omega arith in
    ap (λ (word : ℕ). has_date (slice_set words (day / 64) (bit_or word (1 * 2 ^ (day % 64) % 2 ^ 64))) n)
    (c.index_mut.ensures.value ∙ get_or_default words (day / 64) c.index_mut.result.now 0 within)
    ∙ date-added words day n within
