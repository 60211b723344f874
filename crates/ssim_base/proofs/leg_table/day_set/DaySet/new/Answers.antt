-- In words that are all 0 no date has its bit.
use Rattle.std.proofs.Common.{ℕ, List, ap, ◌∙◌}
use Rattle.ssim_base.specs.internal.Dates.{has_date}
use Rattle.ssim_base.proofs.DateLemmas.{no-bits}
use Rattle.ssim_base.proofs.leg_table.day_set.DaySet.new.Goals as goal

pub returns : goal.returns
returns c = λ n.
    ap (λ (words : List ℕ). has_date words n) (c.in_ok-words.ensures.items_if_clones_equal (λ y h. h)) ∙ no-bits 571 n
