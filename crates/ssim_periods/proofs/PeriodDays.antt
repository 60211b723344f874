-- The days of a period, counted one by one or weekday by weekday.
use Rattle.std.proofs.Common.{◌≡◌, ◌∙◌, ℕ, zero, suc, ◌+◌, ◌-◌, ◌≤◌, ◌<◌, Bool, false, cond, List, slice_index_or, refl, ap, sym, arith}
use Rattle.std.specs.List.{count_by, range_with_len}
use Rattle.std.proofs.lemmas.List.Sums.{sum_by-cons}
use Rattle.ssim_values.specs.Calendar.{slot}
use Rattle.ssim_values.specs.Period.{DayRange}
use Rattle.ssim_periods.specs.Calendar.{day_count, holds}
use Rattle.ssim_periods.specs.internal.Count.{tally, weigh}
use Rattle.ssim_periods.proofs.ApplyLemmas.{inside, outside-after, outside-before}
use Rattle.ssim_periods.proofs.CountLemmas.{tally-period, tally-same, tally-weigh}

counted-from : (s : ℕ → Bool) (n k : ℕ) → count_by s (range_with_len n k) ≡ tally s n k
counted-from s n zero = refl
counted-from s n (suc k) =
    sum_by-cons (λ (m : ℕ). cond (s m) 1 0) n (range_with_len (n + 1) k) ∙ ap (λ c. cond (s n) 1 0 + c) (counted-from s (n + 1) k)

-- a count of days
pub counted : (s : ℕ → Bool) → count_by s (range_with_len 0 day_count) ≡ tally s 0 day_count
counted s = counted-from s 0 day_count

-- whether a weekday is in a mask
abbrev pub has : List Bool → ℕ → Bool
has mask w = slice_index_or mask w false

-- the days of a period by the sums of its weekdays before its first day and up to its last
pub days-by-weekday : (p : DayRange) (count first end : ℕ) (mask : List Bool) → first ≡ p.first → end ≡ p.last + 1 → mask ≡ p.days → p.first ≤ p.last → p.last < 36525
    → count + weigh (has mask) 7 first ≡ weigh (has mask) 7 end → count ≡ count_by (holds p) (range_with_len 0 day_count)
days-by-weekday p count first end mask f e m ordered within sums =
    let k = p.last + 1 - p.first in
    let days = tally-weigh (has mask) first k in
    let whole : first + k ≡ end = omega arith in
    let up_to : weigh (has mask) 7 (first + k) ≡ weigh (has mask) 7 end = ap (weigh (has mask) 7) whole in
    let between : count ≡ tally (λ n. has mask (slot n)) first k = omega arith in
    between
    ∙ ap (λ a. tally (λ n. has mask (slot n)) a k) f
    ∙ ap (λ days. tally (λ n. has days (slot n)) p.first k) m
    ∙ sym (tally-same (holds p) (λ n. has p.days (slot n)) p.first k (λ n from to. inside p.first p.last n p.days from (omega arith)))
    ∙ sym (tally-period (holds p) p.first p.last ordered within (λ n early. outside-before p.first p.last n p.days early) (λ n late. outside-after p.first p.last n p.days late))
    ∙ sym (counted (holds p))
