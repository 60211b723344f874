-- The days of the moved period are looked at.
use Rattle.std.proofs.Common.{◌≡◌, ◌∙◌, ◌<◌, ◌+◌, ◌-◌, ℕ, [], ◌∷◌, false, sym, ap, Option, subst}
use Rattle.std.proofs.Common.{if◌then◌else◌}
use Rattle.std.specs.Prelude.{IfNone, IfSome}
use Rattle.ssim_values.specs.Period.{DayRange}
use Rattle.ssim_periods.specs.Calendar.{holds}
use Rattle.ssim_periods.specs.Days.{changed_on}
use Rattle.ssim_periods.proofs.DayLemmas.{changed_on-each_day, each_day-same}
use Rattle.ssim_base.proofs.Results.{on_ok}
use Rattle.ssim_parts.specs.internal.KeptDates.{came_from, left_if_kept}
use Rattle.ssim_parts.specs.internal.Placed.{fate_after}
use Rattle.ssim_parts.proofs.Held.{none_left, nothing_left, part_left}
use Rattle.ssim_parts.proofs.converted.leave_dates.Goals as goal

pub returns-then-not-is_kept_with : goal.returns-then-not-is_kept_with
returns-then-not-is_kept_with c = λ before is.
    let s = c.args.shift in let t = c.args.later in
    is ∙ each_day-same before (λ n. fate_after s (s + 1 - t) t (c.args.part.now ∷ []) n (before n))
    (λ n within. nothing_left s (s + 1 - t) t c.args.part.now
    (sym c.is_kept_with.ensures ∙ c.if-not-is_kept_with.true) n (before n))

pub returns-in-None : goal.returns-in-None
returns-in-None c = λ before is.
    let s = c.args.shift in let t = c.args.later in
    let none = subst (λ (found : Option DayRange). IfNone found ((m : ℕ) → m < 36525
    → came_from (holds c.args.part.now.0) (s + 1 - t) m ≡ false)) c.in-None.is
    c.moved_period.ensures.none in
    is ∙ each_day-same before (λ n. fate_after s (s + 1 - t) t (c.args.part.now ∷ []) n (before n))
    (λ n within. none_left s (s + 1 - t) t c.args.part.now n (before n) (none n within))

pub returns-in-Some : goal.returns-in-Some
returns-in-Some c = λ before was.
    let s = c.args.shift in let t = c.args.later in
    let part = c.args.part.now in
    let moved = holds c.in-Some.moved in
    let is = subst (λ (found : Option DayRange). IfSome found (λ moved. (m : ℕ) → m < 36525
    → holds moved m ≡ came_from (holds part.0) (s + 1 - t) m)) c.in-Some.is
    c.moved_period.ensures.some in
    on_ok c.replace.result
    (λ changed. changed
    ∙ ap (changed_on moved (left_if_kept t) 0) was
    ∙ changed_on-each_day moved (left_if_kept t) before
    ∙ each_day-same (λ n. if moved n then left_if_kept t (before n) else before n)
    (λ n. fate_after s (s + 1 - t) t (part ∷ []) n (before n))
    (λ n within. part_left s (s + 1 - t) t part n (before n) (moved n)
    (sym c.is_kept_with.ensures ∙ c.if-not-is_kept_with.false) (is n within)))
    c.replace.ensures.days
