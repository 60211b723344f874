-- The runs give each date its fate, and then dates are left for another one.
use Rattle.std.proofs.Common.{◌≡◌, ◌∙◌, ℕ, List, ap}
use Rattle.ssim_periods.specs.Days.{each_day}
use Rattle.ssim_periods.specs.Pieces.{held_on}
use Rattle.ssim_periods.specs.clauses.Days.{changed_by_each}
use Rattle.ssim_periods.proofs.DayLemmas.{each_day-same}
use Rattle.ssim_parts.specs.FlightFates.{FatePiece}
use Rattle.ssim_parts.specs.declared.fate.Fate.{Fate}
use Rattle.ssim_parts.specs.declared.fate.Fate.TheVariants.{Absent}
use Rattle.ssim_parts.specs.internal.Placed.{IsKeptByParts, MovedPiece, fate_after, fate_by}
use Rattle.ssim_parts.specs.internal.Placed.{last_fate}
use Rattle.ssim_parts.proofs.FateRuns.{given_by}
use Rattle.ssim_parts.proofs.Held.{kept_before, kept_by_parts}
use Rattle.ssim_parts.proofs.converted.fates_of_parts.Goals as goal

abbrev so_far : List MovedPiece → ℕ → Fate
so_far parts n = last_fate Absent (held_on parts n)

pub returns : goal.returns
returns c =
    let parts = c.args.parts.now in
    let runs = c.in_ok-fate_runs.field-0.items in
    let first = λ (fate : Fate) (old : Fate). fate in
    let all = c.in_ok-replace_each.ensures.days
    ∙ ap (λ (rs : List FatePiece). changed_by_each first rs c.new-fates.result.days) c.deref.ensures.value
    ∙ ap (changed_by_each first runs) c.new-fates.ensures.days
    ∙ given_by runs (λ n. Absent)
    ∙ each_day-same (fate_by Absent runs) (so_far parts)
    (λ n within. c.in_ok-fate_runs.ensures n) in
    let one = λ (n : ℕ). fate_after 2 2 1 parts n (so_far parts n) in
    let two = λ (n : ℕ). fate_after 2 3 0 parts n (one n) in
    let kept_one : IsKeptByParts 0 parts one = λ n is. kept_by_parts 0 parts n
    (kept_before 0 2 2 1 parts n (so_far parts n) is) in
    let kept_two : IsKeptByParts 0 parts two = λ n is. kept_one n
    (kept_before 0 2 3 0 parts n (one n) is) in
    c.in_ok-leave_later-3.ensures two kept_two
    (c.in_ok-leave_later-2.ensures one kept_one
    (c.in_ok-leave_later.ensures (so_far parts) (kept_by_parts 1 parts) all))
