-- Each weekday has what it had some weekdays before.
use Rattle.std.proofs.Common.{◌≡◌, ◌≤◌, ◌+◌, ◌-◌, ◌∙◌, ℕ, Bool, false, List, sym, ap, subst, arith}
use Rattle.std.specs.Prelude.{slice_index_or}
use Rattle.ssim_values.specs.Calendar.{slot}
use Rattle.ssim_parts.proofs.Turning.{on_back, on_by_one_day, on_by_two_days, on_same_day}
use Rattle.ssim_parts.proofs.Turning.{turned_back, turned_by_one_day, turned_by_two_days}
use Rattle.ssim_parts.proofs.moved_period.turned.Goals as goal
use Rattle.ssim_parts.proofs.moved_period.turned.Goals.{in-0, in-1, in-2, in_default}

-- the days of operation with a shift are those of a mask
abbrev Turned : List Bool → ℕ → List Bool → Type 0
Turned mask shift days =
    (m : ℕ) → shift ≤ m + 1
    → slice_index_or days (slot m) false ≡ slice_index_or mask (slot (m + 1 - shift)) false

same_as : (mask days turned : List Bool) (shift n : ℕ) → shift ≡ n → days ≡ turned
    → Turned mask n turned → Turned mask shift days
same_as mask days turned shift n by is made =
    subst (λ (s : ℕ). Turned mask s days) (sym by) (subst (Turned mask n) (sym is) made)

pub returns : goal.returns
returns c =
    let d = c.days-d.result in
    let days = c.match-shift.days in
    let shift = c.args.shift in
    let made : Turned d shift days =
    elim c.match-shift.branch [
      | in-0 w ↦ same_as d days (turned_back d) shift 0 w.in-0.is w.days-is (on_back d)
      | in-1 w ↦ same_as d days d shift 1 w.in-1.is w.days-is (on_same_day d)
      | in-2 w ↦ same_as d days (turned_by_one_day d) shift 2 w.in-2.is w.days-is (on_by_one_day d)
      | in_default w ↦ let three : shift ≡ 3 = omega arith in
          same_as d days (turned_by_two_days d) shift 3 three w.days-is (on_by_two_days d)
    ] in
    λ m from. ap (λ (x : List Bool). slice_index_or x (slot m) false) c.in-Some.ensures.value
    ∙ made m from
    ∙ ap (λ (x : List Bool). slice_index_or x (slot (m + 1 - shift)) false) c.days-d.ensures.value
