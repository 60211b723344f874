-- The days between two cuts have weekly itineraries, so that a week of them is enough to compare.
use Rattle.std.proofs.Common.{◌≡◌, ◌∙◌, ◌⊎◌, inl, inr, ℕ, ◌+◌, ◌-◌, ◌%◌, ◌<◌, ◌≤◌, List, [], length}
use Rattle.std.proofs.Common.{sym, ap, arith, true, Option, unwrap_or, slice_get, slice_index_or}
use Rattle.std.proofs.lemmas.Grind.{get_or_default_zero}
use Rattle.std.proofs.lemmas.List.Kept.{AllPairs-from_increasing}
use Rattle.std.proofs.lemmas.Option.{unwrap_or-slice_get}
use Rattle.std.specs.List.{Contains}
use Rattle.std.specs.List.Sorted.{IsStrictlyIncreasing}
use Rattle.ssim_values.specs.Calendar.{weekday}
use Rattle.ssim_values.specs.clauses.DayMask.{operates}
use Rattle.ssim_values.specs.Period.{DayRange}
use Rattle.ssim_periods.specs.Calendar.{day_count, holds}
use Rattle.ssim_periods.proofs.CountLemmas.{le_or_lt}
use Rattle.ssim_periods.proofs.DayLemmas.{Holds-holds, day_count-is, holds-Holds}
use Rattle.ssim_base.specs.Timetable.{Days, Legs, on_day}
use Rattle.ssim_outbox.specs.internal.Drafts.{AreWeekly, IsMadeOn}

-- a cut after the first day is not before the first place whose cut is after it
pub cut_from : (cuts : List ℕ) (first place cut : ℕ) → IsStrictlyIncreasing cuts
    → ((k d : ℕ) → k < place → slice_index_or cuts k d ≤ first) → Contains cuts cut → first < cut
    → (place < length cuts) × (slice_index_or cuts place 0 ≤ cut)
cut_from cuts first place cut rising low (k, within, is) after = by (le_or_lt place k)
  where
    pairs : (i j d : ℕ) → i < j → j < length cuts → slice_index_or cuts i d < slice_index_or cuts j d
    pairs = AllPairs-from_increasing cuts rising

    up_to : (place ≡ k) ⊎ (place < k) → slice_index_or cuts place cut ≤ cut
    up_to (inl same) = let e = ap (λ (i : ℕ). slice_index_or cuts i cut) same in omega arith
    up_to (inr less) = let lt = pairs place k cut less within in omega arith

    equal_or_less : (a b : ℕ) → a ≤ b → (a ≡ b) ⊎ (a < b)
    equal_or_less a b le = by_cases (le_or_lt b a)
      where
        by_cases : (b ≤ a) ⊎ (a < b) → (a ≡ b) ⊎ (a < b)
        by_cases (inl back) = inl (omega arith)
        by_cases (inr less) = inr less

    by : (place ≤ k) ⊎ (k < place) → (place < length cuts) × (slice_index_or cuts place 0 ≤ cut)
    by (inl at) =
        let room : place < length cuts = omega arith in
        let e = get_or_default_zero cuts place cut room in
        let le = up_to (equal_or_less place k at) in
        (room, omega arith)
    by (inr less) = let early = low k cut less in absurd (omega arith)

-- the day of the first week that has the weekday of a later day
abbrev pub first_like : ℕ → ℕ → ℕ
first_like first n = first + (n - first) % 7

pub like_weekday : (first n : ℕ) → first ≤ n → weekday (first_like first n) ≡ weekday n
like_weekday first n from = omega arith

-- a period that holds a day holds the like day of the week before
pub holds_like : (period : DayRange) (first n : ℕ) → period.first ≤ first → first ≤ n
    → holds period n ≡ true → holds period (first_like first n) ≡ true
holds_like period first n low from held =
    let h = holds-Holds period n held in
    let to = h.1 in
    let same = like_weekday first n from in
    Holds-holds period (first_like first n) (
      omega arith,
      omega arith,
      ap (operates period.days) same ∙ h.2,
    )

-- ---- itineraries

-- equal elements of two days are equal itineraries
pub same_on : (days : Days) (m n : ℕ) → slice_get days m ≡ slice_get days n
    → on_day days m ≡ on_day days n
same_on days m n same =
    sym (unwrap_or-slice_get days m []) ∙ ap (λ (legs : Option Legs). unwrap_or legs []) same
    ∙ unwrap_or-slice_get days n []

-- no cut lies after the first day and before the end
pub weekly_between : (days : Days) (cuts : List ℕ) (first next end : ℕ)
    → ((m n : ℕ) → m ≤ n → n < 36525 → weekday m ≡ weekday n
    → ((cut : ℕ) → Contains cuts cut → m < cut → n < cut) → on_day days m ≡ on_day days n)
    → ((cut : ℕ) → Contains cuts cut → first < cut → next ≤ cut) → end ≤ next
    → AreWeekly days first end
weekly_between days cuts first next end weekly none le m n from order to within same =
    weekly m n order (rw day_count-is at within) same
    (λ cut has after. let past = none cut has (omega arith) in omega arith)

-- if the days of a week are made, those of the weeks after it are
pub made_weeks : (made old new : Days) (period : DayRange) (first end : ℕ)
    → AreWeekly made first end → AreWeekly old first end → AreWeekly new first end
    → ((n : ℕ) → first ≤ n → n < end → n < first + 7 → n < day_count → holds period n ≡ true
    → IsMadeOn made old new n)
    → holds period first ≡ true
    → (n : ℕ) → first ≤ n → n < end → n < day_count → holds period n ≡ true
    → IsMadeOn made old new n
made_weeks made old new period first end made_weekly old_weekly new_weekly week here n from to within
    held =
    let here_h = holds-Holds period first here in
    let low = here_h.0 in
    let m = first_like first n in
    let same = like_weekday first n from in
    let at : first ≤ m = omega arith in
    let order : m ≤ n = omega arith in
    let is = week m at (omega arith) (omega arith) (omega arith)
    (holds_like period first n low from held) in
    let made_same = made_weekly m n at order to within same in
    let old_same = old_weekly m n at order to within same in
    let new_same = new_weekly m n at order to within same in (
      sym made_same ∙ is.0 ∙ new_same,
      λ equal. is.1 (old_same ∙ equal ∙ sym new_same),
    )
