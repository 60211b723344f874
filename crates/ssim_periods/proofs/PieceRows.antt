-- What the rows say of the days that have a value.
use Rattle.std.proofs.Common.{◌≡◌, ℕ, ◌<◌, Bool, false, List, length, slice_index_or, ap, ◌∙◌, sym, arith}
use Rattle.ssim_values.specs.Calendar.{slot}
use Rattle.ssim_periods.specs.Cover.{differ, breaks}
use Rattle.ssim_periods.specs.Days.{each_day}
use Rattle.ssim_periods.specs.Pieces.{has_value}
use Rattle.ssim_periods.specs.internal.Rows.{row_on, value_on}
use Rattle.ssim_periods.proofs.DayLemmas.{length-each_day, index-each_day}
use Rattle.ssim_periods.proofs.PieceLaw.{has_value-at}

-- a day has a value if its row has it
pub has-in_row : {V : Type 0} (alike : V → V → Bool) (nothing : V) (before : List V) (cuts : List ℕ) (rows : List (List V)) (days : List V) (v : V) (n : ℕ) (row : List V) → each_day (value_on nothing before cuts rows) ≡ days → n < 36525 → row_on before cuts rows n ≡ row → has_value alike days v n ≡ alike v (slice_index_or row (slot n) nothing)
has-in_row alike nothing before cuts rows days v n row view h own =
    let f = value_on nothing before cuts rows in
    let len : length days ≡ 36525 = sym (ap length view) ∙ length-each_day f in
    has_value-at alike nothing days v n (omega arith)
    ∙ ap (alike v) (ap (λ ds. slice_index_or ds n nothing) (sym view) ∙ index-each_day f n nothing h ∙ ap (λ r. slice_index_or r (slot n) nothing) own)

pub unlike-in_row : {V : Type 0} (alike : V → V → Bool) (nothing : V) (before : List V) (cuts : List ℕ) (rows : List (List V)) (days : List V) (v : V) (mask : List Bool) (n : ℕ) (row : List V) → each_day (value_on nothing before cuts rows) ≡ days → n < 36525 → row_on before cuts rows n ≡ row → breaks (has_value alike days v) mask n ≡ differ (alike v (slice_index_or row (slot n) nothing)) (slice_index_or mask (slot n) false)
unlike-in_row alike nothing before cuts rows days v mask n row view h own = ap (λ b. differ b (slice_index_or mask (slot n) false)) (has-in_row alike nothing before cuts rows days v n row view h own)
