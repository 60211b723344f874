-- Parts of flight leg records: their texts, their own columns, and a quick test of two.
use Rattle.std.specs.Prelude.{ℕ, ◌+◌, ◌*◌, Bool, ◌&&◌, ◌||◌, nat_eq, nat_le, List, [], ◌∷◌}
use Rattle.std.specs.Prelude.{slice_index_or, slice_range, codes, Option}
use Rattle.std.specs.List.{concat}
use Rattle.ssim_values.specs.Day.{day_text}
use Rattle.ssim_values.specs.DayMask.{places_of}
use Rattle.ssim_values.specs.Period.{DayRange}
use Rattle.ssim_columns.specs.declared.field.Field.{Field}
use Rattle.ssim_columns.specs.Numbers.{digits}
use Rattle.ssim_columns.specs.Columns.{columns}
use Rattle.ssim_columns.specs.Leg.{leg_columns, end_text}

-- ---- the columns of a leg itself: 14, 37 to 127 and 129 to 194

-- the field is one of a leg's own columns
abbrev pub is_own : Field → Bool
is_own f =
    nat_le f.first f.last && ((nat_eq f.first 14 && nat_eq f.last 14)
    || ((nat_le 37 f.first && nat_le f.last 127) || (nat_le 129 f.first && nat_le f.last 194)))

-- the number that three bytes spell, the first as its highest digit
abbrev pub three_bytes : List ℕ → ℕ
three_bytes text =
    slice_index_or text 0 0 * 65536 + slice_index_or text 1 0 * 256 + slice_index_or text 2 0

-- the number that four bytes spell, the first as its highest digit
abbrev pub four_bytes : List ℕ → ℕ
four_bytes text =
    (slice_index_or text 0 0 * 16777216 + slice_index_or text 1 0 * 65536)
    + slice_index_or text 2 0 * 256 + slice_index_or text 3 0

-- a hash of a leg's stations, aircraft times and aircraft type
abbrev pub quick_hash : List ℕ → ℕ
quick_hash d =
    three_bytes (leg_columns 37 39 d) + 31 * four_bytes (leg_columns 44 47 d)
    + 1009 * three_bytes (leg_columns 55 57 d)
    + 32749 * four_bytes (leg_columns 58 61 d) + 1000003 * three_bytes (leg_columns 73 75 d)

-- ---- the record

-- the start, the end and the days of operation as they are written
abbrev pub dates_texts : ℕ → Option ℕ → List Bool → List (List ℕ)
dates_texts first last days = day_text first ∷ end_text last ∷ places_of days ∷ []

-- a record with these texts of its name and its dates
abbrev pub leg_of_texts : List ℕ → List ℕ → ℕ → List ℕ → ℕ → ℕ → List ℕ
leg_of_texts name dates rate columns overflow serial =
    concat (codes "3"
    ∷ name
    ∷ slice_range columns 0 1
    ∷ dates
    ∷ (rate ∷ [])
    ∷ slice_range columns 1 92
    ∷ (overflow ∷ [])
    ∷ slice_range columns 92 158
    ∷ digits 6 serial
    ∷ [])

-- the days of a period as they are written
abbrev pub period_texts : DayRange → List (List ℕ)
period_texts p = day_text p.first ∷ day_text p.last ∷ places_of p.days ∷ []
