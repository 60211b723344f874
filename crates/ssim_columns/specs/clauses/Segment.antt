-- Segment data records by their texts and their tails.
use Rattle.std.specs.Prelude.{ℕ, List, [], ◌∷◌, slice_range, replicate, codes}
use Rattle.std.specs.List.{concat}
use Rattle.ssim_columns.specs.Numbers.{digits}
use Rattle.ssim_columns.specs.Columns.{columns}

-- ---- the columns of a tail: 15 to 27 and 29 to 194

-- a tail's 179 columns at their positions in a record, with blanks elsewhere
abbrev pub spread_tail : List ℕ → List ℕ
spread_tail d =
    concat (replicate 14 32 ∷ slice_range d 0 13 ∷ (32 ∷ []) ∷ slice_range d 13 179 ∷ replicate 6 32
    ∷ [])

-- columns first to last of a tail, counted as in its record
abbrev pub tail_columns : ℕ → ℕ → List ℕ → List ℕ
tail_columns first last d = columns first last (spread_tail d)

-- ---- the record

-- a record with this text of its name
abbrev pub segment_of_texts : List ℕ → ℕ → List ℕ → ℕ → ℕ → List ℕ
segment_of_texts name service tail overflow serial =
    concat (codes "4"
    ∷ name
    ∷ (service ∷ [])
    ∷ slice_range tail 0 13
    ∷ (overflow ∷ [])
    ∷ slice_range tail 13 179
    ∷ digits 6 serial
    ∷ [])
