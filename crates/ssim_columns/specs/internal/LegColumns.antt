-- Where the columns of a leg's fields are in the leg's bytes.
use Rattle.std.specs.Prelude.{ℕ, ◌≡◌, ◌+◌, ◌-◌, ◌≤◌, ◌<◌, List, length, slice_range}
use Rattle.ssim_columns.specs.declared.field.Field.{Field}
use Rattle.ssim_columns.specs.Leg.{leg_columns}

-- each column of the field is this number of bytes after its place in a leg's bytes
pub record IsAfter (before : ℕ) (field : Field) : Type 0 where
  pub low : before ≤ field.first
  pub some : field.first ≤ field.last
  pub high : field.last < before + 158
  pub value : (d : List ℕ) → length d ≡ 158
      → slice_range d (field.first - before) (field.last - before + 1)
      ≡ leg_columns field.first field.last d
