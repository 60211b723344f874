-- How the columns of a record are put together from texts, and tests of fields.
use Rattle.std.specs.Prelude.{ℕ, ◌+◌, ◌-◌, ◌≤◌, ◌<◌, ◌==◌, Bool, true, ◌&&◌, nat_lt, nat_le, List}
use Rattle.std.specs.Prelude.{◌++◌, length, take, drop}
use Rattle.std.specs.List.{list_all}
use Rattle.ssim_columns.specs.declared.field.FieldKind.{FieldKind}
use Rattle.ssim_columns.specs.declared.field.FieldKind.TheVariants.{AirlineCode, Number, Sequence}
use Rattle.ssim_columns.specs.declared.field.FieldKind.TheVariants.{Dates}
use Rattle.ssim_columns.specs.declared.field.FieldKind.TheVariants.{Date, StationCode, Time}
use Rattle.ssim_columns.specs.declared.field.FieldKind.TheVariants.{PassengerTime, UtcVariation}
use Rattle.ssim_columns.specs.declared.field.FieldKind.TheVariants.{Digits}
use Rattle.ssim_columns.specs.declared.field.Field.{Field}

-- whether a byte is printed: from 32 to 126
abbrev pub is_printed : ℕ → Bool
is_printed b = nat_le 32 b && nat_lt b 127

-- ---- what is written

-- the bytes with a text written over them from an index on
abbrev pub over : ℕ → List ℕ → List ℕ → List ℕ
over at text d = take at d ++ (text ++ drop (at + length text) d)

-- ---- tables that are in order

-- the columns are within a record
abbrev pub AreColumns : ℕ → ℕ → Type 0
AreColumns first last = (0 < first) × (first ≤ last) × (last ≤ 200)

-- whether a field has one column or more and is within a record
abbrev pub is_field : Field → Bool
is_field f = nat_lt 0 f.first && nat_le f.first f.last && nat_le f.last 200

-- whether a field of this kind may have n columns
abbrev pub fits_kind : FieldKind → ℕ → Bool
fits_kind Number n = nat_le n 6
fits_kind Sequence n = nat_le n 6
fits_kind Digits n = nat_le n 6
fits_kind Dates n = n == 14
fits_kind Date n = n == 7
fits_kind AirlineCode n = n == 3
fits_kind StationCode n = n == 3
fits_kind Time n = n == 4
fits_kind PassengerTime n = n == 4
fits_kind UtcVariation n = n == 5
fits_kind _ n = true

-- whether all fields are within a record and as wide as their kinds allow
abbrev pub are_fields : List Field → Bool
are_fields fs = list_all (λ f. is_field f && fits_kind f.kind (f.last + 1 - f.first)) fs
