-- Header records, type 1.
use Rattle.std.specs.Prelude.{ℕ, ◌≡◌, ◌<◌, IsTrue, List, [], ◌∷◌, length, codes, Some}
use Rattle.std.specs.List.{concat, list_all}
use Rattle.ssim_columns.specs.declared.field.FieldKind.TheVariants.{Carried, Digits, Title}
use Rattle.ssim_columns.specs.declared.field.Field.{Field}
use Rattle.ssim_columns.specs.Numbers.{digits_of, digits}
use Rattle.ssim_columns.specs.Columns.{columns, field, is_carried, title, EachIsValid}

-- what a header says: columns 36 to 194, and its serial
pub record HeaderFields : Type 0 where
  pub details : List ℕ
  pub serial : ℕ

-- the fields of a header record
abbrev pub header_table : List Field
header_table =
    field 2 35 Title
    ∷ field 36 194 Carried
    ∷ field 195 200 Digits
    ∷ []

-- the bytes spell the record
pub record SpellsHeader (r : HeaderFields) (bytes : List ℕ) : Type 0 where
  pub kind : columns 1 1 bytes ≡ codes "1"
  pub valid : EachIsValid bytes header_table
  pub details : columns 36 194 bytes ≡ r.details
  pub serial : digits_of (columns 195 200 bytes) ≡ Some r.serial

-- the fields of a header record as they are written, in the order of the columns
abbrev pub header_texts : HeaderFields → List (List ℕ)
header_texts r =
    codes "1"
    ∷ title
    ∷ r.details
    ∷ digits 6 r.serial
    ∷ []

-- the bytes as which a header is written
abbrev pub written_header : HeaderFields → List ℕ
written_header r = concat (header_texts r)

-- the header has a spelling: each value fits its columns
pub record IsHeader (r : HeaderFields) : Type 0 where
  pub len : length r.details ≡ 159
  pub carried : IsTrue (list_all is_carried r.details)
  pub serial : r.serial < 1000000
