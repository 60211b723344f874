-- Trailer records, type 5.
use Rattle.std.specs.Prelude.{ℕ, ◌≡◌, ◌<◌, IsTrue, List, [], ◌∷◌, length, codes, Some}
use Rattle.std.specs.List.{concat, list_all}
use Rattle.ssim_values.specs.Airline.{is_airline}
use Rattle.ssim_columns.specs.declared.field.FieldKind.TheVariants.{AirlineCode, Carried, Digits, Code}
use Rattle.ssim_columns.specs.declared.field.Field.{Field}
use Rattle.ssim_columns.specs.declared.field.end_code.EndCode.{EndCode}
use Rattle.ssim_columns.specs.Numbers.{digits_of, digits}
use Rattle.ssim_columns.specs.Columns.{columns, field, is_carried, end_code_of, end_code_text, EachIsValid}

-- what a trailer says: column 2, the airline, columns 6 to 187 (the release date among them), the
-- serial that it checks, whether more carriers follow, and its own serial
pub record TrailerFields : Type 0 where
  pub spare : ℕ
  pub airline : List ℕ
  pub release : List ℕ
  pub check : ℕ
  pub code : EndCode
  pub serial : ℕ

-- the fields of a trailer record
abbrev pub trailer_table : List Field
trailer_table =
    field 2 2 Carried
    ∷ field 3 5 AirlineCode
    ∷ field 6 187 Carried
    ∷ field 188 193 Digits
    ∷ field 194 194 Code
    ∷ field 195 200 Digits
    ∷ []

-- the bytes spell the record
pub record SpellsTrailer (r : TrailerFields) (bytes : List ℕ) : Type 0 where
  pub kind : columns 1 1 bytes ≡ codes "5"
  pub valid : EachIsValid bytes trailer_table
  pub spare : columns 2 2 bytes ≡ r.spare ∷ []
  pub airline : columns 3 5 bytes ≡ r.airline
  pub release : columns 6 187 bytes ≡ r.release
  pub check : digits_of (columns 188 193 bytes) ≡ Some r.check
  pub code : end_code_of (columns 194 194 bytes) ≡ Some r.code
  pub serial : digits_of (columns 195 200 bytes) ≡ Some r.serial

-- the fields of a trailer record as they are written, in the order of the columns
abbrev pub trailer_texts : TrailerFields → List (List ℕ)
trailer_texts r =
    codes "5"
    ∷ (r.spare ∷ [])
    ∷ r.airline
    ∷ r.release
    ∷ digits 6 r.check
    ∷ end_code_text r.code
    ∷ digits 6 r.serial
    ∷ []

-- the bytes as which a trailer is written
abbrev pub written_trailer : TrailerFields → List ℕ
written_trailer r = concat (trailer_texts r)

-- the trailer has a spelling: each value fits its columns
pub record IsTrailer (r : TrailerFields) : Type 0 where
  pub spare : IsTrue (is_carried r.spare)
  pub airline : IsTrue (is_airline r.airline)
  pub release_len : length r.release ≡ 182
  pub release : IsTrue (list_all is_carried r.release)
  pub check : r.check < 1000000
  pub serial : r.serial < 1000000
