-- Segment data records, type 4.
use Rattle.std.specs.Prelude.{ℕ, ◌≡◌, ◌<◌, IsTrue, List, [], ◌∷◌, ◌++◌, length, slice_range, replicate, codes, Some}
use Rattle.std.specs.List.{concat, list_all}
use Rattle.ssim_columns.specs.declared.field.FieldKind.TheVariants.{Carried, Digits}
use Rattle.ssim_columns.specs.declared.field.Field.{Field}
use Rattle.ssim_columns.specs.Numbers.{digits_of, digits}
use Rattle.ssim_columns.specs.Columns.{columns, field, filled, is_carried, EachIsValid}
use Rattle.ssim_columns.specs.Leg.{Name, name_table, SpellsName, name_texts, IsName}

-- ---- the columns of a tail: 15 to 27 and 29 to 194

-- the columns of a record that are its tail: 15 to 27 and 29 to 194
abbrev pub tail_of : List ℕ → List ℕ
tail_of bytes = concat (columns 15 27 bytes ∷ columns 29 194 bytes ∷ [])

-- a tail has 179 bytes, each of which is carried
pub record IsTail (d : List ℕ) : Type 0 where
  pub len : length d ≡ 179
  pub carried : IsTrue (list_all is_carried d)

-- a new tail: columns 15 to 27 are blank; from column 29 on it has the letters of the board and off
-- point, the data element identifier in three digits, the stations of the points, and the text with
-- blanks after it
unfoldable pub new_tail : List ℕ → ℕ → List ℕ → List ℕ → List ℕ → List ℕ
new_tail points identifier board off text =
    concat (replicate 13 32 ∷ filled 2 points ∷ digits 3 identifier ∷ board ∷ off ∷ filled 155 text
    ∷ [])

-- ---- the record

-- what a segment data record says: the leg, its service type, the tail, the overflow of column 28,
-- and its serial
pub record SegmentFields : Type 0 where
  pub name : Name
  pub service : ℕ
  pub tail : List ℕ
  pub overflow : ℕ
  pub serial : ℕ

-- the fields of a segment record
abbrev pub segment_table : List Field
segment_table =
    name_table
    ++ field 14 14 Carried
    ∷ field 15 27 Carried
    ∷ field 28 28 Carried
    ∷ field 29 194 Carried
    ∷ field 195 200 Digits
    ∷ []

-- the bytes spell the record
pub record SpellsSegment (r : SegmentFields) (bytes : List ℕ) : Type 0 where
  pub kind : columns 1 1 bytes ≡ codes "4"
  pub valid : EachIsValid bytes segment_table
  pub name : SpellsName r.name bytes
  pub service : columns 14 14 bytes ≡ r.service ∷ []
  pub tail : tail_of bytes ≡ r.tail
  pub overflow : columns 28 28 bytes ≡ r.overflow ∷ []
  pub serial : digits_of (columns 195 200 bytes) ≡ Some r.serial

-- the fields of a segment record as they are written, in the order of the columns
abbrev pub segment_texts : SegmentFields → List (List ℕ)
segment_texts r =
    codes "4"
    ∷ (name_texts r.name
    ++ (r.service ∷ [])
    ∷ slice_range r.tail 0 13
    ∷ (r.overflow ∷ [])
    ∷ slice_range r.tail 13 179
    ∷ digits 6 r.serial
    ∷ [])

-- the bytes as which a segment record is written
abbrev pub written_segment : SegmentFields → List ℕ
written_segment r = concat (segment_texts r)

-- the record of a segment as an export has it: with a blank for overflow
abbrev pub exported_segment : Name → ℕ → List ℕ → ℕ → SegmentFields
exported_segment name service tail serial =
    record { name = name; service = service; tail = tail; overflow = 32; serial = serial }

-- what has a spelling
pub record IsSegment (r : SegmentFields) : Type 0 where
  pub name : IsName r.name
  pub service : IsTrue (is_carried r.service)
  pub tail : IsTail r.tail
  pub overflow : IsTrue (is_carried r.overflow)
  pub serial : r.serial < 1000000
