-- Carrier records, type 2.
use Rattle.std.specs.Prelude.{ℕ, ◌≡◌, ◌<◌, IsTrue, List, [], ◌∷◌, length, codes, Option, Some}
use Rattle.std.specs.List.{concat, list_all}
use Rattle.ssim_values.specs.Calendar.{day_limit}
use Rattle.ssim_values.specs.Day.{day_of, day_text}
use Rattle.ssim_values.specs.Airline.{is_airline}
use Rattle.ssim_columns.specs.declared.field.FieldKind.TheVariants.{AirlineCode, Carried, Dates}
use Rattle.ssim_columns.specs.declared.field.FieldKind.TheVariants.{Date, Digits, Mode}
use Rattle.ssim_columns.specs.declared.field.Field.{Field}
use Rattle.ssim_values.specs.declared.time_mode.TimeMode.{TimeMode}
use Rattle.ssim_columns.specs.Numbers.{digits_of, digits}
use Rattle.ssim_columns.specs.Columns.{columns, field, is_carried, end_from, time_mode_of, time_mode_text, EachIsValid}
use Rattle.ssim_columns.specs.Leg.{end_text, IsEnd}

-- what a carrier record says: time mode, airline, columns 6 to 14 (the season among them),
-- validity, creation date, columns 36 to 194, and its serial; `last` is none if the end is open
pub record CarrierFields : Type 0 where
  pub time_mode : TimeMode
  pub airline : List ℕ
  pub season : List ℕ
  pub first : ℕ
  pub last : Option ℕ
  pub created : ℕ
  pub details : List ℕ
  pub serial : ℕ

-- the fields of a carrier record
abbrev pub carrier_table : List Field
carrier_table =
    field 2 2 Mode
    ∷ field 3 5 AirlineCode
    ∷ field 6 14 Carried
    ∷ field 15 28 Dates
    ∷ field 29 35 Date
    ∷ field 36 194 Carried
    ∷ field 195 200 Digits
    ∷ []

-- the bytes spell the record
pub record SpellsCarrier (r : CarrierFields) (bytes : List ℕ) : Type 0 where
  pub kind : columns 1 1 bytes ≡ codes "2"
  pub valid : EachIsValid bytes carrier_table
  pub time_mode : time_mode_of (columns 2 2 bytes) ≡ Some r.time_mode
  pub airline : columns 3 5 bytes ≡ r.airline
  pub season : columns 6 14 bytes ≡ r.season
  pub first : day_of (columns 15 21 bytes) ≡ Some r.first
  pub last : end_from (Some r.first) (columns 22 28 bytes) ≡ Some r.last
  pub created : day_of (columns 29 35 bytes) ≡ Some r.created
  pub details : columns 36 194 bytes ≡ r.details
  pub serial : digits_of (columns 195 200 bytes) ≡ Some r.serial

-- the fields of a carrier record as they are written, in the order of the columns
abbrev pub carrier_texts : CarrierFields → List (List ℕ)
carrier_texts r =
    codes "2"
    ∷ time_mode_text r.time_mode
    ∷ r.airline
    ∷ r.season
    ∷ day_text r.first
    ∷ end_text r.last
    ∷ day_text r.created
    ∷ r.details
    ∷ digits 6 r.serial
    ∷ []

-- the bytes as which a carrier record is written
abbrev pub written_carrier : CarrierFields → List ℕ
written_carrier r = concat (carrier_texts r)

-- the carrier record has a spelling: each value fits its columns
pub record IsCarrier (r : CarrierFields) : Type 0 where
  pub airline : IsTrue (is_airline r.airline)
  pub season_len : length r.season ≡ 9
  pub season : IsTrue (list_all is_carried r.season)
  pub first : r.first < day_limit
  pub last : IsEnd r.first r.last
  pub created : r.created < day_limit
  pub details_len : length r.details ≡ 159
  pub details : IsTrue (list_all is_carried r.details)
  pub serial : r.serial < 1000000
