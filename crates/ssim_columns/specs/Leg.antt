-- Flight leg records, type 3: their fields by columns, what they say, and how they are written.
use Rattle.std.specs.Prelude.{ℕ, ◌≡◌, ◌≤◌, ◌<◌, Bool, IsTrue, List, [], ◌∷◌, ◌++◌, length}
use Rattle.std.specs.Prelude.{slice_range, replicate, codes, Option, Some, None, IfSome}
use Rattle.std.specs.List.{concat}
use Rattle.ssim_values.specs.Calendar.{day_limit}
use Rattle.ssim_values.specs.Day.{day_of, day_text}
use Rattle.ssim_values.specs.DayMask.{days_of, places_of, IsMask}
use Rattle.ssim_values.specs.Airline.{is_airline}
use Rattle.ssim_values.specs.Flight.{FlightNumber, IsFlight}
use Rattle.ssim_values.specs.Period.{DayRange}
use Rattle.ssim_columns.specs.declared.field.FieldKind.TheVariants.{Suffix, AirlineCode, Carried}
use Rattle.ssim_columns.specs.declared.field.FieldKind.TheVariants.{Days, Number, Sequence, Digits}
use Rattle.ssim_columns.specs.declared.field.FieldKind.TheVariants.{Dates, StationCode, Time}
use Rattle.ssim_columns.specs.declared.field.FieldKind.TheVariants.{PassengerTime, UtcVariation}
use Rattle.ssim_columns.specs.declared.field.Field.{Field}
use Rattle.ssim_columns.specs.Numbers.{digits_of, number_of, sequence_of, digits}
use Rattle.ssim_columns.specs.Columns.{columns, field, is_carried, end_from, EachIsValid}

-- ---- which leg a record speaks of, in types 3 and 4

-- a flight, an itinerary variation and a leg sequence
pub record Name : Type 0 where
  pub airline : List ℕ
  pub flight : FlightNumber
  pub variation : ℕ
  pub sequence : ℕ

-- the fields of a leg's name
abbrev pub name_table : List Field
name_table =
    field 2 2 Suffix
    ∷ field 3 5 AirlineCode
    ∷ field 6 9 Number
    ∷ field 10 11 Number
    ∷ field 12 13 Sequence
    ∷ []

-- columns 2 to 13 of a record spell this leg's name
pub record SpellsName (n : Name) (bytes : List ℕ) : Type 0 where
  pub suffix : columns 2 2 bytes ≡ n.flight.suffix ∷ []
  pub airline : columns 3 5 bytes ≡ n.airline
  pub number : number_of (columns 6 9 bytes) ≡ Some n.flight.number
  pub variation : number_of (columns 10 11 bytes) ≡ Some n.variation
  pub sequence : sequence_of (columns 12 13 bytes) ≡ Some n.sequence

-- the fields of a leg's name as they are written
abbrev pub name_texts : Name → List (List ℕ)
name_texts n =
    (n.flight.suffix ∷ []) ∷ n.airline ∷ digits 4 n.flight.number ∷ digits 2 n.variation
    ∷ digits 2 n.sequence ∷ []

-- the name is one that a record may have
pub record IsName (n : Name) : Type 0 where
  pub airline : IsTrue (is_airline n.airline)
  pub flight : IsFlight n.flight
  pub variation : n.variation < 100
  pub sequence_from : 0 < n.sequence
  pub sequence_to : n.sequence < 100

-- ---- the columns of a leg itself: 14, 37 to 127 and 129 to 194

-- the fields of columns 37 to 127
abbrev pub middle_table : List Field
middle_table =
    field 37 39 StationCode
    ∷ field 40 43 PassengerTime
    ∷ field 44 47 Time
    ∷ field 48 52 UtcVariation
    ∷ field 53 54 Carried
    ∷ field 55 57 StationCode
    ∷ field 58 61 Time
    ∷ field 62 65 PassengerTime
    ∷ field 66 70 UtcVariation
    ∷ field 71 127 Carried
    ∷ []

-- the fields of the columns that a leg keeps as they are: 14, 37 to 127 and 129 to 194
abbrev pub own_table : List Field
own_table = field 14 14 Carried ∷ (middle_table ++ field 129 194 Carried ∷ [])

-- the own columns of a leg record: 14, 37 to 127 and 129 to 194
abbrev pub own_columns : List ℕ → List ℕ
own_columns bytes = concat (columns 14 14 bytes ∷ columns 37 127 bytes ∷ columns 129 194 bytes ∷ [])

-- a leg's 158 own columns at their positions in a record, with blanks elsewhere
abbrev pub spread : List ℕ → List ℕ
spread d =
    concat (replicate 13 32 ∷ slice_range d 0 1 ∷ replicate 22 32 ∷ slice_range d 1 92 ∷ (32 ∷ [])
    ∷ slice_range d 92 158 ∷ replicate 6 32 ∷ [])

-- columns first to last of a leg, counted as in its record
abbrev pub leg_columns : ℕ → ℕ → List ℕ → List ℕ
leg_columns first last d = columns first last (spread d)

-- each of these bytes is allowed in its column
pub record AreLegColumns (d : List ℕ) : Type 0 where
  pub len : length d ≡ 158
  pub valid : EachIsValid (spread d) own_table

-- ---- the record

-- what a flight leg record says; `last` is none if the end is open
pub record LegFields : Type 0 where
  pub name : Name
  pub first : ℕ
  pub last : Option ℕ
  pub days : List Bool
  pub rate : ℕ
  pub columns : List ℕ
  pub overflow : ℕ
  pub serial : ℕ

-- the fields of a leg record
abbrev pub leg_table : List Field
leg_table =
    name_table
    ++ field 14 14 Carried
    ∷ field 15 28 Dates
    ∷ field 29 35 Days
    ∷ field 36 36 Carried
    ∷ (middle_table
    ++ field 128 128 Carried
    ∷ field 129 194 Carried
    ∷ field 195 200 Digits
    ∷ [])

-- the bytes spell the record
pub record SpellsLeg (r : LegFields) (bytes : List ℕ) : Type 0 where
  pub kind : columns 1 1 bytes ≡ codes "3"
  pub valid : EachIsValid bytes leg_table
  pub name : SpellsName r.name bytes
  pub first : day_of (columns 15 21 bytes) ≡ Some r.first
  pub last : end_from (Some r.first) (columns 22 28 bytes) ≡ Some r.last
  pub days : days_of (columns 29 35 bytes) ≡ Some r.days
  pub rate : columns 36 36 bytes ≡ r.rate ∷ []
  pub own : own_columns bytes ≡ r.columns
  pub overflow : columns 128 128 bytes ≡ r.overflow ∷ []
  pub serial : digits_of (columns 195 200 bytes) ≡ Some r.serial

-- the text of a last day; an open end is 00XXX00
abbrev pub end_text : Option ℕ → List ℕ
end_text None = codes "00XXX00"
end_text (Some day) = day_text day

-- the fields of a leg record as they are written, in the order of the columns
abbrev pub leg_texts : LegFields → List (List ℕ)
leg_texts r =
    codes "3"
    ∷ (name_texts r.name
    ++ slice_range r.columns 0 1
    ∷ day_text r.first
    ∷ end_text r.last
    ∷ places_of r.days
    ∷ (r.rate ∷ [])
    ∷ slice_range r.columns 1 92
    ∷ (r.overflow ∷ [])
    ∷ slice_range r.columns 92 158
    ∷ digits 6 r.serial
    ∷ [])

-- the bytes as which a leg record is written
abbrev pub written_leg : LegFields → List ℕ
written_leg r = concat (leg_texts r)

-- the record of a leg in a period as an export has it: blanks for frequency rate and overflow
abbrev pub exported_leg : Name → DayRange → List ℕ → ℕ → LegFields
exported_leg name period columns serial =
    record {
      name = name;
      first = period.first;
      last = Some period.last;
      days = period.days;
      rate = 32;
      columns = columns;
      overflow = 32;
      serial = serial;
    }

-- the end, if there is one, is not before the start
abbrev pub IsEnd : ℕ → Option ℕ → Type 0
IsEnd first last = IfSome last (λ day. (first ≤ day) × (day < day_limit))

-- the leg record has a spelling: each value fits its columns
pub record IsLeg (r : LegFields) : Type 0 where
  pub name : IsName r.name
  pub first : r.first < day_limit
  pub last : IsEnd r.first r.last
  pub days : IsMask r.days
  pub rate : IsTrue (is_carried r.rate)
  pub columns : AreLegColumns r.columns
  pub overflow : IsTrue (is_carried r.overflow)
  pub serial : r.serial < 1000000
