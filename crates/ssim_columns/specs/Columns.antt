-- The fields of a record by their columns: which texts each kind of field allows, and the first
-- invalid column.
use Rattle.std.specs.Prelude.{ℕ, zero, suc, ◌≡◌, ◌+◌, ◌-◌, ◌==◌, Bool, not, ◌&&◌, nat_lt, nat_le}
use Rattle.std.specs.Prelude.{if◌then◌else◌, List, [], ◌∷◌, take, drop, slice_range, codes, Option}
use Rattle.std.specs.Prelude.{Some, None, is_some, option_map}
use Rattle.std.specs.List.{list_all}
use Rattle.std.specs.Str.{bytes_eq}
use Rattle.ssim_values.specs.Day.{day_of}
use Rattle.ssim_values.specs.DayMask.{days_of}
use Rattle.ssim_values.specs.Clock.{clock_of}
use Rattle.ssim_values.specs.Variation.{Offset, variation_of}
use Rattle.ssim_values.specs.Station.{is_station}
use Rattle.ssim_values.specs.Airline.{is_airline}
use Rattle.ssim_values.specs.Flight.{is_suffix}
use Rattle.ssim_columns.specs.Numbers.{is_blank, digits_of, number_of, sequence_of}
use Rattle.ssim_columns.specs.declared.field.FieldKind.{FieldKind}
use Rattle.ssim_columns.specs.declared.field.FieldKind.TheVariants.{Suffix, AirlineCode, Number}
use Rattle.ssim_columns.specs.declared.field.FieldKind.TheVariants.{Sequence, Carried, Dates, Date}
use Rattle.ssim_columns.specs.declared.field.FieldKind.TheVariants.{Days, StationCode, Time}
use Rattle.ssim_columns.specs.declared.field.FieldKind.TheVariants.{PassengerTime, UtcVariation}
use Rattle.ssim_columns.specs.declared.field.FieldKind.TheVariants.{Digits, Mode, Code, Title}
use Rattle.ssim_columns.specs.declared.field.Field.{Field}
use Rattle.ssim_values.specs.declared.time_mode.TimeMode.{TimeMode}
use Rattle.ssim_values.specs.declared.time_mode.TimeMode.TheVariants.{Utc, Local}
use Rattle.ssim_columns.specs.declared.field.end_code.EndCode.{EndCode}
use Rattle.ssim_columns.specs.declared.field.end_code.EndCode.TheVariants.{Continuation, End}

-- columns first to last of a record, counted from 1
abbrev pub columns : ℕ → ℕ → List ℕ → List ℕ
columns first last bytes = slice_range bytes (first - 1) last

-- whether a byte may be carried: any byte but 0 to 31 and 127
abbrev pub is_carried : ℕ → Bool
is_carried b = nat_le 32 b && not (b == 127)

-- ---- what is written

-- the byte itself, or a blank for a byte that no record carries
abbrev pub carried : ℕ → ℕ
carried b = if is_carried b then b else 32

-- a text in n columns, followed by blanks
abbrev pub filled : ℕ → List ℕ → List ℕ
filled zero text = []
filled (suc n) [] = 32 ∷ filled n []
filled (suc n) (b ∷ text) = carried b ∷ filled n text

-- ---- what a field says

-- the open end, or a day that is not before the start
abbrev pub day_from : ℕ → Option ℕ → Option (Option ℕ)
day_from start None = None
day_from start (Some end') = if nat_lt end' start then None else Some (Some end')

-- the day on which a period ends: none if its end is open
unfoldable pub end_from : Option ℕ → List ℕ → Option (Option ℕ)
end_from None text = None
end_from (Some start) text =
    if bytes_eq text (codes "00XXX00") then Some None else day_from start (day_of text)

-- the time of a text, or none for blanks
unfoldable pub passenger_time_of : List ℕ → Option (Option ℕ)
passenger_time_of text =
    if list_all is_blank text then Some None else option_map (λ t. Some t) (clock_of text)

-- the UTC variation of a text, or none for blanks
unfoldable pub utc_variation_of : List ℕ → Option (Option Offset)
utc_variation_of text =
    if list_all is_blank text then Some None else option_map (λ v. Some v) (variation_of text)

-- the time mode of `U` or `L`
unfoldable pub time_mode_of : List ℕ → Option TimeMode
time_mode_of text =
    if bytes_eq text (codes "U") then Some Utc
    else (if bytes_eq text (codes "L") then Some Local else None)

-- the letter of a time mode
abbrev pub time_mode_text : TimeMode → List ℕ
time_mode_text Utc = codes "U"
time_mode_text Local = codes "L"

-- the end code of `C` or `E`
unfoldable pub end_code_of : List ℕ → Option EndCode
end_code_of text =
    if bytes_eq text (codes "C") then Some Continuation
    else (if bytes_eq text (codes "E") then Some End else None)

-- the letter of an end code
abbrev pub end_code_text : EndCode → List ℕ
end_code_text Continuation = codes "C"
end_code_text End = codes "E"

-- columns 2 to 35 of a header record
abbrev pub title : List ℕ
title = codes "AIRLINE STANDARD SCHEDULE DATA SET"

-- whether a text is the title
unfoldable pub is_title : List ℕ → Bool
is_title text = bytes_eq text title

-- ---- which bytes a field allows

-- the index of the first byte that the test rejects, counted from n
abbrev pub place_of_other : (ℕ → Bool) → ℕ → List ℕ → Option ℕ
place_of_other test n [] = None
place_of_other test n (b ∷ bs) = if test b then place_of_other test (n + 1) bs else Some n

-- no fault if the test holds, else a fault at the first column
abbrev pub unless : Bool → Option ℕ
unless ok = if ok then None else Some 0

-- a start and an end of seven columns each: 0 names the start, 7 the end
unfoldable pub dates_fault : List ℕ → Option ℕ
dates_fault text =
    if is_some (day_of (take 7 text))
    then (if is_some (end_from (day_of (take 7 text)) (drop 7 text)) then None else Some 7)
    else Some 0

-- The index of the column that a fault names, counted from 0 in a field of this kind, if the text
-- is invalid. In carried columns, each a field of its own, it is the first invalid one.
abbrev pub fault_in : FieldKind → List ℕ → Option ℕ
fault_in Suffix text = unless (list_all is_suffix text)
fault_in AirlineCode text = unless (is_airline text)
fault_in Number text = unless (is_some (number_of text))
fault_in Sequence text = unless (is_some (sequence_of text))
fault_in Carried text = place_of_other is_carried 0 text
fault_in Dates text = dates_fault text
fault_in Date text = unless (is_some (day_of text))
fault_in Days text = unless (is_some (days_of text))
fault_in StationCode text = unless (is_station text)
fault_in Time text = unless (is_some (clock_of text))
fault_in PassengerTime text = unless (is_some (passenger_time_of text))
fault_in UtcVariation text = unless (is_some (utc_variation_of text))
fault_in Digits text = unless (is_some (digits_of text))
fault_in Mode text = unless (is_some (time_mode_of text))
fault_in Code text = unless (is_some (end_code_of text))
fault_in Title text = unless (is_title text)

-- a field of a table, with its first and last column and its kind
abbrev pub field : ℕ → ℕ → FieldKind → Field
field first last kind = record { first = first; last = last; kind = kind }

-- the column that the first fault of a field names
abbrev pub column_after : ℕ → Option ℕ → Option ℕ
column_after first None = None
column_after first (Some n) = Some (first + n)

-- the column that a fault of this field names, if the field is invalid
abbrev pub field_fault : List ℕ → Field → Option ℕ
field_fault bytes f = column_after f.first (fault_in f.kind (columns f.first f.last bytes))

-- the first fault, or else the second
abbrev pub or_else : Option ℕ → Option ℕ → Option ℕ
or_else None later = later
or_else (Some n) later = Some n

-- the first column that a fault names, if a field of the table is invalid
abbrev pub first_fault : List ℕ → List Field → Option ℕ
first_fault bytes [] = None
first_fault bytes (f ∷ fs) = or_else (field_fault bytes f) (first_fault bytes fs)

-- each field of a table is valid
abbrev pub EachIsValid : List ℕ → List Field → Type 0
EachIsValid bytes [] = Unit {0}
EachIsValid bytes (f ∷ fs) =
    (fault_in f.kind (columns f.first f.last bytes) ≡ None) × EachIsValid bytes fs
