-- How each line of a text is read.
use Rattle.std.specs.Prelude.{◌≡◌, ℕ, ◌-◌, Bool, false, ◌&&◌, ◌||◌, ◌==◌, nat_le, if◌then◌else◌, Option, Some}
use Rattle.std.specs.Prelude.{None, List, [], ◌∷◌, length, take, drop, codes, option_map}
use Rattle.std.specs.List.{list_all}
use Rattle.std.specs.Str.{bytes_eq}
use Rattle.ssim_text.specs.declared.kind.Kind.{Kind}
use Rattle.ssim_text.specs.declared.kind.Kind.TheVariants.{Ssm, Asm}
use Rattle.ssim_values.specs.declared.time_mode.TimeMode.{TimeMode}
use Rattle.ssim_values.specs.declared.time_mode.TimeMode.TheVariants.{Utc, Local}
use Rattle.ssim_text.specs.declared.kind.ActionIdentifier.{ActionIdentifier}
use Rattle.ssim_text.specs.declared.kind.ActionIdentifier.TheVariants as identifier
use Rattle.ssim_text.specs.declared.reference.GroupCode.{GroupCode}
use Rattle.ssim_text.specs.declared.reference.GroupCode.TheVariants.{Continuation, End}
use Rattle.ssim_text.specs.declared.reference.GivenReference.{GivenReference}
use Rattle.ssim_text.specs.declared.dates.GivenDate.{GivenDate}
use Rattle.ssim_text.specs.declared.dates.GivenDate.TheVariants.{Full, Yearless}
use Rattle.ssim_text.specs.declared.dates.GivenEnd.{GivenEnd}
use Rattle.ssim_text.specs.declared.dates.GivenEnd.TheVariants.{Until, Open}
use Rattle.ssim_text.specs.declared.dates.GivenPeriod.{GivenPeriod}
use Rattle.ssim_text.specs.declared.leg.LegEnd.{LegEnd}
use Rattle.ssim_text.specs.declared.leg.LegLine.{LegLine}
use Rattle.ssim_text.specs.declared.segment.SegmentLine.{SegmentLine}
use Rattle.ssim_values.specs.declared.designator.Designator.{Designator}
use Rattle.ssim_values.specs.Characters.{is_letter, is_digit}
use Rattle.ssim_values.specs.Day.{day_of}
use Rattle.ssim_values.specs.DayMonth.{MonthDay, month_day_of}
use Rattle.ssim_values.specs.DayMask.{days_of}
use Rattle.ssim_values.specs.Clock.{clock_of}
use Rattle.ssim_values.specs.Station.{is_station}
use Rattle.ssim_values.specs.Flight.{number_of}
use Rattle.ssim_values.specs.Designator.{SpellsDesignator}
use Rattle.ssim_text.specs.Values.{EquipmentValue}
use Rattle.ssim_text.specs.Bytes.{◌>>=◌, before, from, word, after_word, is_alphanumeric, is_text_of}

-- ---- the lines before the sub-messages

-- the day and month of a text of five bytes, as 01JAN
abbrev pub month_day_in : List ℕ → Option MonthDay
month_day_in text = if length text == 5 then month_day_of text else None

-- an address: seven letters or digits
abbrev pub address_of : List ℕ → Option (List ℕ)
address_of text =
    if length text == 7 then (if list_all is_alphanumeric text then Some text else None) else None

-- whether a text is empty or a blank
abbrev pub is_blank_or_none : List ℕ → Bool
is_blank_or_none text = bytes_eq text [] || bytes_eq text (codes " ")

-- the originator of a line: a dot and seven letters or digits; text after a blank is dropped
unfoldable pub originator_of : List ℕ → Option (List ℕ)
originator_of l =
    if bytes_eq (take 1 l) (codes ".")
    then (if is_blank_or_none (take 1 (drop 7 (drop 1 l))) then address_of (take 7 (drop 1 l))
    else None)
    else None

-- the line of a message kind
abbrev pub kind_text : Kind → List ℕ
kind_text Ssm = codes "SSM"
kind_text Asm = codes "ASM"

-- the line of a time mode
abbrev pub mode_text : TimeMode → List ℕ
mode_text Utc = codes "UTC"
mode_text Local = codes "LT"

-- the number that a text of `low` to `high` digits spells
abbrev pub digits_in : ℕ → ℕ → List ℕ → Option ℕ
digits_in low high text = if is_text_of is_digit low high text then Some (number_of text) else None

-- the group code of a letter
abbrev pub group_code_of : List ℕ → Option GroupCode
group_code_of (b ∷ []) = if b == 67 then Some Continuation else (if b == 69 then Some End else None)
group_code_of text = None

-- the creator reference: nothing, or a solidus and 1 to 35 bytes
abbrev pub creator_of : List ℕ → Option (Option (List ℕ))
creator_of [] = Some None
creator_of (b ∷ text) =
    if (b == 47) && nat_le 1 (length text) && nat_le (length text) 35 then Some (Some text)
    else None

-- the reference without its creator: day and month, five digits, the group code, three digits
unfoldable pub numbers_of : List ℕ → Option (MonthDay × ℕ × GroupCode × ℕ)
numbers_of text = do
  date ← month_day_in (take 5 text)
  group ← digits_in 5 5 (take 5 (drop 5 text))
  code ← group_code_of (take 1 (drop 5 (drop 5 text)))
  serial ← digits_in 3 3 (drop 1 (drop 5 (drop 5 text)))
  Some (date, group, code, serial)

-- the reference of a line: fourteen bytes, and the creator reference
unfoldable pub reference_of : List ℕ → Option GivenReference
reference_of line = do
  n ← numbers_of (take 14 line)
  creator ← creator_of (drop 14 line)
  Some (record { date = n.0; group = n.1; code = n.2; serial = n.3; creator = creator })

-- ---- the flight and its dates

-- the day of a text of seven bytes, as 01JAN26
abbrev pub day_in : List ℕ → Option ℕ
day_in text = if length text == 7 then day_of text else None

-- the date of a text, with a year or without
abbrev pub date_of : List ℕ → Option GivenDate
date_of text =
    if length text == 7 then option_map Full (day_of text)
    else option_map Yearless (month_day_in text)

-- the last date of a text, or the open end
abbrev pub last_date_of : List ℕ → Option GivenEnd
last_date_of text =
    if bytes_eq text (codes "00XXX00") then Some Open else option_map Until (date_of text)

-- the days of operation of a text without blanks
abbrev pub compact_days_of : List ℕ → Option (List Bool)
compact_days_of text = if list_all is_digit text then days_of text else None

-- the flight line of an ASM: a designator, a solidus and a date
pub record SpellsDatedFlight (designator : Designator) (date : GivenDate)
    (line : List ℕ) : Type 0 where
  pub designator_spelled : SpellsDesignator designator (before 47 line)
  pub date_spelled : date_of (drop 1 (from 47 line)) ≡ Some date

-- the period of a line: first date, last date, days
unfoldable pub period_of : List ℕ → Option GivenPeriod
period_of line = do
  first ← date_of (word line)
  last ← last_date_of (word (after_word line))
  days ← compact_days_of (after_word (after_word line))
  Some (record { first = first; last = last; days = days })

-- ---- the equipment

-- the service type: one letter
abbrev pub service_of : List ℕ → Option ℕ
service_of (b ∷ []) = if is_letter b then Some b else None
service_of text = None

-- the aircraft type: three letters or digits
abbrev pub aircraft_of : List ℕ → Option (List ℕ)
aircraft_of text = if is_text_of is_alphanumeric 3 3 text then Some text else None

-- the booking designators: up to 20 letters
abbrev pub designators_of : List ℕ → Option (List ℕ)
designators_of text = if is_text_of is_letter 0 20 text then Some text else None

-- the configuration: nothing, or a dot and 1 to 20 letters or digits
abbrev pub configuration_of : List ℕ → Option (List ℕ)
configuration_of [] = Some []
configuration_of (b ∷ text) =
    if (b == 46) && is_text_of is_alphanumeric 1 20 text then Some text else None

-- the equipment of a line: service type, aircraft type, and a third part that may be left out
unfoldable pub equipment_of : List ℕ → Option EquipmentValue
equipment_of line = do
  service ← service_of (word line)
  aircraft ← aircraft_of (word (after_word line))
  letters ← designators_of (before 46 (after_word (after_word line)))
  layout ← configuration_of (from 46 (after_word (after_word line)))
  Some (record {
    service = service;
    aircraft = aircraft;
    designators = letters;
    configuration = layout;
  })

-- ---- the leg lines

-- the station of a text of three letters
abbrev pub station_in : List ℕ → Option (List ℕ)
station_in text = if length text == 3 then (if is_station text then Some text else None) else None

-- the time of a text of four digits
abbrev pub clock_in : List ℕ → Option ℕ
clock_in text = if length text == 4 then clock_of text else None

-- the date variation of a text: a solidus and a digit from 0 to 7
abbrev pub variation_of : List ℕ → Option ℕ
variation_of (b ∷ d ∷ []) = if (b == 47) && nat_le 48 d && nat_le d 55 then Some (d - 48) else None
variation_of text = None

-- the passenger time of a text: a solidus and a time
abbrev pub passenger_of : List ℕ → Option ℕ
passenger_of [] = None
passenger_of (b ∷ text) = if b == 47 then clock_in text else None

-- the date variation and the passenger time of a text, either of which may be left out
unfoldable pub variations_of : ℕ → List ℕ → Option (ℕ × ℕ)
variations_of time text =
    if length text == 0 then Some (0, time)
    else if length text == 2 then (variation_of text >>= λ v. Some (v, time))
    else if length text == 5 then (passenger_of text >>= λ p. Some (0, p))
    else (variation_of (take 2 text) >>= λ v. passenger_of (drop 2 text) >>= λ p. Some (v, p))

-- one end of a leg line: a station, a time, and the variations
unfoldable pub end_of : List ℕ → Option LegEnd
end_of text = do
  station ← station_in (take 3 text)
  time ← clock_in (take 4 (drop 3 text))
  rest ← variations_of time (drop 4 (drop 3 text))
  Some (record { station = station; time = time; variation = rest.0; passenger = rest.1 })

-- the leg of a line: departure and arrival
unfoldable pub leg_of : List ℕ → Option LegLine
leg_of line = do
  departure ← end_of (word line)
  arrival ← end_of (after_word line)
  Some (record { departure = departure; arrival = arrival })

-- ---- the segment lines

-- the text of a segment line: a solidus and 1 to 155 bytes
abbrev pub segment_text_of : List ℕ → Option (List ℕ)
segment_text_of [] = None
segment_text_of (b ∷ text) =
    if (b == 47) && nat_le 1 (length text) && nat_le (length text) 155 then Some text else None

-- the board and off point: two stations in one word, which is not the word for all points
abbrev pub points_of : List ℕ → Option (List ℕ × List ℕ)
points_of text =
    if bytes_eq text (codes "QQQQQQ") then None
    else (station_in (take 3 text) >>= λ board. station_in (drop 3 text) >>= λ off.
    Some (board, off))

-- the segment of a line: board and off point, identifier, and a text
unfoldable pub segment_of : List ℕ → Option SegmentLine
segment_of line = do
  points ← points_of (word line)
  identifier ← digits_in 1 3 (before 47 (after_word line))
  text ← segment_text_of (from 47 (after_word line))
  Some (record { board = points.0; off = points.1; identifier = identifier; text = text })

-- ---- the words

-- the line of an action identifier
abbrev pub identifier_text : ActionIdentifier → List ℕ
identifier_text identifier.New = codes "NEW"
identifier_text identifier.Cnl = codes "CNL"
identifier_text identifier.Rpl = codes "RPL"
identifier_text identifier.Eqt = codes "EQT"
identifier_text identifier.Tim = codes "TIM"

-- whether a line begins free text
abbrev pub begins_free : List ℕ → Bool
begins_free (a ∷ b ∷ rest) = (a == 83) && (b == 73)
begins_free line = false
