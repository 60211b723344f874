-- Why no messages make the new itinerary of a date of the old one: the reason of an unsaid line.
--
-- If the new legs have the leg sequences and the stations of the old ones, messages are to give
-- them other equipment (EQT) and other times (TIM), and leave the rest as it is. Otherwise messages
-- are to make all legs anew (NEW, RPL). The reason names for each leg what they do not give.
use Rattle.std.specs.Prelude.{ℕ, ◌+◌, ◌-◌, ◌*◌, Bool, true, false, not, ◌&&◌, ◌||◌, nat_eq, nat_le}
use Rattle.std.specs.Prelude.{if◌then◌else◌, List, [], ◌∷◌, ◌++◌, codes, length, map, take}
use Rattle.std.specs.Prelude.{slice_get, slice_index_or, slice_range, Option, Some, None, unwrap_or}
use Rattle.std.specs.Fmt.{decimal}
use Rattle.std.specs.List.{list_all, list_any}
use Rattle.std.specs.Str.{bytes_eq}
use Rattle.ssim_values.specs.Characters.{is_digit, is_letter, two_digits}
use Rattle.ssim_values.specs.Clock.{clock_of}
use Rattle.ssim_values.specs.Variation.{Offset, variation_text}
use Rattle.ssim_columns.specs.Leg.{leg_columns}
use Rattle.ssim_text.specs.Left.{without_end}
use Rattle.ssim_text.specs.Lines.{station_in}
use Rattle.ssim_text.specs.declared.leg.LegEnd.{LegEnd}
use Rattle.ssim_text.specs.declared.leg.LegLine.{LegLine}
use Rattle.ssim_base.specs.Export.{same_tails}
use Rattle.ssim_base.specs.Stations.{Row}
use Rattle.ssim_base.specs.Timetable.{LegValue, Legs}
use Rattle.ssim_schedule.specs.Effect.{tail_for, variation_on}
use Rattle.ssim_outbox.specs.Route.{same_columns, same_route, same_times}
use Rattle.ssim_outbox.specs.declared.wanted_leg.WantedLeg.{WantedLeg}

-- ---- the words, each of which has a blank before it

-- the word of columns: the first and the last of them, or the only one
unfoldable pub columns_word : ℕ → ℕ → List ℕ
columns_word first last =
    if nat_eq first last then 32 ∷ decimal first else 32 ∷ (decimal first ++ 45 ∷ decimal last)

-- the word of what messages do not give; nothing if they give it
abbrev pub unless : Bool → List ℕ → List ℕ
unless is_given word = if is_given then [] else word

-- ---- the columns of a leg

-- whether a byte is a blank
abbrev pub is_blank : ℕ → Bool
is_blank b = nat_eq b 32

-- whether a byte is a letter or a digit
abbrev pub is_letter_or_digit : ℕ → Bool
is_letter_or_digit b = is_letter b || is_digit b

-- whether a byte is a date variation, 0 to 7
abbrev pub is_date_variation : ℕ → Bool
is_date_variation b = nat_le 48 b && nat_le b 55

-- Messages leave columns as they are to be: as in the old leg or, in a leg that is made anew, blank.
abbrev pub leave : Option (List ℕ) → List ℕ → ℕ → ℕ → Bool
leave None leg first last = list_all is_blank (leg_columns first last leg)
leave (Some old) leg first last = same_columns first last old leg

-- whether a text is a UTC variation that a station has
abbrev pub is_variation : Option Offset → List ℕ → Bool
is_variation None text = false
is_variation (Some variation) text = bytes_eq text (variation_text variation)

-- Messages leave columns as in the old leg or, in a leg that is made anew, give them the UTC
-- variation that the station has.
abbrev pub give_variation : Option (List ℕ) → List ℕ → Option Offset → ℕ → ℕ → Bool
give_variation None leg variation first last = is_variation variation (leg_columns first last leg)
give_variation (Some old) leg variation first last = same_columns first last old leg

-- whether messages are to give a leg its times: it has other ones than the old leg, or is made anew
abbrev pub has_other_times : Option (List ℕ) → List ℕ → Bool
has_other_times None leg = true
has_other_times (Some old) leg = not (same_times old leg)

-- messages give a passenger time, if they are to: it is not blank
abbrev pub give_time : WantedLeg → ℕ → ℕ → Bool
give_time w first last =
    not (has_other_times w.old w.leg && list_all is_blank (leg_columns first last w.leg))

-- messages give the date variations, if they are to: each is 0 to 7
abbrev pub give_date_variations : WantedLeg → Bool
give_date_variations w =
    not (has_other_times w.old w.leg)
    || list_all is_date_variation (leg_columns 193 194 w.leg)

-- Messages give a service type or an aircraft type, if they are to: each byte is one of those that
-- an equipment line has there, and the first leg has the same.
abbrev pub give_code : WantedLeg → (ℕ → Bool) → ℕ → ℕ → Bool
give_code w is_allowed first last =
    not w.has_other_equipment
    || (list_all is_allowed (leg_columns first last w.leg) && same_columns first last w.first w.leg)

-- the same of the booking designators and of the configuration, after which there may be blanks
abbrev pub give_text : WantedLeg → (ℕ → Bool) → ℕ → ℕ → Bool
give_text w is_allowed first last =
    not w.has_other_equipment
    || (list_all is_allowed (without_end (leg_columns first last w.leg))
    && same_columns first last w.first w.leg)

-- the words of the service type and of the departure, which messages do not give
unfoldable pub departure_words : WantedLeg → List ℕ
departure_words w =
    unless (give_code w is_letter 14 14) (columns_word 14 14)
    ++ (unless (give_time w 40 43) (columns_word 40 43)
    ++ (unless (give_variation w.old w.leg w.departure 48 52) (columns_word 48 52)
    ++ unless (leave w.old w.leg 53 54) (columns_word 53 54)))

-- the words of the arrival
unfoldable pub arrival_words : WantedLeg → List ℕ
arrival_words w =
    unless (give_time w 62 65) (columns_word 62 65)
    ++ (unless (give_variation w.old w.leg w.arrival 66 70) (columns_word 66 70)
    ++ unless (leave w.old w.leg 71 72) (columns_word 71 72))

-- the words of the columns from 73 on
unfoldable pub late_words : WantedLeg → List ℕ
late_words w =
    unless (give_code w is_letter_or_digit 73 75) (columns_word 73 75)
    ++ (unless (give_text w is_letter 76 95) (columns_word 76 95)
    ++ (unless (leave w.old w.leg 96 127) (columns_word 96 127)
    ++ (unless (leave w.old w.leg 129 172) (columns_word 129 172)
    ++ (unless (give_text w is_letter_or_digit 173 192) (columns_word 173 192)
    ++ unless (give_date_variations w) (columns_word 193 194)))))

-- ---- the segment data of a leg

-- columns from 29 on of a tail, counted as in its record
abbrev pub tail_columns : ℕ → ℕ → List ℕ → List ℕ
tail_columns first last tail = slice_range tail (first - 16) (last - 15)

-- a station and a time of a leg
abbrev pub end_of : List ℕ → List ℕ → LegEnd
end_of station time =
    let minutes = unwrap_or (clock_of time) 0 in
    record { station = station; time = minutes; variation = 0; passenger = minutes }

-- the leg line of a leg; of its date variations and passenger times no segment data speak
abbrev pub leg_line : LegValue → LegLine
leg_line leg = record {
  departure = end_of (leg_columns 37 39 leg.columns) (leg_columns 44 47 leg.columns);
  arrival = end_of (leg_columns 55 57 leg.columns) (leg_columns 58 61 leg.columns);
}

-- the number that three digits spell; of other bytes a number that has other digits
abbrev pub number_of : List ℕ → ℕ
number_of text =
    100 * (slice_index_or text 0 0 - 48) + 10 * (slice_index_or text 1 0 - 48)
    + (slice_index_or text 2 0 - 48)

-- two stations, if there are two
abbrev pub both : Option (List ℕ) → Option (List ℕ) → Option (List ℕ × List ℕ)
both None off = None
both (Some board) None = None
both (Some board) (Some off) = Some (board, off)

-- the points of a segment line: two stations, and not QQQ twice, which stands for all points
abbrev pub points_in : List ℕ → List ℕ → Option (List ℕ × List ℕ)
points_in board off =
    if bytes_eq board (codes "QQQ") && bytes_eq off (codes "QQQ") then None
    else both (station_in board) (station_in off)

-- the points of a tail
abbrev pub points : List ℕ → Option (List ℕ × List ℕ)
points tail = points_in (tail_columns 34 36 tail) (tail_columns 37 39 tail)

-- whether a byte is not over 126
abbrev pub is_low : ℕ → Bool
is_low b = nat_le b 126

-- whether a segment line can have the data: one byte or more, none over 126
abbrev pub are_data : List ℕ → Bool
are_data text = nat_le 1 (length text) && list_all is_low text

-- The tail that a segment line gives to the leg line with this place, counted from 0, if the line
-- has these points, and the data element identifier and the data of a tail.
abbrev pub tail_made : List LegLine → ℕ → List ℕ → Option (List ℕ × List ℕ) → Option (List ℕ)
tail_made lines place tail None = None
tail_made lines place tail (Some points) =
    let text = without_end (tail_columns 40 194 tail) in
    if are_data text then tail_for place lines (record {
      board = points.0;
      off = points.1;
      identifier = number_of (tail_columns 31 33 tail);
      text = text;
    }) else None

-- whether a tail is this one
abbrev pub is_tail : List ℕ → Option (List ℕ) → Bool
is_tail tail None = false
is_tail tail (Some made) = bytes_eq made tail

-- whether the segment line with the points, the identifier and the data of a tail gives the tail to
-- the leg line with this place, counted from 0, of up to twenty
abbrev pub gives_tail : List LegLine → ℕ → List ℕ → Bool
gives_tail lines place tail =
    nat_le (length lines) 20 && is_tail tail (tail_made lines place tail (points tail))

-- Messages leave the tails as in the old leg. To a leg that is made anew they give each tail, if
-- there is room for so many segment lines.
abbrev pub give_tails : Option LegValue → Legs → ℕ → ℕ → LegValue → Bool
give_tails None legs place room leg =
    nat_le (length leg.tails) room && list_all (gives_tail (map leg_line legs) place) leg.tails
give_tails (Some old) legs place room leg = same_tails old.tails leg.tails

-- ---- the legs

-- the columns of an old leg
abbrev pub old_columns : Option LegValue → Option (List ℕ)
old_columns None = None
old_columns (Some old) = Some old.columns

-- whether two legs fly between the same stations
abbrev pub same_pair : List ℕ → List ℕ → Bool
same_pair d e = same_columns 37 39 d e && same_columns 55 57 d e

-- whether one of the earlier legs flies between the stations of a leg: TIM then changes that one
abbrev pub is_second : Legs → List ℕ → Bool
is_second earlier leg = list_any (λ other. same_pair other.columns leg) earlier

-- whether TIM gives an old leg its times, if they are other ones
abbrev pub retimes : Option LegValue → Legs → LegValue → Bool
retimes None earlier leg = true
retimes (Some old) earlier leg =
    same_times old.columns leg.columns || not (is_second earlier leg.columns)

-- whether two legs have the same equipment
unfoldable pub same_equipment : List ℕ → List ℕ → Bool
same_equipment d e =
    (same_columns 14 14 d e && same_columns 73 75 d e)
    && (same_columns 76 95 d e && same_columns 173 192 d e)

-- whether a leg has other equipment than the old one, or there is none
abbrev pub have_other_equipment : Legs → Legs → Bool
have_other_equipment olds [] = false
have_other_equipment [] (leg ∷ legs) = true
have_other_equipment (old ∷ olds) (leg ∷ legs) =
    not (same_equipment old.columns leg.columns) || have_other_equipment olds legs

-- The itineraries of a date: the old legs that messages keep, or none, and all new legs, whose first
-- leg has these columns. The UTC variations are those of these rows on the day.
pub record Change : Type 0 where
  pub rows : List Row
  pub day : ℕ
  pub old : Legs
  pub new : Legs
  pub first : List ℕ

-- what messages have to give of a leg, which has an old leg, or none
abbrev pub wanted : Change → Option LegValue → LegValue → WantedLeg
wanted c old leg = record {
  leg = leg.columns;
  old = old_columns old;
  first = c.first;
  has_other_equipment = have_other_equipment c.old c.new;
  departure = variation_on c.rows c.day (leg_columns 37 39 leg.columns);
  arrival = variation_on c.rows c.day (leg_columns 55 57 leg.columns);
}

-- the words of the segment data and of the times that TIM does not give to the leg with this place,
-- counted from 0
abbrev pub later_words : Change → ℕ → ℕ → LegValue → List ℕ
later_words c place room leg =
    unless (give_tails (slice_get c.old place) c.new place room leg) (codes " segments")
    ++ unless (retimes (slice_get c.old place) (take place c.new) leg) (codes " second")

-- what messages do not give to the leg with this place
abbrev pub leg_words : Change → ℕ → ℕ → LegValue → List ℕ
leg_words c place room leg =
    departure_words (wanted c (slice_get c.old place) leg)
    ++ (arrival_words (wanted c (slice_get c.old place) leg)
    ++ (late_words (wanted c (slice_get c.old place) leg) ++ later_words c place room leg))

-- words after the leg sequence; nothing if there are none
abbrev pub after_sequence : ℕ → List ℕ → List ℕ
after_sequence sequence [] = []
after_sequence sequence (b ∷ words) = 32 ∷ (two_digits sequence ++ b ∷ words)

-- what messages do not give to the legs from this place on, with room for so many segment lines
abbrev pub legs_words : Change → ℕ → ℕ → Legs → List ℕ
legs_words c place room [] = []
legs_words c place room (leg ∷ legs) =
    after_sequence leg.sequence (leg_words c place room leg)
    ++ legs_words c (place + 1) (room - length leg.tails) legs

-- ---- the reason

-- whether the leg sequences are n and so on
abbrev pub are_numbered_from : ℕ → Legs → Bool
are_numbered_from n [] = true
are_numbered_from n (leg ∷ legs) = nat_eq leg.sequence n && are_numbered_from (n + 1) legs

-- whether messages can number the legs so: up to twenty legs, with the leg sequences 1, 2 and so on
abbrev pub are_numbered : Legs → Bool
are_numbered legs = nat_le (length legs) 20 && are_numbered_from 1 legs

-- the words, or `other` if there are none
abbrev pub or_other : List ℕ → List ℕ
or_other [] = codes " other"
or_other (b ∷ words) = b ∷ words

-- the columns of the first leg; none if there are no legs
abbrev pub first_columns : Legs → List ℕ
first_columns [] = []
first_columns (leg ∷ legs) = leg.columns

-- the words of the legs, which keep these old ones, or none: a sub-message has up to 99 segment lines
abbrev pub words_of_legs : List Row → ℕ → Legs → Legs → List ℕ
words_of_legs rows day old new =
    legs_words (record { rows = rows; day = day; old = old; new = new; first = first_columns new })
    0 99 new

-- The reason why no messages make the new legs of the old ones on a day: `sequence` if the route is
-- another one and messages cannot number the legs; else what they do not give to the legs.
abbrev pub reason_words : List Row → ℕ → Legs → Legs → List ℕ
reason_words rows day old new =
    if same_route old new then or_other (words_of_legs rows day old new)
    else if are_numbered new then or_other (words_of_legs rows day [] new)
    else codes " sequence"
