-- The lines of a text after SSM or ASM and before the free text are none that a mailbox takes for
-- the end or the beginning of a text: each has a byte that is no letter or is another word, and none
-- begins with a dot.
use Rattle.std.proofs.Common.{◌≡◌, ◌≤◌, ℕ, ◌+◌, ◌/◌, ◌%◌, Bool, true, false, not, ◌||◌, List, [], ◌∷◌, ◌++◌}
use Rattle.std.proofs.Common.{length, take, drop, refl, sym, ap, subst, ◌∙◌, arith, codes, None, Some, eqb-true}
use Rattle.std.proofs.lemmas.Bool.{and_from, and_parts}
use Rattle.std.proofs.lemmas.Bool.Decides.{nat_tests}
use Rattle.std.proofs.lemmas.Slice.Eq.{bytes_eq-Decides}
use Rattle.std.specs.Prelude.{◌==◌, if◌then◌else◌, IsTrue}
use Rattle.std.specs.List.{list_all}
use Rattle.std.specs.Str.{bytes_eq}
use Rattle.ssim_values.specs.Airline.{airline_text, is_airline}
use Rattle.ssim_values.specs.Characters.{is_digit, is_letter}
use Rattle.ssim_values.specs.Clock.{clock_text}
use Rattle.ssim_values.specs.Day.{day_text}
use Rattle.ssim_values.specs.DayMask.{digits_of}
use Rattle.ssim_values.specs.DayMonth.{month_day_text}
use Rattle.ssim_values.specs.Designator.{SpellsDesignator, designator_text}
use Rattle.ssim_values.specs.Flight.{flight_text}
use Rattle.ssim_values.specs.Station.{is_station}
use Rattle.ssim_values.specs.declared.designator.Designator.{Designator}
use Rattle.ssim_values.specs.declared.time_mode.TimeMode.{TimeMode}
use Rattle.ssim_values.specs.declared.time_mode.TimeMode.TheVariants.{Local, Utc}
use Rattle.ssim_text.specs.Bytes.{◌>>=◌, word}
use Rattle.ssim_text.specs.Canonical.{equipment_text, five_digits, given_date_text, given_end_text}
use Rattle.ssim_text.specs.Canonical.{leg_end_text, leg_text, part_text, period_text, reference_text}
use Rattle.ssim_text.specs.Canonical.{creator_text, group_code_text, passenger_text}
use Rattle.ssim_text.specs.Canonical.{segment_line_text, short_digits, third_text, three_digits}
use Rattle.ssim_text.specs.Canonical.{unless_empty, variation_text}
use Rattle.ssim_text.specs.Grammar.{ActionPart, DatedFlightPart, Divider, EquipmentPart, FlightPart}
use Rattle.ssim_text.specs.Grammar.{FreePart, KindPart, LegPart, ModePart, OriginatorPart, Part}
use Rattle.ssim_text.specs.Grammar.{PeriodPart, ReferencePart, SegmentPart, Spells}
use Rattle.ssim_text.specs.Lines.{identifier_text, mode_text, points_of, station_in}
use Rattle.ssim_text.specs.Values.{EquipmentValue}
use Rattle.ssim_text.specs.declared.dates.GivenDate.{GivenDate}
use Rattle.ssim_text.specs.declared.dates.GivenDate.TheVariants.{Full, Yearless}
use Rattle.ssim_text.specs.declared.dates.GivenPeriod.{GivenPeriod}
use Rattle.ssim_text.specs.declared.kind.ActionIdentifier.{ActionIdentifier}
use Rattle.ssim_text.specs.declared.kind.ActionIdentifier.TheVariants as identifier
use Rattle.ssim_text.specs.declared.leg.LegLine.{LegLine}
use Rattle.ssim_text.specs.declared.reference.GivenReference.{GivenReference}
use Rattle.ssim_text.specs.declared.segment.SegmentLine.{SegmentLine}
use Rattle.ssim_text.proofs.EquipmentAgain.{equipment_sound, service_sound}
use Rattle.ssim_text.proofs.LegsAgain.{end_sound, leg_sound, segment_sound, two}
use Rattle.ssim_text.proofs.Runs.{false_true, some_same}
use Rattle.ssim_text.proofs.Words.{bound, only_else, only_if}
use Rattle.ssim_mailbox.specs.Lines.{begins_with_dot}
use Rattle.ssim_mailbox.specs.Roles.{is_end, is_kind}
use Rattle.ssim_outbox.specs.MailFile.{is_plain}

-- the line neither ends a text nor is a first line of one
pub record IsPlain (line : List ℕ) : Type 0 where
  pub no_end : is_end line ≡ false
  pub no_kind : is_kind line ≡ false
  pub no_dot : begins_with_dot line ≡ false

-- a part of a text after SSM or ASM; free text is plain
abbrev pub IsLaterPart : Part → Type 0
IsLaterPart (OriginatorPart originator) = ⊥
IsLaterPart (KindPart kind) = ⊥
IsLaterPart (FreePart free) = is_plain free ≡ true
IsLaterPart part = Unit {0}

-- ---- lines with another byte than a letter

all_after : (xs ys : List ℕ) → list_all is_letter (xs ++ ys) ≡ true → list_all is_letter ys ≡ true
all_after [] ys h = h
all_after (x ∷ xs) ys h =
    all_after xs ys (and_parts (is_letter x) (list_all is_letter (xs ++ ys)) h).1

all_first : (xs ys : List ℕ) → list_all is_letter (xs ++ ys) ≡ true → list_all is_letter xs ≡ true
all_first [] ys h = refl
all_first (x ∷ xs) ys h =
    let p = and_parts (is_letter x) (list_all is_letter (xs ++ ys)) h in
    and_from (is_letter x) (list_all is_letter xs) p.0 (all_first xs ys p.1)

other_byte : (xs ys : List ℕ) (b : ℕ) → is_letter b ≡ false
    → list_all is_letter (xs ++ b ∷ ys) ≡ true → ⊥
other_byte xs ys b h k =
    let all = all_after xs (b ∷ ys) k in
    false_true (sym h ∙ (and_parts (is_letter b) (list_all is_letter ys) all).0)

is_false : (b : Bool) → (b ≡ true → ⊥) → b ≡ false
is_false true h = absurd (h refl)
is_false false h = refl

is_none : (line word : List ℕ) → (list_all is_letter line ≡ true → ⊥) → list_all is_letter word ≡ true
    → bytes_eq line word ≡ false
is_none line word h k =
    is_false (bytes_eq line word)
    (λ e. h (ap (list_all is_letter) ((bytes_eq-Decides line word).0 e) ∙ k))

neither : (a b : Bool) → a ≡ false → b ≡ false → (if a then true else b) ≡ false
neither a b h k = rw (h, k) refl

plain : (line : List ℕ) → (list_all is_letter line ≡ true → ⊥) → begins_with_dot line ≡ false
    → IsPlain line
plain line h dot = record {
  no_end = is_none line (codes "NNNN") h refl;
  no_kind =
      let ssm = is_none line (codes "SSM") h refl in
      let asm = is_none line (codes "ASM") h refl in
      rw (ssm, asm) refl;
  no_dot = dot;
}

-- ---- first bytes

-- the text has a first byte, which is no dot
abbrev HasFirst : List ℕ → Type 0
HasFirst xs = (1 ≤ length xs) × (begins_with_dot xs ≡ false)

first_more : (xs ys : List ℕ) → HasFirst xs → HasFirst (xs ++ ys)
first_more [] ys h = absurd (omega (arith, h.0))
first_more (x ∷ xs) ys h = (omega arith, h.1)

letter_no_dot : (b : ℕ) → is_letter b ≡ true → (b == 46) ≡ false
letter_no_dot b h = grind (arith, nat_tests)

digit_no_letter : (b : ℕ) → is_digit b ≡ true → is_letter b ≡ false
digit_no_letter b h = grind (arith, nat_tests)

more_no_dot : (n : ℕ) → (48 + n == 46) ≡ false
more_no_dot n = grind (arith, nat_tests)

units_no_letter : (n : ℕ) → is_letter (48 + n % 10) ≡ false
units_no_letter n = grind (arith, nat_tests)

date_first : (date : GivenDate) → HasFirst (given_date_text date)
unfolding day_text
date_first (Full day) = (omega arith, more_no_dot _)
date_first (Yearless day) = (omega arith, more_no_dot _)

three_letters : (a b c : ℕ) → is_station (a ∷ b ∷ c ∷ []) ≡ true → (a == 46) ≡ false
three_letters a b c h = grind (arith, nat_tests)

station_first : (station : List ℕ) → length station ≡ 3 → is_station station ≡ true → HasFirst station
station_first (a ∷ b ∷ c ∷ []) l h = (omega arith, three_letters a b c h)
station_first [] l h = absurd (omega (arith, l))
station_first (a ∷ []) l h = absurd (omega (arith, l))
station_first (a ∷ b ∷ []) l h = absurd (omega (arith, l))
station_first (a ∷ b ∷ c ∷ d ∷ xs) l h = absurd (omega (arith, l))

-- ---- designators

airline_length : (columns : List ℕ) → IsTrue (is_airline columns) → length columns ≡ 3
airline_length columns h = grind (arith, nat_tests)

airline_byte : (a b c : ℕ) → IsTrue (is_airline (a ∷ b ∷ c ∷ [])) → (a == 46) ≡ false
airline_byte a b c h = grind (arith, nat_tests)

airline_at : (a b c : ℕ) (two : Bool) → (a == 46) ≡ false
    → HasFirst (if two then a ∷ b ∷ [] else a ∷ b ∷ c ∷ [])
airline_at a b c true h = (omega arith, h)
airline_at a b c false h = (omega arith, h)

airline_first : (columns : List ℕ) → length columns ≡ 3 → IsTrue (is_airline columns)
    → HasFirst (airline_text columns)
airline_first (a ∷ b ∷ c ∷ []) l h = airline_at a b c (c == 32) (airline_byte a b c h)
airline_first [] l h = absurd (omega (arith, l))
airline_first (a ∷ []) l h = absurd (omega (arith, l))
airline_first (a ∷ b ∷ []) l h = absurd (omega (arith, l))
airline_first (a ∷ b ∷ c ∷ d ∷ columns) l h = absurd (omega (arith, l))

designator_first : (d : Designator) (line : List ℕ) → SpellsDesignator d line
    → HasFirst (designator_text d)
designator_first d line h =
    first_more (airline_text d.airline) (flight_text d.flight)
    (airline_first d.airline (airline_length d.airline h.is_code) h.is_code)

digits_other : (before digits after : List ℕ) → 1 ≤ length digits → list_all is_digit digits ≡ true
    → list_all is_letter (before ++ (digits ++ after)) ≡ true → ⊥
digits_other before [] after some h k = absurd (omega (arith, some))
digits_other before (b ∷ digits) after some h k =
    let first = (and_parts (is_digit b) (list_all is_digit digits) h).0 in
    other_byte before (digits ++ after) b (digit_no_letter b first) k

flight_plain : (d : Designator) → SpellsDesignator d (designator_text d) → IsPlain (designator_text d)
flight_plain d h =
    let f = h.flight in
    let n = f.is_number in
    plain (designator_text d)
    (λ k. digits_other (airline_text d.airline) f.digits _ n.from n.all
    (subst (λ (x : List ℕ). list_all is_letter x ≡ true)
    (h.spelled ∙ ap (λ (x : List ℕ). airline_text d.airline ++ x) f.spelled) k))
    (designator_first d (designator_text d) h).1

dated_flight_plain : (d : Designator) (date : GivenDate) (line : List ℕ) → SpellsDesignator d line
    → IsPlain (designator_text d ++ 47 ∷ given_date_text date)
dated_flight_plain d date line h =
    plain (designator_text d ++ 47 ∷ given_date_text date)
    (other_byte (designator_text d) (given_date_text date) 47 refl)
    (first_more (designator_text d) (47 ∷ given_date_text date) (designator_first d line h)).1

-- ---- the other lines

mode_plain : (mode : TimeMode) → IsPlain (mode_text mode)
mode_plain Utc = record { no_end = refl; no_kind = refl; no_dot = refl }
mode_plain Local = record { no_end = refl; no_kind = refl; no_dot = refl }

action_plain : (a : ActionIdentifier) → IsPlain (identifier_text a)
action_plain identifier.New = record { no_end = refl; no_kind = refl; no_dot = refl }
action_plain identifier.Cnl = record { no_end = refl; no_kind = refl; no_dot = refl }
action_plain identifier.Rpl = record { no_end = refl; no_kind = refl; no_dot = refl }
action_plain identifier.Eqt = record { no_end = refl; no_kind = refl; no_dot = refl }
action_plain identifier.Tim = record { no_end = refl; no_kind = refl; no_dot = refl }

reference_plain : (r : GivenReference) → IsPlain (reference_text r)
reference_plain r =
    let n = r.group in
    let date = month_day_text r.date in
    let group = date ++ five_digits n in
    let code = group ++ group_code_text r.code in
    let serial = code ++ three_digits r.serial in
    let units = (48 + n / 1000 % 10) ∷ (48 + n / 100 % 10) ∷ (48 + n / 10 % 10) ∷ (48 + n % 10) ∷ [] in
    plain (reference_text r)
    (λ k. other_byte date units (48 + n / 10000 % 10) (units_no_letter (n / 10000))
    (all_first group (group_code_text r.code) (all_first code (three_digits r.serial)
    (all_first serial (creator_text r.creator) k))))
    (more_no_dot (r.date.day / 10))

period_plain : (p : GivenPeriod) → IsPlain (period_text p)
period_plain p =
    let first = given_date_text p.first in
    let last = 32 ∷ given_end_text p.last in
    let days = 32 ∷ digits_of p.days in
    plain (period_text p)
    (λ k. other_byte first (given_end_text p.last) 32 refl (all_first (first ++ last) days k))
    (first_more (first ++ last) days (first_more first last (date_first p.first))).1

equipment_plain : (e : EquipmentValue) (line : List ℕ) → Spells (EquipmentPart e) line
    → IsPlain (equipment_text e)
equipment_plain e line h =
    let service = service_sound (word line) e.service (equipment_sound line e h).service in
    plain (equipment_text e) (other_byte (e.service ∷ []) (e.aircraft ++ unless_empty 32 (third_text e)) 32 refl)
    (letter_no_dot e.service service.letter)

leg_plain : (leg : LegLine) (line : List ℕ) → Spells (LegPart leg) line → IsPlain (leg_text leg)
leg_plain leg line h =
    let e = leg.departure in
    let station = (end_sound (word line) e (leg_sound line leg h).departure).station in
    let timed = e.station ++ clock_text e.time in
    let varied = timed ++ variation_text e.variation in
    let passenger = passenger_text e.time e.passenger in
    plain (leg_text leg) (other_byte (leg_end_text e) (leg_end_text leg.arrival) 32 refl)
    (first_more (leg_end_text e) (32 ∷ leg_end_text leg.arrival)
    (first_more varied passenger (first_more timed (variation_text e.variation)
    (first_more e.station (clock_text e.time) (station_first e.station station.long station.valid))))).1

-- the station that a text of three letters is
station_read : (text station : List ℕ) → station_in text ≡ Some station
    → (length station ≡ 3) × (is_station station ≡ true)
station_read text station h =
    let p = only_if (length text == 3) (if is_station text then Some text else None) station h in
    let q = only_if (is_station text) (Some text) station p.1 in
    let same = some_same text station q.1 in
    (ap length (sym same) ∙ eqb-true (length text) 3 p.0, ap is_station (sym same) ∙ q.0)

-- the board point that a text of two stations begins with
board_read : (text board off : List ℕ) → points_of text ≡ Some (two board off)
    → (length board ≡ 3) × (is_station board ≡ true)
board_read text board off h =
    let points = λ (b : List ℕ). station_in (drop 3 text) >>= λ o. Some (two b o) in
    let p = only_else (bytes_eq text (codes "QQQQQQ")) (station_in (take 3 text) >>= points)
    (two board off) h in
    let b = bound (station_in (take 3 text)) points (two board off) p.1 in
    let o = bound (station_in (drop 3 text)) (λ (o : List ℕ). Some (two b.0 o)) (two board off) b.2 in
    let same : b.0 ≡ board =
    ap (λ (x : List ℕ × List ℕ). x.0) (some_same (two b.0 o.0) (two board off) o.2) in
    subst (λ (x : List ℕ). (length x ≡ 3) × (is_station x ≡ true)) same
    (station_read (take 3 text) b.0 b.1)

segment_plain : (s : SegmentLine) (line : List ℕ) → Spells (SegmentPart s) line
    → IsPlain (segment_line_text s)
segment_plain s line h =
    let board = board_read (word line) s.board s.off (segment_sound line s h).points in
    let points = s.board ++ s.off in
    let identified = points ++ 32 ∷ short_digits s.identifier in
    plain (segment_line_text s)
    (λ k. other_byte points (short_digits s.identifier) 32 refl (all_first identified (47 ∷ s.text) k))
    (first_more identified (47 ∷ s.text) (first_more points (32 ∷ short_digits s.identifier)
    (first_more s.board s.off (station_first s.board board.0 board.1)))).1

none_true : (a b c : Bool) → not (a || b || c) ≡ true → (a ≡ false) × (b ≡ false) × (c ≡ false)
none_true false false false h = (refl, refl, refl)
none_true true b c h = absurd (false_true h)
none_true false true c h = absurd (false_true h)
none_true false false true h = absurd (false_true h)

free_plain : (line : List ℕ) → is_plain line ≡ true → IsPlain line
free_plain line h =
    let p = none_true (is_end line) (is_kind line) (begins_with_dot line) h in
    record { no_end = p.0; no_kind = p.1; no_dot = p.2 }

-- ---- each part

-- the line that is written for a part after SSM or ASM
pub part_plain : (p : Part) → IsLaterPart p → Spells p (part_text p) → IsPlain (part_text p)
part_plain (OriginatorPart originator) later h = absurd later
part_plain (KindPart kind) later h = absurd later
part_plain (ModePart mode) later h = mode_plain mode
part_plain (ReferencePart reference) later h = reference_plain reference
part_plain (ActionPart a) later h = action_plain a
part_plain (FlightPart designator) later h = flight_plain designator h
part_plain (DatedFlightPart designator date) later h =
    dated_flight_plain designator date _ h.designator_spelled
part_plain (PeriodPart period) later h = period_plain period
part_plain (EquipmentPart equipment) later h = equipment_plain equipment _ h
part_plain (LegPart leg) later h = leg_plain leg _ h
part_plain (SegmentPart segment) later h = segment_plain segment _ h
part_plain Divider later h = record { no_end = refl; no_kind = refl; no_dot = refl }
part_plain (FreePart free) later h = free_plain free later
