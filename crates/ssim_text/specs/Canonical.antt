-- The one written form of a message.
use Rattle.std.specs.Prelude.{ℕ, ◌+◌, ◌/◌, ◌%◌, ◌==◌, nat_lt, if◌then◌else◌, Option, Some, None, List, []}
use Rattle.std.specs.Prelude.{◌∷◌, ◌++◌, codes}
use Rattle.std.specs.List.{flat_map}
use Rattle.std.specs.Str.{bytes_eq}
use Rattle.ssim_values.specs.Designator.{designator_text}
use Rattle.ssim_values.specs.Day.{day_text}
use Rattle.ssim_values.specs.DayMonth.{month_day_text}
use Rattle.ssim_values.specs.DayMask.{digits_of}
use Rattle.ssim_values.specs.Clock.{clock_text}
use Rattle.ssim_text.specs.declared.reference.GroupCode.{GroupCode}
use Rattle.ssim_text.specs.declared.reference.GroupCode.TheVariants.{Continuation, End}
use Rattle.ssim_text.specs.declared.reference.GivenReference.{GivenReference}
use Rattle.ssim_text.specs.declared.dates.GivenDate.{GivenDate}
use Rattle.ssim_text.specs.declared.dates.GivenDate.TheVariants.{Full, Yearless}
use Rattle.ssim_text.specs.declared.dates.GivenEnd.{GivenEnd}
use Rattle.ssim_text.specs.declared.dates.GivenEnd.TheVariants.{Until, Open}
use Rattle.ssim_text.specs.declared.dates.GivenPeriod.{GivenPeriod}
use Rattle.ssim_text.specs.declared.leg.LegEnd.{LegEnd}
use Rattle.ssim_text.specs.declared.leg.LegLine.{LegLine}
use Rattle.ssim_text.specs.declared.segment.SegmentLine.{SegmentLine}
use Rattle.ssim_text.specs.Values.{EquipmentValue, no_originator}
use Rattle.ssim_text.specs.Lines.{kind_text, mode_text, identifier_text}
use Rattle.ssim_text.specs.Message.{MessageValue}
use Rattle.ssim_text.specs.Grammar.{Part, OriginatorPart, KindPart, ModePart, ReferencePart, ActionPart}
use Rattle.ssim_text.specs.Grammar.{FlightPart, DatedFlightPart, PeriodPart, EquipmentPart, LegPart}
use Rattle.ssim_text.specs.Grammar.{SegmentPart, Divider, FreePart, subs_parts, free_parts}

-- a number in three digits
abbrev pub three_digits : ℕ → List ℕ
three_digits n = (48 + n / 100 % 10) ∷ (48 + n / 10 % 10) ∷ (48 + n % 10) ∷ []

-- a number in five digits
abbrev pub five_digits : ℕ → List ℕ
five_digits n =
    (48 + n / 10000 % 10) ∷ (48 + n / 1000 % 10) ∷ (48 + n / 100 % 10) ∷ (48 + n / 10 % 10)
    ∷ (48 + n % 10) ∷ []

-- a number in one to three digits, without leading zeros
abbrev pub short_digits : ℕ → List ℕ
short_digits n =
    if nat_lt n 10 then (48 + n % 10) ∷ []
    else (if nat_lt n 100 then (48 + n / 10 % 10) ∷ (48 + n % 10) ∷ [] else three_digits n)

-- the letter of a group code
abbrev pub group_code_text : GroupCode → List ℕ
group_code_text Continuation = codes "C"
group_code_text End = codes "E"

-- the text of a creator reference after its solidus, or nothing
abbrev pub creator_text : Option (List ℕ) → List ℕ
creator_text None = []
creator_text (Some creator) = 47 ∷ creator

-- the canonical reference line
abbrev pub reference_text : GivenReference → List ℕ
reference_text r = month_day_text r.date ++ five_digits r.group ++ group_code_text r.code
    ++ three_digits r.serial ++ creator_text r.creator

-- the canonical text of a date, with its year or without
abbrev pub given_date_text : GivenDate → List ℕ
given_date_text (Full day) = day_text day
given_date_text (Yearless day) = month_day_text day

-- the canonical text of a last date or of the open end
abbrev pub given_end_text : GivenEnd → List ℕ
given_end_text (Until date) = given_date_text date
given_end_text Open = codes "00XXX00"

-- the canonical period line
abbrev pub period_text : GivenPeriod → List ℕ
period_text p = given_date_text p.first ++ 32 ∷ given_end_text p.last ++ 32 ∷ digits_of p.days

-- a mark and the text; nothing if the text is empty
abbrev pub unless_empty : ℕ → List ℕ → List ℕ
unless_empty mark [] = []
unless_empty mark (b ∷ text) = mark ∷ b ∷ text

-- the third item of an equipment line: booking designators and configuration
abbrev pub third_text : EquipmentValue → List ℕ
third_text e = e.designators ++ unless_empty 46 e.configuration

-- the canonical equipment line
abbrev pub equipment_text : EquipmentValue → List ℕ
equipment_text e = e.service ∷ 32 ∷ (e.aircraft ++ unless_empty 32 (third_text e))

-- the text of a date variation; nothing if it is 0
abbrev pub variation_text : ℕ → List ℕ
variation_text variation = if variation == 0 then [] else 47 ∷ (48 + variation % 10) ∷ []

-- the text of a passenger time; nothing if it is the aircraft's time
abbrev pub passenger_text : ℕ → ℕ → List ℕ
passenger_text time passenger = if passenger == time then [] else 47 ∷ clock_text passenger

-- the canonical text of the departure or the arrival of a leg
abbrev pub leg_end_text : LegEnd → List ℕ
leg_end_text e =
    e.station ++ clock_text e.time ++ variation_text e.variation
    ++ passenger_text e.time e.passenger

-- the canonical leg line
abbrev pub leg_text : LegLine → List ℕ
leg_text leg = leg_end_text leg.departure ++ 32 ∷ leg_end_text leg.arrival

-- the canonical segment line
abbrev pub segment_line_text : SegmentLine → List ℕ
segment_line_text s = s.board ++ s.off ++ 32 ∷ short_digits s.identifier ++ 47 ∷ s.text

-- the canonical line of a part
abbrev pub part_text : Part → List ℕ
part_text (OriginatorPart originator) = 46 ∷ originator
part_text (KindPart kind) = kind_text kind
part_text (ModePart mode) = mode_text mode
part_text (ReferencePart reference) = reference_text reference
part_text (ActionPart identifier) = identifier_text identifier
part_text (FlightPart designator) = designator_text designator
part_text (DatedFlightPart designator date) =
    designator_text designator ++ 47 ∷ given_date_text date
part_text (PeriodPart period) = period_text period
part_text (EquipmentPart equipment) = equipment_text equipment
part_text (LegPart leg) = leg_text leg
part_text (SegmentPart segment) = segment_line_text segment
part_text Divider = codes "//"
part_text (FreePart line) = line

-- the lines of parts, each with LF
abbrev pub written : List Part → List ℕ
written = flat_map (λ p. part_text p ++ 10 ∷ [])

-- the part of an originator; none if the originator is blank
abbrev pub originator_parts : List ℕ → List Part
originator_parts originator =
    if bytes_eq originator no_originator then [] else OriginatorPart originator ∷ []

-- the parts of a message as it is written, always with the line of the time mode
abbrev pub canonical_parts : MessageValue → List Part
canonical_parts m =
    originator_parts m.originator
    ++ (KindPart m.kind ∷ ModePart m.mode ∷ ReferencePart m.reference
    ∷ (subs_parts m.subs ++ free_parts m.free))

-- the canonical text of a message
abbrev pub canonical : MessageValue → List ℕ
canonical m = written (canonical_parts m)
