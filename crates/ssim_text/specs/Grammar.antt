-- The grammar: a message has parts in an order, and each line of its text spells its part.
use Rattle.std.specs.Prelude.{◌≡◌, ℕ, ◌≤◌, ◌<◌, ◌+◌, ◌⊎◌, Bool, true, false, Option, Some, None, is_some}
use Rattle.std.specs.Prelude.{List, [], ◌∷◌, ◌++◌, map, length, codes, take, position}
use Rattle.std.specs.List.{AllByRecursion, AllZip}
use Rattle.std.specs.Str.{bytes_eq}
use Rattle.ssim_text.specs.declared.kind.Kind.{Kind}
use Rattle.ssim_text.specs.declared.kind.Kind.TheVariants.{Ssm, Asm}
use Rattle.ssim_values.specs.declared.time_mode.TimeMode.{TimeMode}
use Rattle.ssim_values.specs.declared.time_mode.TimeMode.TheVariants.{Utc}
use Rattle.ssim_text.specs.declared.kind.ActionIdentifier.{ActionIdentifier}
use Rattle.ssim_text.specs.declared.kind.ActionIdentifier.TheVariants as identifier
use Rattle.ssim_text.specs.declared.reference.GivenReference.{GivenReference}
use Rattle.ssim_text.specs.declared.dates.GivenDate.{GivenDate}
use Rattle.ssim_text.specs.declared.dates.GivenPeriod.{GivenPeriod}
use Rattle.ssim_text.specs.declared.dates.Dates.{Dates}
use Rattle.ssim_text.specs.declared.dates.Dates.TheVariants.{Period, Date}
use Rattle.ssim_text.specs.declared.leg.LegLine.{LegLine}
use Rattle.ssim_text.specs.declared.segment.SegmentLine.{SegmentLine}
use Rattle.ssim_text.specs.declared.action.NewLegs.{NewLegs}
use Rattle.ssim_text.specs.declared.action.Action.{Action}
use Rattle.ssim_text.specs.declared.action.Action.TheVariants as action
use Rattle.ssim_text.specs.declared.action.Sub.{Sub}
use Rattle.ssim_values.specs.declared.designator.Designator.{Designator}
use Rattle.ssim_values.specs.Designator.{SpellsDesignator}
use Rattle.ssim_text.specs.Values.{EquipmentValue, no_originator}
use Rattle.ssim_text.specs.Lines.{originator_of, kind_text, mode_text, reference_of, identifier_text}
use Rattle.ssim_text.specs.Lines.{SpellsDatedFlight, period_of, equipment_of, leg_of, segment_of, begins_free}
use Rattle.ssim_text.specs.Left.{IsTextLine}
use Rattle.ssim_text.specs.Message.{MessageValue}

-- what one line of a message says
pub data Part : Type 0 where
  OriginatorPart : List ℕ → Part
  KindPart : Kind → Part
  ModePart : TimeMode → Part
  ReferencePart : GivenReference → Part
  ActionPart : ActionIdentifier → Part
  FlightPart : Designator → Part
  DatedFlightPart : Designator → GivenDate → Part
  PeriodPart : GivenPeriod → Part
  EquipmentPart : EquipmentValue → Part
  LegPart : LegLine → Part
  SegmentPart : SegmentLine → Part
  Divider : Part
  FreePart : List ℕ → Part

-- the line spells the part
abbrev pub Spells : Part → List ℕ → Type 0
Spells (OriginatorPart originator) line = originator_of line ≡ Some originator
Spells (KindPart kind) line = line ≡ kind_text kind
Spells (ModePart mode) line = line ≡ mode_text mode
Spells (ReferencePart reference) line = reference_of line ≡ Some reference
Spells (ActionPart identifier) line = line ≡ identifier_text identifier
Spells (FlightPart designator) line = SpellsDesignator designator line
Spells (DatedFlightPart designator date) line = SpellsDatedFlight designator date line
Spells (PeriodPart period) line = period_of line ≡ Some period
Spells (EquipmentPart equipment) line = equipment_of line ≡ Some equipment
Spells (LegPart leg) line = leg_of line ≡ Some leg
Spells (SegmentPart segment) line = segment_of line ≡ Some segment
Spells Divider line = line ≡ codes "//"
Spells (FreePart free) line = line ≡ free

-- a line that a text can have spells the part
pub record IsSpelled (part : Part) : Type 0 where
  pub line : List ℕ
  pub is_line : IsTextLine line
  pub spells : Spells part line

-- a line of a text can spell the equipment
abbrev pub IsEquipment : EquipmentValue → Type 0
IsEquipment equipment = IsSpelled (EquipmentPart equipment)

-- a line of a text can spell the leg line
abbrev pub IsLegLine : LegLine → Type 0
IsLegLine line = IsSpelled (LegPart line)

-- a line of a text can spell the segment line
abbrev pub IsSegmentLine : SegmentLine → Type 0
IsSegmentLine segment = IsSpelled (SegmentPart segment)

-- ---- the order of the parts

-- the parts of a flight and its dates: in an SSM a flight and then a period, in an ASM a flight
-- with its date
abbrev pub flight_parts : Designator → Dates → List Part
flight_parts designator (Period period) = FlightPart designator ∷ PeriodPart period ∷ []
flight_parts designator (Date date) = DatedFlightPart designator date ∷ []

-- the parts of new legs: the equipment line, the leg lines, the segment lines
abbrev pub new_parts : NewLegs → List Part
new_parts new = EquipmentPart new.equipment ∷ (map LegPart new.legs ++ map SegmentPart new.segments)

-- the identifier of an action
abbrev pub identifier_of : Action → ActionIdentifier
identifier_of (action.New new) = identifier.New
identifier_of action.Cnl = identifier.Cnl
identifier_of (action.Rpl new) = identifier.Rpl
identifier_of (action.Eqt equipment) = identifier.Eqt
identifier_of (action.Tim legs) = identifier.Tim

-- the parts of a sub-message after its flight and period
abbrev pub body_parts : Action → List Part
body_parts (action.New new) = new_parts new
body_parts action.Cnl = []
body_parts (action.Rpl new) = new_parts new
body_parts (action.Eqt equipment) = EquipmentPart equipment ∷ []
body_parts (action.Tim legs) = map LegPart legs

-- the parts of a sub-message: the action, the flight with its period or date, and the rest
abbrev pub sub_parts : Sub → List Part
sub_parts sub =
    ActionPart (identifier_of sub.action)
    ∷ (flight_parts sub.designator sub.dates ++ body_parts sub.action)

-- the parts of the sub-messages after the first
abbrev pub later_parts : List Sub → List Part
later_parts [] = []
later_parts (sub ∷ subs) = Divider ∷ (sub_parts sub ++ later_parts subs)

-- the parts of all sub-messages, with a divider between two of them
abbrev pub subs_parts : List Sub → List Part
subs_parts [] = []
subs_parts (sub ∷ subs) = sub_parts sub ++ later_parts subs

-- the parts of free text, after a divider
abbrev pub free_parts : List (List ℕ) → List Part
free_parts [] = []
free_parts (line ∷ lines) = Divider ∷ map FreePart (line ∷ lines)

-- the parts of an originator: one line, or none if there is no originator
abbrev pub IsOriginatorPart : List ℕ → List Part → Type 0
IsOriginatorPart o parts = ((o ≡ no_originator) × (parts ≡ [])) ⊎ (parts ≡ OriginatorPart o ∷ [])

-- the parts of a time mode: one line, which may be left out for UTC
abbrev pub IsModePart : TimeMode → List Part → Type 0
IsModePart mode parts = (parts ≡ ModePart mode ∷ []) ⊎ ((mode ≡ Utc) × (parts ≡ []))

-- ---- what a message may be

-- the pair (n, n + k) if leg n departs from the board point and leg n + k is the next to arrive at
-- the off point; else a later pair
abbrev pub pair_at : Bool → Option ℕ → ℕ → Option (ℕ × ℕ) → Option (ℕ × ℕ)
pair_at true (Some k) n later = Some (n, n + k)
pair_at true None n later = later
pair_at false arrival n later = later

-- The pair of legs that a segment flies: the first leg that departs from the board point and has,
-- from it on, a leg that arrives at the off point, and the first such arrival. Both are given by
-- their indices; n is the index of the first leg of the list.
abbrev pub leg_pair : List ℕ → List ℕ → ℕ → List LegLine → Option (ℕ × ℕ)
leg_pair board off n [] = None
leg_pair board off n (leg ∷ legs) =
    pair_at (bytes_eq leg.departure.station board)
    (position (λ l. bytes_eq l.arrival.station off) (leg ∷ legs)) n
    (leg_pair board off (n + 1) legs)

-- the legs fly the segment's pair of points
abbrev pub flies : List LegLine → SegmentLine → Bool
flies legs segment = is_some (leg_pair segment.board segment.off 0 legs)

-- new legs are allowed: 1 to 20 legs and up to 99 segments, each flown by the legs
pub record IsNewLegs (new : NewLegs) : Type 0 where
  pub some : 1 ≤ length new.legs
  pub legs : length new.legs ≤ 20
  pub segments : length new.segments ≤ 99
  pub flown : AllByRecursion (λ segment. flies new.legs segment ≡ true) new.segments

-- the lines of an action are allowed
abbrev pub IsBody : Action → Type 0
IsBody (action.New new) = IsNewLegs new
IsBody action.Cnl = Unit {0}
IsBody (action.Rpl new) = IsNewLegs new
IsBody (action.Eqt equipment) = Unit {0}
IsBody (action.Tim legs) = (1 ≤ length legs) × (length legs ≤ 20)

-- the dates fit the kind of message: periods in an SSM, single dates in an ASM
abbrev pub AreDates : Kind → Dates → Type 0
AreDates Ssm (Period period) = Unit {0}
AreDates Asm (Date date) = Unit {0}
AreDates kind dates = ⊥

-- the sub-message is allowed in a message of this kind
pub record IsSub (kind : Kind) (sub : Sub) : Type 0 where
  pub dates : AreDates kind sub.dates
  pub body : IsBody sub.action

-- the free text, if there is any, begins with SI
abbrev pub BeginsFree : List (List ℕ) → Type 0
BeginsFree [] = Unit {0}
BeginsFree (line ∷ lines) = begins_free line ≡ true

-- the message is allowed: 1 to 250 sub-messages, each allowed, and free text that begins with SI
pub record IsShape (m : MessageValue) : Type 0 where
  pub some : 1 ≤ length m.subs
  pub few : length m.subs ≤ 250
  pub subs : AllByRecursion (IsSub m.kind) m.subs
  pub free : BeginsFree m.free

-- ---- texts

-- the parts before the sub-messages
pub record IsHeading (originator : List ℕ) (kind : Kind) (mode : TimeMode)
    (reference : GivenReference)
    (heading : List Part) : Type 0 where
  pub originator_parts : List Part
  pub is_originator : IsOriginatorPart originator originator_parts
  pub mode_parts : List Part
  pub is_mode : IsModePart mode mode_parts
  pub whole : heading ≡ originator_parts
      ++ (KindPart kind ∷ (mode_parts ++ ReferencePart reference ∷ []))

-- the message's parts are these, in order
pub record HasParts (m : MessageValue) (parts : List Part) : Type 0 where
  pub heading : List Part
  pub is_heading : IsHeading m.originator m.kind m.mode m.reference heading
  pub whole : parts ≡ heading ++ (subs_parts m.subs ++ free_parts m.free)

-- the lines spell the message
pub record SpellsText (m : MessageValue) (lines : List (List ℕ)) : Type 0 where
  pub shape : IsShape m
  pub parts : List Part
  pub has_parts : HasParts m parts
  pub spelled : AllZip Spells parts lines

-- The lines are the beginning of some message's text.
pub record Starts (lines : List (List ℕ)) : Type 0 where
  pub completion : List (List ℕ)
  pub message : MessageValue
  pub spelled : SpellsText message (lines ++ completion)

-- The lines are no message's text. The index names the first line after which no message is
-- possible: the lines before it begin some message, and with it they begin none. If the index is
-- the number of lines, the text ends too early.
pub record NamesPlace (lines : List (List ℕ)) (index : ℕ) : Type 0 where
  pub starts : Starts (take index lines)
  pub within : index ≤ length lines
  pub no_text : (m : MessageValue) → SpellsText m lines → ⊥
  pub starts_no_more : index < length lines → Starts (take (index + 1) lines) → ⊥

-- No text spells two messages.
abbrev pub OneMessage : Type 0
OneMessage =
    (a b : MessageValue) (lines : List (List ℕ)) → SpellsText a lines → SpellsText b lines → a ≡ b
