-- The states of reading a message part by part, and the fault of each state.
use Rattle.std.specs.Prelude.{option_and_then, ◌≡◌, ℕ, nat_lt, if◌then◌else◌, Bool, true, false, ◌&&◌, Option}
use Rattle.std.specs.Prelude.{Some, None, List, [], ◌∷◌, ◌++◌, length, ◌||◌, is_some}
use Rattle.std.specs.List.{list_any, AllZip}
use Rattle.std.specs.Str.{bytes_eq}
use Rattle.ssim_text.specs.declared.kind.Kind.{Kind}
use Rattle.ssim_text.specs.declared.kind.Kind.TheVariants.{Ssm, Asm}
use Rattle.ssim_values.specs.declared.time_mode.TimeMode.TheVariants.{Utc}
use Rattle.ssim_text.specs.declared.kind.ActionIdentifier.{ActionIdentifier}
use Rattle.ssim_text.specs.declared.kind.ActionIdentifier.TheVariants as identifier
use Rattle.ssim_text.specs.declared.dates.Dates.{Dates}
use Rattle.ssim_text.specs.declared.dates.Dates.TheVariants.{Period, Date}
use Rattle.ssim_text.specs.declared.leg.LegLine.{LegLine}
use Rattle.ssim_text.specs.declared.segment.SegmentLine.{SegmentLine}
use Rattle.ssim_text.specs.declared.action.Action.{Action}
use Rattle.ssim_text.specs.declared.action.Action.TheVariants as action
use Rattle.ssim_text.specs.declared.action.Sub.{Sub}
use Rattle.ssim_text.specs.declared.fault.Fault.{Fault}
use Rattle.ssim_text.specs.declared.fault.Fault.TheVariants as fault
use Rattle.ssim_text.specs.declared.decoder_state.LegChange.{LegChange}
use Rattle.ssim_text.specs.declared.decoder_state.LegChange.TheVariants as change
use Rattle.ssim_text.specs.declared.decoder_state.Equipped.{Equipped}
use Rattle.ssim_text.specs.declared.decoder_state.Equipped.TheVariants as equipped
use Rattle.ssim_text.specs.declared.decoder_state.Body.{Body}
use Rattle.ssim_text.specs.declared.decoder_state.State.{State}
use Rattle.ssim_text.specs.declared.decoder_state.State.TheVariants.{AtStart, AtKind, AtMode, AtReference}
use Rattle.ssim_text.specs.declared.decoder_state.State.TheVariants.{AtAction, AtFlight, AtDatedFlight}
use Rattle.ssim_text.specs.declared.decoder_state.State.TheVariants.{AtPeriod, AtEquipment, AtLegs, AtEnd}
use Rattle.ssim_text.specs.declared.decoder_state.State.TheVariants.{AtNext, AtFree}
use Rattle.ssim_values.specs.declared.designator.Designator.{Designator}
use Rattle.ssim_text.specs.Values.{EquipmentValue, no_originator}
use Rattle.ssim_text.specs.Lines.{begins_free, identifier_text, leg_of, segment_of}
use Rattle.ssim_text.specs.Message.{MessageValue, begun, with_sub, with_free}
use Rattle.ssim_text.specs.Grammar.{Part, OriginatorPart, KindPart, ModePart, ReferencePart, ActionPart}
use Rattle.ssim_text.specs.Grammar.{FlightPart, DatedFlightPart, PeriodPart, EquipmentPart, LegPart}
use Rattle.ssim_text.specs.Grammar.{SegmentPart, Divider, FreePart, Spells, flies}

-- the sub-message with this flight, these dates and this action
abbrev pub sub_of : Designator → Dates → Action → Sub
sub_of designator dates action = record { designator = designator; dates = dates; action = action }

-- the state after the action line: an SSM has a flight line next, an ASM a flight line with a date
abbrev pub flight_expected : Kind → MessageValue → ActionIdentifier → State
flight_expected Ssm m a = AtFlight m a
flight_expected Asm m a = AtDatedFlight m a

-- a sub-message that has no leg line yet
abbrev pub no_legs : Designator → Dates → LegChange → Body
no_legs d dates change =
    record { designator = d; dates = dates; change = change; legs = []; segments = [] }

-- the state after the flight with its period or date: expects the lines that the action needs
abbrev pub body_expected : ActionIdentifier → MessageValue → Designator → Dates → State
body_expected identifier.New m d dates = AtEquipment m equipped.New d dates
body_expected identifier.Cnl m d dates = AtEnd (with_sub m (sub_of d dates action.Cnl))
body_expected identifier.Rpl m d dates = AtEquipment m equipped.Rpl d dates
body_expected identifier.Eqt m d dates = AtEquipment m equipped.Eqt d dates
body_expected identifier.Tim m d dates = AtLegs m (no_legs d dates change.Tim)

-- the state after the equipment line: expects leg lines for NEW and RPL, nothing more for EQT
abbrev pub after_equipment : Equipped → MessageValue → Designator → Dates → EquipmentValue → State
after_equipment equipped.New m d dates e = AtLegs m (no_legs d dates (change.New e))
after_equipment equipped.Rpl m d dates e = AtLegs m (no_legs d dates (change.Rpl e))
after_equipment equipped.Eqt m d dates e = AtEnd (with_sub m (sub_of d dates (action.Eqt e)))

-- whether a list is empty
abbrev pub is_none_yet : {A : Type 0} → List A → Bool
is_none_yet [] = true
is_none_yet (x ∷ xs) = false

-- the sub-message with one more leg line
abbrev pub with_leg : Body → LegLine → Body
with_leg b leg = record b { legs = b.legs ++ leg ∷ [] }

-- the sub-message with one more segment line
abbrev pub with_segment : Body → SegmentLine → Body
with_segment b segment = record b { segments = b.segments ++ segment ∷ [] }

-- whether one more leg line is allowed: fewer than 20 leg lines so far, and no segment line
abbrev pub takes_leg : Body → Bool
takes_leg b = is_none_yet b.segments && nat_lt (length b.legs) 20

-- whether the action may have segment lines
abbrev pub has_segments : LegChange → Bool
has_segments change.Tim = false
has_segments (change.New equipment) = true
has_segments (change.Rpl equipment) = true

-- whether the segment line fits the legs, whatever the number of segment lines
abbrev pub fits_segment : Body → SegmentLine → Bool
fits_segment b segment = has_segments b.change && flies b.legs segment

-- whether the segment line is allowed: it fits the legs, and there are fewer than 99
abbrev pub takes_segment : Body → SegmentLine → Bool
takes_segment b segment = fits_segment b segment && nat_lt (length b.segments) 99

-- whether the sub-message has the leg line that it needs
abbrev pub is_whole : Body → Bool
is_whole b = nat_lt 0 (length b.legs)

-- the action with these legs and segments
abbrev pub action_of : LegChange → List LegLine → List SegmentLine → Action
action_of change.Tim legs s = action.Tim legs
action_of (change.New e) legs s = action.New (record { equipment = e; legs = legs; segments = s })
action_of (change.Rpl e) legs s = action.Rpl (record { equipment = e; legs = legs; segments = s })

-- the message with the sub-message that has been read
abbrev pub with_body : MessageValue → Body → MessageValue
with_body m b = with_sub m (sub_of b.designator b.dates (action_of b.change b.legs b.segments))

-- The state after this part, or None if the part is not allowed in this state. A state says which
-- parts may come next.
abbrev pub step : State → Part → Option State
step AtStart (OriginatorPart o) = Some (AtKind o)
step AtStart (KindPart kind) = Some (AtMode no_originator kind)
step (AtKind o) (KindPart kind) = Some (AtMode o kind)
step (AtMode o kind) (ModePart mode) = Some (AtReference o kind mode)
step (AtMode o kind) (ReferencePart r) = Some (AtAction (begun o kind Utc r))
step (AtReference o kind mode) (ReferencePart r) = Some (AtAction (begun o kind mode r))
step (AtAction m) (ActionPart a) = Some (flight_expected m.kind m a)
step (AtFlight m a) (FlightPart d) = Some (AtPeriod m a d)
step (AtDatedFlight m a) (DatedFlightPart d date) = Some (body_expected a m d (Date date))
step (AtPeriod m a d) (PeriodPart period) = Some (body_expected a m d (Period period))
step (AtEquipment m e d dates) (EquipmentPart new) = Some (after_equipment e m d dates new)
step (AtLegs m b) (LegPart leg) = if takes_leg b then Some (AtLegs m (with_leg b leg)) else None
step (AtLegs m b) (SegmentPart s) =
    if takes_segment b s then Some (AtLegs m (with_segment b s)) else None
step (AtLegs m b) Divider = if is_whole b then Some (AtNext (with_body m b)) else None
step (AtEnd m) Divider = Some (AtNext m)
step (AtNext m) (ActionPart a) =
    if nat_lt (length m.subs) 250 then Some (flight_expected m.kind m a) else None
step (AtNext m) (FreePart line) =
    if begins_free line then Some (AtFree (with_free m line)) else None
step (AtFree m) (FreePart line) = Some (AtFree (with_free m line))
step s p = None

-- the state after these parts, or None if one of them is not allowed
abbrev pub run : State → List Part → Option State
run s [] = Some s
run s (p ∷ ps) = option_and_then (λ t. run t ps) (step s p)

-- these lines lead from the start to this state
pub record Reads (s : State) (lines : List (List ℕ)) : Type 0 where
  pub parts : List Part
  pub spelled : AllZip Spells parts lines
  pub reached : run AtStart parts ≡ Some s

-- The fault of a text that ends in this state. Its number says which part was expected.
abbrev pub fault_at : State → Fault
fault_at AtStart = fault.BadKind
fault_at (AtKind o) = fault.BadKind
fault_at (AtMode o kind) = fault.BadReference
fault_at (AtReference o kind mode) = fault.BadReference
fault_at (AtAction m) = fault.BadAction
fault_at (AtFlight m a) = fault.BadFlight
fault_at (AtDatedFlight m a) = fault.BadFlight
fault_at (AtPeriod m a d) = fault.BadPeriod
fault_at (AtEquipment m e d dates) = fault.BadEquipment
fault_at (AtLegs m b) = fault.BadLeg
fault_at (AtEnd m) = fault.Extra
fault_at (AtNext m) = fault.BadAction
fault_at (AtFree m) = fault.Extra

-- whether a line is one of the five action identifiers
abbrev pub is_action : List ℕ → Bool
is_action line = list_any (λ a. bytes_eq line (identifier_text a))
    (identifier.New ∷ identifier.Cnl ∷ identifier.Rpl ∷ identifier.Eqt ∷ identifier.Tim ∷ [])

-- whether the line is a segment line that fits the legs
abbrev pub fits_if_segment : Body → Option SegmentLine → Bool
fits_if_segment b None = false
fits_if_segment b (Some segment) = fits_segment b segment

-- The fault of a line that is not allowed in this state. It says which part was expected, or
-- TooMany if only the number of lines or sub-messages forbids the line.
abbrev pub fault_of : State → List ℕ → Fault
fault_of (AtLegs m b) line =
    if (is_some (leg_of line) && is_none_yet b.segments) || fits_if_segment b (segment_of line)
    then fault.TooMany else fault.BadLeg
fault_of (AtNext m) line = if is_action line then fault.TooMany else fault.BadAction
fault_of s line = fault_at s

-- the fault of the first of these lines, which is not allowed, or of the end if there is no line
abbrev pub fault_before : State → List (List ℕ) → Fault
fault_before s [] = fault_at s
fault_before s (line ∷ lines) = fault_of s line
