-- What the lines that spell a message say of its values.
use Rattle.std.proofs.Common.{Option, None, IfSome, drop, ◌≡◌, ℕ, ◌&&◌, true, List, [], ◌∷◌, ◌++◌, length, map, sym, ap, subst, ◌∙◌, arith, Some, leb-true}
use Rattle.std.specs.Prelude.{◌==◌, nat_le}
use Rattle.std.specs.List.{AllByRecursion, AllZip, list_all}
use Rattle.std.proofs.lemmas.Bool.{and_parts}
use Rattle.ssim_text.specs.declared.leg.LegLine.{LegLine}
use Rattle.ssim_text.specs.declared.segment.SegmentLine.{SegmentLine}
use Rattle.ssim_text.specs.declared.reference.GivenReference.{GivenReference}
use Rattle.ssim_text.specs.declared.action.NewLegs.{NewLegs}
use Rattle.ssim_text.specs.declared.action.Action.{Action}
use Rattle.ssim_text.specs.declared.action.Action.TheVariants as action
use Rattle.ssim_text.specs.declared.action.Sub.{Sub}
use Rattle.ssim_text.specs.Bytes.{word, after_word, is_printable}
use Rattle.ssim_text.specs.Lines.{creator_of, reference_of, leg_of, segment_of}
use Rattle.ssim_text.specs.Message.{MessageValue}
use Rattle.ssim_text.specs.Grammar.{Part, OriginatorPart, KindPart, ModePart, ReferencePart, ActionPart, FlightPart, DatedFlightPart, PeriodPart, EquipmentPart, LegPart, SegmentPart, Divider, FreePart, Spells, flight_parts, body_parts, sub_parts, later_parts, subs_parts, free_parts}
use Rattle.ssim_text.specs.Left.{lines_left, pieces, texts}
use Rattle.ssim_text.specs.Spelling.{SpellsMessage}
use Rattle.ssim_text.specs.clauses.Bounds.{IsLegBounded, IsSegmentBounded, IsEquipmentBounded}
use Rattle.ssim_text.specs.clauses.Bounds.{AreNewLegsBounded, IsActionBounded, AreSubsBounded}
use Rattle.ssim_text.specs.clauses.Bounds.{IsCreatorBounded, IsReferenceBounded}
use Rattle.ssim_text.specs.clauses.Bounds.{AreFreeLinesBounded}
use Rattle.ssim_text.proofs.LinesKept.{IsLine, all_drop, left_lines}
use Rattle.ssim_text.proofs.Words.{carried, only_if}
use Rattle.ssim_text.proofs.HeadingAgain.{reference_sound}
use Rattle.ssim_text.proofs.EquipmentAgain.{equipment_bounded}
use Rattle.ssim_text.proofs.LegsAgain.{leg_sound, end_sound, segment_within}
use Rattle.ssim_text.proofs.ReadsBack.{all_left, all_right}

-- ---- each line

creator_bounded : (text : List ℕ) (creator : Option (List ℕ)) → creator_of text ≡ Some creator → list_all is_printable text ≡ true → IfSome creator IsCreatorBounded
creator_bounded [] creator h l = carried (λ (x : Option (List ℕ)). IfSome x IsCreatorBounded) None creator h tt
creator_bounded (b ∷ text) creator h l =
    let p = only_if ((b == 47) && nat_le 1 (length text) && nat_le (length text) 35) (Some (Some text)) creator h in
    let q = and_parts ((b == 47) && nat_le 1 (length text)) (nat_le (length text) 35) p.0 in
    let some = leb-true 1 (length text) (and_parts (b == 47) (nat_le 1 (length text)) q.0).1 in
    let few = leb-true (length text) 35 q.1 in
    carried (λ (x : Option (List ℕ)). IfSome x IsCreatorBounded) (Some text) creator p.1 (record { some = some; few = few; printable = (and_parts (is_printable b) (list_all is_printable text) l).1 })

reference_bounded : (r : GivenReference) (line : List ℕ) → reference_of line ≡ Some r → IsLine line → IsReferenceBounded r
reference_bounded r line h l =
    let s = reference_sound line r h in
    let n = s.numbers in
    let group = n.group_below in
    let serial = n.serial_below in
    record { group = omega (arith, group); serial = omega (arith, serial); creator = creator_bounded (drop 14 line) r.creator s.creator_read (all_drop is_printable 14 line l.printable) }

leg_bounded : (leg : LegLine) (line : List ℕ) → leg_of line ≡ Some leg → IsLegBounded leg
leg_bounded leg line h =
    let s = leg_sound line leg h in
    ((end_sound (word line) leg.departure s.departure).rest.0, (end_sound (after_word line) leg.arrival s.arrival).rest.0)

segment_bounded : (s : SegmentLine) (line : List ℕ) → segment_of line ≡ Some s → IsLine line → IsSegmentBounded s
segment_bounded s line h l =
    let w = segment_within s line h l in
    record { identifier = w.identifier; some = w.text.some; few = w.few; printable = w.text.printable }

-- ---- each part

abbrev IsPartBounded : Part → Type 0
IsPartBounded (OriginatorPart originator) = Unit {0}
IsPartBounded (KindPart kind) = Unit {0}
IsPartBounded (ModePart mode) = Unit {0}
IsPartBounded (ReferencePart reference) = IsReferenceBounded reference
IsPartBounded (ActionPart identifier) = Unit {0}
IsPartBounded (FlightPart designator) = Unit {0}
IsPartBounded (DatedFlightPart designator date) = Unit {0}
IsPartBounded (PeriodPart period) = Unit {0}
IsPartBounded (EquipmentPart equipment) = IsEquipmentBounded equipment
IsPartBounded (LegPart leg) = IsLegBounded leg
IsPartBounded (SegmentPart segment) = IsSegmentBounded segment
IsPartBounded Divider = Unit {0}
IsPartBounded (FreePart line) = list_all is_printable line ≡ true

part_bounded : (p : Part) (line : List ℕ) → Spells p line → IsLine line → IsPartBounded p
part_bounded (OriginatorPart originator) line h l = tt
part_bounded (KindPart kind) line h l = tt
part_bounded (ModePart mode) line h l = tt
part_bounded (ReferencePart reference) line h l = reference_bounded reference line h l
part_bounded (ActionPart identifier) line h l = tt
part_bounded (FlightPart designator) line h l = tt
part_bounded (DatedFlightPart designator date) line h l = tt
part_bounded (PeriodPart period) line h l = tt
part_bounded (EquipmentPart equipment) line h l = equipment_bounded equipment line h
part_bounded (LegPart leg) line h l = leg_bounded leg line h
part_bounded (SegmentPart segment) line h l = segment_bounded segment line h l
part_bounded Divider line h l = tt
part_bounded (FreePart free) line h l = ap (list_all is_printable) (sym h) ∙ l.printable

parts_bounded : (parts : List Part) (lines : List (List ℕ)) → AllZip Spells parts lines → AllByRecursion IsLine lines → AllByRecursion IsPartBounded parts
parts_bounded [] [] h l = tt
parts_bounded [] (line ∷ lines) h l = absurd h
parts_bounded (p ∷ parts) [] h l = absurd h
parts_bounded (p ∷ parts) (line ∷ lines) h l = (part_bounded p line h.0 l.0, parts_bounded parts lines h.1 l.1)

-- ---- sub-messages

legs_bounded : (legs : List LegLine) → AllByRecursion IsPartBounded (map LegPart legs) → AllByRecursion IsLegBounded legs
legs_bounded [] h = tt
legs_bounded (leg ∷ legs) h = (h.0, legs_bounded legs h.1)

segments_bounded : (segments : List SegmentLine) → AllByRecursion IsPartBounded (map SegmentPart segments) → AllByRecursion IsSegmentBounded segments
segments_bounded [] h = tt
segments_bounded (segment ∷ segments) h = (h.0, segments_bounded segments h.1)

new_bounded : (new : NewLegs) → IsEquipmentBounded new.equipment → AllByRecursion IsPartBounded (map LegPart new.legs ++ map SegmentPart new.segments) → AreNewLegsBounded new
new_bounded new e h = record {
  equipment = e;
  legs = legs_bounded new.legs (all_left IsPartBounded (map LegPart new.legs) (map SegmentPart new.segments) h);
  segments = segments_bounded new.segments (all_right IsPartBounded (map LegPart new.legs) (map SegmentPart new.segments) h);
}

action_bounded : (a : Action) → AllByRecursion IsPartBounded (body_parts a) → IsActionBounded a
action_bounded (action.New new) h = new_bounded new h.0 h.1
action_bounded action.Cnl h = tt
action_bounded (action.Rpl new) h = new_bounded new h.0 h.1
action_bounded (action.Eqt equipment) h = h.0
action_bounded (action.Tim legs) h = legs_bounded legs h

sub_bounded : (sub : Sub) → AllByRecursion IsPartBounded (sub_parts sub) → IsActionBounded sub.action
sub_bounded sub h = action_bounded sub.action (all_right IsPartBounded (flight_parts sub.designator sub.dates) (body_parts sub.action) h.1)

later_bounded : (subs : List Sub) → AllByRecursion IsPartBounded (later_parts subs) → AreSubsBounded subs
later_bounded [] h = tt
later_bounded (sub ∷ subs) h = (sub_bounded sub (all_left IsPartBounded (sub_parts sub) (later_parts subs) h.1), later_bounded subs (all_right IsPartBounded (sub_parts sub) (later_parts subs) h.1))

subs_bounded : (subs : List Sub) → AllByRecursion IsPartBounded (subs_parts subs) → AreSubsBounded subs
subs_bounded [] h = tt
subs_bounded (sub ∷ subs) h = (sub_bounded sub (all_left IsPartBounded (sub_parts sub) (later_parts subs) h), later_bounded subs (all_right IsPartBounded (sub_parts sub) (later_parts subs) h))

free_lines_bounded : (lines : List (List ℕ)) → AllByRecursion IsPartBounded (map FreePart lines) → AreFreeLinesBounded lines
free_lines_bounded [] h = tt
free_lines_bounded (line ∷ lines) h = (h.0, free_lines_bounded lines h.1)

free_bounded : (lines : List (List ℕ)) → AllByRecursion IsPartBounded (free_parts lines) → AreFreeLinesBounded lines
free_bounded [] h = tt
free_bounded (line ∷ lines) h = free_lines_bounded (line ∷ lines) h.1

-- ---- messages

all_bounded : (m : MessageValue) (text : List ℕ) (h : SpellsMessage m text) → AllByRecursion IsPartBounded h.spelled.parts
all_bounded m text h = parts_bounded h.spelled.parts (texts (lines_left text)) h.spelled.spelled (left_lines 1 (pieces text) h.printable)

-- the values of the sub-messages
pub spelled_subs_bounded : (m : MessageValue) (text : List ℕ) → SpellsMessage m text → AreSubsBounded m.subs
spelled_subs_bounded m text h =
    let p = h.spelled.has_parts in
    let rest = subs_parts m.subs ++ free_parts m.free in
    let whole = subst (AllByRecursion IsPartBounded) p.whole (all_bounded m text h) in
    subs_bounded m.subs (all_left IsPartBounded (subs_parts m.subs) (free_parts m.free) (all_right IsPartBounded p.heading rest whole))

-- the lines of free text
pub spelled_free_bounded : (m : MessageValue) (text : List ℕ) → SpellsMessage m text → AreFreeLinesBounded m.free
spelled_free_bounded m text h =
    let p = h.spelled.has_parts in
    let rest = subs_parts m.subs ++ free_parts m.free in
    let whole = subst (AllByRecursion IsPartBounded) p.whole (all_bounded m text h) in
    free_bounded m.free (all_right IsPartBounded (subs_parts m.subs) (free_parts m.free) (all_right IsPartBounded p.heading rest whole))

-- the numbers of the reference
pub spelled_reference_bounded : (m : MessageValue) (text : List ℕ) → SpellsMessage m text → IsReferenceBounded m.reference
spelled_reference_bounded m text h =
    let p = h.spelled.has_parts in
    let f = p.is_heading in
    let whole = subst (AllByRecursion IsPartBounded) p.whole (all_bounded m text h) in
    let heading = subst (AllByRecursion IsPartBounded) f.whole (all_left IsPartBounded p.heading (subs_parts m.subs ++ free_parts m.free) whole) in
    let middle = all_right IsPartBounded f.originator_parts (KindPart m.kind ∷ (f.mode_parts ++ ReferencePart m.reference ∷ [])) heading in
    (all_right IsPartBounded f.mode_parts (ReferencePart m.reference ∷ []) middle.1).0
