-- The canonical text of a message spells it: each of its parts reads again, and its lines are its
-- parts' lines.
use Rattle.std.proofs.Common.{◌≡◌, ℕ, Bool, true, false, List, [], ◌∷◌, ◌++◌, map, refl, sym, ap, subst, inl, inr, ◌∙◌, append_assoc, arith}
use Rattle.std.specs.Prelude.{if◌then◌else◌}
use Rattle.std.specs.List.{AllByRecursion, AllZip}
use Rattle.std.specs.Str.{bytes_eq}
use Rattle.std.proofs.lemmas.Slice.Eq.{bytes_eq-Decides}
use Rattle.ssim_text.specs.declared.kind.Kind.{Kind}
use Rattle.ssim_text.specs.declared.kind.Kind.TheVariants.{Ssm, Asm}
use Rattle.ssim_values.specs.declared.time_mode.TimeMode.{TimeMode}
use Rattle.ssim_values.specs.declared.time_mode.TimeMode.TheVariants.{Utc, Local}
use Rattle.ssim_text.specs.declared.kind.ActionIdentifier.{ActionIdentifier}
use Rattle.ssim_text.specs.declared.kind.ActionIdentifier.TheVariants as identifier
use Rattle.ssim_text.specs.Values.{no_originator}
use Rattle.ssim_text.specs.Message.{MessageValue}
use Rattle.ssim_text.specs.Grammar.{Part, OriginatorPart, KindPart, ModePart, ReferencePart, ActionPart, FlightPart, DatedFlightPart, PeriodPart, EquipmentPart, LegPart, SegmentPart, Divider, FreePart, Spells, subs_parts, free_parts, IsOriginatorPart, HasParts, SpellsText}
use Rattle.ssim_text.specs.Left.{lines_left, pieces, texts}
use Rattle.ssim_text.specs.Canonical.{part_text, originator_parts, canonical_parts, canonical}
use Rattle.ssim_text.specs.Spelling.{CanonicalReadsBack, EqualWhereWrittenEqual, SpellsMessage}
use Rattle.ssim_text.proofs.LinesKept.{IsLine, ReadsAgain, left_lines, written_left, written_printable}
use Rattle.ssim_text.proofs.HeadingAgain.{originator_again, reference_again}
use Rattle.ssim_text.proofs.DatesAgain.{flight_again, dated_flight_again, period_again}
use Rattle.ssim_text.proofs.EquipmentAgain.{equipment_again}
use Rattle.ssim_text.proofs.LegsAgain.{leg_again, segment_again}
use Rattle.ssim_text.proofs.Place.{one_message}
use Rattle.ssim_text.proofs.Runs.{false_true}

-- ---- the words

pub kind_again : (kind : Kind) → ReadsAgain (KindPart kind)
kind_again Ssm = record { spelled = refl; line = record { some = omega arith; printable = refl; ended = refl } }
kind_again Asm = record { spelled = refl; line = record { some = omega arith; printable = refl; ended = refl } }

pub mode_again : (mode : TimeMode) → ReadsAgain (ModePart mode)
mode_again Utc = record { spelled = refl; line = record { some = omega arith; printable = refl; ended = refl } }
mode_again Local = record { spelled = refl; line = record { some = omega arith; printable = refl; ended = refl } }

pub action_again : (a : ActionIdentifier) → ReadsAgain (ActionPart a)
action_again identifier.New = record { spelled = refl; line = record { some = omega arith; printable = refl; ended = refl } }
action_again identifier.Cnl = record { spelled = refl; line = record { some = omega arith; printable = refl; ended = refl } }
action_again identifier.Rpl = record { spelled = refl; line = record { some = omega arith; printable = refl; ended = refl } }
action_again identifier.Eqt = record { spelled = refl; line = record { some = omega arith; printable = refl; ended = refl } }
action_again identifier.Tim = record { spelled = refl; line = record { some = omega arith; printable = refl; ended = refl } }

pub divider_again : ReadsAgain Divider
divider_again = record { spelled = refl; line = record { some = omega arith; printable = refl; ended = refl } }

-- ---- each part

part_again : (p : Part) (line : List ℕ) → Spells p line → IsLine line → ReadsAgain p
part_again (OriginatorPart originator) line h l = originator_again originator line h
part_again (KindPart kind) line h l = kind_again kind
part_again (ModePart mode) line h l = mode_again mode
part_again (ReferencePart reference) line h l = reference_again reference line h l
part_again (ActionPart a) line h l = action_again a
part_again (FlightPart designator) line h l = flight_again designator line h
part_again (DatedFlightPart designator date) line h l = dated_flight_again designator date line h l
part_again (PeriodPart period) line h l = period_again period line h l
part_again (EquipmentPart equipment) line h l = equipment_again equipment line h l
part_again (LegPart leg) line h l = leg_again leg line h
part_again (SegmentPart segment) line h l = segment_again segment line h l
part_again Divider line h l = divider_again
part_again (FreePart free) line h l = record { spelled = refl; line = subst IsLine h l }

parts_again : (parts : List Part) (lines : List (List ℕ)) → AllZip Spells parts lines → AllByRecursion IsLine lines → AllByRecursion ReadsAgain parts
parts_again [] [] h l = tt
parts_again [] (line ∷ lines) h l = absurd h
parts_again (p ∷ parts) [] h l = absurd h
parts_again (p ∷ parts) (line ∷ lines) h l = (part_again p line h.0 l.0, parts_again parts lines h.1 l.1)

pub all_left : (P : Part → Type 0) (xs ys : List Part) → AllByRecursion P (xs ++ ys) → AllByRecursion P xs
all_left P [] ys h = tt
all_left P (x ∷ xs) ys h = (h.0, all_left P xs ys h.1)

pub all_right : (P : Part → Type 0) (xs ys : List Part) → AllByRecursion P (xs ++ ys) → AllByRecursion P ys
all_right P [] ys h = h
all_right P (x ∷ xs) ys h = all_right P xs ys h.1

-- what holds of the elements of two lists holds of both together
pub all_both : {X : Type 0} (P : X → Type 0) (xs ys : List X) → AllByRecursion P xs
    → AllByRecursion P ys → AllByRecursion P (xs ++ ys)
all_both P [] ys h k = k
all_both P (x ∷ xs) ys h k = (h.0, all_both P xs ys h.1 k)

-- each part of a text reads again from its written form
pub spelled_again : (m : MessageValue) (text : List ℕ) (h : SpellsMessage m text)
    → AllByRecursion ReadsAgain h.spelled.parts
spelled_again m text h =
    parts_again h.spelled.parts (texts (lines_left text)) h.spelled.spelled
    (left_lines 1 (pieces text) h.printable)

-- ---- the lines before the sub-messages

-- the parts that the canonical text writes for an originator
abbrev choice : Bool → List ℕ → List Part
choice b originator = if b then [] else OriginatorPart originator ∷ []

is_choice : (b : Bool) (originator : List ℕ) → bytes_eq originator no_originator ≡ b → IsOriginatorPart originator (choice b originator)
is_choice true originator e = inl ((bytes_eq-Decides originator no_originator).0 e, refl)
is_choice false originator e = inr refl

is_written : (originator : List ℕ) → IsOriginatorPart originator (originator_parts originator)
is_written originator = is_choice (bytes_eq originator no_originator) originator refl

choice_again : (b : Bool) (originator : List ℕ) (parts : List Part) → bytes_eq originator no_originator ≡ b → IsOriginatorPart originator parts → AllByRecursion ReadsAgain parts → AllByRecursion ReadsAgain (choice b originator)
choice_again true originator parts e h k = tt
choice_again false originator parts e (inl w) k = absurd (false_true (sym e ∙ (bytes_eq-Decides originator no_originator).1 w.0))
choice_again false originator parts e (inr w) k = subst (AllByRecursion ReadsAgain) w k

-- ---- a message

canonical_again : (m : MessageValue) (parts : List Part) → HasParts m parts → AllByRecursion ReadsAgain parts → AllByRecursion ReadsAgain (canonical_parts m)
canonical_again m parts h k =
    let f = h.is_heading in
    let rest = subs_parts m.subs ++ free_parts m.free in
    let whole = subst (AllByRecursion ReadsAgain) h.whole k in
    let heading = subst (AllByRecursion ReadsAgain) f.whole (all_left ReadsAgain h.heading rest whole) in
    let middle = all_right ReadsAgain f.originator_parts (KindPart m.kind ∷ (f.mode_parts ++ ReferencePart m.reference ∷ [])) heading in
    let own = all_left ReadsAgain f.originator_parts (KindPart m.kind ∷ (f.mode_parts ++ ReferencePart m.reference ∷ [])) heading in
    let reference = all_right ReadsAgain f.mode_parts (ReferencePart m.reference ∷ []) middle.1 in
    all_both ReadsAgain (originator_parts m.originator)
    (KindPart m.kind ∷ ModePart m.mode ∷ ReferencePart m.reference ∷ rest)
    (choice_again (bytes_eq m.originator no_originator) m.originator f.originator_parts refl f.is_originator own)
    (kind_again m.kind, (mode_again m.mode, (reference.0, all_right ReadsAgain h.heading rest whole)))

pub canonical_has : (m : MessageValue) → HasParts m (canonical_parts m)
canonical_has m =
    let own = originator_parts m.originator in
    let middle = KindPart m.kind ∷ ModePart m.mode ∷ ReferencePart m.reference ∷ [] in
    record {
      heading = own ++ middle;
      is_heading = record { originator_parts = own; is_originator = is_written m.originator; mode_parts = ModePart m.mode ∷ []; is_mode = inl refl; whole = refl };
      whole = sym (append_assoc own middle (subs_parts m.subs ++ free_parts m.free));
    }

own_lines : (parts : List Part) → AllByRecursion ReadsAgain parts → AllByRecursion (λ p. IsLine (part_text p)) parts
own_lines [] h = tt
own_lines (p ∷ parts) h = (h.0.line, own_lines parts h.1)

own_spelled : (parts : List Part) → AllByRecursion ReadsAgain parts → AllZip Spells parts (map part_text parts)
own_spelled [] h = tt
own_spelled (p ∷ parts) h = (h.0.spelled, own_spelled parts h.1)

pub canonical_reads_back : CanonicalReadsBack
canonical_reads_back m text h =
    let parts = canonical_parts m in
    let again = canonical_again m h.spelled.parts h.spelled.has_parts (spelled_again m text h) in
    let own = own_lines parts again in
    record {
      short = h.canonical_short;
      printable = written_printable 1 parts own;
      spelled = record {
        shape = h.spelled.shape;
        parts = parts;
        has_parts = canonical_has m;
        spelled = subst (λ (x : List (List ℕ)). AllZip Spells parts x) (sym (written_left 1 parts own)) (own_spelled parts again);
      };
      canonical_short = h.canonical_short;
    }

pub equal_where_written_equal : EqualWhereWrittenEqual
equal_where_written_equal a b s t h k = (
  λ e. ap canonical e,
  λ e. one_message a b (texts (lines_left (canonical b)))
      (subst (λ (x : List ℕ). SpellsText a (texts (lines_left x))) e (canonical_reads_back a s h).spelled) (canonical_reads_back b t k).spelled,
)
