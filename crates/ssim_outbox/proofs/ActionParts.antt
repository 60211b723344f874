-- The parts of an action that a text can have: each is read again from its canonical line, and the
-- lines are short. They are at most 120 lines of at most 171 bytes.
use Rattle.std.proofs.Common.{◌≡◌, ◌≤◌, ◌+◌, ◌*◌, ◌/◌, ◌%◌, ℕ, suc, Bool, true, false, if◌then◌else◌}
use Rattle.std.proofs.Common.{List, [], ◌∷◌, ◌++◌, map, length, length-append, refl, ap, arith}
use Rattle.std.specs.Prelude.{◌==◌, nat_lt}
use Rattle.std.specs.List.{AllByRecursion}
use Rattle.ssim_values.specs.Clock.{clock_text}
use Rattle.ssim_text.specs.Bytes.{after_word, word}
use Rattle.ssim_text.specs.Canonical.{leg_end_text, part_text, passenger_text, short_digits}
use Rattle.ssim_text.specs.Canonical.{unless_empty, variation_text, written}
use Rattle.ssim_text.specs.Grammar.{EquipmentPart, IsBody, IsEquipment, IsLegLine, IsNewLegs}
use Rattle.ssim_text.specs.Grammar.{IsSegmentLine, LegPart, Part, SegmentPart, body_parts, new_parts}
use Rattle.ssim_text.specs.Values.{EquipmentValue}
use Rattle.ssim_text.specs.internal.Made.{IsEndBounded}
use Rattle.ssim_text.specs.declared.action.Action.{Action}
use Rattle.ssim_text.specs.declared.action.Action.TheVariants.{New, Cnl, Rpl, Eqt, Tim}
use Rattle.ssim_text.specs.declared.action.NewLegs.{NewLegs}
use Rattle.ssim_text.specs.declared.leg.LegEnd.{LegEnd}
use Rattle.ssim_text.specs.declared.leg.LegLine.{LegLine}
use Rattle.ssim_text.specs.declared.segment.SegmentLine.{SegmentLine}
use Rattle.ssim_text.proofs.EquipmentAgain.{equipment_bounded, equipment_reads}
use Rattle.ssim_text.proofs.LegsAgain.{end_bounded, leg_reads, leg_sound, segment_reads, three_long}
use Rattle.ssim_text.proofs.LinesKept.{ReadsAgain}
use Rattle.ssim_text.proofs.MadeLines.{segment_line_within}
use Rattle.ssim_text.proofs.ReadsBack.{all_both}
use Rattle.ssim_outbox.specs.Sayable.{AreNewLegs}
use Rattle.ssim_outbox.proofs.Said.{CanAct}

-- a part is read from its canonical line, which is short
record IsGood (part : Part) : Type 0 where
  reads : ReadsAgain part
  short : length (part_text part) ≤ 170

-- ---- equipment lines

-- a text after its mark, if there is any
marked_short : (mark : ℕ) (text : List ℕ) → length (unless_empty mark text) ≤ 1 + length text
marked_short mark [] = omega arith
marked_short mark (b ∷ text) = omega arith

equipment_good : (e : EquipmentValue) → IsEquipment e → IsGood (EquipmentPart e)
equipment_good e h =
    let b = equipment_bounded e h.line h.spells in
    let last = unless_empty 46 e.configuration in
    record {
      reads = equipment_reads e b;
      short = omega (
        arith,
        length-append e.aircraft (unless_empty 32 (e.designators ++ last)),
        marked_short 32 (e.designators ++ last),
        length-append e.designators last,
        marked_short 46 e.configuration,
        b.aircraft_three,
        b.designators_few,
        b.configuration_few,
      );
    }

-- ---- leg lines

-- the values of both ends of a leg line are in their bounds
pub record IsBounded (line : LegLine) : Type 0 where
  pub departure : IsEndBounded line.departure
  pub arrival : IsEndBounded line.arrival

pub leg_bounded : (line : LegLine) → IsLegLine line → IsBounded line
leg_bounded line h =
    let s = leg_sound h.line line h.spells in
    record {
      departure = end_bounded (word h.line) line.departure s.departure;
      arrival = end_bounded (after_word h.line) line.arrival s.arrival;
    }

variation_short : (b : Bool) (x y : ℕ) → length (if b then [] else x ∷ y ∷ []) ≤ 2
variation_short true x y = omega arith
variation_short false x y = omega arith

passenger_short : (b : Bool) (p : ℕ) → length (if b then [] else 47 ∷ clock_text p) ≤ 5
passenger_short true p = omega arith
passenger_short false p = omega arith

-- four texts one after another
four_short : (a b c d : List ℕ) → length a ≡ 3 → length b ≡ 4 → length c ≤ 2 → length d ≤ 5
    → length (a ++ b ++ c ++ d) ≤ 14
four_short a b c d three four two five =
    omega (
      arith,
      length-append (a ++ b ++ c) d,
      length-append (a ++ b) c,
      length-append a b,
      three,
      four,
      two,
      five,
    )

end_short : (e : LegEnd) → IsEndBounded e → length (leg_end_text e) ≤ 14
end_short e h =
    four_short e.station (clock_text e.time) (variation_text e.variation)
    (passenger_text e.time e.passenger) (three_long e.station h.station) refl
    (variation_short (e.variation == 0) 47 (48 + e.variation % 10))
    (passenger_short (e.passenger == e.time) e.passenger)

ends_short : (a b : List ℕ) → length a ≤ 14 → length b ≤ 14 → length (a ++ 32 ∷ b) ≤ 170
ends_short a b h k = omega (arith, length-append a (32 ∷ b), h, k)

leg_good : (line : LegLine) → IsLegLine line → IsGood (LegPart line)
leg_good line h =
    let b = leg_bounded line h in
    record {
      reads = leg_reads line b.departure b.arrival;
      short = ends_short (leg_end_text line.departure) (leg_end_text line.arrival)
          (end_short line.departure b.departure) (end_short line.arrival b.arrival);
    }

-- ---- segment lines

digits_short : (a b : Bool) (x y z : ℕ)
    → length (if a then x ∷ [] else (if b then y ∷ x ∷ [] else z ∷ y ∷ x ∷ [])) ≤ 3
digits_short true b x y z = omega arith
digits_short false true x y z = omega arith
digits_short false false x y z = omega arith

-- the texts of a segment line
line_short : (a b c d : List ℕ) → length a ≡ 3 → length b ≡ 3 → length c ≤ 3 → length d ≤ 155
    → length (a ++ b ++ 32 ∷ c ++ 47 ∷ d) ≤ 170
line_short a b c d board off number text =
    omega (
      arith,
      length-append (a ++ b ++ 32 ∷ c) (47 ∷ d),
      length-append (a ++ b) (32 ∷ c),
      length-append a b,
      board,
      off,
      number,
      text,
    )

segment_good : (s : SegmentLine) → IsSegmentLine s → IsGood (SegmentPart s)
segment_good s h =
    let w = segment_line_within s h in
    let n = s.identifier in
    record {
      reads = segment_reads s w;
      short = line_short s.board s.off (short_digits n) s.text (three_long s.board w.board)
          (three_long s.off w.off)
          (digits_short (nat_lt n 10) (nat_lt n 100) (48 + n % 10) (48 + n / 10 % 10)
          (48 + n / 100 % 10)) w.few;
    }

-- ---- an action

legs_good : (lines : List LegLine) → AllByRecursion IsLegLine lines
    → AllByRecursion IsGood (map LegPart lines)
legs_good [] h = tt
legs_good (line ∷ lines) h = (leg_good line h.0, legs_good lines h.1)

segments_good : (segments : List SegmentLine) → AllByRecursion IsSegmentLine segments
    → AllByRecursion IsGood (map SegmentPart segments)
segments_good [] h = tt
segments_good (s ∷ segments) h = (segment_good s h.0, segments_good segments h.1)

new_good : (new : NewLegs) → AreNewLegs new → AllByRecursion IsGood (new_parts new)
new_good new h = (
  equipment_good new.equipment h.equipment,
  all_both IsGood (map LegPart new.legs) (map SegmentPart new.segments)
      (legs_good new.legs h.legs) (segments_good new.segments h.segments),
)

body_good : (action : Action) → CanAct action → AllByRecursion IsGood (body_parts action)
body_good (New new) can = new_good new can
body_good Cnl can = tt
body_good (Rpl new) can = new_good new can
body_good (Eqt e) can = (equipment_good e can, tt)
body_good (Tim lines) can = legs_good lines can

all_read : (parts : List Part) → AllByRecursion IsGood parts → AllByRecursion ReadsAgain parts
all_read [] h = tt
all_read (part ∷ parts) h = (h.0.reads, all_read parts h.1)

pub body_again : (action : Action) → CanAct action → AllByRecursion ReadsAgain (body_parts action)
body_again action can = all_read (body_parts action) (body_good action can)

length_map : {X : Type 0} (f : X → Part) (xs : List X) → length (map f xs) ≡ length xs
length_map f [] = refl
length_map f (x ∷ xs) = ap (λ (n : ℕ). suc n) (length_map f xs)

new_count : (new : NewLegs) → IsNewLegs new → length (new_parts new) ≤ 120
new_count new h =
    let legs = h.legs in
    let segments = h.segments in
    omega (
      arith,
      length-append (map LegPart new.legs) (map SegmentPart new.segments),
      length_map LegPart new.legs,
      length_map SegmentPart new.segments,
      legs,
      segments,
    )

body_count : (action : Action) → IsBody action → length (body_parts action) ≤ 120
body_count (New new) body = new_count new body
body_count Cnl body = omega arith
body_count (Rpl new) body = new_count new body
body_count (Eqt e) body = omega arith
body_count (Tim lines) body =
    let few = body.1 in
    omega (arith, length_map LegPart lines, few)

written_short : (parts : List Part) → AllByRecursion IsGood parts
    → length (written parts) ≤ 171 * length parts
written_short [] h = omega arith
written_short (part ∷ parts) h =
    let short = h.0.short in
    let rest = written_short parts h.1 in
    omega (
      arith,
      length-append (part_text part ++ 10 ∷ []) (written parts),
      length-append (part_text part) (10 ∷ []),
      short,
      rest,
    )

pub body_short : (action : Action) → IsBody action → CanAct action
    → length (written (body_parts action)) ≤ 20520
body_short action body can =
    let short = written_short (body_parts action) (body_good action can) in
    let few = body_count action body in
    omega (arith, short, few)
