-- The values that lines can spell are those within their bounds.
use Rattle.std.proofs.Common.{◌≡◌, ◌≤◌, ℕ, true, false, List, [], ◌∷◌, refl, Option, Some, None, arith}
use Rattle.std.specs.Prelude.{◌==◌, IfNone}
use Rattle.std.specs.List.{AllByRecursion, list_all}
use Rattle.std.proofs.lemmas.Bool.{and_parts, and_from}
use Rattle.std.proofs.lemmas.Bool.Decides.{nat_tests}
use Rattle.ssim_text.specs.declared.leg.LegLine.{LegLine}
use Rattle.ssim_text.specs.declared.segment.SegmentLine.{SegmentLine}
use Rattle.ssim_text.specs.Bytes.{after_word, word}
use Rattle.ssim_text.specs.Grammar.{IsEquipment, IsLegLine, IsSegmentLine, EquipmentPart, LegPart, SegmentPart, flies}
use Rattle.ssim_text.specs.Values.{EquipmentValue}
use Rattle.ssim_text.specs.clauses.Bounds.{IsEquipmentBounded}
use Rattle.ssim_text.specs.internal.Made.{IsEndBounded, IsSegmentWithin}
use Rattle.ssim_text.proofs.EquipmentAgain.{equipment_reads}
use Rattle.ssim_text.proofs.LegsAgain.{end_bounded, leg_reads, leg_sound, segment_reads, segment_within}
use Rattle.ssim_text.proofs.LinesKept.{spelled_by}

pub equipment_line : (e : EquipmentValue) → IsEquipmentBounded e → IsEquipment e
equipment_line e b = spelled_by (EquipmentPart e) (equipment_reads e b)

pub leg_line : (leg : LegLine) → IsEndBounded leg.departure × IsEndBounded leg.arrival → IsLegLine leg
leg_line leg b = spelled_by (LegPart leg) (leg_reads leg b.0 b.1)

pub leg_variations : (leg : LegLine) → IsLegLine leg → (leg.departure.variation ≤ 7) × (leg.arrival.variation ≤ 7)
leg_variations leg is =
    let s = leg_sound is.line leg is.spells in
    ((end_bounded (word is.line) leg.departure s.departure).variation, (end_bounded (after_word is.line) leg.arrival s.arrival).variation)

pub segment_line : (s : SegmentLine) → IsSegmentWithin s → IsSegmentLine s
segment_line s w = spelled_by (SegmentPart s) (segment_reads s w)

pub segment_line_within : (s : SegmentLine) → IsSegmentLine s → IsSegmentWithin s
segment_line_within s is = segment_within s is.line is.spells is.is_line

pub some_lines : (n : ℕ) → (n == 0) ≡ false → 1 ≤ n
some_lines n h = grind (arith, nat_tests)

pub each_flown : (legs : List LegLine) (segments : List SegmentLine) → list_all (flies legs) segments ≡ true → AllByRecursion (λ s. flies legs s ≡ true) segments
each_flown legs [] h = tt
each_flown legs (s ∷ segments) h =
    let p = and_parts (flies legs s) (list_all (flies legs) segments) h in
    (p.0, each_flown legs segments p.1)

pub all_flown : (legs : List LegLine) (segments : List SegmentLine) → AllByRecursion (λ s. flies legs s ≡ true) segments → list_all (flies legs) segments ≡ true
all_flown legs [] h = refl
all_flown legs (s ∷ segments) h = and_from (flies legs s) (list_all (flies legs) segments) h.0 (all_flown legs segments h.1)

-- what is so where there is no value
pub none_then : {X : Type 0} (r : Option X) (P Q : Type 0) → (P → Q) → IfNone r P → IfNone r Q
none_then None P Q f h = f h
none_then (Some x) P Q f h = tt
