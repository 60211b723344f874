-- A segment data record: the bytes spell one segment, and what is written spells it.
use Rattle.std.proofs.Common.{◌≡◌, ℕ, Bool, ◌&&◌, ◌+◌, ◌-◌, ◌≤◌, List, [], ◌∷◌, ◌++◌, length, take, drop, take_all, Some, refl, sym, ap, subst, ◌∙◌, append_assoc, arith, lit≤}
use Rattle.std.specs.Prelude.{slice_range, codes, IsTrue, replicate, ◌==◌}
use Rattle.std.specs.List.{list_all, AllZip}
use Rattle.std.proofs.lemmas.List.{take-append-drop, append-nil, length-drop, length-append}
use Rattle.ssim_columns.specs.declared.field.FieldKind.TheVariants.{Carried, Digits}
use Rattle.ssim_columns.specs.Numbers.{digits_of, digits}
use Rattle.ssim_columns.specs.Columns.{columns, field, fault_in, is_carried, EachIsValid}
use Rattle.ssim_columns.specs.clauses.Heads.{HasDigits}
use Rattle.ssim_columns.specs.Leg.{Name, name_table}
use Rattle.ssim_columns.specs.declared.field.Field.{Field}
use Rattle.ssim_columns.specs.Segment.{SegmentFields, IsSegment, IsTail, SpellsSegment}
use Rattle.ssim_columns.specs.Segment.{segment_table, segment_texts, tail_of, written_segment}
use Rattle.ssim_columns.specs.clauses.Segment.{spread_tail, tail_columns}
use Rattle.std.specs.Bool.{Decides}
use Rattle.std.specs.Str.{bytes_eq}
use Rattle.std.proofs.lemmas.Bool.Decides.{Decides-and, Decides-eqb}
use Rattle.std.proofs.lemmas.Slice.Eq.{bytes_eq-Decides}
use Rattle.ssim_columns.proofs.lemmas.Names.{names_decide, names_eq, one_name, NameLies, name_digits, name_lies, spells_name, name_stands, length_airline}
use Rattle.ssim_columns.proofs.lemmas.Numbers.{digits_of-digits, digits_of-written}
use Rattle.ssim_columns.proofs.lemmas.OwnColumns.{moved}
use Rattle.ssim_columns.proofs.lemmas.Overlay.{slice_cut}
use Rattle.ssim_columns.proofs.lemmas.Places.{all_placed, length_concat, placed_whole}
use Rattle.ssim_columns.proofs.lemmas.Rows.{both_stand, is_true, all_carried, none_other, both_true, stands_as}
use Rattle.ssim_columns.proofs.lemmas.Slices.{length_slice}

segment_of : Name → ℕ → List ℕ → ℕ → ℕ → SegmentFields
segment_of name service tail overflow serial = record { name = name; service = service; tail = tail; overflow = overflow; serial = serial }

made : (r : SegmentFields) → segment_of r.name r.service r.tail r.overflow r.serial ≡ r
unfolding segment_of
made r = refl

pub one_segment : (b : List ℕ) (r s : SegmentFields) → SpellsSegment r b → SpellsSegment s b → r ≡ s
one_segment b r s p q =
    let name : r.name ≡ s.name = one_name b r.name s.name p.name q.name in
    sym (made r) ∙ (cc) ∙ made s

-- ---- segments are compared part by part

abbrev pub segments_eq : SegmentFields → SegmentFields → Bool
segments_eq r s = names_eq r.name s.name && (r.service == s.service && (bytes_eq r.tail s.tail && (r.overflow == s.overflow && r.serial == s.serial)))

pub segments_decide : (r s : SegmentFields) → Decides (segments_eq r s) (r ≡ s)
segments_decide r s =
    let rest = Decides-and _ _ (Decides-eqb r.overflow s.overflow) (Decides-eqb r.serial s.serial) in
    let own = Decides-and _ _ (Decides-eqb r.service s.service) (Decides-and _ _ (bytes_eq-Decides r.tail s.tail) rest) in
    let parts = Decides-and _ _ (names_decide r.name s.name) own in
    (λ h. let p = parts.0 h in sym (made r) ∙ (rw (p.0, p.1.0, p.1.1.0, p.1.1.1.0, p.1.1.1.1) refl) ∙ made s, λ e. parts.1 (rw e (refl, (refl, (refl, (refl, refl))))))

-- ---- the columns of a tail

both_carried : (xs ys : List ℕ) → IsTrue (list_all is_carried (xs ++ ys)) → IsTrue (list_all is_carried xs) × IsTrue (list_all is_carried ys)
both_carried [] ys h = (refl, h)
both_carried (x ∷ xs) ys h =
    let here = both_true (is_carried x) (list_all is_carried (xs ++ ys)) h in
    let later = both_carried xs ys here.1 in
    (rw (is_true (is_carried x) here.0) later.0, later.1)

join_carried : (xs ys : List ℕ) → IsTrue (list_all is_carried xs) → IsTrue (list_all is_carried ys) → IsTrue (list_all is_carried (xs ++ ys))
join_carried [] ys h k = k
join_carried (x ∷ xs) ys h k =
    let here = both_true (is_carried x) (list_all is_carried xs) h in
    rw (is_true (is_carried x) here.0) (join_carried xs ys here.1 k)

whole_tail : (d : List ℕ) → length d ≡ 179 → slice_range d 0 13 ++ slice_range d 13 179 ≡ d
whole_tail d len =
    let rest : take 166 (drop 13 d) ≡ drop 13 d = take_all 166 (drop 13 d) (omega (arith, length-drop 13 d)) in
    ap (λ (t : List ℕ). take 13 d ++ t) rest ∙ take-append-drop 13 d

tail_parts : (d : List ℕ) → IsTail d → IsTrue (list_all is_carried (slice_range d 0 13)) × IsTrue (list_all is_carried (slice_range d 13 179))
tail_parts d h =
    let all : IsTrue (list_all is_carried (slice_range d 0 13 ++ slice_range d 13 179)) = subst (λ (t : List ℕ). IsTrue (list_all is_carried t)) (sym (whole_tail d h.len)) h.carried in
    both_carried (slice_range d 0 13) (slice_range d 13 179) all

pub is_tail : (b : List ℕ) → length b ≡ 200 → EachIsValid b segment_table → IsTail (tail_of b)
is_tail b len h =
    let one = length_slice b 14 27 (lit≤ tt) (omega arith) in
    let two = length_slice b 28 194 (lit≤ tt) (omega arith) in
    let front = all_carried 0 (columns 15 27 b) h.1.1.1.1.1.1.0 in
    let back = all_carried 0 (columns 29 194 b) h.1.1.1.1.1.1.1.1.0 in
    let all : length (tail_of b) ≡ 179 = simp (length-append, one, two) in
    record { len = all; carried = join_carried (columns 15 27 b) (columns 29 194 b ++ []) front (join_carried (columns 29 194 b) [] back refl) }

-- a tail in parts
pub tail_cut : (b : List ℕ) → columns 15 27 b ++ (slice_range b 28 111 ++ (slice_range b 111 194 ++ [])) ≡ tail_of b
tail_cut b =
    ap (λ (t : List ℕ). columns 15 27 b ++ t)
    (sym (append_assoc (slice_range b 28 111) (slice_range b 111 194) []) ∙ ap (λ (t : List ℕ). t ++ []) (sym (slice_cut b 28 111 194 (lit≤ tt) (lit≤ tt))))

pub own_cut : (d more : List ℕ) → slice_range d 13 96 ++ (slice_range d 96 179 ++ more) ≡ slice_range d 13 179 ++ more
own_cut d more =
    sym (append_assoc (slice_range d 13 96) (slice_range d 96 179) more) ∙ ap (λ (t : List ℕ). t ++ more) (sym (slice_cut d 13 96 179 (lit≤ tt) (lit≤ tt)))

-- columns of a tail, in its bytes
spread_parts : (d : List ℕ) → length d ≡ 179 → (slice_range d 0 13 ≡ slice_range (spread_tail d) 14 27) × (slice_range d 13 179 ≡ slice_range (spread_tail d) 28 194)
spread_parts d len =
    let one = length_slice d 0 13 (lit≤ tt) (omega arith) in
    let two = length_slice d 13 179 (lit≤ tt) (omega arith) in
    let all = all_placed (14 ∷ 13 ∷ 1 ∷ 166 ∷ 6 ∷ []) (replicate 14 32 ∷ slice_range d 0 13 ∷ (32 ∷ []) ∷ slice_range d 13 179 ∷ replicate 6 32 ∷ []) (refl, (one, (refl, (two, (refl, tt))))) in
    (sym all.1.0, sym all.1.1.1.0)

pub tail_part : (d : List ℕ) (first last : ℕ) → length d ≡ 179 → 29 ≤ first → first ≤ last → last ≤ 194 → slice_range d (first - 16) (last - 15) ≡ tail_columns first last d
tail_part d first last len low le high =
    let i : 13 + (first - 1 - 28) ≡ first - 16 = omega arith in
    let j : 13 + (last - 28) ≡ last - 15 = omega arith in
    let m = moved d (spread_tail d) 28 194 13 first last (spread_parts d len).1 (omega arith) le high in
    rw (i, j) at m

-- ---- what is written

texts_lie : (r : SegmentFields) → IsSegment r → AllZip (λ w t. length t ≡ w) (1 ∷ 1 ∷ 3 ∷ 4 ∷ 2 ∷ 2 ∷ 1 ∷ 13 ∷ 1 ∷ 166 ∷ 6 ∷ []) (segment_texts r)
texts_lie r fits =
    let len = fits.tail.len in
    let one = length_slice r.tail 0 13 (lit≤ tt) (omega arith) in
    let two = length_slice r.tail 13 179 (lit≤ tt) (omega arith) in
    (refl, (refl, (length_airline r.name.airline fits.name.airline, (refl, (refl, (refl, (refl, (one, (refl, (two, (refl, tt)))))))))))

record Lies (r : SegmentFields) (b : List ℕ) : Type 0 where
  kind : columns 1 1 b ≡ codes "4"
  name : NameLies r.name b
  service : columns 14 14 b ≡ r.service ∷ []
  front : columns 15 27 b ≡ slice_range r.tail 0 13
  overflow : columns 28 28 b ≡ r.overflow ∷ []
  back : columns 29 194 b ≡ slice_range r.tail 13 179
  serial : columns 195 200 b ≡ digits 6 r.serial

lies : (r : SegmentFields) → IsSegment r → Lies r (written_segment r)
lies r fits =
    let p = all_placed (1 ∷ 1 ∷ 3 ∷ 4 ∷ 2 ∷ 2 ∷ 1 ∷ 13 ∷ 1 ∷ 166 ∷ 6 ∷ []) (segment_texts r) (texts_lie r fits) in
    let name : NameLies r.name (written_segment r) = record { suffix = p.1.0; airline = p.1.1.0; number = p.1.1.1.0; variation = p.1.1.1.1.0; sequence = p.1.1.1.1.1.0 } in
    record { kind = p.0; name = name; service = p.1.1.1.1.1.1.0; front = p.1.1.1.1.1.1.1.0; overflow = p.1.1.1.1.1.1.1.1.0; back = p.1.1.1.1.1.1.1.1.1.0; serial = p.1.1.1.1.1.1.1.1.1.1.0 }

abbrev beside_name : List Field
beside_name = field 14 14 Carried ∷ field 15 27 Carried ∷ field 28 28 Carried ∷ field 29 194 Carried ∷ field 195 200 Digits ∷ []

spells : (r : SegmentFields) (b : List ℕ) → IsSegment r → Lies r b → SpellsSegment r b
spells r b fits at =
    let name = spells_name r.name b fits.name at.name in
    let serial : digits_of (columns 195 200 b) ≡ Some r.serial = ap digits_of at.serial ∙ digits_of-digits 5 r.serial fits.serial in
    let parts = tail_parts r.tail fits.tail in
    let n = name_stands r.name b fits.name name in
    record {
      kind = at.kind;
      valid = both_stand b name_table beside_name n (
        ap (fault_in Carried) at.service ∙ rw (is_true (is_carried r.service) fits.service) refl,
        (
          ap (fault_in Carried) at.front ∙ none_other 0 (slice_range r.tail 0 13) parts.0,
          (
            ap (fault_in Carried) at.overflow ∙ rw (is_true (is_carried r.overflow) fits.overflow) refl,
            (
              ap (fault_in Carried) at.back ∙ none_other 0 (slice_range r.tail 13 179) parts.1,
              (stands_as (digits_of (columns 195 200 b)) r.serial serial, tt),
            ),
          ),
        ),
      );
      name = name;
      service = at.service;
      tail = rw (at.front, at.back, append-nil (slice_range r.tail 13 179)) (whole_tail r.tail fits.tail.len);
      overflow = at.overflow;
      serial = serial;
    }

pub spells_segment : (r : SegmentFields) → IsSegment r → SpellsSegment r (written_segment r)
spells_segment r fits = spells r (written_segment r) fits (lies r fits)

pub length_segment : (r : SegmentFields) → IsSegment r → length (written_segment r) ≡ 200
length_segment r fits = length_concat (1 ∷ 1 ∷ 3 ∷ 4 ∷ 2 ∷ 2 ∷ 1 ∷ 13 ∷ 1 ∷ 166 ∷ 6 ∷ []) (segment_texts r) (texts_lie r fits) refl

-- ---- bytes that spell a segment, and the segment as it is written

-- the positions of the parts of the tail in the bytes
tail_stands : (b : List ℕ) (d : List ℕ) → length b ≡ 200 → tail_of b ≡ d → (columns 15 27 b ≡ slice_range d 0 13) × (columns 29 194 b ≡ slice_range d 13 179)
tail_stands b d len tail =
    let one = length_slice b 14 27 (lit≤ tt) (omega arith) in
    let two = length_slice b 28 194 (lit≤ tt) (omega arith) in
    let p = all_placed (13 ∷ 166 ∷ []) (columns 15 27 b ∷ columns 29 194 b ∷ []) (one, (two, tt)) in
    (sym p.0 ∙ ap (λ (t : List ℕ). slice_range t 0 13) tail, sym p.1.0 ∙ ap (λ (t : List ℕ). slice_range t 13 179) tail)

pub segment_is_written : (r : SegmentFields) (b : List ℕ) → length b ≡ 200 → SpellsSegment r b → HasDigits b → b ≡ written_segment r
segment_is_written r b len p has =
    let tail = tail_stands b r.tail len p.tail in
    let name = name_lies r.name b len p.name has in
    let long : length (columns 195 200 b) ≡ 6 = length_slice b 194 200 (lit≤ tt) (omega (arith, len)) in
    let serial : columns 195 200 b ≡ digits 6 r.serial = digits_of-written (columns 195 200 b) r.serial p.serial ∙ ap (λ (w : ℕ). digits w r.serial) long in
    placed_whole 0 (1 ∷ 1 ∷ 3 ∷ 4 ∷ 2 ∷ 2 ∷ 1 ∷ 13 ∷ 1 ∷ 166 ∷ 6 ∷ []) (segment_texts r) b refl len
    (p.kind, (name.suffix, (name.airline, (name.number, (name.variation, (name.sequence, (p.service, (tail.0, (p.overflow, (tail.1, (serial, tt)))))))))))

-- what is written has numbers without blanks
pub written_segment_has : (r : SegmentFields) (b : List ℕ) → IsSegment r → b ≡ written_segment r → HasDigits b
written_segment_has r b fits is =
    let at : Lies r b = subst (Lies r) (sym is) (lies r fits) in
    name_digits r.name b fits.name at.name
