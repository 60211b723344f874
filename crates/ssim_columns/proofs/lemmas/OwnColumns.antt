-- A leg's own columns, in its record and apart from it.
use Rattle.std.proofs.Common.{◌≡◌, ℕ, List, [], ◌∷◌, length, refl, sym, ap, ◌∙◌, ◌+◌, ◌-◌, ◌<◌, ◌≤◌, arith, rules, lit<, lit≤, IsTrue}
use Rattle.std.specs.Prelude.{slice_range, replicate}
use Rattle.std.proofs.lemmas.List.{length-append}
use Rattle.std.proofs.lemmas.Bool.Decides.{nat_tests}
use Rattle.ssim_columns.specs.declared.field.Field.{Field}
use Rattle.ssim_columns.specs.declared.field.FieldKind.TheVariants.{Carried, Digits}
use Rattle.ssim_columns.specs.Columns.{field, columns, EachIsValid}
use Rattle.ssim_columns.specs.Leg.{leg_table, middle_table, own_table, own_columns, spread}
use Rattle.ssim_columns.specs.Leg.{leg_columns, AreLegColumns}
use Rattle.ssim_columns.specs.clauses.Leg.{is_own}
use Rattle.ssim_columns.specs.internal.LegColumns.{IsAfter}
use Rattle.ssim_columns.proofs.lemmas.Slices.{length_slice, slice_in}
use Rattle.ssim_columns.proofs.lemmas.Places.{all_placed}
use Rattle.ssim_columns.proofs.lemmas.Rows.{front_stands, rest_stands, both_stand, rows_move, LieIn}

middle_lies : LieIn 36 127 middle_table
middle_lies = search rules

-- two records with the same bytes in a leg's own columns
pub record SameOwn (x y : List ℕ) : Type 0 where
  pub service : slice_range x 13 14 ≡ slice_range y 13 14
  pub middle : slice_range x 36 127 ≡ slice_range y 36 127
  pub tail : slice_range x 128 194 ≡ slice_range y 128 194

abbrev tail_table : List Field
tail_table = field 129 194 Carried ∷ []

pub own_moves : (x y : List ℕ) → SameOwn x y → EachIsValid x own_table → EachIsValid y own_table
own_moves x y same h =
    let service = rows_move x y 13 14 (field 14 14 Carried ∷ []) same.service (lit< tt, lit≤ tt, lit≤ tt, tt) (h.0, tt) in
    let middle = rows_move x y 36 127 middle_table same.middle middle_lies (front_stands x middle_table tail_table h.1) in
    let tail = rows_move x y 128 194 tail_table same.tail (lit< tt, lit≤ tt, lit≤ tt, tt) (rest_stands x middle_table tail_table h.1) in
    (service.0, both_stand y middle_table tail_table middle tail)

-- the parts of a leg's columns, and of the bytes that they are spread over
pub record Parts (d : List ℕ) (b : List ℕ) : Type 0 where
  pub service : slice_range d 0 1 ≡ slice_range b 13 14
  pub middle : slice_range d 1 92 ≡ slice_range b 36 127
  pub tail : slice_range d 92 158 ≡ slice_range b 128 194

pub spread_parts : (d : List ℕ) → length d ≡ 158 → Parts d (spread d)
spread_parts d len =
    let one = length_slice d 0 1 (lit≤ tt) (omega arith) in
    let two = length_slice d 1 92 (lit≤ tt) (omega arith) in
    let three = length_slice d 92 158 (lit≤ tt) (omega arith) in
    let all = all_placed (13 ∷ 1 ∷ 22 ∷ 91 ∷ 1 ∷ 66 ∷ 6 ∷ []) (replicate 13 32 ∷ slice_range d 0 1 ∷ replicate 22 32 ∷ slice_range d 1 92 ∷ (32 ∷ []) ∷ slice_range d 92 158 ∷ replicate 6 32 ∷ []) (refl, (one, (refl, (two, (refl, (three, (refl, tt))))))) in
    record { service = sym all.1.0; middle = sym all.1.1.1.0; tail = sym all.1.1.1.1.1.0 }

own_parts : (b : List ℕ) → length b ≡ 200 → Parts (own_columns b) b
own_parts b len =
    let one = length_slice b 13 14 (lit≤ tt) (omega arith) in
    let two = length_slice b 36 127 (lit≤ tt) (omega arith) in
    let three = length_slice b 128 194 (lit≤ tt) (omega arith) in
    let all = all_placed (1 ∷ 91 ∷ 66 ∷ []) (slice_range b 13 14 ∷ slice_range b 36 127 ∷ slice_range b 128 194 ∷ []) (one, (two, (three, tt))) in
    record { service = all.0; middle = all.1.0; tail = all.1.1.0 }

pub length_own : (b : List ℕ) → length b ≡ 200 → length (own_columns b) ≡ 158
length_own b len =
    let one = length_slice b 13 14 (lit≤ tt) (omega arith) in
    let two = length_slice b 36 127 (lit≤ tt) (omega arith) in
    let three = length_slice b 128 194 (lit≤ tt) (omega arith) in
    simp (length-append, one, two, three)

abbrev behind_middle : List Field
behind_middle = field 128 128 Carried ∷ field 129 194 Carried ∷ field 195 200 Digits ∷ []

-- a record's leg columns are copied out of the record
pub are_leg_columns : (b : List ℕ) → length b ≡ 200 → EachIsValid b leg_table → AreLegColumns (own_columns b)
are_leg_columns b len h =
    let s = spread_parts (own_columns b) (length_own b len) in
    let d = own_parts b len in
    let same : SameOwn b (spread (own_columns b)) = record { service = sym d.service ∙ s.service; middle = sym d.middle ∙ s.middle; tail = sym d.tail ∙ s.tail } in
    let rest = h.1.1.1.1.1.1.1.1.1 in
    let stands : EachIsValid b own_table = (h.1.1.1.1.1.0, both_stand b middle_table tail_table (front_stands b middle_table behind_middle rest) ((rest_stands b middle_table behind_middle rest).1.0, tt)) in
    record { len = length_own b len; valid = own_moves b (spread (own_columns b)) same stands }

-- ---- columns of a leg, in its bytes

pub moved : (x y : List ℕ) (from to at first last : ℕ) → slice_range x at (at + (to - from)) ≡ slice_range y from to → from < first → first ≤ last → last ≤ to → slice_range x (at + (first - 1 - from)) (at + (last - from)) ≡ columns first last y
moved x y from to at first last e lt le within =
    let i : from + (first - 1 - from) ≡ first - 1 = omega arith in
    let j : from + (last - from) ≡ last = omega arith in
    let a = slice_in x at (at + (to - from)) (first - 1 - from) (last - from) (omega arith) (omega arith) in
    let b = slice_in y from to (first - 1 - from) (last - from) (omega arith) (omega arith) in
    let b' : slice_range (slice_range y from to) (first - 1 - from) (last - from) ≡ columns first last y = rw (i, j) at b in
    sym a ∙ ap (λ (z : List ℕ). slice_range z (first - 1 - from) (last - from)) e ∙ b'

pub own_service : (d : List ℕ) → length d ≡ 158 → slice_range d 0 1 ≡ leg_columns 14 14 d
own_service d len = (spread_parts d len).service

pub own_middle : (d : List ℕ) (first last : ℕ) → length d ≡ 158 → 37 ≤ first → first ≤ last → last ≤ 127 → slice_range d (first - 36) (last - 35) ≡ leg_columns first last d
own_middle d first last len low le high =
    let i : 1 + (first - 1 - 36) ≡ first - 36 = omega arith in
    let j : 1 + (last - 36) ≡ last - 35 = omega arith in
    let m = moved d (spread d) 36 127 1 first last (spread_parts d len).middle (omega arith) le high in
    rw (i, j) at m

pub own_tail : (d : List ℕ) (first last : ℕ) → length d ≡ 158 → 129 ≤ first → first ≤ last → last ≤ 194 → slice_range d (first - 37) (last - 36) ≡ leg_columns first last d
own_tail d first last len low le high =
    let i : 92 + (first - 1 - 128) ≡ first - 37 = omega arith in
    let j : 92 + (last - 128) ≡ last - 36 = omega arith in
    let m = moved d (spread d) 128 194 92 first last (spread_parts d len).tail (omega arith) le high in
    rw (i, j) at m

-- ---- the place of a field in a leg's bytes

-- which of a leg's own columns a field has
record IsPlaced (first last : ℕ) : Type 0 where
  pub some : first ≤ last
  pub service : last ≡ 14 → first ≡ 14
  pub middle : (last ≡ 14 → ⊥) → last ≤ 127 → 37 ≤ first
  pub tail : 127 < last → (129 ≤ first) × (last ≤ 194)

own_place : (f : Field) → IsTrue (is_own f) → IsPlaced f.first f.last
own_place f h = record {
  some = grind (arith, nat_tests);
  service = λ p. grind (arith, nat_tests);
  middle = λ p q. grind (arith, nat_tests);
  tail = λ p. (grind (arith, nat_tests), grind (arith, nat_tests));
}

pub service_after : (f : Field) → IsTrue (is_own f) → f.last ≡ 14 → IsAfter 14 f
service_after f h is =
    let place = own_place f h in
    let from : f.first ≡ 14 = place.service is in
    record {
      low = omega (arith, from);
      some = place.some;
      high = omega (arith, is);
      value = λ d len. rw (from, is) (own_service d len);
    }

pub middle_after : (f : Field) → IsTrue (is_own f) → (f.last ≡ 14 → ⊥) → f.last ≤ 127 → IsAfter 36 f
middle_after f h other to =
    let place = own_place f h in
    let from : 37 ≤ f.first = place.middle other to in
    let end' : f.last - 36 + 1 ≡ f.last - 35 = omega (arith, from, place.some) in
    record {
      low = omega (arith, from);
      some = place.some;
      high = omega (arith, to);
      value = λ d len. rw end' (own_middle d f.first f.last len from place.some to);
    }

pub tail_after : (f : Field) → IsTrue (is_own f) → 127 < f.last → IsAfter 37 f
tail_after f h past =
    let place = own_place f h in
    let both = place.tail past in
    let end' : f.last - 37 + 1 ≡ f.last - 36 = omega (arith, past) in
    record {
      low = omega (arith, both.0);
      some = place.some;
      high = omega (arith, both.1);
      value = λ d len. rw end' (own_tail d f.first f.last len both.0 place.some both.1);
    }
