-- A flight leg record: the bytes spell one leg, and what is written spells it.
use Rattle.std.proofs.Common.{◌≡◌, ℕ, Bool, List, [], ◌∷◌, ◌++◌, length, take, drop, take_all, Option, Some, refl, sym, ap, subst, ◌∙◌, arith, lit≤}
use Rattle.std.specs.Prelude.{slice_range, codes}
use Rattle.std.specs.List.{concat, AllZip}
use Rattle.std.proofs.lemmas.List.{take-append-drop, drop-drop, append-nil, length-drop}
use Rattle.ssim_values.specs.Day.{day_of, day_text}
use Rattle.ssim_values.specs.DayMask.{days_of, places_of}
use Rattle.ssim_values.proofs.DayLaws.{day_of-day_text, day_of-one_text}
use Rattle.ssim_values.proofs.DayMaskLaws.{days_of-places_of}
use Rattle.ssim_columns.specs.declared.field.Field.{Field}
use Rattle.ssim_columns.specs.declared.field.FieldKind.TheVariants.{Carried, Dates, Days, Digits}
use Rattle.ssim_columns.specs.Numbers.{digits_of, digits}
use Rattle.ssim_columns.specs.Columns.{columns, field, fault_in, is_carried, end_from, EachIsValid}
use Rattle.ssim_columns.specs.clauses.Heads.{HasDigits}
use Rattle.ssim_columns.specs.Leg.{Name, LegFields, IsLeg, SpellsLeg, middle_table, name_table, own_columns, spread, leg_texts, end_text, written_leg}
use Rattle.ssim_columns.proofs.lemmas.Days.{length_day, length_end, length_places, end_from-end_text, end_from-one_text}
use Rattle.ssim_columns.proofs.lemmas.Names.{one_name, NameLies, name_digits, name_lies, spells_name, name_stands, length_airline}
use Rattle.ssim_columns.proofs.lemmas.Numbers.{digits_of-digits, digits_of-written}
use Rattle.ssim_columns.proofs.lemmas.OwnColumns.{SameOwn, own_moves, spread_parts}
use Rattle.ssim_columns.proofs.lemmas.Places.{all_placed, length_concat, dates_stand, placed_whole}
use Rattle.ssim_columns.proofs.lemmas.Rows.{is_true, stands_as, front_stands, rest_stands, both_stand}
use Rattle.ssim_columns.proofs.lemmas.Slices.{length_slice}

leg_of : Name → ℕ → Option ℕ → List Bool → ℕ → List ℕ → ℕ → ℕ → LegFields
leg_of name first last days rate columns overflow serial = record { name = name; first = first; last = last; days = days; rate = rate; columns = columns; overflow = overflow; serial = serial }

made : (r : LegFields) → leg_of r.name r.first r.last r.days r.rate r.columns r.overflow r.serial ≡ r
unfolding leg_of
made r = refl

pub leg_of_parts : (r s : LegFields) → r.name ≡ s.name → r.first ≡ s.first → r.last ≡ s.last → r.days ≡ s.days → r.rate ≡ s.rate → r.overflow ≡ s.overflow → r.serial ≡ s.serial → r.columns ≡ s.columns → r ≡ s
leg_of_parts r s name first last days rate overflow serial own = sym (made r) ∙ (rw (name, first, last, days, rate, own, overflow, serial) refl) ∙ made s

pub one_leg : (b : List ℕ) (r s : LegFields) → SpellsLeg r b → SpellsLeg s b → r ≡ s
one_leg b r s p q =
    let name : r.name ≡ s.name = one_name b r.name s.name p.name q.name in
    let first : r.first ≡ s.first = cc in
    let last : Some r.last ≡ Some s.last = sym p.last ∙ ap (λ (d : ℕ). end_from (Some d) (columns 22 28 b)) first ∙ q.last in
    sym (made r) ∙ (cc) ∙ made s

whole_columns : (d : List ℕ) → length d ≡ 158 → concat (slice_range d 0 1 ∷ slice_range d 1 92 ∷ slice_range d 92 158 ∷ []) ≡ d
whole_columns d len =
    let tail : take 66 (drop 92 d) ≡ drop 92 d = take_all 66 (drop 92 d) (omega (arith, length-drop 92 d)) in
    let at : drop 92 d ≡ drop 91 (drop 1 d) = sym (drop-drop 91 1 d) in
    let nil : take 66 (drop 92 d) ++ [] ≡ drop 91 (drop 1 d) = append-nil (take 66 (drop 92 d)) ∙ tail ∙ at in
    ap (λ (t : List ℕ). take 1 d ++ (take 91 (drop 1 d) ++ t)) nil ∙ ap (λ (t : List ℕ). take 1 d ++ t) (take-append-drop 91 (drop 1 d)) ∙ take-append-drop 1 d

texts_lie : (r : LegFields) → IsLeg r → AllZip (λ w t. length t ≡ w) (1 ∷ 1 ∷ 3 ∷ 4 ∷ 2 ∷ 2 ∷ 1 ∷ 7 ∷ 7 ∷ 7 ∷ 1 ∷ 91 ∷ 1 ∷ 66 ∷ 6 ∷ []) (leg_texts r)
texts_lie r fits =
    let len = fits.columns.len in
    let one = length_slice r.columns 0 1 (lit≤ tt) (omega arith) in
    let two = length_slice r.columns 1 92 (lit≤ tt) (omega arith) in
    let three = length_slice r.columns 92 158 (lit≤ tt) (omega arith) in
    (refl, (refl, (length_airline r.name.airline fits.name.airline, (refl, (refl, (refl, (one, (length_day r.first fits.first, (length_end r.first r.last fits.last, (length_places r.days fits.days, (refl, (two, (refl, (three, (refl, tt)))))))))))))))

-- the position of each field in what is written
record Lies (r : LegFields) (b : List ℕ) : Type 0 where
  kind : columns 1 1 b ≡ codes "3"
  name : NameLies r.name b
  service : columns 14 14 b ≡ slice_range r.columns 0 1
  first : columns 15 21 b ≡ day_text r.first
  last : columns 22 28 b ≡ end_text r.last
  days : columns 29 35 b ≡ places_of r.days
  rate : columns 36 36 b ≡ r.rate ∷ []
  middle : columns 37 127 b ≡ slice_range r.columns 1 92
  overflow : columns 128 128 b ≡ r.overflow ∷ []
  tail : columns 129 194 b ≡ slice_range r.columns 92 158
  serial : columns 195 200 b ≡ digits 6 r.serial

lies : (r : LegFields) → IsLeg r → Lies r (written_leg r)
lies r fits =
    let p = all_placed (1 ∷ 1 ∷ 3 ∷ 4 ∷ 2 ∷ 2 ∷ 1 ∷ 7 ∷ 7 ∷ 7 ∷ 1 ∷ 91 ∷ 1 ∷ 66 ∷ 6 ∷ []) (leg_texts r) (texts_lie r fits) in
    let name : NameLies r.name (written_leg r) = record { suffix = p.1.0; airline = p.1.1.0; number = p.1.1.1.0; variation = p.1.1.1.1.0; sequence = p.1.1.1.1.1.0 } in
    record { kind = p.0; name = name; service = p.1.1.1.1.1.1.0; first = p.1.1.1.1.1.1.1.0; last = p.1.1.1.1.1.1.1.1.0; days = p.1.1.1.1.1.1.1.1.1.0; rate = p.1.1.1.1.1.1.1.1.1.1.0; middle = p.1.1.1.1.1.1.1.1.1.1.1.0; overflow = p.1.1.1.1.1.1.1.1.1.1.1.1.0; tail = p.1.1.1.1.1.1.1.1.1.1.1.1.1.0; serial = p.1.1.1.1.1.1.1.1.1.1.1.1.1.1.0 }

abbrev pub behind_middle : List Field
behind_middle = field 128 128 Carried ∷ field 129 194 Carried ∷ field 195 200 Digits ∷ []

abbrev pub beside_name : List Field
beside_name = field 14 14 Carried ∷ field 15 28 Dates ∷ field 29 35 Days ∷ field 36 36 Carried ∷ (middle_table ++ behind_middle)

-- valid fields at these positions spell the record
spells : (r : LegFields) (b : List ℕ) → IsLeg r → Lies r b → SpellsLeg r b
spells r b fits at =
    let name = spells_name r.name b fits.name at.name in
    let first : day_of (columns 15 21 b) ≡ Some r.first = ap day_of at.first ∙ day_of-day_text r.first fits.first in
    let last : end_from (Some r.first) (columns 22 28 b) ≡ Some r.last = ap (end_from (Some r.first)) at.last ∙ end_from-end_text r.first r.last fits.last in
    let days : days_of (columns 29 35 b) ≡ Some r.days = ap days_of at.days ∙ days_of-places_of r.days fits.days in
    let serial : digits_of (columns 195 200 b) ≡ Some r.serial = ap digits_of at.serial ∙ digits_of-digits 5 r.serial fits.serial in
    let s = spread_parts r.columns fits.columns.len in
    let same : SameOwn (spread r.columns) b = record { service = sym s.service ∙ sym at.service; middle = sym s.middle ∙ sym at.middle; tail = sym s.tail ∙ sym at.tail } in
    let own = own_moves (spread r.columns) b same fits.columns.valid in
    let rest : EachIsValid b behind_middle =
    (ap (fault_in Carried) at.overflow ∙ rw (is_true (is_carried r.overflow) fits.overflow) refl, ((rest_stands b middle_table (field 129 194 Carried ∷ []) own.1).0, (stands_as (digits_of (columns 195 200 b)) r.serial serial, tt))) in
    let n = name_stands r.name b fits.name name in
    record {
      kind = at.kind;
      valid = both_stand b name_table beside_name n (
        own.0,
        (
          dates_stand b r.first r.last first last,
          (
            stands_as (days_of (columns 29 35 b)) r.days days,
            (
              ap (fault_in Carried) at.rate ∙ rw (is_true (is_carried r.rate) fits.rate) refl,
              both_stand b middle_table behind_middle (front_stands b middle_table (field 129 194 Carried ∷ []) own.1) rest,
            ),
          ),
        ),
      );
      name = name;
      first = first;
      last = last;
      days = days;
      rate = at.rate;
      own = rw (at.service, at.middle, at.tail) (whole_columns r.columns fits.columns.len);
      overflow = at.overflow;
      serial = serial;
    }

pub spells_leg : (r : LegFields) → IsLeg r → SpellsLeg r (written_leg r)
spells_leg r fits = spells r (written_leg r) fits (lies r fits)

pub length_leg : (r : LegFields) → IsLeg r → length (written_leg r) ≡ 200
length_leg r fits = length_concat (1 ∷ 1 ∷ 3 ∷ 4 ∷ 2 ∷ 2 ∷ 1 ∷ 7 ∷ 7 ∷ 7 ∷ 1 ∷ 91 ∷ 1 ∷ 66 ∷ 6 ∷ []) (leg_texts r) (texts_lie r fits) refl

-- ---- bytes that spell a leg, and the leg as it is written

-- the positions of the parts of the own columns in the bytes
own_parts : (b : List ℕ) (d : List ℕ) → length b ≡ 200 → own_columns b ≡ d → (columns 14 14 b ≡ slice_range d 0 1) × (columns 37 127 b ≡ slice_range d 1 92) × (columns 129 194 b ≡ slice_range d 92 158)
own_parts b d len own =
    let one = length_slice b 13 14 (lit≤ tt) (omega arith) in
    let two = length_slice b 36 127 (lit≤ tt) (omega arith) in
    let three = length_slice b 128 194 (lit≤ tt) (omega arith) in
    let p = all_placed (1 ∷ 91 ∷ 66 ∷ []) (columns 14 14 b ∷ columns 37 127 b ∷ columns 129 194 b ∷ []) (one, (two, (three, tt))) in
    (sym p.0 ∙ ap (λ (t : List ℕ). slice_range t 0 1) own, sym p.1.0 ∙ ap (λ (t : List ℕ). slice_range t 1 92) own, sym p.1.1.0 ∙ ap (λ (t : List ℕ). slice_range t 92 158) own)

-- the days in their places, and the numbers without blanks
leg_lies : (r : LegFields) (b : List ℕ) → length b ≡ 200 → SpellsLeg r b → HasDigits b → columns 29 35 b ≡ places_of r.days → Lies r b
leg_lies r b len p has days =
    let own = own_parts b r.columns len p.own in
    let long : length (columns 195 200 b) ≡ 6 = length_slice b 194 200 (lit≤ tt) (omega (arith, len)) in
    record {
      kind = p.kind;
      name = name_lies r.name b len p.name has;
      service = own.0;
      first = day_of-one_text r.first (columns 15 21 b) p.first;
      last = end_from-one_text r.first (columns 22 28 b) r.last p.last;
      days = days;
      rate = p.rate;
      middle = own.1;
      overflow = p.overflow;
      tail = own.2;
      serial = digits_of-written (columns 195 200 b) r.serial p.serial ∙ ap (λ (w : ℕ). digits w r.serial) long;
    }

pub leg_is_written : (r : LegFields) (b : List ℕ) → length b ≡ 200 → SpellsLeg r b → HasDigits b → columns 29 35 b ≡ places_of r.days → b ≡ written_leg r
leg_is_written r b len p has days =
    let at = leg_lies r b len p has days in
    placed_whole 0 (1 ∷ 1 ∷ 3 ∷ 4 ∷ 2 ∷ 2 ∷ 1 ∷ 7 ∷ 7 ∷ 7 ∷ 1 ∷ 91 ∷ 1 ∷ 66 ∷ 6 ∷ []) (leg_texts r) b refl len
    (at.kind, (at.name.suffix, (at.name.airline, (at.name.number, (at.name.variation, (at.name.sequence, (at.service, (at.first, (at.last, (at.days, (at.rate, (at.middle, (at.overflow, (at.tail, (at.serial, tt)))))))))))))))

-- what is written has its days in their places, and numbers without blanks
pub written_leg_has : (r : LegFields) (b : List ℕ) → IsLeg r → b ≡ written_leg r → HasDigits b × (columns 29 35 b ≡ places_of r.days)
written_leg_has r b fits is =
    let at : Lies r b = subst (Lies r) (sym is) (lies r fits) in
    (name_digits r.name b fits.name at.name, at.days)
