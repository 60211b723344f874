-- A header record: the bytes spell one header, and what is written spells it.
use Rattle.std.proofs.Common.{◌≡◌, ℕ, List, [], ◌∷◌, length, Some, None, refl, sym, ap, ◌∙◌}
use Rattle.std.specs.Prelude.{codes}
use Rattle.std.specs.List.{AllZip}
use Rattle.ssim_columns.specs.declared.field.FieldKind.TheVariants.{Carried, Title}
use Rattle.ssim_columns.specs.Numbers.{digits_of, digits}
use Rattle.ssim_columns.specs.Columns.{columns, fault_in, title, is_title}
use Rattle.ssim_records.specs.Header.{HeaderFields, IsHeader, SpellsHeader, header_texts, written_header}
use Rattle.ssim_columns.proofs.lemmas.Numbers.{digits_of-digits}
use Rattle.ssim_columns.proofs.lemmas.Places.{all_placed, length_concat}
use Rattle.ssim_columns.proofs.lemmas.Rows.{none_other, stands_as}

header_of : List ℕ → ℕ → HeaderFields
header_of details serial = record { details = details; serial = serial }

made : (r : HeaderFields) → header_of r.details r.serial ≡ r
unfolding header_of
made r = refl

pub one_header : (b : List ℕ) (r s : HeaderFields) → SpellsHeader r b → SpellsHeader s b → r ≡ s
one_header b r s p q = sym (made r) ∙ (cc) ∙ made s

record Lies (r : HeaderFields) (b : List ℕ) : Type 0 where
  kind : columns 1 1 b ≡ codes "1"
  title : columns 2 35 b ≡ title
  details : columns 36 194 b ≡ r.details
  serial : columns 195 200 b ≡ digits 6 r.serial

texts_lie : (r : HeaderFields) → IsHeader r → AllZip (λ w t. length t ≡ w) (1 ∷ 34 ∷ 159 ∷ 6 ∷ []) (header_texts r)
texts_lie r fits = (refl, (refl, (fits.len, (refl, tt))))

lies : (r : HeaderFields) → IsHeader r → Lies r (written_header r)
lies r fits =
    let p = all_placed (1 ∷ 34 ∷ 159 ∷ 6 ∷ []) (header_texts r) (texts_lie r fits) in
    record { kind = p.0; title = p.1.0; details = p.1.1.0; serial = p.1.1.1.0 }

title_stands : fault_in Title title ≡ None
unfolding is_title
title_stands = refl

spells : (r : HeaderFields) (b : List ℕ) → IsHeader r → Lies r b → SpellsHeader r b
spells r b fits at =
    let serial : digits_of (columns 195 200 b) ≡ Some r.serial = ap digits_of at.serial ∙ digits_of-digits 5 r.serial fits.serial in
    record {
      kind = at.kind;
      valid = (
        ap (fault_in Title) at.title ∙ title_stands,
        (
          ap (fault_in Carried) at.details ∙ none_other 0 r.details fits.carried,
          (stands_as (digits_of (columns 195 200 b)) r.serial serial, tt),
        ),
      );
      details = at.details;
      serial = serial;
    }

pub spells_header : (r : HeaderFields) → IsHeader r → SpellsHeader r (written_header r)
spells_header r fits = spells r (written_header r) fits (lies r fits)

pub length_header : (r : HeaderFields) → IsHeader r → length (written_header r) ≡ 200
length_header r fits = length_concat (1 ∷ 34 ∷ 159 ∷ 6 ∷ []) (header_texts r) (texts_lie r fits) refl
