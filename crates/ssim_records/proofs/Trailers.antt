-- A trailer record: the bytes spell one trailer, and what is written spells it.
use Rattle.std.proofs.Common.{◌≡◌, ℕ, List, [], ◌∷◌, length, Some, refl, sym, ap, ◌∙◌}
use Rattle.std.specs.Prelude.{codes}
use Rattle.std.specs.List.{AllZip}
use Rattle.ssim_values.specs.Airline.{is_airline}
use Rattle.ssim_columns.specs.declared.field.FieldKind.TheVariants.{Carried, AirlineCode}
use Rattle.ssim_columns.specs.declared.field.end_code.EndCode.{EndCode}
use Rattle.ssim_columns.specs.declared.field.end_code.EndCode.TheVariants.{Continuation, End}
use Rattle.ssim_columns.specs.Numbers.{digits_of, digits}
use Rattle.ssim_columns.specs.Columns.{end_code_text, columns, fault_in, is_carried, end_code_of}
use Rattle.ssim_records.specs.Trailer.{TrailerFields, IsTrailer, SpellsTrailer, trailer_texts, written_trailer}
use Rattle.ssim_columns.proofs.lemmas.Names.{length_airline}
use Rattle.ssim_columns.proofs.lemmas.Numbers.{digits_of-digits}
use Rattle.ssim_columns.proofs.lemmas.Places.{all_placed, length_concat}
use Rattle.ssim_columns.proofs.lemmas.Rows.{is_true, none_other, stands_by, stands_as}

trailer_of : ℕ → List ℕ → List ℕ → ℕ → EndCode → ℕ → TrailerFields
trailer_of spare airline release check code serial = record { spare = spare; airline = airline; release = release; check = check; code = code; serial = serial }

made : (r : TrailerFields) → trailer_of r.spare r.airline r.release r.check r.code r.serial ≡ r
unfolding trailer_of
made r = refl

pub one_trailer : (b : List ℕ) (r s : TrailerFields) → SpellsTrailer r b → SpellsTrailer s b → r ≡ s
one_trailer b r s p q = sym (made r) ∙ (cc) ∙ made s

record Lies (r : TrailerFields) (b : List ℕ) : Type 0 where
  kind : columns 1 1 b ≡ codes "5"
  spare : columns 2 2 b ≡ r.spare ∷ []
  airline : columns 3 5 b ≡ r.airline
  release : columns 6 187 b ≡ r.release
  check : columns 188 193 b ≡ digits 6 r.check
  code : columns 194 194 b ≡ end_code_text r.code
  serial : columns 195 200 b ≡ digits 6 r.serial

length_code : (c : EndCode) → length (end_code_text c) ≡ 1
length_code Continuation = refl
length_code End = refl

code_read : (c : EndCode) → end_code_of (end_code_text c) ≡ Some c
unfolding end_code_of
code_read Continuation = refl
code_read End = refl

texts_lie : (r : TrailerFields) → IsTrailer r → AllZip (λ w t. length t ≡ w) (1 ∷ 1 ∷ 3 ∷ 182 ∷ 6 ∷ 1 ∷ 6 ∷ []) (trailer_texts r)
texts_lie r fits = (refl, (refl, (length_airline r.airline fits.airline, (fits.release_len, (refl, (length_code r.code, (refl, tt)))))))

lies : (r : TrailerFields) → IsTrailer r → Lies r (written_trailer r)
lies r fits =
    let p = all_placed (1 ∷ 1 ∷ 3 ∷ 182 ∷ 6 ∷ 1 ∷ 6 ∷ []) (trailer_texts r) (texts_lie r fits) in
    record { kind = p.0; spare = p.1.0; airline = p.1.1.0; release = p.1.1.1.0; check = p.1.1.1.1.0; code = p.1.1.1.1.1.0; serial = p.1.1.1.1.1.1.0 }

spells : (r : TrailerFields) (b : List ℕ) → IsTrailer r → Lies r b → SpellsTrailer r b
spells r b fits at =
    let check : digits_of (columns 188 193 b) ≡ Some r.check = ap digits_of at.check ∙ digits_of-digits 5 r.check fits.check in
    let code : end_code_of (columns 194 194 b) ≡ Some r.code = ap end_code_of at.code ∙ code_read r.code in
    let serial : digits_of (columns 195 200 b) ≡ Some r.serial = ap digits_of at.serial ∙ digits_of-digits 5 r.serial fits.serial in
    record {
      kind = at.kind;
      valid = (
        ap (fault_in Carried) at.spare ∙ rw (is_true (is_carried r.spare) fits.spare) refl,
        (
          ap (fault_in AirlineCode) at.airline ∙ stands_by (is_airline r.airline) fits.airline,
          (
            ap (fault_in Carried) at.release ∙ none_other 0 r.release fits.release,
            (
              stands_as (digits_of (columns 188 193 b)) r.check check,
              (
                stands_as (end_code_of (columns 194 194 b)) r.code code,
                (stands_as (digits_of (columns 195 200 b)) r.serial serial, tt),
              ),
            ),
          ),
        ),
      );
      spare = at.spare;
      airline = at.airline;
      release = at.release;
      check = check;
      code = code;
      serial = serial;
    }

pub spells_trailer : (r : TrailerFields) → IsTrailer r → SpellsTrailer r (written_trailer r)
spells_trailer r fits = spells r (written_trailer r) fits (lies r fits)

pub length_trailer : (r : TrailerFields) → IsTrailer r → length (written_trailer r) ≡ 200
length_trailer r fits = length_concat (1 ∷ 1 ∷ 3 ∷ 182 ∷ 6 ∷ 1 ∷ 6 ∷ []) (trailer_texts r) (texts_lie r fits) refl
