-- A carrier record: the bytes spell one carrier, and what is written spells it.
use Rattle.std.proofs.Common.{◌≡◌, ℕ, List, [], ◌∷◌, length, Option, Some, refl, sym, ap, ◌∙◌}
use Rattle.std.specs.Prelude.{codes}
use Rattle.std.specs.List.{AllZip}
use Rattle.ssim_values.specs.Airline.{is_airline}
use Rattle.ssim_values.specs.Day.{day_of, day_text}
use Rattle.ssim_values.proofs.DayLaws.{day_of-day_text}
use Rattle.ssim_columns.specs.declared.field.FieldKind.TheVariants.{Carried, AirlineCode}
use Rattle.ssim_values.specs.declared.time_mode.TimeMode.{TimeMode}
use Rattle.ssim_values.specs.declared.time_mode.TimeMode.TheVariants.{Utc, Local}
use Rattle.ssim_columns.specs.Numbers.{digits_of, digits}
use Rattle.ssim_columns.specs.Columns.{time_mode_text, columns, fault_in, end_from, time_mode_of}
use Rattle.ssim_columns.specs.Leg.{end_text}
use Rattle.ssim_records.specs.Carrier.{CarrierFields, IsCarrier, SpellsCarrier, carrier_texts, written_carrier}
use Rattle.ssim_columns.proofs.lemmas.Days.{length_day, length_end, end_from-end_text}
use Rattle.ssim_columns.proofs.lemmas.Names.{length_airline}
use Rattle.ssim_columns.proofs.lemmas.Numbers.{digits_of-digits}
use Rattle.ssim_columns.proofs.lemmas.Places.{all_placed, length_concat, dates_stand}
use Rattle.ssim_columns.proofs.lemmas.Rows.{none_other, stands_by, stands_as}

carrier_of : TimeMode → List ℕ → List ℕ → ℕ → Option ℕ → ℕ → List ℕ → ℕ → CarrierFields
carrier_of time_mode airline season first last created details serial = record { time_mode = time_mode; airline = airline; season = season; first = first; last = last; created = created; details = details; serial = serial }

made : (r : CarrierFields) → carrier_of r.time_mode r.airline r.season r.first r.last r.created r.details r.serial ≡ r
unfolding carrier_of
made r = refl

pub one_carrier : (b : List ℕ) (r s : CarrierFields) → SpellsCarrier r b → SpellsCarrier s b → r ≡ s
one_carrier b r s p q =
    let first : r.first ≡ s.first = cc in
    let last : Some r.last ≡ Some s.last = sym p.last ∙ ap (λ (d : ℕ). end_from (Some d) (columns 22 28 b)) first ∙ q.last in
    sym (made r) ∙ (cc) ∙ made s

record Lies (r : CarrierFields) (b : List ℕ) : Type 0 where
  kind : columns 1 1 b ≡ codes "2"
  time_mode : columns 2 2 b ≡ time_mode_text r.time_mode
  airline : columns 3 5 b ≡ r.airline
  season : columns 6 14 b ≡ r.season
  first : columns 15 21 b ≡ day_text r.first
  last : columns 22 28 b ≡ end_text r.last
  created : columns 29 35 b ≡ day_text r.created
  details : columns 36 194 b ≡ r.details
  serial : columns 195 200 b ≡ digits 6 r.serial

length_mode : (m : TimeMode) → length (time_mode_text m) ≡ 1
length_mode Utc = refl
length_mode Local = refl

mode_read : (m : TimeMode) → time_mode_of (time_mode_text m) ≡ Some m
unfolding time_mode_of
mode_read Utc = refl
mode_read Local = refl

texts_lie : (r : CarrierFields) → IsCarrier r → AllZip (λ w t. length t ≡ w) (1 ∷ 1 ∷ 3 ∷ 9 ∷ 7 ∷ 7 ∷ 7 ∷ 159 ∷ 6 ∷ []) (carrier_texts r)
texts_lie r fits = (refl, (length_mode r.time_mode, (length_airline r.airline fits.airline, (fits.season_len, (length_day r.first fits.first, (length_end r.first r.last fits.last, (length_day r.created fits.created, (fits.details_len, (refl, tt)))))))))

lies : (r : CarrierFields) → IsCarrier r → Lies r (written_carrier r)
lies r fits =
    let p = all_placed (1 ∷ 1 ∷ 3 ∷ 9 ∷ 7 ∷ 7 ∷ 7 ∷ 159 ∷ 6 ∷ []) (carrier_texts r) (texts_lie r fits) in
    record { kind = p.0; time_mode = p.1.0; airline = p.1.1.0; season = p.1.1.1.0; first = p.1.1.1.1.0; last = p.1.1.1.1.1.0; created = p.1.1.1.1.1.1.0; details = p.1.1.1.1.1.1.1.0; serial = p.1.1.1.1.1.1.1.1.0 }

spells : (r : CarrierFields) (b : List ℕ) → IsCarrier r → Lies r b → SpellsCarrier r b
spells r b fits at =
    let mode : time_mode_of (columns 2 2 b) ≡ Some r.time_mode = ap time_mode_of at.time_mode ∙ mode_read r.time_mode in
    let first : day_of (columns 15 21 b) ≡ Some r.first = ap day_of at.first ∙ day_of-day_text r.first fits.first in
    let last : end_from (Some r.first) (columns 22 28 b) ≡ Some r.last = ap (end_from (Some r.first)) at.last ∙ end_from-end_text r.first r.last fits.last in
    let created : day_of (columns 29 35 b) ≡ Some r.created = ap day_of at.created ∙ day_of-day_text r.created fits.created in
    let serial : digits_of (columns 195 200 b) ≡ Some r.serial = ap digits_of at.serial ∙ digits_of-digits 5 r.serial fits.serial in
    record {
      kind = at.kind;
      valid = (
        stands_as (time_mode_of (columns 2 2 b)) r.time_mode mode,
        (
          ap (fault_in AirlineCode) at.airline ∙ stands_by (is_airline r.airline) fits.airline,
          (
            ap (fault_in Carried) at.season ∙ none_other 0 r.season fits.season,
            (
              dates_stand b r.first r.last first last,
              (
                stands_as (day_of (columns 29 35 b)) r.created created,
                (
                  ap (fault_in Carried) at.details ∙ none_other 0 r.details fits.details,
                  (stands_as (digits_of (columns 195 200 b)) r.serial serial, tt),
                ),
              ),
            ),
          ),
        ),
      );
      time_mode = mode;
      airline = at.airline;
      season = at.season;
      first = first;
      last = last;
      created = created;
      details = at.details;
      serial = serial;
    }

pub spells_carrier : (r : CarrierFields) → IsCarrier r → SpellsCarrier r (written_carrier r)
spells_carrier r fits = spells r (written_carrier r) fits (lies r fits)

pub length_carrier : (r : CarrierFields) → IsCarrier r → length (written_carrier r) ≡ 200
length_carrier r fits = length_concat (1 ∷ 1 ∷ 3 ∷ 9 ∷ 7 ∷ 7 ∷ 7 ∷ 159 ∷ 6 ∷ []) (carrier_texts r) (texts_lie r fits) refl
