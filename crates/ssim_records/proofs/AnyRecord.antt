-- Records of any type: column 1 says the type of what is spelt, and what is written is read back.
use Rattle.std.proofs.Common.{◌≡◌, ℕ, false, List, [], ◌∷◌, Some, None, Result, Ok, Err, IfOk, IfErr, refl, sym, ap, subst, ◌∙◌, arith}
use Rattle.std.specs.Prelude.{◌==◌, slice_index}
use Rattle.ssim_records.specs.declared.record.Record.{Record}
use Rattle.ssim_records.specs.declared.record.Record.TheVariants.{Header, Carrier, Leg, Segment, Trailer}
use Rattle.ssim_records.specs.declared.fault.RecordFault.{RecordFault}
use Rattle.ssim_records.specs.declared.fault.RecordFault.TheVariants.{BadColumn, BadType}
use Rattle.ssim_columns.specs.Columns.{columns, first_fault}
use Rattle.ssim_records.specs.Header.{HeaderFields, SpellsHeader, header_table}
use Rattle.ssim_records.specs.Carrier.{CarrierFields, SpellsCarrier, carrier_table}
use Rattle.ssim_columns.specs.Leg.{LegFields, SpellsLeg, leg_table}
use Rattle.ssim_columns.specs.Segment.{SegmentFields, SpellsSegment, segment_table}
use Rattle.ssim_records.specs.Trailer.{TrailerFields, SpellsTrailer, trailer_table}
use Rattle.ssim_records.specs.Record.{Spells, IsRecord, written, table_of, fault_of}
use Rattle.ssim_records.proofs.Headers.{one_header, spells_header}
use Rattle.ssim_records.proofs.Carriers.{one_carrier, spells_carrier}
use Rattle.ssim_columns.proofs.lemmas.Legs.{one_leg, spells_leg}
use Rattle.ssim_columns.proofs.lemmas.Segments.{one_segment, spells_segment}
use Rattle.ssim_records.proofs.Trailers.{one_trailer, spells_trailer}
use Rattle.ssim_columns.proofs.lemmas.Rows.{none_fault}

pub spells_written : (r : Record) → IsRecord r → Spells r (written r)
spells_written (Header r) h = spells_header r h
spells_written (Carrier r) h = spells_carrier r h
spells_written (Leg r) h = spells_leg r h
spells_written (Segment r) h = spells_segment r h
spells_written (Trailer r) h = spells_trailer r h

-- ---- column 1

pub first_byte : (b : List ℕ) (k : ℕ) → columns 1 1 b ≡ k ∷ [] → slice_index b 0 ≡ k
first_byte [] k h = absurd cc
first_byte (x ∷ xs) k h = cc

-- column 1 of a record
abbrev pub kind_of : Record → ℕ
kind_of (Header r) = 49
kind_of (Carrier r) = 50
kind_of (Leg r) = 51
kind_of (Segment r) = 52
kind_of (Trailer r) = 53

pub kind_is : (r : Record) (b : List ℕ) → Spells r b → columns 1 1 b ≡ kind_of r ∷ []
kind_is (Header r) b p = p.kind
kind_is (Carrier r) b p = p.kind
kind_is (Leg r) b p = p.kind
kind_is (Segment r) b p = p.kind
kind_is (Trailer r) b p = p.kind

pub same_kind : (r : Record) (b : List ℕ) (k : ℕ) → columns 1 1 b ≡ k ∷ [] → Spells r b → kind_of r ≡ k
same_kind r b k h p = let e = kind_is r b p in cc

pub as_header : (r : Record) (b : List ℕ) → kind_of r ≡ 49 → Spells r b → (h : HeaderFields) × (r ≡ Header h) × SpellsHeader h b
as_header (Header r) b e p = (r, refl, p)
as_header (Carrier r) b e p = absurd (omega (arith, e))
as_header (Leg r) b e p = absurd (omega (arith, e))
as_header (Segment r) b e p = absurd (omega (arith, e))
as_header (Trailer r) b e p = absurd (omega (arith, e))

pub as_carrier : (r : Record) (b : List ℕ) → kind_of r ≡ 50 → Spells r b → (h : CarrierFields) × (r ≡ Carrier h) × SpellsCarrier h b
as_carrier (Header r) b e p = absurd (omega (arith, e))
as_carrier (Carrier r) b e p = (r, refl, p)
as_carrier (Leg r) b e p = absurd (omega (arith, e))
as_carrier (Segment r) b e p = absurd (omega (arith, e))
as_carrier (Trailer r) b e p = absurd (omega (arith, e))

pub as_leg : (r : Record) (b : List ℕ) → kind_of r ≡ 51 → Spells r b → (h : LegFields) × (r ≡ Leg h) × SpellsLeg h b
as_leg (Header r) b e p = absurd (omega (arith, e))
as_leg (Carrier r) b e p = absurd (omega (arith, e))
as_leg (Leg r) b e p = (r, refl, p)
as_leg (Segment r) b e p = absurd (omega (arith, e))
as_leg (Trailer r) b e p = absurd (omega (arith, e))

pub as_segment : (r : Record) (b : List ℕ) → kind_of r ≡ 52 → Spells r b → (h : SegmentFields) × (r ≡ Segment h) × SpellsSegment h b
as_segment (Header r) b e p = absurd (omega (arith, e))
as_segment (Carrier r) b e p = absurd (omega (arith, e))
as_segment (Leg r) b e p = absurd (omega (arith, e))
as_segment (Segment r) b e p = (r, refl, p)
as_segment (Trailer r) b e p = absurd (omega (arith, e))

pub as_trailer : (r : Record) (b : List ℕ) → kind_of r ≡ 53 → Spells r b → (h : TrailerFields) × (r ≡ Trailer h) × SpellsTrailer h b
as_trailer (Header r) b e p = absurd (omega (arith, e))
as_trailer (Carrier r) b e p = absurd (omega (arith, e))
as_trailer (Leg r) b e p = absurd (omega (arith, e))
as_trailer (Segment r) b e p = absurd (omega (arith, e))
as_trailer (Trailer r) b e p = (r, refl, p)

pub header_fault : (n : ℕ) (b : List ℕ) (column : ℕ) → columns 1 1 b ≡ 49 ∷ [] → first_fault b header_table ≡ Some column → fault_of n b ≡ Some (BadColumn n column)
unfolding table_of
header_fault n b column h e = rw (first_byte b 49 h, e) refl

pub carrier_fault : (n : ℕ) (b : List ℕ) (column : ℕ) → columns 1 1 b ≡ 50 ∷ [] → first_fault b carrier_table ≡ Some column → fault_of n b ≡ Some (BadColumn n column)
unfolding table_of
carrier_fault n b column h e = rw (first_byte b 50 h, e) refl

pub leg_fault : (n : ℕ) (b : List ℕ) (column : ℕ) → columns 1 1 b ≡ 51 ∷ [] → first_fault b leg_table ≡ Some column → fault_of n b ≡ Some (BadColumn n column)
unfolding table_of
leg_fault n b column h e = rw (first_byte b 51 h, e) refl

pub segment_fault : (n : ℕ) (b : List ℕ) (column : ℕ) → columns 1 1 b ≡ 52 ∷ [] → first_fault b segment_table ≡ Some column → fault_of n b ≡ Some (BadColumn n column)
unfolding table_of
segment_fault n b column h e = rw (first_byte b 52 h, e) refl

pub trailer_fault : (n : ℕ) (b : List ℕ) (column : ℕ) → columns 1 1 b ≡ 53 ∷ [] → first_fault b trailer_table ≡ Some column → fault_of n b ≡ Some (BadColumn n column)
unfolding table_of
trailer_fault n b column h e = rw (first_byte b 53 h, e) refl

pub other_fault : (n : ℕ) (b : List ℕ) (k : ℕ) → columns 1 1 b ≡ k ∷ [] → (k == 49) ≡ false → (k == 50) ≡ false → (k == 51) ≡ false → (k == 52) ≡ false → (k == 53) ≡ false → fault_of n b ≡ Some (BadType n)
unfolding table_of
other_fault n b k h a b' c d e = rw (first_byte b k h, a, b', c, d, e) refl

-- a block that spells a record has no fault
pub no_fault : (n : ℕ) (b : List ℕ) (r : Record) → Spells r b → fault_of n b ≡ None
unfolding table_of
no_fault n b (Header r) p = rw (first_byte b 49 p.kind, none_fault b header_table p.valid) refl
no_fault n b (Carrier r) p = rw (first_byte b 50 p.kind, none_fault b carrier_table p.valid) refl
no_fault n b (Leg r) p = rw (first_byte b 51 p.kind, none_fault b leg_table p.valid) refl
no_fault n b (Segment r) p = rw (first_byte b 52 p.kind, none_fault b segment_table p.valid) refl
no_fault n b (Trailer r) p = rw (first_byte b 53 p.kind, none_fault b trailer_table p.valid) refl

pub one_record : (b : List ℕ) (r s : Record) → Spells r b → Spells s b → r ≡ s
one_record b (Header r) s p q =
    let same = as_header s b (same_kind s b 49 p.kind q) q in
    ap (λ (x : HeaderFields). Header x) (one_header b r same.0 p same.2) ∙ sym same.1
one_record b (Carrier r) s p q =
    let same = as_carrier s b (same_kind s b 50 p.kind q) q in
    ap (λ (x : CarrierFields). Carrier x) (one_carrier b r same.0 p same.2) ∙ sym same.1
one_record b (Leg r) s p q =
    let same = as_leg s b (same_kind s b 51 p.kind q) q in
    ap (λ (x : LegFields). Leg x) (one_leg b r same.0 p same.2) ∙ sym same.1
one_record b (Segment r) s p q =
    let same = as_segment s b (same_kind s b 52 p.kind q) q in
    ap (λ (x : SegmentFields). Segment x) (one_segment b r same.0 p same.2) ∙ sym same.1
one_record b (Trailer r) s p q =
    let same = as_trailer s b (same_kind s b 53 p.kind q) q in
    ap (λ (x : TrailerFields). Trailer x) (one_trailer b r same.0 p same.2) ∙ sym same.1

-- what is read is the record that is spelt
pub only_spelt : (n : ℕ) (b : List ℕ) (read : Result Record RecordFault) → IfOk read (λ r. Spells r b) → IfErr read (λ e. fault_of n b ≡ Some e) → (r : Record) → Spells r b → read ≡ Ok r
only_spelt n b (Ok s) ok err r p = ap Ok (one_record b s r ok p)
only_spelt n b (Err e) ok err r p = let none = no_fault n b r p in absurd cc

pub same_record : (r s : Record) → Spells r (written r) → Spells s (written s) → written r ≡ written s → r ≡ s
same_record r s p q e = one_record (written r) r s p (subst (λ (t : List ℕ). Spells s t) (sym e) q)
