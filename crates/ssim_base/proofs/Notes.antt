-- Nothing is noted of an export: its serials count on from 1, and the trailer's check reference is
-- the serial before it.
use Rattle.std.proofs.Common.{◌≡◌, ℕ, ◌+◌, true, false, not, nat_eq, List, [], ◌∷◌, ◌++◌, map, length, refl, sym, ap, subst, ◌∙◌, arith}
use Rattle.std.proofs.lemmas.Bool.Decides.{nat_tests}
use Rattle.std.specs.List.{AllByRecursion as Each}
use Rattle.ssim_records.specs.Trailer.{TrailerFields}
use Rattle.ssim_records.specs.declared.record.Record.{Record}
use Rattle.ssim_records.specs.declared.record.Record.TheVariants.{Header, Carrier, Leg, Segment, Trailer}
use Rattle.ssim_values.specs.Flight.{FlightNumber}
use Rattle.ssim_values.specs.Period.{DayRange}
use Rattle.ssim_base.specs.Timetable.{LegValue, Days}
use Rattle.ssim_base.specs.Base.{is_trailer, note_if, check_notes, notes_of}
use Rattle.ssim_base.specs.declared.note.Note.TheVariants.{Serial}
use Rattle.ssim_records.specs.Record.{serial_of}
use Rattle.ssim_base.specs.Export.{Frame, tail_record, leg_records, flights_records, with_serial, numbered, sections}
use Rattle.ssim_base.specs.clauses.ReadBack.{records_of}
use Rattle.ssim_base.proofs.Each.{each-map}
use Rattle.ssim_base.proofs.Parts.{own_name, each-flights}

abbrev pub IsChecked : ℕ → Record → Type 0
IsChecked n (Header r) = Unit {0}
IsChecked n (Carrier r) = Unit {0}
IsChecked n (Leg r) = Unit {0}
IsChecked n (Segment r) = Unit {0}
IsChecked n (Trailer r) = r.check ≡ n

-- serials that count on from n, and check references of the serial before
abbrev pub Counted : ℕ → List Record → Type 0
Counted n [] = Unit {0}
Counted n (r ∷ rs) = (serial_of r ≡ n + 1) × IsChecked n r × Counted (serial_of r) rs

eq-true : (m n : ℕ) → m ≡ n → nat_eq m n ≡ true
eq-true m n h = grind (arith, nat_tests)

no_check_note : (number n : ℕ) (r : Record) → IsChecked n r → check_notes number n r ≡ []
no_check_note number n (Header r) h = refl
no_check_note number n (Carrier r) h = refl
no_check_note number n (Leg r) h = refl
no_check_note number n (Segment r) h = refl
no_check_note number n (Trailer r) h = rw (eq-true r.check n h) refl

pub no_notes : (n : ℕ) (records : List (ℕ × Record)) → Counted n (map (λ r. r.1) records) → notes_of n records ≡ []
no_notes n [] h = refl
no_notes n (r ∷ records) h =
    ap (λ b. note_if (not b) (Serial r.0) ++ (check_notes r.0 n r.1 ++ notes_of (serial_of r.1) records)) (eq-true (serial_of r.1) (n + 1) h.0)
    ∙ ap (λ notes. notes ++ notes_of (serial_of r.1) records) (no_check_note r.0 n r.1 h.1)
    ∙ no_notes (serial_of r.1) records h.2

-- ---- the serials of an export

abbrev IsInner : Record → Type 0
IsInner r = is_trailer r ≡ false

serial-given : (n : ℕ) (r : Record) → serial_of (with_serial n r) ≡ n
serial-given n (Header r) = refl
serial-given n (Carrier r) = refl
serial-given n (Leg r) = refl
serial-given n (Segment r) = refl
serial-given n (Trailer r) = refl

inner-checked : (m n : ℕ) (r : Record) → IsInner r → IsChecked m (with_serial n r)
inner-checked m n (Header r) h = tt
inner-checked m n (Carrier r) h = tt
inner-checked m n (Leg r) h = tt
inner-checked m n (Segment r) h = tt
inner-checked m n (Trailer r) h = absurd cc

counted-body : (n : ℕ) (body : List Record) (t : TrailerFields) → Each IsInner body → t.check ≡ n + length body → t.serial ≡ n + length body + 1
    → Counted n (numbered (n + 1) body ++ Trailer t ∷ [])
counted-body n [] t inner check serial = (omega arith, omega arith, tt)
counted-body n (r ∷ rs) t inner check serial = (
  serial-given (n + 1) r,
  inner-checked n (n + 1) r inner.0,
  subst (λ m. Counted m (numbered (n + 1 + 1) rs ++ Trailer t ∷ [])) (sym (serial-given (n + 1) r)) (counted-body (n + 1) rs t inner.1 (omega arith) (omega arith)),
)

leg-inner : (a : List ℕ) (f : FlightNumber) (v : ℕ) (period : DayRange) (l : LegValue) → Each IsInner (leg_records a f v period l)
leg-inner a f v period l = (refl, each-map IsInner (tail_record (own_name a f v l) _) l.tails (λ t. refl))

pub sections-counted : (frame : Frame) (a : List ℕ) (days : FlightNumber → Days) (fs : List FlightNumber) → Counted 0 (records_of (sections frame (flights_records a days fs)))
sections-counted frame a days fs =
    let body = flights_records a days fs in
    let last : TrailerFields = record frame.trailer { check = 2 + length body; serial = 3 + length body } in
    (refl, tt, (refl, tt, counted-body 2 body last (each-flights IsInner leg-inner a days fs) refl (omega arith)))
