-- A base has a frame, and gives a timetable, that can be exported. After records that are allowed,
-- each later leg record of a flight and day has another sequence, so the legs of a day have rising
-- sequences; and the order of the types leaves no other form than that with a frame.
use Rattle.ssim_periods.specs.CommonDays.{meet}
use Rattle.std.proofs.Common.{◌≡◌, ℕ, zero, suc, ◌+◌, ◌<◌, ◌≤◌, Bool, true, false, not, ◌&&◌, ◌||◌, nat_eq, nat_lt, if◌then◌else◌, List, [], ◌∷◌, ◌++◌, map, Option, Some, None, Ok, refl, sym, ap, subst, ◌∙◌, arith}
use Rattle.std.proofs.lemmas.Bool.Decides.{nat_tests}
use Rattle.std.proofs.lemmas.List.Elements.{recursion_from_All, All-from_recursion}
use Rattle.std.proofs.lemmas.Slice.Eq.{bytes_eq-Decides}
use Rattle.std.specs.List.{range_with_len, list_any, All, AllByRecursion as Each}
use Rattle.std.specs.Str.{bytes_eq}
use Rattle.ssim_values.specs.Flight.{FlightNumber}
use Rattle.ssim_values.specs.Period.{DayRange}
use Rattle.ssim_periods.specs.Calendar.{day_count, holds}
use Rattle.ssim_records.specs.Carrier.{CarrierFields}
use Rattle.ssim_records.specs.Header.{HeaderFields}
use Rattle.ssim_records.specs.Leg.{Name, LegFields, AreLegColumns}
use Rattle.ssim_records.specs.Record.{IsRecord}
use Rattle.ssim_records.specs.Segment.{IsTail}
use Rattle.ssim_records.specs.Trailer.{TrailerFields, IsTrailer}
use Rattle.ssim_records.specs.declared.record.Record.{Record}
use Rattle.ssim_records.specs.declared.record.Record.TheVariants.{Header, Carrier, Leg, Segment, Trailer}
use Rattle.ssim_columns.specs.declared.field.end_code.EndCode.{EndCode}
use Rattle.ssim_columns.specs.declared.field.end_code.EndCode.TheVariants.{Continuation, End}
use Rattle.ssim_base.specs.Timetable.{LegValue, Legs, same_flight, same_name, tails_of, leg_of, period_of, is_on, placed, itinerary, Above}
use Rattle.ssim_base.specs.Base as base
use Rattle.ssim_base.specs.Base.{refuse_if, or_else, first_of, airline_of, carrier_end, closed, is_trailer, overlaps, is_overflow, is_rate, is_continued, place_refusal, own_refusal, refusal_at, missing, kept, kept_all, Ending, Done, Broken, at_record, at_end, first_refusal, notes_of, data_set}
use Rattle.ssim_base.specs.declared.fault.BaseFault.{BaseFault}
use Rattle.ssim_base.specs.declared.fault.BaseRefusal.{BaseRefusal}
use Rattle.ssim_base.specs.declared.fault.BaseRefusal.TheVariants as refused
use Rattle.ssim_base.specs.declared.note.Note.{Note}
use Rattle.ssim_base.specs.Export.{Frame}
use Rattle.ssim_base.specs.ReadBack.{IsFrame, IsWritable, IsWritableFrame, HasFrame, kept_frame, CanExport, BasesExport}
use Rattle.ssim_base.proofs.Places.{same-self, same-true}
use Rattle.ssim_base.proofs.Stands.{StandsTo, taken}
use Rattle.ssim_base.proofs.Calendars.{length-each_day, at-each_day}

-- ---- what is not refused

pub refuse_if-none : (b : Bool) (x : BaseRefusal) → refuse_if b x ≡ None → b ≡ false
refuse_if-none true x h = absurd cc
refuse_if-none false x h = refl

pub or_else-none : (a b : Option BaseRefusal) → or_else a b ≡ None → (a ≡ None) × (b ≡ None)
or_else-none (Some x) b h = absurd cc
or_else-none None b h = (refl, h)

pub at_record-none : (n : ℕ) (a : Option BaseRefusal) (later : Option BaseFault) → at_record n a later ≡ None → (a ≡ None) × (later ≡ None)
at_record-none n (Some x) later h = absurd cc
at_record-none n None later h = (refl, h)

pub stood : (ending : Ending) (e : List Record) (records : List (ℕ × Record)) → first_refusal ending e records ≡ None → StandsTo e (map (λ r. r.1) records) (λ d. missing d ≡ None)
stood (Done n) e [] h = (at_record-none n (missing e) None h).0
stood (Broken x) e [] h = absurd cc
stood ending e (r ∷ records) h =
    let parts = at_record-none r.0 (refusal_at e r.1) (first_refusal ending (kept e r.1 ∷ e) records) h in
    (parts.0, stood ending (kept e r.1 ∷ e) records parts.1)

not-false : (b : Bool) → not b ≡ false → b ≡ true
not-false true h = refl
not-false false h = absurd cc

-- ---- sequences

or-false : (a b : Bool) → (a || b) ≡ false → (a ≡ false) × (b ≡ false)
or-false true b h = absurd cc
or-false false b h = (refl, h)

and-true : (a b : Bool) → (a && b) ≡ true → (a ≡ true) × (b ≡ true)
and-true true b h = (refl, h)
and-true false b h = absurd cc

none-at : (test : ℕ → Bool) (low k : ℕ) → list_any test (range_with_len low k) ≡ false → (n : ℕ) → low ≤ n → n < low + k → test n ≡ false
none-at test low zero h n from to = absurd (omega arith)
none-at test low (suc k) h n from to = by (nat_eq low n) refl (λ above. none-at test (low + 1) k parts.1 n above (omega arith))
  where
    parts : (test low ≡ false) × (list_any test (range_with_len (low + 1) k) ≡ false)
    parts = or-false (test low) (list_any test (range_with_len (low + 1) k)) h

    by : (b : Bool) → nat_eq low n ≡ b → (low + 1 ≤ n → test n ≡ false) → test n ≡ false
    by true e later = let same : low ≡ n = grind (arith, nat_tests) in ap test (sym same) ∙ parts.0
    by false e later = let above : low + 1 ≤ n = grind (arith, nat_tests) in later above

-- no earlier leg record of the flight and day has the sequence of a leg record that does not
-- overlap
no-taken : (name : Name) (period : DayRange) (f : FlightNumber) (n : ℕ) (e : List Record) → list_any (overlaps name period) e ≡ false → same_flight name.flight f ≡ true
    → holds period n ≡ true → n < day_count → list_any (nat_eq name.sequence) (taken e f n) ≡ false
no-taken name period f n [] clear same on within = refl
no-taken name period f n (Header r ∷ e) clear same on within = no-taken name period f n e clear same on within
no-taken name period f n (Carrier r ∷ e) clear same on within = no-taken name period f n e clear same on within
no-taken name period f n (Segment r ∷ e) clear same on within = no-taken name period f n e clear same on within
no-taken name period f n (Trailer r ∷ e) clear same on within = no-taken name period f n e clear same on within
no-taken name period f n (Leg r ∷ e) clear same on within = by (is_on r f n) refl (no-taken name period f n e parts.1 same on within)
  where
    parts : (overlaps name period (Leg r) ≡ false) × (list_any (overlaps name period) e ≡ false)
    parts = or-false (overlaps name period (Leg r)) (list_any (overlaps name period) e) clear

    apart : is_on r f n ≡ true → (x : Bool) → nat_eq name.sequence r.name.sequence ≡ x → x ≡ false
    apart here false q = refl
    apart here true q =
        let both = and-true (same_flight r.name.flight f) (holds (period_of r) n) here in
        let flight : same_flight name.flight r.name.flight ≡ true =
        ap (λ g. same_flight g r.name.flight) (same-true name.flight f same ∙ sym (same-true r.name.flight f both.0)) ∙ same-self r.name.flight in
        let days : meet period (period_of r) ≡ false =
        sym (ap (λ b. (b && nat_eq name.sequence r.name.sequence) && meet period (period_of r)) flight ∙ ap (λ b. b && meet period (period_of r)) q) ∙ parts.0 in
        let off : (holds period n && holds (period_of r) n) ≡ false =
        none-at (λ day. holds period day && holds (period_of r) day) 0 day_count days n (omega arith) (omega arith) in
        let clash : true ≡ false = sym (ap (λ b. b && holds (period_of r) n) on ∙ both.1) ∙ off in
        absurd cc

    by : (b : Bool) → is_on r f n ≡ b → list_any (nat_eq name.sequence) (taken e f n) ≡ false
        → list_any (nat_eq name.sequence) (if b then r.name.sequence ∷ taken e f n else taken e f n) ≡ false
    by true here rest = ap (λ b. b || list_any (nat_eq name.sequence) (taken e f n)) (apart here (nat_eq name.sequence r.name.sequence) refl) ∙ rest
    by false here rest = rest

-- ---- legs

abbrev Fresh : List ℕ → Legs → Type 0
Fresh xs legs = Each (λ (l : LegValue). list_any (nat_eq l.sequence) xs ≡ false) legs

each-placed : (P : LegValue → Type 0) (l : LegValue) (legs : Legs) → P l → Each P legs → Each P (placed l legs)
each-placed P l [] a b = (a, tt)
each-placed P l (m ∷ legs) a b =
    elim (nat_lt m.sequence l.sequence) as (λ t. Each P (if t then m ∷ placed l legs else l ∷ m ∷ legs)) [
      | true ↦ (b.0, each-placed P l legs a b.1)
      | false ↦ (a, b)
    ]

above-placed : (low : ℕ) (l : LegValue) (legs : Legs) → low < l.sequence → l.sequence < 100 → Above low legs → Each (λ (m : LegValue). nat_eq m.sequence l.sequence ≡ false) legs
    → Above low (placed l legs)
above-placed low l [] from to above apart = (from, to, tt)
above-placed low l (m ∷ legs) from to above apart =
    elim (nat_lt m.sequence l.sequence) as (λ t. nat_lt m.sequence l.sequence ≡ t → Above low (if t then m ∷ placed l legs else l ∷ m ∷ legs)) [
      | true ↦ λ e.
          let less : m.sequence < l.sequence = grind (arith, nat_tests) in
          (above.0, above.1, above-placed m.sequence l legs less to above.2 apart.1)
      | false ↦ λ e.
          let other : nat_eq m.sequence l.sequence ≡ false = apart.0 in
          let more : l.sequence < m.sequence = grind (arith, nat_tests) in
          (from, to, (more, above.1, above.2))
    ] refl

-- what is kept of a record with a spelling: a leg's sequence and columns, a segment's tail
abbrev IsSound : Record → Type 0
IsSound (Header r) = Unit {0}
IsSound (Carrier r) = Unit {0}
IsSound (Leg r) = (0 < r.name.sequence) × (r.name.sequence < 100) × AreLegColumns r.columns
IsSound (Segment r) = IsTail r.tail
IsSound (Trailer r) = Unit {0}

sound-kept : (e : List Record) (r : Record) → IsRecord r → IsSound (kept e r)
sound-kept e (Header r) h = tt
sound-kept e (Carrier r) h = tt
sound-kept e (Leg r) h = (h.name.sequence_from, h.name.sequence_to, h.columns)
sound-kept e (Segment r) h = h.tail
sound-kept e (Trailer r) h = tt

all-sound : (e rs : List Record) → Each IsRecord rs → Each IsSound (kept_all e rs)
all-sound e [] h = tt
all-sound e (r ∷ rs) h = (sound-kept e r h.0, all-sound (kept e r ∷ e) rs h.1)

abbrev Rises : List Record → List Record → FlightNumber → ℕ → Type 0
Rises e rs f n = Above 0 (itinerary (kept_all e rs) f n) × Fresh (taken e f n) (itinerary (kept_all e rs) f n)

-- a leg's sequence differs from those after it
fresh-first : (s : ℕ) (xs : List ℕ) (legs : Legs) → Fresh (s ∷ xs) legs → Each (λ (m : LegValue). nat_eq m.sequence s ≡ false) legs × Fresh xs legs
fresh-first s xs [] h = (tt, tt)
fresh-first s xs (m ∷ legs) h =
    let parts = or-false (nat_eq m.sequence s) (list_any (nat_eq m.sequence) xs) h.0 in
    let rest = fresh-first s xs legs h.1 in
    ((parts.0, rest.0), (parts.1, rest.1))

leg-clear : (e : List Record) (r : LegFields) → refusal_at e (Leg r) ≡ None → list_any (overlaps r.name (period_of (closed (carrier_end e) r))) e ≡ false
leg-clear e r h =
    let leg = closed (carrier_end e) r in
    let own = (or_else-none (place_refusal e (Leg r)) (own_refusal e (Leg r)) h).1 in
    let after_airline = (or_else-none (refuse_if (not (bytes_eq r.name.airline (airline_of e))) refused.OtherAirline) _ own).1 in
    let after_overflow = (or_else-none (refuse_if (is_overflow r.overflow) refused.Overflow) _ after_airline).1 in
    let after_rate = (or_else-none (refuse_if (not (is_rate r.rate)) refused.Frequency) _ after_overflow).1 in
    let after_end = (or_else-none (refuse_if (nat_lt (period_of leg).last r.first) refused.OpenEnd) _ after_rate).1 in
    let overlap = (or_else-none (refuse_if (list_any (overlaps r.name (period_of leg)) e) refused.Overlap) _ after_end).0 in
    refuse_if-none (list_any (overlaps r.name (period_of leg)) e) refused.Overlap overlap

rises : (P : List Record → Type 0) (e rs : List Record) → Each IsRecord rs → StandsTo e rs P → (f : FlightNumber) (n : ℕ) → n < day_count → Rises e rs f n
rises P e [] valid h f n within = (tt, tt)
rises P e (Header r ∷ rs) valid h f n within = rises P (kept e (Header r) ∷ e) rs valid.1 h.1 f n within
rises P e (Carrier r ∷ rs) valid h f n within = rises P (kept e (Carrier r) ∷ e) rs valid.1 h.1 f n within
rises P e (Segment r ∷ rs) valid h f n within = rises P (kept e (Segment r) ∷ e) rs valid.1 h.1 f n within
rises P e (Trailer r ∷ rs) valid h f n within = rises P (kept e (Trailer r) ∷ e) rs valid.1 h.1 f n within
rises P e (Leg r ∷ rs) valid h f n within = by (is_on k f n) refl (rises P (Leg k ∷ e) rs valid.1 h.1 f n within)
  where
    k : LegFields
    k = record (closed (carrier_end e) r) { rate = 32; overflow = 32; serial = 0 }

    rest : Legs
    rest = itinerary (kept_all (Leg k ∷ e) rs) f n

    by : (b : Bool) → is_on k f n ≡ b → Above 0 rest × Fresh (if b then k.name.sequence ∷ taken e f n else taken e f n) rest
        → Above 0 (if b then placed (leg_of k (kept_all (Leg k ∷ e) rs)) rest else rest) × Fresh (taken e f n) (if b then placed (leg_of k (kept_all (Leg k ∷ e) rs)) rest else rest)
    by true here ih =
        let both = and-true (same_flight k.name.flight f) (holds (period_of k) n) here in
        let apart = fresh-first k.name.sequence (taken e f n) rest ih.1 in
        let its = leg_of k (kept_all (Leg k ∷ e) rs) in
        let name = valid.0.name in (
          above-placed 0 its rest name.sequence_from name.sequence_to ih.0 apart.0,
          each-placed (λ (l : LegValue). list_any (nat_eq l.sequence) (taken e f n) ≡ false) its rest
              (no-taken r.name (period_of k) f n e (leg-clear e r h.0) both.0 both.1 within) apart.1,
        )
    by false here ih = ih

each-tails : (name : Name) (rs : List Record) → Each IsSound rs → Each IsTail (tails_of name rs)
each-tails name [] h = tt
each-tails name (Header r ∷ rs) h = each-tails name rs h.1
each-tails name (Carrier r ∷ rs) h = each-tails name rs h.1
each-tails name (Leg r ∷ rs) h =
    elim (same_name name r.name) as (λ b. Each IsTail (if b then [] else tails_of name rs)) [ true ↦ tt | false ↦ each-tails name rs h.1 ]
each-tails name (Segment r ∷ rs) h =
    elim (same_name name r.name) as (λ b. Each IsTail (if b then r.tail ∷ tails_of name rs else tails_of name rs)) [
      | true ↦ (h.0, each-tails name rs h.1)
      | false ↦ each-tails name rs h.1
    ]
each-tails name (Trailer r ∷ rs) h = each-tails name rs h.1

-- the columns and tails of the itineraries are those of the records
each-writable : (rs : List Record) (f : FlightNumber) (n : ℕ) → Each IsSound rs → Each IsWritable (itinerary rs f n)
each-writable [] f n h = tt
each-writable (Header r ∷ rs) f n h = each-writable rs f n h.1
each-writable (Carrier r ∷ rs) f n h = each-writable rs f n h.1
each-writable (Segment r ∷ rs) f n h = each-writable rs f n h.1
each-writable (Trailer r ∷ rs) f n h = each-writable rs f n h.1
each-writable (Leg r ∷ rs) f n h =
    elim (is_on r f n) as (λ b. Each IsWritable (if b then placed (leg_of r rs) (itinerary rs f n) else itinerary rs f n)) [
      | true ↦ each-placed IsWritable (leg_of r rs) (itinerary rs f n)
          (record { columns = h.0.2; tails = All-from_recursion IsTail (tails_of r.name rs) (each-tails r.name rs h.1) }) (each-writable rs f n h.1)
      | false ↦ each-writable rs f n h.1
    ]

-- ---- the frame

abbrev kept_trailer : TrailerFields → TrailerFields
kept_trailer r = record r { check = 0; serial = 0 }

-- legs and segments, and at last a trailer of this airline that ends the data set
record EndsWell (a : List ℕ) (base : List Record) : Type 0 where
  body : List Record
  trailer : TrailerFields
  is : base ≡ body ++ Trailer trailer ∷ []
  airline : trailer.airline ≡ a
  code : trailer.code ≡ End
  kept_is : kept_trailer trailer ≡ trailer
  writable : IsTrailer trailer

code-end : (c : EndCode) → is_continued c ≡ false → c ≡ End
code-end Continuation h = absurd cc
code-end End h = refl

ends-well : (x y : Record) (e rs : List Record) → is_trailer x ≡ false → Each IsRecord rs → StandsTo (x ∷ y ∷ e) rs (λ d. missing d ≡ None)
    → EndsWell (airline_of (x ∷ y ∷ e)) (kept_all (x ∷ y ∷ e) rs)
ends-well x y e [] inner valid h = let lacks : Some refused.NoTrailer ≡ None = sym (ap (λ b. refuse_if (not b) refused.NoTrailer) inner) ∙ h in absurd cc
ends-well x y e (Header r ∷ rs) inner valid h = absurd cc
ends-well x y e (Carrier r ∷ rs) inner valid h = absurd cc
ends-well x y e (Leg r ∷ rs) inner valid h =
    let rest = ends-well (kept (x ∷ y ∷ e) (Leg r)) x (y ∷ e) rs refl valid.1 h.1 in
    record { body = kept (x ∷ y ∷ e) (Leg r) ∷ rest.body; trailer = rest.trailer; is = ap (λ rs. kept (x ∷ y ∷ e) (Leg r) ∷ rs) rest.is; airline = rest.airline; code = rest.code; kept_is = rest.kept_is; writable = rest.writable }
ends-well x y e (Segment r ∷ rs) inner valid h =
    let rest = ends-well (kept (x ∷ y ∷ e) (Segment r)) x (y ∷ e) rs refl valid.1 h.1 in
    record { body = kept (x ∷ y ∷ e) (Segment r) ∷ rest.body; trailer = rest.trailer; is = ap (λ rs. kept (x ∷ y ∷ e) (Segment r) ∷ rs) rest.is; airline = rest.airline; code = rest.code; kept_is = rest.kept_is; writable = rest.writable }
ends-well x y e (Trailer r ∷ []) inner valid h =
    let own = (or_else-none (place_refusal (x ∷ y ∷ e) (Trailer r)) (own_refusal (x ∷ y ∷ e) (Trailer r)) h.0).1 in
    let parts = or_else-none (refuse_if (not (bytes_eq r.airline (airline_of (x ∷ y ∷ e)))) refused.OtherAirline) _ own in
    let same = not-false (bytes_eq r.airline (airline_of (x ∷ y ∷ e))) (refuse_if-none _ refused.OtherAirline parts.0) in
    let last = (or_else-none (refuse_if (is_continued r.code) refused.Continuation) _ parts.1).0 in
    let its = valid.0 in
    record {
      body = [];
      trailer = record r { check = 0; serial = 0 };
      is = refl;
      airline = (bytes_eq-Decides r.airline (airline_of (x ∷ y ∷ e))).0 same;
      kept_is = refl;
      code = code-end r.code (refuse_if-none (is_continued r.code) refused.Continuation last);
      writable = record { spare = its.spare; airline = its.airline; release_len = its.release_len; release = its.release; check = omega arith; serial = omega arith };
    }
ends-well x y e (Trailer r ∷ Header s ∷ rs) inner valid h = absurd cc
ends-well x y e (Trailer r ∷ Carrier s ∷ rs) inner valid h = absurd cc
ends-well x y e (Trailer r ∷ Leg s ∷ rs) inner valid h = absurd cc
ends-well x y e (Trailer r ∷ Segment s ∷ rs) inner valid h = absurd cc
ends-well x y e (Trailer r ∷ Trailer s ∷ rs) inner valid h = absurd cc

record HasFrameThat (base : List Record) : Type 0 where
  frame : Frame
  has_frame : HasFrame frame base
  kept_is : kept_frame frame ≡ frame
  frame_is : IsFrame frame
  writable : IsWritableFrame frame

abbrev frame_of : HeaderFields → CarrierFields → TrailerFields → Frame
frame_of h c t = record { header = h; carrier = c; trailer = t }

begins-well : (rs : List Record) → Each IsRecord rs → StandsTo [] rs (λ d. missing d ≡ None) → HasFrameThat (kept_all [] rs)
begins-well [] valid h = absurd cc
begins-well (Carrier r ∷ rs) valid h = absurd cc
begins-well (Leg r ∷ rs) valid h = absurd cc
begins-well (Segment r ∷ rs) valid h = absurd cc
begins-well (Trailer r ∷ rs) valid h = absurd cc
begins-well (Header r ∷ []) valid h = absurd cc
begins-well (Header r ∷ Header s ∷ rs) valid h = absurd cc
begins-well (Header r ∷ Leg s ∷ rs) valid h = absurd cc
begins-well (Header r ∷ Segment s ∷ rs) valid h = absurd cc
begins-well (Header r ∷ Trailer s ∷ rs) valid h = absurd cc
begins-well (Header r ∷ Carrier s ∷ rs) valid h =
    let top : HeaderFields = record r { serial = 0 } in
    let second : CarrierFields = record s { serial = 0 } in
    let end = ends-well (Carrier second) (Header top) [] rs refl valid.1.1 h.1.1 in
    let header = valid.0 in
    let carrier = valid.1.0 in
    record {
      frame = record { header = top; carrier = second; trailer = end.trailer };
      has_frame = (end.body, ap (λ rs. Header top ∷ Carrier second ∷ rs) end.is);
      kept_is = ap (λ t. frame_of top second t) end.kept_is;
      frame_is = record { airline = end.airline; code = end.code };
      writable = record {
        header = record { len = header.len; carried = header.carried; serial = omega arith };
        carrier = record {
          airline = carrier.airline;
          season_len = carrier.season_len;
          season = carrier.season;
          first = carrier.first;
          last = carrier.last;
          created = carrier.created;
          details_len = carrier.details_len;
          details = carrier.details;
          serial = omega arith;
        };
        trailer = end.writable;
      };
    }

-- ---- the whole

abbrev pub with_notes : List Record → List Note → List Record × List Note
with_notes records notes = (records, notes)

pub from-ok : (o : Option BaseFault) (rs these : List Record) (notes noted : List Note) → base.unless_refused o (with_notes rs notes) ≡ Ok (with_notes these noted)
    → (o ≡ None) × (rs ≡ these)
from-ok (Some x) rs these notes noted h = absurd cc
from-ok None rs these notes noted h =
    let pair : with_notes rs notes ≡ with_notes these noted = cc in
    (refl, ap (λ p. p.0) pair)

pub each-second : (records : List (ℕ × Record)) → Each (λ (r : ℕ × Record). IsRecord r.1) records → Each IsRecord (map (λ r. r.1) records)
each-second [] h = tt
each-second (r ∷ records) h = (h.0, each-second records h.1)

pub bases_export : BasesExport
bases_export ending records these noted valid h =
    let rs = map (λ (r : ℕ × Record). r.1) records in
    let from = from-ok (first_refusal ending [] records) (kept_all [] rs) these (notes_of 0 records) noted h in
    let each = each-second records (recursion_from_All (λ (r : ℕ × Record). IsRecord r.1) records valid) in
    let stand = stood ending [] records from.0 in
    let frame = begins-well rs each stand in
    let all = kept_all [] rs in
    subst CanExport from.1 (record {
      frame = frame.frame;
      has_frame = frame.has_frame;
      kept = frame.kept_is;
      frame_is = frame.frame_is;
      frame_writable = frame.writable;
      timetable = record {
        each_day = λ f exists. length-each_day (itinerary all f);
        rising = λ f n exists within. subst (Above 0) (sym (at-each_day (itinerary all f) n within)) (rises (λ d. missing d ≡ None) [] rs each stand f n within).0;
      };
      legs = λ f n exists within. subst (All IsWritable) (sym (at-each_day (itinerary all f) n within)) (All-from_recursion IsWritable (itinerary all f n) (each-writable all f n (all-sound [] rs each)));
    })
