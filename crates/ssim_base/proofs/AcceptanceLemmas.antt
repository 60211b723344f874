-- One more record before those that are kept: what its leg adds to the table of leg records, and
-- that it is allowed.
use Rattle.ssim_periods.specs.CommonDays.{have_common_date, meet}
use Rattle.std.proofs.Common.{◌≡◌, ◌≢◌, ℕ, Bool, true, false, ◌&&◌, ◌||◌, nat_eq, List, [], ◌∷◌, Some, None, unwrap_or, refl, sym, ap, subst, ◌∙◌, arith}
use Rattle.std.proofs.lemmas.Bool.Decides.{nat_tests}
use Rattle.std.specs.List.{list_any, range_with_len}
use Rattle.std.specs.Str.{bytes_eq}
use Rattle.ssim_values.specs.Flight.{FlightNumber, IsFlight}
use Rattle.ssim_values.specs.Period.{DayRange}
use Rattle.ssim_periods.specs.Calendar.{day_count, holds}
use Rattle.ssim_records.specs.Carrier.{CarrierFields}
use Rattle.ssim_records.specs.Leg.{LegFields, Name}
use Rattle.ssim_records.specs.Segment.{SegmentFields}
use Rattle.ssim_records.specs.Trailer.{TrailerFields}
use Rattle.ssim_records.specs.declared.record.Record.{Record}
use Rattle.ssim_records.specs.declared.record.Record.TheVariants.{Header, Carrier, Leg, Segment, Trailer}
use Rattle.ssim_base.specs.Base.{airline_of, carrier_end, end_of, is_leg_named, is_overflow}
use Rattle.ssim_base.specs.Base.{is_rate, is_continued, is_trailer, overlaps, refusal_at}
use Rattle.ssim_base.specs.Base as base
use Rattle.ssim_base.specs.BaseSeen.{is_leg_of}
use Rattle.ssim_base.specs.internal.Acceptance.{AreLegs, Follows, HasAccepted, IsExpectedAfter, AcceptsLeg, AcceptsNext, gives}
use Rattle.ssim_base.specs.internal.LegTable.{AddsLegAt, has_legs, legs_at, names_leg, uses_date}
use Rattle.ssim_base.specs.ReadBack.{place_of}
use Rattle.ssim_base.specs.Timetable.{period_of, same_flight, same_name}
use Rattle.ssim_base.specs.declared.data_set.acceptance.CarrierTerms.{CarrierTerms}
use Rattle.ssim_base.specs.declared.data_set.acceptance.Acceptance.{Acceptance}
use Rattle.ssim_base.specs.declared.data_set.acceptance.Expected.TheVariants as expected
use Rattle.ssim_base.specs.declared.leg_table.LegTable.{LegTable}
use Rattle.ssim_base.specs.declared.fault.BaseRefusal.TheVariants as refused
use Rattle.ssim_base.proofs.Places.{same_flight-place}
use Rattle.ssim_base.proofs.DateLemmas.{any-none, any-or, same-dates}

-- ---- dates

-- a leg record overlaps an earlier one exactly if both give a leg on one date
meets : (name : Name) (p : DayRange) (earlier : List Record)
    → list_any (λ n. holds p n && list_any (gives name.flight name.sequence n) earlier) (range_with_len 0 day_count) ≡ list_any (overlaps name p) earlier
meets name p [] = any-none (holds p) (range_with_len 0 day_count)
meets name p (Header e ∷ earlier) = meets name p earlier
meets name p (Carrier e ∷ earlier) = meets name p earlier
meets name p (Segment e ∷ earlier) = meets name p earlier
meets name p (Trailer e ∷ earlier) = meets name p earlier
meets name p (Leg e ∷ earlier) =
    any-or (holds p) (holds (period_of e)) (λ n. list_any (gives name.flight name.sequence n) earlier) (same_flight name.flight e.name.flight && nat_eq name.sequence e.name.sequence) (range_with_len 0 day_count)
    ∙ ap (λ r. ((same_flight name.flight e.name.flight && nat_eq name.sequence e.name.sequence) && meet p (period_of e)) || r) (meets name p earlier)

pub overlaps-met : (t : LegTable) (name : Name) (p : DayRange) (earlier : List Record) → IsFlight name.flight → AreLegs t earlier
    → have_common_date (holds p) (uses_date (legs_at t (place_of name.flight)) name.sequence) ≡ list_any (overlaps name p) earlier
overlaps-met t name p earlier is legs =
    same-dates (holds p) (uses_date (legs_at t (place_of name.flight)) name.sequence) (λ n. list_any (gives name.flight name.sequence n) earlier) (λ n. legs.used name.flight name.sequence n is)
    ∙ meets name p earlier

-- ---- the table of leg records

-- one more leg record
legs-more : (old new : LegTable) (r : LegFields) (earlier : List Record) → IsFlight r.name.flight → AreLegs old earlier
    → AddsLegAt old new (place_of r.name.flight) r.name.sequence r.name.variation (period_of r) → AreLegs new (Leg r ∷ earlier)
legs-more old new r earlier is legs more = record {
  named = λ name is_name. by_name name is_name (nat_eq (place_of name.flight) (place_of r.name.flight)) refl;
  used = λ f s n is_f. by_date f s n is_f (nat_eq (place_of f) (place_of r.name.flight)) refl;
  flown = λ f is_f. by_flight f is_f (nat_eq (place_of f) (place_of r.name.flight)) refl;
}
  where
    at : ℕ
    at = place_of r.name.flight

    same : (f : FlightNumber) (b : Bool) → IsFlight f → nat_eq (place_of f) at ≡ b → same_flight f r.name.flight ≡ b
    same f b is_f e = same_flight-place f r.name.flight is_f is ∙ e

    stays : (f : FlightNumber) → nat_eq (place_of f) at ≡ false → legs_at new (place_of f) ≡ legs_at old (place_of f)
    stays f e = let other : place_of f ≢ at = grind (arith, nat_tests) in more.others (place_of f) other

    turned : (a b c : Bool) → ((a && b) || c) ≡ ((b && a) || c)
    turned true true c = refl
    turned true false c = refl
    turned false true c = refl
    turned false false c = refl

    by_name : (name : Name) → IsFlight name.flight → (b : Bool) → nat_eq (place_of name.flight) at ≡ b
        → names_leg (legs_at new (place_of name.flight)) name.sequence name.variation ≡ (same_name name r.name || list_any (is_leg_named name) earlier)
    by_name name is_name true e =
        let one : place_of name.flight ≡ at = grind (arith, nat_tests) in
        ap (λ k. names_leg (legs_at new k) name.sequence name.variation) one
        ∙ more.its.named name.sequence name.variation
        ∙ turned (nat_eq name.sequence r.name.sequence) (nat_eq name.variation r.name.variation) (names_leg (legs_at old at) name.sequence name.variation)
        ∙ ap (λ k. (nat_eq name.variation r.name.variation && nat_eq name.sequence r.name.sequence) || names_leg (legs_at old k) name.sequence name.variation) (sym one)
        ∙ ap (λ b. (nat_eq name.variation r.name.variation && nat_eq name.sequence r.name.sequence) || b) (legs.named name is_name)
        ∙ ap (λ b. (b && (nat_eq name.variation r.name.variation && nat_eq name.sequence r.name.sequence)) || list_any (is_leg_named name) earlier) (sym (same name.flight true is_name e))
    by_name name is_name false e =
        ap (λ es. names_leg es name.sequence name.variation) (stays name.flight e) ∙ legs.named name is_name
        ∙ ap (λ b. (b && (nat_eq name.variation r.name.variation && nat_eq name.sequence r.name.sequence)) || list_any (is_leg_named name) earlier) (sym (same name.flight false is_name e))

    by_date : (f : FlightNumber) (s n : ℕ) → IsFlight f → (b : Bool) → nat_eq (place_of f) at ≡ b
        → uses_date (legs_at new (place_of f)) s n ≡ (((same_flight f r.name.flight && nat_eq s r.name.sequence) && holds (period_of r) n) || list_any (gives f s n) earlier)
    by_date f s n is_f true e =
        let one : place_of f ≡ at = grind (arith, nat_tests) in
        ap (λ k. uses_date (legs_at new k) s n) one
        ∙ more.its.used s n
        ∙ ap (λ k. (nat_eq s r.name.sequence && holds (period_of r) n) || uses_date (legs_at old k) s n) (sym one)
        ∙ ap (λ b. (nat_eq s r.name.sequence && holds (period_of r) n) || b) (legs.used f s n is_f)
        ∙ ap (λ b. ((b && nat_eq s r.name.sequence) && holds (period_of r) n) || list_any (gives f s n) earlier) (sym (same f true is_f e))
    by_date f s n is_f false e =
        ap (λ es. uses_date es s n) (stays f e) ∙ legs.used f s n is_f
        ∙ ap (λ b. ((b && nat_eq s r.name.sequence) && holds (period_of r) n) || list_any (gives f s n) earlier) (sym (same f false is_f e))

    by_flight : (f : FlightNumber) → IsFlight f → (b : Bool) → nat_eq (place_of f) at ≡ b → has_legs (legs_at new (place_of f)) ≡ (same_flight f r.name.flight || list_any (is_leg_of f) earlier)
    by_flight f is_f true e =
        let one : place_of f ≡ at = grind (arith, nat_tests) in
        ap (λ k. has_legs (legs_at new k)) one ∙ more.its.there ∙ ap (λ b. b || list_any (is_leg_of f) earlier) (sym (same f true is_f e))
    by_flight f is_f false e =
        ap has_legs (stays f e) ∙ legs.flown f is_f ∙ ap (λ b. b || list_any (is_leg_of f) earlier) (sym (same f false is_f e))

-- one more record that is no leg
legs-same : (old new : LegTable) (k : Record) (earlier : List Record) → AreLegs old earlier → new ≡ old
    → ((n : Name) → is_leg_named n k ≡ false) → ((f : FlightNumber) (s n : ℕ) → gives f s n k ≡ false) → ((f : FlightNumber) → is_leg_of f k ≡ false) → AreLegs new (k ∷ earlier)
legs-same old new k earlier legs same unnamed none other = subst (λ t. AreLegs t (k ∷ earlier)) (sym same) (record {
  named = λ n is. legs.named n is ∙ ap (λ b. b || list_any (is_leg_named n) earlier) (sym (unnamed n));
  used = λ f s n is. legs.used f s n is ∙ ap (λ b. b || list_any (gives f s n) earlier) (sym (none f s n));
  flown = λ f is. legs.flown f is ∙ ap (λ b. b || list_any (is_leg_of f) earlier) (sym (other f));
})

-- ---- the record is allowed

-- a record that gives no leg
kept-other : (old new : Acceptance) (k : Record) (earlier : List Record) → HasAccepted old earlier
    → IsExpectedAfter new.expected (k ∷ earlier) → new.legs ≡ old.legs
    → ((n : Name) → is_leg_named n k ≡ false) → ((f : FlightNumber) (s n : ℕ) → gives f s n k ≡ false) → ((f : FlightNumber) → is_leg_of f k ≡ false)
    → HasAccepted new (k ∷ earlier)
kept-other old new k earlier is at legs unnamed none other = record {
  is_expected = at;
  legs = legs-same old.legs new.legs k earlier is.legs legs unnamed none other;
}

abbrev pub kept_carrier : CarrierFields → Record
kept_carrier r = Carrier (record r { serial = 0 })

pub stood-carrier : (old new : Acceptance) (heading : CarrierTerms) (r : CarrierFields)
    (closed' : Record) (earlier : List Record)
    → old.expected ≡ expected.Carrier → HasAccepted old earlier → closed' ≡ kept_carrier r
    → new.expected ≡ expected.Legs heading → heading.airline ≡ r.airline → heading.end ≡ end_of r
    → new.legs ≡ old.legs → AcceptsNext new earlier (Carrier r) closed'
stood-carrier old new heading r closed' earlier before is same at airline end legs =
    by earlier is (subst (λ p. IsExpectedAfter p earlier) before is.is_expected)
  where
    by : (e : List Record) → HasAccepted old e → IsExpectedAfter expected.Carrier e
        → AcceptsNext new e (Carrier r) closed'
    by [] is alone = absurd alone
    by (x ∷ []) is alone = record {
      valid = refl;
      closed_is = same;
      is_kept =
          kept-other old new (kept_carrier r) (x ∷ []) is
          (subst (λ p. IsExpectedAfter p (kept_carrier r ∷ x ∷ [])) (sym at) (refl, airline, end))
          legs (λ n. refl) (λ f s n. refl) (λ f. refl);
    }
    by (x ∷ y ∷ e) is alone = absurd alone

abbrev is_legs : Record → Bool
is_legs (Header r) = false
is_legs (Carrier r) = false
is_legs (Leg r) = true
is_legs (Segment r) = true
is_legs (Trailer r) = true

-- after header and carrier, legs, segments and trailers are in order
legs-follow : (e : List Record) → Follows false e → (r : Record) → is_legs r ≡ true → base.place_refusal e r ≡ None
legs-follow [] f r is = absurd f
legs-follow (x ∷ []) f r is = absurd f
legs-follow (x ∷ y ∷ e) f (Header r) is = absurd cc
legs-follow (x ∷ y ∷ e) f (Carrier r) is = absurd cc
legs-follow (x ∷ y ∷ e) f (Leg r) is = rw f refl
legs-follow (x ∷ y ∷ e) f (Segment r) is = rw f refl
legs-follow (x ∷ y ∷ e) f (Trailer r) is = rw f refl

-- one more record after two
more-follow : (e : List Record) (k : Record) (ended : Bool) → Follows false e → is_trailer k ≡ ended → Follows ended (k ∷ e)
more-follow [] k ended f is = absurd f
more-follow (x ∷ []) k ended f is = absurd f
more-follow (x ∷ y ∷ e) k ended f is = is

abbrev pub kept_segment : SegmentFields → Record
kept_segment r = Segment (record r { overflow = 32; serial = 0 })

pub stood-segment : (old new : Acceptance) (heading : CarrierTerms) (r : SegmentFields)
    (closed' : Record) (earlier : List Record)
    → old.expected ≡ expected.Legs heading → HasAccepted old earlier → closed' ≡ kept_segment r
    → new.expected ≡ expected.Legs heading → new.legs ≡ old.legs
    → bytes_eq r.name.airline heading.airline ≡ true → is_overflow r.overflow ≡ false → IsFlight r.name.flight → names_leg (legs_at old.legs (place_of r.name.flight)) r.name.sequence r.name.variation ≡ true
    → AcceptsNext new earlier (Segment r) closed'
stood-segment old new heading r closed' earlier before is same at legs airline blank flight named =
    let here : IsExpectedAfter (expected.Legs heading) earlier = subst (λ p. IsExpectedAfter p earlier) before is.is_expected in
    let own : bytes_eq r.name.airline (airline_of earlier) ≡ true = ap (bytes_eq r.name.airline) (sym here.1) ∙ airline in
    let found : list_any (is_leg_named r.name) earlier ≡ true = sym (is.legs.named r.name flight) ∙ named in
    record {
      valid = rw (legs-follow earlier here.0 (Segment r) refl, own, blank, found) refl;
      closed_is = same;
      is_kept =
          kept-other old new (kept_segment r) earlier is
          (subst (λ p. IsExpectedAfter p (kept_segment r ∷ earlier)) (sym at) (more-follow earlier (kept_segment r) false here.0 refl, here.1, here.2)) legs (λ n. refl) (λ f s n. refl) (λ f. refl);
    }

pub segment-refused : (old : Acceptance) (heading : CarrierTerms) (r : SegmentFields) (earlier : List Record) → old.expected ≡ expected.Legs heading → HasAccepted old earlier
    → bytes_eq r.name.airline heading.airline ≡ true → is_overflow r.overflow ≡ false → IsFlight r.name.flight → names_leg (legs_at old.legs (place_of r.name.flight)) r.name.sequence r.name.variation ≡ false
    → refusal_at earlier (Segment r) ≡ Some refused.Segment
segment-refused old heading r earlier before is airline blank flight named =
    let here : IsExpectedAfter (expected.Legs heading) earlier = subst (λ p. IsExpectedAfter p earlier) before is.is_expected in
    let own : bytes_eq r.name.airline (airline_of earlier) ≡ true = ap (bytes_eq r.name.airline) (sym here.1) ∙ airline in
    let none : list_any (is_leg_named r.name) earlier ≡ false = sym (is.legs.named r.name flight) ∙ named in
    rw (legs-follow earlier here.0 (Segment r) refl, own, blank, none) refl

abbrev pub kept_trailer : TrailerFields → Record
kept_trailer r = Trailer (record r { check = 0; serial = 0 })

pub stood-trailer : (old new : Acceptance) (heading : CarrierTerms) (r : TrailerFields)
    (closed' : Record) (earlier : List Record)
    → old.expected ≡ expected.Legs heading → HasAccepted old earlier → closed' ≡ kept_trailer r
    → new.expected ≡ expected.End → new.legs ≡ old.legs
    → bytes_eq r.airline heading.airline ≡ true → is_continued r.code ≡ false
    → AcceptsNext new earlier (Trailer r) closed'
stood-trailer old new heading r closed' earlier before is same at legs airline code =
    let here : IsExpectedAfter (expected.Legs heading) earlier = subst (λ p. IsExpectedAfter p earlier) before is.is_expected in
    let own : bytes_eq r.airline (airline_of earlier) ≡ true = ap (bytes_eq r.airline) (sym here.1) ∙ airline in
    record {
      valid = rw (legs-follow earlier here.0 (Trailer r) refl, own, code) refl;
      closed_is = same;
      is_kept =
          kept-other old new (kept_trailer r) earlier is
          (subst (λ p. IsExpectedAfter p (kept_trailer r ∷ earlier)) (sym at) (more-follow earlier (kept_trailer r) true here.0 refl)) legs (λ n. refl) (λ f s n. refl) (λ f. refl);
    }

-- a leg record as a base has it, if its end is this day
abbrev pub kept_leg : LegFields → ℕ → LegFields
kept_leg r last = record r { last = Some last; rate = 32; overflow = 32; serial = 0 }

abbrev pub period_to : LegFields → ℕ → DayRange
period_to r last = record { first = r.first; last = last; days = r.days }

pub its-period : (heading : CarrierTerms) (r : LegFields) (p : DayRange) → AcceptsLeg heading r p → p ≡ period_to r p.last
its-period heading r p s = ap (λ f. made f p.last p.days) s.first_is ∙ ap (made r.first p.last) s.days_is
  where
    made : ℕ → ℕ → List Bool → DayRange
    made f l d = record { first = f; last = l; days = d }

-- the refusal of a leg record is then the refusal of its dates
own-leg : (heading : CarrierTerms) (r : LegFields) (p : DayRange) (earlier : List Record) → IsExpectedAfter (expected.Legs heading) earlier → AcceptsLeg heading r p
    → refusal_at earlier (Leg r) ≡ base.first_of (base.refuse_if (list_any (overlaps r.name p) earlier) refused.Overlap ∷ [])
own-leg heading r p earlier here s =
    let own : bytes_eq r.name.airline (airline_of earlier) ≡ true = ap (bytes_eq r.name.airline) (sym here.1) ∙ s.airline in
    let end : unwrap_or r.last (carrier_end earlier) ≡ p.last = ap (unwrap_or r.last) (sym here.2) ∙ sym s.last_is in
    rw (legs-follow earlier here.0 (Leg r) refl, own, s.blank, s.weekly, end, s.in_order, ← its-period heading r p s) refl

-- A leg record, and its name by which the table was asked for one of its dates.
module _ (old : Acceptance) (heading : CarrierTerms) (r : LegFields) (p : DayRange)
    (earlier : List Record) {name : Name} {met : Bool} (before : old.expected ≡ expected.Legs heading)
    (is : HasAccepted old earlier) (s : AcceptsLeg heading r p) (named : name ≡ r.name)
    (flight : IsFlight name.flight)
    (met_is : met ≡ have_common_date (holds p)
    (uses_date (legs_at old.legs (place_of name.flight)) name.sequence))
  where
    here : IsExpectedAfter (expected.Legs heading) earlier
    here = subst (λ q. IsExpectedAfter q earlier) before is.is_expected

    own_flight : IsFlight r.name.flight
    own_flight = subst (λ (n : Name). IsFlight n.flight) named flight

    overlap : list_any (overlaps r.name p) earlier ≡ met
    overlap =
        ap (λ (n : Name). list_any (overlaps n p) earlier) (sym named)
        ∙ sym (overlaps-met old.legs name p earlier flight is.legs)
        ∙ sym met_is

    pub leg-refused : met ≡ true → refusal_at earlier (Leg r) ≡ Some refused.Overlap
    leg-refused so = own-leg heading r p earlier here s ∙ rw (overlap ∙ so) refl

    pub leg-allowed : met ≡ false → refusal_at earlier (Leg r) ≡ None
    leg-allowed so = own-leg heading r p earlier here s ∙ rw (overlap ∙ so) refl

    pub stood-leg : (new : Acceptance) (closed' : Record) → met ≡ false
        → closed' ≡ Leg (kept_leg r p.last) → new.expected ≡ expected.Legs heading
        → AddsLegAt old.legs new.legs (place_of name.flight) name.sequence name.variation p
        → AcceptsNext new earlier (Leg r) closed'
    stood-leg new closed' so same at legs =
        let end : p.last ≡ unwrap_or r.last (carrier_end earlier) =
        s.last_is ∙ ap (unwrap_or r.last) here.2 in
        let last = Leg (kept_leg r p.last) in
        let adds =
        subst (λ (n : Name). AddsLegAt old.legs new.legs (place_of n.flight) n.sequence n.variation p)
        named legs in
        record {
          valid = leg-allowed so;
          closed_is = same ∙ ap (λ l. Leg (kept_leg r l)) end;
          is_kept = subst (λ l. HasAccepted new (Leg (kept_leg r l) ∷ earlier)) end (record {
            is_expected = subst (λ q. IsExpectedAfter q (last ∷ earlier)) (sym at)
                (more-follow earlier last false here.0 refl, here.1, here.2);
            legs = legs-more old.legs new.legs (kept_leg r p.last) earlier own_flight is.legs
                (subst (λ q. AddsLegAt old.legs new.legs (place_of r.name.flight) r.name.sequence
                r.name.variation q) (its-period heading r p s) adds);
          });
        }
