-- What is known of the records that a base has so far, the latest of which comes first.
use Rattle.std.specs.Prelude.{◌≡◌, ℕ, Bool, true, false, ◌&&◌, nat_eq, nat_lt, unwrap_or, Some, None, List, [], ◌∷◌}
use Rattle.std.specs.List.{list_any}
use Rattle.std.specs.Str.{bytes_eq}
use Rattle.ssim_values.specs.Flight.{FlightNumber, IsFlight}
use Rattle.ssim_values.specs.Period.{DayRange}
use Rattle.ssim_periods.specs.Calendar.{holds}
use Rattle.ssim_records.specs.Leg.{LegFields, Name}
use Rattle.ssim_records.specs.declared.record.Record.{Record}
use Rattle.ssim_records.specs.declared.record.Record.TheVariants.{Leg}
use Rattle.ssim_base.specs.Base.{airline_of, carrier_end, is_trailer, is_leg_named, is_overflow, is_rate, refusal_at, kept}
use Rattle.ssim_base.specs.BaseSeen.{is_leg_of}
use Rattle.ssim_base.specs.internal.LegTable.{has_legs, legs_at, names_leg, uses_date}
use Rattle.ssim_base.specs.ReadBack.{place_of}
use Rattle.ssim_base.specs.Timetable.{same_flight, period_of}
use Rattle.ssim_base.specs.declared.data_set.acceptance.CarrierTerms.{CarrierTerms}
use Rattle.ssim_base.specs.declared.data_set.acceptance.Acceptance.{Acceptance}
use Rattle.ssim_base.specs.declared.data_set.acceptance.Expected.{Expected}
use Rattle.ssim_base.specs.declared.data_set.acceptance.Expected.TheVariants as expected
use Rattle.ssim_base.specs.declared.leg_table.LegTable.{LegTable}
use Rattle.ssim_base.specs.declared.fault.BaseFault.{BaseFault}
use Rattle.ssim_base.specs.declared.fault.BaseFault.TheVariants as fault

-- there are at least two records, and the latest is or is not a trailer
abbrev pub Follows : Bool → List Record → Type 0
Follows ended (last ∷ second ∷ more) = is_trailer last ≡ ended
Follows ended _ = ⊥

-- there is one record, the header
abbrev pub IsHeaderAlone : List Record → Type 0
IsHeaderAlone (last ∷ []) = Unit {0}
IsHeaderAlone _ = ⊥

-- the records accepted so far are those after which this record is expected
abbrev pub IsExpectedAfter : Expected → List Record → Type 0
IsExpectedAfter expected.Header earlier = earlier ≡ []
IsExpectedAfter expected.Carrier earlier = IsHeaderAlone earlier
IsExpectedAfter (expected.Legs heading) earlier =
    Follows false earlier × (heading.airline ≡ airline_of earlier)
    × (heading.end ≡ carrier_end earlier)
IsExpectedAfter expected.End earlier = Follows true earlier

-- whether a record gives a leg of this flight and sequence on a day
abbrev pub gives : FlightNumber → ℕ → ℕ → Record → Bool
gives flight sequence day (Leg e) =
    (same_flight flight e.name.flight && nat_eq sequence e.name.sequence) && holds (period_of e) day
gives flight sequence day _ = false

-- the names, dates and flights of the table are those of these records
pub record AreLegs (table : LegTable) (earlier : List Record) : Type 0 where
  pub named : (name : Name) → IsFlight name.flight
      → names_leg (legs_at table (place_of name.flight)) name.sequence name.variation
      ≡ list_any (is_leg_named name) earlier
  pub used : (flight : FlightNumber) (sequence day : ℕ) → IsFlight flight → uses_date (legs_at table (place_of flight)) sequence day ≡ list_any (gives flight sequence day) earlier
  pub flown : (flight : FlightNumber) → IsFlight flight
      → has_legs (legs_at table (place_of flight)) ≡ list_any (is_leg_of flight) earlier

-- the state of the checker after these records
pub record HasAccepted (k : Acceptance) (earlier : List Record) : Type 0 where
  pub is_expected : IsExpectedAfter k.expected earlier
  pub legs : AreLegs k.legs earlier

-- one more record is allowed after the earlier ones, the base has it as `closed`, and the new state
-- has it
pub record AcceptsNext (new : Acceptance) (earlier : List Record) (r closed : Record) : Type 0 where
  pub valid : refusal_at earlier r ≡ None
  pub closed_is : closed ≡ kept earlier r
  pub is_kept : HasAccepted new (kept earlier r ∷ earlier)

-- one more record is accepted after any earlier ones that the old state has
abbrev pub Accepts : Acceptance → Acceptance → Record → Record → Type 0
Accepts old new r closed =
    (earlier : List Record) → HasAccepted old earlier → AcceptsNext new earlier r closed

-- the refusal is the record's own, or memory ran out
abbrev pub IsRecordRefused : ℕ → List Record → Record → BaseFault → Type 0
IsRecordRefused number earlier r fault.Memory = Unit {0}
IsRecordRefused number earlier r (fault.Read f) = ⊥
IsRecordRefused number earlier r (fault.Refused n refusal) =
    (n ≡ number) × (refusal_at earlier r ≡ Some refusal)

-- the refusal is the record's own, and the state still has the earlier records; or memory ran out
abbrev pub IsLeft : Acceptance → ℕ → List Record → Record → BaseFault → Type 0
IsLeft new number earlier r fault.Memory = Unit {0}
IsLeft new number earlier r (fault.Read f) = ⊥
IsLeft new number earlier r (fault.Refused n refusal) =
    (n ≡ number) × (refusal_at earlier r ≡ Some refusal) × HasAccepted new earlier

-- whether a record is a leg, where legs are expected
abbrev pub is_next_leg : Expected → Record → Bool
is_next_leg (expected.Legs heading) (Leg r) = true
is_next_leg _ _ = false

-- the state stays as it was at a refusal, but for a leg, which may be in the table
abbrev pub Stays : Bool → Acceptance → Acceptance → BaseFault → Type 0
Stays leg old new (fault.Refused n refusal) = leg ≡ false → new ≡ old
Stays leg old new _ = Unit {0}

-- the airline, overflow, rate and end of a leg record are valid, and its period is this one
pub record AcceptsLeg (heading : CarrierTerms) (r : LegFields) (period : DayRange) : Type 0 where
  pub airline : bytes_eq r.name.airline heading.airline ≡ true
  pub blank : is_overflow r.overflow ≡ false
  pub weekly : is_rate r.rate ≡ true
  pub first_is : period.first ≡ r.first
  pub last_is : period.last ≡ unwrap_or r.last heading.end
  pub days_is : period.days ≡ r.days
  pub in_order : nat_lt period.last r.first ≡ false
