-- One more record before those that were built: each case of the definitions, day by day and name
-- by name.
use Rattle.std.proofs.Common.{◌≡◌, ℕ, suc, ◌+◌, ◌-◌, ◌*◌, ◌<◌, Bool, ◌⊎◌, inl, inr, Contains, true, false, ◌&&◌, ◌||◌, nat_eq, if◌then◌else◌, IsTrue, List, [], ◌∷◌, ◌++◌, Option, Some, None, unwrap_or, length, drop, drop-cons, get_or, refl, sym, ap, subst, ◌∙◌, arith}
use Rattle.std.proofs.lemmas.List.{append-nil}
use Rattle.std.specs.List.{list_any}
use Rattle.std.proofs.lemmas.Bool.Decides.{nat_tests}
use Rattle.ssim_values.specs.Flight.{FlightNumber, IsFlight}
use Rattle.ssim_values.specs.Period.{DayRange}
use Rattle.ssim_periods.specs.Calendar.{holds}
use Rattle.ssim_periods.specs.Days.{changed_on, each_day}
use Rattle.ssim_periods.proofs.DayLemmas.{changed_on-each_day, each_day-same}
use Rattle.ssim_records.specs.Carrier.{CarrierFields}
use Rattle.ssim_records.specs.Header.{HeaderFields}
use Rattle.ssim_records.specs.Leg.{LegFields, Name}
use Rattle.ssim_records.specs.Trailer.{TrailerFields}
use Rattle.ssim_records.specs.Segment.{SegmentFields}
use Rattle.ssim_records.specs.declared.record.Record.{Record}
use Rattle.ssim_records.specs.declared.record.Record.TheVariants.{Header, Carrier, Leg, Segment, Trailer}
use Rattle.ssim_base.specs.Timetable.{Days, LegValue, Legs, itinerary, leg_of, period_of, placed, same_flight, same_name, tails_of}
use Rattle.ssim_schedule.specs.internal.LegKey.{IsPlaced, name_place}
use Rattle.ssim_schedule.specs.internal.TimetableBuilder.{IsBuilt, IsCut, LeavesOut, OpensGroup, PutsGroup, PutsLeg, TakesLeg, TakesSegment, days_with}
use Rattle.ssim_schedule.specs.internal.WantedDates.{IsPart, is_wanted, itinerary_wanted}
use Rattle.ssim_schedule.specs.internal.LegGroup.{Group, IsBound, StartsFrom, no_group, with_legs}
use Rattle.ssim_schedule.specs.clauses.PlacedLegs.{placed_each}
use Rattle.ssim_base.specs.ReadBack.{place_of}
use Rattle.ssim_base.proofs.Places.{same_flight-place}
use Rattle.ssim_schedule.specs.clauses.DivisionPoints.{is_point}
use Rattle.ssim_schedule.specs.internal.Table.{Table, table_cuts, table_days}
use Rattle.ssim_schedule.specs.internal.TableBuilder.{table_of}
use Rattle.ssim_schedule.specs.internal.PendingSegments.{waiting_at}
use Rattle.ssim_schedule.specs.declared.builder.table_builder.TableBuilder.{TableBuilder}
use Rattle.ssim_schedule.specs.declared.builder.timetable_builder.TimetableBuilder.{TimetableBuilder}
use Rattle.ssim_schedule.specs.declared.builder.leg_group.Heading.{Heading}
use Rattle.ssim_schedule.proofs.PlacedLegLemmas.{placed_more}

-- the records from the one before an index on
pub drop-before : (records : List Record) (place : ℕ) (one : Record) → 0 < place → place - 1 < length records → one ≡ get_or records (place - 1) one → drop (place - 1) records ≡ one ∷ drop place records
drop-before records place one some within is =
    let back : suc (place - 1) ≡ place = omega arith in
    drop-cons records (place - 1) one within ∙ ap (λ (r : Record). r ∷ drop (suc (place - 1)) records) (sym is) ∙ ap (λ (k : ℕ). one ∷ drop k records) back

parts_told : (x y v w s t : ℕ) → v < 100 → w < 100 → s < 100 → t < 100 → (x * 100 + v) * 100 + s ≡ (y * 100 + w) * 100 + t → (x ≡ y) × (v ≡ w) × (s ≡ t)
parts_told x y v w s t a b c d e = (omega arith, omega arith, omega arith)

-- the rank of a leg's name differs from that of any other name
pub same_name-place : (a b : Name) → IsPlaced a → IsPlaced b → same_name a b ≡ nat_eq (name_place a) (name_place b)
same_name-place a b p q = by (same_flight a.flight b.flight) refl
  where
    flights : same_flight a.flight b.flight ≡ nat_eq (place_of a.flight) (place_of b.flight)
    flights = same_flight-place a.flight b.flight p.flight q.flight

    by : (x : Bool) → same_flight a.flight b.flight ≡ x → (x && (nat_eq a.variation b.variation && nat_eq a.sequence b.sequence)) ≡ nat_eq (name_place a) (name_place b)
    by true e =
        let same : place_of a.flight ≡ place_of b.flight = grind (arith, nat_tests, flights) in
        rw same (grind (arith, nat_tests, p.variation, q.variation, p.sequence, q.sequence))
    by false e =
        let other : nat_eq (place_of a.flight) (place_of b.flight) ≡ false = sym flights ∙ e in
        sym (differ other)
      where
        differ : nat_eq (place_of a.flight) (place_of b.flight) ≡ false → nat_eq (name_place a) (name_place b) ≡ false
        differ other = elim (nat_eq (name_place a) (name_place b)) as (λ z. nat_eq (name_place a) (name_place b) ≡ z → z ≡ false) [
          | true ↦ λ t.
              let same : name_place a ≡ name_place b = grind (arith, nat_tests) in
              let parts = parts_told (place_of a.flight) (place_of b.flight) a.variation b.variation a.sequence b.sequence p.variation q.variation p.sequence q.sequence same in
              absurd (grind (arith, nat_tests, parts.0))
          | false ↦ λ f. refl
        ] refl

-- ---- a record more

eq-self : (n : ℕ) → nat_eq n n ≡ true
eq-self n = grind (arith, nat_tests)

or-true : (a b : Bool) → b ≡ true → (a || b) ≡ true
or-true true b h = refl
or-true false b h = h

-- a flight's itineraries once the legs of a group are put into a table
abbrev days_from : Table → Group → FlightNumber → Days
days_from t a g = with_legs a.heading a.legs g (table_days t g)

-- a cut of the flight in a table, or one that the legs of a group may add
abbrev IsCutIn : Table → Group → FlightNumber → ℕ → Type 0
IsCutIn t a g cut = Contains (table_cuts t g) cut ⊎ IsBound a.heading g cut

-- if table and group are the same, the cuts are
old_cut : (old new : TimetableBuilder) (g : FlightNumber) (cut : ℕ)
    → new.group ≡ old.group → new.table ≡ old.table → IsCut new g cut → IsCut old g cut
old_cut old new g cut group table has =
    subst (λ (a : Group). IsCutIn (table_of old.table) a g cut) group
    (subst (λ (t : TableBuilder). IsCutIn (table_of t) new.group g cut) table has)

module _ (wanted : Option (ℕ × ℕ)) where
  pub built-other : (b : TimetableBuilder) (r : Record) (done : List Record) → ((g : FlightNumber) (n : ℕ) → itinerary (r ∷ done) g n ≡ itinerary done g n) → ((n : Name) → tails_of n (r ∷ done) ≡ tails_of n done)
      → (wanted ≡ None → (g : FlightNumber) → IsFlight g → (cut : ℕ) → IsCut b g cut → IsTrue (list_any (is_point g cut) (r ∷ done))) → IsBuilt wanted b done → IsBuilt wanted b (r ∷ done)
  built-other b r done days tails points h = record {
    wants = h.wants;
    days = λ g is.
        h.days g is
        ∙ sym (each_day-same (itinerary_wanted wanted (r ∷ done) g) (itinerary_wanted wanted done g) (λ n l. ap (λ (legs : Legs). if is_wanted wanted n then legs else []) (days g n)));
    tails = λ n is. h.tails n is ∙ sym (tails n);
    cuts = points;
  }

  -- a record that is neither leg nor segment
  pub built-plain : (b : TimetableBuilder) (r : Record) (done : List Record) → ((x : HeaderFields) × (r ≡ Header x)) ⊎ ((x : CarrierFields) × (r ≡ Carrier x)) ⊎ ((x : TrailerFields) × (r ≡ Trailer x))
      → IsBuilt wanted b done → IsBuilt wanted b (r ∷ done)
  built-plain b r done (inl (x, is)) h = subst (λ r. IsBuilt wanted b (r ∷ done)) (sym is) (built-other b (Header x) done (λ g n. refl) (λ n. refl) h.cuts h)
  built-plain b r done (inr (inl (x, is))) h = subst (λ r. IsBuilt wanted b (r ∷ done)) (sym is) (built-other b (Carrier x) done (λ g n. refl) (λ n. refl) h.cuts h)
  built-plain b r done (inr (inr (x, is))) h = subst (λ r. IsBuilt wanted b (r ∷ done)) (sym is) (built-other b (Trailer x) done (λ g n. refl) (λ n. refl) h.cuts h)

  pub built-segment : (old new : TimetableBuilder) (r : SegmentFields) (done : List Record) → TakesSegment old new r → IsBuilt wanted old done → IsBuilt wanted new (Segment r ∷ done)
  built-segment old new r done t h = record {
    wants = t.wanted ∙ h.wants;
    days = λ g is. rw (t.group, t.table) (h.days g is ∙ sym (each_day-same (itinerary_wanted wanted (Segment r ∷ done) g) (itinerary_wanted wanted done g) (λ n l. refl)));
    tails = λ n is.
        t.tails (name_place n)
        ∙ ap (λ b. if b then r.tail ∷ waiting_at old.waiting (name_place n) else waiting_at old.waiting (name_place n)) (sym (same_name-place n r.name is t.named))
        ∙ ap (λ ts. if same_name n r.name then r.tail ∷ ts else ts) (h.tails n is);
    cuts = λ whole g is cut has. h.cuts whole g is cut (old_cut old new g cut t.group t.table has);
  }

  -- a leg of which no day is wanted, or whose wanted days are those on which it is put
  legs_on : (on wants : Bool) (leg : LegValue) (legs : Legs)
      → (if on && wants then placed leg (if wants then legs else []) else (if wants then legs else [])) ≡ (if wants then (if on then placed leg legs else legs) else [])
  legs_on true true leg legs = refl
  legs_on true false leg legs = refl
  legs_on false true leg legs = refl
  legs_on false false leg legs = refl

  pub built-leg : (old new : TimetableBuilder) (r : LegFields) (done : List Record) → TakesLeg old new r → IsBuilt wanted old done → IsBuilt wanted new (Leg r ∷ done)
  built-leg old new r done t h = record {
    wants = t.wanted ∙ h.wants;
    days = λ g is. one g is;
    tails = λ n is.
        t.tails (name_place n)
        ∙ ap (λ b. if b then [] else waiting_at old.waiting (name_place n)) (sym (same_name-place n r.name is t.named))
        ∙ ap (λ ts. if same_name n r.name then [] else ts) (h.tails n is);
    cuts = λ whole g is cut has. at_point whole g is cut (t.cuts (h.wants ∙ whole) g cut has);
  }
    where
      point : (g : FlightNumber) → IsFlight g → (cut : ℕ) → place_of r.name.flight ≡ place_of g → (nat_eq cut r.first || nat_eq cut ((period_of r).last + 1)) ≡ true
          → (is_point g cut (Leg r) || list_any (is_point g cut) done) ≡ true
      point g is cut same at =
          let flight : same_flight r.name.flight g ≡ true = same_flight-place r.name.flight g t.named.flight is ∙ ap (λ k. nat_eq k (place_of g)) same ∙ eq-self (place_of g) in
          rw (flight, at) refl

      at_point : wanted ≡ None → (g : FlightNumber) → IsFlight g → (cut : ℕ) → IsCut old g cut ⊎ ((place_of r.name.flight ≡ place_of g) × ((cut ≡ r.first) ⊎ (cut ≡ (period_of r).last + 1)))
          → (is_point g cut (Leg r) || list_any (is_point g cut) done) ≡ true
      at_point whole g is cut (inl has) = or-true (is_point g cut (Leg r)) (list_any (is_point g cut) done) (h.cuts whole g is cut has)
      at_point whole g is cut (inr (same, inl at)) = point g is cut same (rw (ap (λ n. nat_eq n r.first) at ∙ eq-self r.first) refl)
      at_point whole g is cut (inr (same, inr at)) = point g is cut same (or-true (nat_eq cut r.first) (nat_eq cut ((period_of r).last + 1)) (ap (λ n. nat_eq n ((period_of r).last + 1)) at ∙ eq-self ((period_of r).last + 1)))

      its : LegValue
      its = record { sequence = r.name.sequence; columns = r.columns; tails = waiting_at old.waiting (name_place r.name) }

      is_leg : its ≡ leg_of r done
      is_leg = ap (λ (ts : List (List ℕ)). record { sequence = r.name.sequence; columns = r.columns; tails = ts }) (h.tails r.name t.named)

      before : FlightNumber → ℕ → Legs
      before = itinerary_wanted wanted done

      is_on : ℕ → Bool
      is_on n = holds (period_of r) n && is_wanted wanted n

      choose : (b : Bool) (g : FlightNumber) → same_flight r.name.flight g ≡ b
          → (if b then changed_on is_on (placed (leg_of r done)) 0 (each_day (before g)) else each_day (before g)) ≡ each_day (itinerary_wanted wanted (Leg r ∷ done) g)
      choose true g e =
          changed_on-each_day is_on (placed (leg_of r done)) (before g)
          ∙ each_day-same (λ n. if is_on n then placed (leg_of r done) (before g n) else before g n) (itinerary_wanted wanted (Leg r ∷ done) g)
          (λ n l.
          legs_on (holds (period_of r) n) (is_wanted wanted n) (leg_of r done) (itinerary done g n)
          ∙ ap (λ b. if is_wanted wanted n then (if b && holds (period_of r) n then placed (leg_of r done) (itinerary done g n) else itinerary done g n) else []) (sym e))
      choose false g e =
          each_day-same (before g) (itinerary_wanted wanted (Leg r ∷ done) g)
          (λ n l. ap (λ b. if is_wanted wanted n then (if b && holds (period_of r) n then placed (leg_of r done) (itinerary done g n) else itinerary done g n) else []) (sym e))

      one : (g : FlightNumber) → IsFlight g → days_with new g ≡ each_day (itinerary_wanted wanted (Leg r ∷ done) g)
      one g is =
          t.days g
          ∙ ap (λ (w : Option (ℕ × ℕ)). if nat_eq (place_of r.name.flight) (place_of g) then changed_on (λ n. holds (period_of r) n && is_wanted w n) (placed its) 0 (days_with old g) else days_with old g) h.wants
          ∙ ap (λ b. if b then changed_on is_on (placed its) 0 (days_with old g) else days_with old g) (sym (same_flight-place r.name.flight g t.named.flight is))
          ∙ ap (λ (l : LegValue). if same_flight r.name.flight g then changed_on is_on (placed l) 0 (days_with old g) else days_with old g) is_leg
          ∙ ap (λ (ds : List Legs). if same_flight r.name.flight g then changed_on is_on (placed (leg_of r done)) 0 ds else ds) (h.days g is)
          ∙ choose (same_flight r.name.flight g) g refl

-- ---- the group

changed_twice : (s : ℕ → Bool) (after before : Legs → Legs) (n : ℕ) (days : Days)
    → changed_on s (λ legs. after (before legs)) n days
    ≡ changed_on s after n (changed_on s before n days)
changed_twice s after before n [] = refl
changed_twice s after before n (old ∷ days) =
    let rest = changed_on s after (n + 1) (changed_on s before (n + 1) days) in
    let later = changed_twice s after before (n + 1) days in
    ap (λ (ds : Days). (if s n then after (before old) else old) ∷ ds) later
    ∙ ap (λ (legs : Legs). legs ∷ rest) (by (s n))
  where
    by : (b : Bool) → (if b then after (before old) else old)
        ≡ (if b then after (if b then before old else old) else (if b then before old else old))
    by true = refl
    by false = refl

changed_not : (s : ℕ → Bool) (n : ℕ) (days : Days) → changed_on s (λ legs. legs) n days ≡ days
changed_not s n [] = refl
changed_not s n (old ∷ days) =
    ap (λ (legs : Legs). legs ∷ changed_on s (λ legs. legs) (n + 1) days) (by (s n))
    ∙ ap (λ (ds : Days). old ∷ ds) (changed_not s (n + 1) days)
  where
    by : (b : Bool) → (if b then old else old) ≡ old
    by true = refl
    by false = refl

-- one more leg before those of a group is put after them
pub one_more : (h : Heading) (l : LegValue) (legs : Legs) (g : FlightNumber) (days : Days)
    → StartsFrom l.sequence legs
    → with_legs (Some h) (l ∷ legs) g days
    ≡ (if nat_eq (place_of h.flight) (place_of g) then changed_on (holds h.period) (placed l) 0 (with_legs (Some h) legs g days) else with_legs (Some h) legs g days)
one_more h l legs g days starts = by (nat_eq (place_of h.flight) (place_of g))
  where
    more : placed_each (l ∷ legs) ≡ (λ others. placed l (placed_each legs others))
    more = λ i others. placed_more l legs others starts i

    before : Bool → Days
    before b = if b then changed_on (holds h.period) (placed_each legs) 0 days else days

    by : (b : Bool) → (if b then changed_on (holds h.period) (placed_each (l ∷ legs)) 0 days else days)
        ≡ (if b then changed_on (holds h.period) (placed l) 0 (before b) else before b)
    by true =
        ap (λ (after : Legs → Legs). changed_on (holds h.period) after 0 days) more
        ∙ changed_twice (holds h.period) (placed l) (placed_each legs) 0 days
    by false = refl

-- a group without legs puts nothing
pub none_yet : (heading : Option Heading) (g : FlightNumber) (days : Days) → with_legs heading [] g days ≡ days
none_yet None g days = refl
none_yet (Some h) g days = by (nat_eq (place_of h.flight) (place_of g))
  where
    by : (b : Bool) → (if b then changed_on (holds h.period) (placed_each []) 0 days else days) ≡ days
    by true = changed_not (holds h.period) 0 days
    by false = refl

-- the pending legs are put, and others can come
pub opened : (old put new : TimetableBuilder) (h : Heading) (sequence : ℕ) → PutsGroup old put → new.table ≡ put.table → new.waiting ≡ put.waiting → new.wanted ≡ put.wanted
    → new.group ≡ record { heading = Some h; legs = [] } → OpensGroup old new h sequence
opened old put new h sequence puts table waiting wanted group = record {
  heading = ap (λ (a : Group). a.heading) group;
  order = subst (λ (a : Group). StartsFrom sequence a.legs) (sym group) tt;
  days = λ g.
      ap (λ (a : Group). days_from (table_of new.table) a g) group
      ∙ none_yet (Some h) g (table_days (table_of new.table) g)
      ∙ ap (λ (t : TableBuilder). table_days (table_of t) g) table
      ∙ puts.days g;
  cuts = λ g cut has. by g cut has;
  waiting = waiting ∙ puts.waiting;
  wanted = wanted ∙ puts.wanted;
}
  where
    by : (g : FlightNumber) (cut : ℕ) → IsCut new g cut → IsCut old g cut ⊎ IsBound (Some h) g cut
    by g cut (inl has) =
        let has_cut : TableBuilder → Type 0 = λ t. Contains (table_cuts (table_of t) g) cut in
        inl (puts.cuts g cut (subst has_cut table has))
    by g cut (inr bound) = inr (subst (λ (a : Group). IsBound a.heading g cut) group bound)

-- a leg joins the pending legs
module _ (old opened new : TimetableBuilder) (h : Heading) (l : LegValue)
    (opens : OpensGroup old opened h l.sequence) (table : new.table ≡ opened.table)
    (group : new.group ≡ record { heading = opened.group.heading; legs = l ∷ opened.group.legs }) where
  pub joined_days : (g : FlightNumber) → days_with new g ≡ (if nat_eq (place_of h.flight) (place_of g) then changed_on (holds h.period) (placed l) 0 (days_with old g) else days_with old g)
  joined_days g =
      let legs = opened.group.legs in
      let more : Group = record { heading = opened.group.heading; legs = l ∷ legs } in
      let days = table_days (table_of opened.table) g in
      let is_its = nat_eq (place_of h.flight) (place_of g) in
      let placed_on = changed_on (holds h.period) (placed l) 0 in
      let before : with_legs (Some h) legs g days ≡ days_with old g =
      ap (λ (o : Option Heading). with_legs o legs g days) (sym opens.heading) ∙ opens.days g in
      ap (λ (a : Group). days_from (table_of new.table) a g) group
      ∙ ap (λ (t : TableBuilder). days_from (table_of t) more g) table
      ∙ ap (λ (o : Option Heading). with_legs o (l ∷ legs) g days) opens.heading
      ∙ one_more h l legs g days opens.order
      ∙ ap (λ (ds : Days). if is_its then placed_on ds else ds) before

  pub joined_cuts : (g : FlightNumber) (cut : ℕ) → IsCut new g cut → IsCut old g cut ⊎ IsBound (Some h) g cut
  joined_cuts g cut has =
      opens.cuts g cut
      (subst (λ (a : Group). IsCutIn (table_of opened.table) a g cut) group
      (subst (λ (t : TableBuilder). IsCutIn (table_of t) new.group g cut) table has))

pub same_period : (p : DayRange) (r : LegFields) (last : ℕ) → p.first ≡ r.first → p.last ≡ last → p.days ≡ r.days → r.last ≡ Some last → p ≡ period_of r
same_period p r last first end' days some =
    let known : last ≡ unwrap_or r.last 0 = rw some refl in
    let firsts : p ≡ record { first = r.first; last = p.last; days = p.days } = ap (λ (f : ℕ). record { first = f; last = p.last; days = p.days }) first in
    let lasts : record { first = r.first; last = p.last; days = p.days } ≡ record { first = r.first; last = unwrap_or r.last 0; days = p.days } = ap (λ (l : ℕ). record { first = r.first; last = l; days = p.days }) (end' ∙ known) in
    let masks : record { first = r.first; last = unwrap_or r.last 0; days = p.days } ≡ period_of r = ap (λ (d : List Bool). record { first = r.first; last = unwrap_or r.last 0; days = d }) days in
    firsts ∙ lasts ∙ masks

-- ---- the wanted dates of a leg

changed_none : (s : ℕ → Bool) (after : Legs → Legs) (n : ℕ) (days : Days) → ((k : ℕ) → s k ≡ false) → changed_on s after n days ≡ days
changed_none s after n [] none = refl
changed_none s after n (old ∷ days) none =
    ap (λ b. (if b then after old else old) ∷ changed_on s after (n + 1) days) (none n) ∙ ap (λ (ds : Days). old ∷ ds) (changed_none s after (n + 1) days none)

module _ (old new : TimetableBuilder) (r : LegFields) (period : DayRange) (is : period ≡ period_of r) where
  abbrev its : LegValue
  its = record { sequence = r.name.sequence; columns = r.columns; tails = waiting_at old.waiting (name_place r.name) }

  -- it is put on those of its period
  pub takes_part : (part : DayRange) → IsPart old.wanted period (Some part) → PutsLeg old new r part → TakesLeg old new r
  takes_part part of puts = record {
    named = puts.named;
    wanted = puts.wanted;
    days = λ g.
        puts.days g
        ∙ ap (λ (s : ℕ → Bool). if nat_eq (place_of r.name.flight) (place_of g) then changed_on s (placed its) 0 (days_with old g) else days_with old g) (λ i n. same n i);
    tails = puts.tails;
    cuts = λ whole g cut has. subst (λ (p : DayRange). IsCut old g cut ⊎ IsBound (Some (record { flight = r.name.flight; period = p })) g cut) (of.1 whole ∙ is) (puts.cuts g cut has);
  }
    where
      same : (n : ℕ) → holds part n ≡ (holds (period_of r) n && is_wanted old.wanted n)
      same n = of.0 n ∙ ap (λ (p : DayRange). holds p n && is_wanted old.wanted n) is

  -- no day of its period is wanted
  pub takes_none : IsPart old.wanted period None → LeavesOut old new r.name → TakesLeg old new r
  takes_none none leaves = record {
    named = leaves.named;
    wanted = leaves.wanted;
    days = λ g.
        ap (λ (a : Group). days_from (table_of new.table) a g) leaves.group
        ∙ ap (λ (t : TableBuilder). days_from (table_of t) old.group g) leaves.table
        ∙ sym (by (nat_eq (place_of r.name.flight) (place_of g)) (days_with old g));
    tails = leaves.tails;
    cuts = λ whole g cut has. inl (old_cut old new g cut leaves.group leaves.table has);
  }
    where
      is_on : ℕ → Bool
      is_on n = holds (period_of r) n && is_wanted old.wanted n

      by : (b : Bool) (days : Days) → (if b then changed_on is_on (placed its) 0 days else days) ≡ days
      by true days = changed_none is_on (placed its) 0 days (λ n. ap (λ (p : DayRange). holds p n && is_wanted old.wanted n) (sym is) ∙ none n)
      by false days = refl

-- ---- no records, and all

nothing : (none : Legs) (b : Bool) → none ≡ (if b then none else none)
nothing none true = refl
nothing none false = refl

-- a builder that is empty
pub none_built : (wanted : Option (ℕ × ℕ)) (b : TimetableBuilder) → b.wanted ≡ wanted
    → b.group ≡ no_group → table_of b.table ≡ [] → ((place : ℕ) → waiting_at b.waiting place ≡ [])
    → IsBuilt wanted b []
none_built wanted b wants group table tails = record {
  wants = wants;
  days = λ g is.
      ap (λ (a : Group). days_from (table_of b.table) a g) group
      ∙ ap (λ (t : Table). table_days t g) table
      ∙ each_day-same (λ n. []) (itinerary_wanted wanted [] g) (λ n l. nothing [] (is_wanted wanted n));
  tails = λ n is. tails (name_place n);
  cuts = λ whole g is cut has.
      no_cut g cut
      (subst (λ (a : Group). IsCutIn [] a g cut) group
      (subst (λ (t : Table). IsCutIn t b.group g cut) table has));
}
  where
    no_cut : (g : FlightNumber) (cut : ℕ) → Contains [] cut ⊎ ⊥ → IsTrue (list_any (is_point g cut) [])
    no_cut g cut (inl (i, low, at)) = absurd (omega (arith, low))
    no_cut g cut (inr never) = absurd never

-- the records of a whole base are put before no others
pub built_all : (wanted : Option (ℕ × ℕ)) (b : TimetableBuilder) (rs : List Record) → IsBuilt wanted b (rs ++ []) → IsBuilt wanted b rs
built_all wanted b rs = subst (λ (done : List Record). IsBuilt wanted b done) (append-nil rs)
