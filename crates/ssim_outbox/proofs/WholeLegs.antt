-- A whole new itinerary has the lines of NEW or RPL with their segments in the order of the legs,
-- which makes the same legs.
use Rattle.std.proofs.Common.{◌≡◌, ◌≤◌, ◌<◌, ◌+◌, ◌∙◌, ℕ, List, [], ◌∷◌, ◌++◌, length, refl, sym, ap, subst}
use Rattle.std.proofs.Common.{arith, Option, Some, None, lit<, lit≤, Bool, true, false}
use Rattle.std.proofs.Common.{if◌then◌else◌, nat_eq}
use Rattle.std.specs.List.{AllByRecursion, AllZip, flat_map}
use Rattle.ssim_values.specs.Variation.{Offset}
use Rattle.ssim_columns.specs.Leg.{leg_columns, spread}
use Rattle.ssim_columns.specs.LegParts as leg
use Rattle.ssim_columns.specs.LegParts.{new_leg, station_columns}
use Rattle.ssim_columns.proofs.lemmas.LegChanges.{length_stations}
use Rattle.ssim_columns.proofs.lemmas.Rows.{same_columns}
use Rattle.ssim_text.specs.Grammar.{IsEquipment, IsLegLine, IsSegmentLine, flies}
use Rattle.ssim_text.specs.Values.{EquipmentValue}
use Rattle.ssim_text.specs.declared.action.Action.{Action}
use Rattle.ssim_text.specs.declared.action.Action.TheVariants.{New, Rpl}
use Rattle.ssim_text.specs.declared.action.NewLegs.{NewLegs}
use Rattle.ssim_text.specs.declared.leg.LegLine.{LegLine}
use Rattle.ssim_text.specs.declared.segment.SegmentLine.{SegmentLine}
use Rattle.ssim_text.proofs.Runs.{none_some, some_same}
use Rattle.ssim_base.specs.Stations.{Row}
use Rattle.ssim_base.specs.Timetable.{LegValue, Legs}
use Rattle.ssim_schedule.specs.Effect.{Variations, create, joined, leg_at, legs_from, new_legs}
use Rattle.ssim_schedule.specs.Effect.{replace, tail_at, tails_for, variation_on, with_tail}
use Rattle.ssim_schedule.specs.MessageColumns.{equipment_of, new_columns, segment_tail, stations_of}
use Rattle.ssim_schedule.specs.MessageColumns.{times_of}
use Rattle.ssim_outbox.specs.Reach.{after_all}
use Rattle.ssim_outbox.specs.Sayable.{AreNewLegs, IsWhole}
use Rattle.ssim_outbox.specs.internal.Candidates.{Makes}
use Rattle.ssim_outbox.specs.internal.ColumnLines.{FirstHas, HasEquipment, HasLine, HasSegment}
use Rattle.ssim_outbox.specs.internal.ColumnLines.{HaveLines}
use Rattle.ssim_outbox.specs.declared.candidates.Candidate.TheVariants as candidate
use Rattle.ssim_outbox.proofs.Closed.{line_stations}
use Rattle.ssim_outbox.proofs.ColumnLines.{equipped_has}
use Rattle.ssim_outbox.proofs.Columns.{AreStations, equipment_changed, length_new, new_arrival}
use Rattle.ssim_outbox.proofs.Columns.{new_departure, times_changed}
use Rattle.ssim_outbox.proofs.Grouped.{all_grouped, grouped, grouped_few, grouped_tails, own}
use Rattle.ssim_outbox.proofs.Grouped.{own_at, pair_of}

-- ---- each leg

module _ (here there : Offset) (line : LegLine) (e : EquipmentValue) (is : IsLegLine line) where
  are : AreStations (stations_of here there line)
  are = let h = line_stations line is in record { departure = h.0; arrival = h.1 }

  new_has : HasLine line (new_columns here there line e)
  unfolding new_leg
  new_has =
      let s = stations_of here there line in
      let t = times_of line in
      let f = equipment_of e in
      let base = station_columns s in
      let timed = leg.with_times t base in
      let x = leg.with_equipment f timed in
      let c = equipment_changed f timed (length_new s t are) in
      let d = times_changed t base (length_stations s are.departure are.arrival) in
      let same : (first last : ℕ) → 36 < first → first ≤ last → last ≤ 72
      → leg_columns first last x ≡ leg_columns first last timed =
      λ first last low le high. same_columns (spread x) (spread timed) 36 72 first last
      c.columns_37_to_72 low le high in
      record {
        is_line = is;
        departure = new_departure s t f are;
        passenger_departure = same 40 43 (lit< tt) (lit≤ tt) (lit≤ tt) ∙ d.passenger_departure;
        aircraft_departure = same 44 47 (lit< tt) (lit≤ tt) (lit≤ tt) ∙ d.aircraft_departure;
        arrival = new_arrival s t f are;
        aircraft_arrival = same 58 61 (lit< tt) (lit≤ tt) (lit≤ tt) ∙ d.aircraft_arrival;
        passenger_arrival = same 62 65 (lit< tt) (lit≤ tt) (lit≤ tt) ∙ d.passenger_arrival;
        variations = c.columns_193_to_194 ∙ d.date_variations;
      }

  new_equipment : IsEquipment e → HasEquipment e (new_columns here there line e)
  unfolding new_leg
  new_equipment is_equipment =
      let s = stations_of here there line in
      let t = times_of line in
      equipped_has e (leg.with_times t (station_columns s)) is_equipment (length_new s t are)

-- the leg is made of leg line i
record IsMade (new : NewLegs) (i : ℕ) (line : LegLine) (leg : LegValue) : Type 0 where
  here : Offset
  there : Offset
  columns : leg.columns ≡ new_columns here there line new.equipment
  tails : leg.tails ≡ tails_for i new.legs new.segments

-- the legs are made of the leg lines from line i on
abbrev MadeFrom : NewLegs → ℕ → List LegLine → Legs → Type 0
MadeFrom new i [] [] = Unit {0}
MadeFrom new i [] (leg ∷ legs) = ⊥
MadeFrom new i (line ∷ lines) [] = ⊥
MadeFrom new i (line ∷ lines) (leg ∷ legs) = IsMade new i line leg × MadeFrom new (i + 1) lines legs

leg_made : (here there : Option Offset) (i : ℕ) (line : LegLine) (new : NewLegs) (leg : LegValue)
    → leg_at here there i line new ≡ Some leg → IsMade new i line leg
leg_made None there i line new leg h = absurd (none_some leg h)
leg_made (Some here) None i line new leg h = absurd (none_some leg h)
leg_made (Some here) (Some there) i line new leg h =
    let same = some_same _ leg h in
    record {
      here = here;
      there = there;
      columns = ap (λ (l : LegValue). l.columns) (sym same);
      tails = ap (λ (l : LegValue). l.tails) (sym same);
    }

joined_some : (leg : Option LegValue) (legs : Option Legs) (all : Legs) → joined leg legs ≡ Some all
    → (first : LegValue) × (later : Legs) × (leg ≡ Some first) × (legs ≡ Some later)
    × (first ∷ later ≡ all)
joined_some None legs all h = absurd (none_some all h)
joined_some (Some leg) None all h = absurd (none_some all h)
joined_some (Some leg) (Some legs) all h = (leg, legs, refl, refl, some_same (leg ∷ legs) all h)

made_from : (v : Variations) (new : NewLegs) (i : ℕ) (lines : List LegLine) (legs : Legs)
    → legs_from v new i lines ≡ Some legs → MadeFrom new i lines legs
made_from v new i [] legs h = subst (MadeFrom new i []) (some_same [] legs h) tt
made_from v new i (line ∷ lines) legs h =
    let here = v line.departure.station in let there = v line.arrival.station in
    let p = joined_some (leg_at here there i line new) (legs_from v new (i + 1) lines) legs h in
    subst (MadeFrom new i (line ∷ lines)) p.4
    (leg_made here there i line new p.0 p.2, made_from v new (i + 1) lines p.1 p.3)

-- ---- the lines

lines_have : (new : NewLegs) (i : ℕ) (lines : List LegLine) (legs : Legs)
    → AllByRecursion IsLegLine lines → MadeFrom new i lines legs
    → AllZip (λ line leg. HasLine line leg.columns) lines legs
lines_have new i [] [] are m = tt
lines_have new i [] (leg ∷ legs) are m = absurd m
lines_have new i (line ∷ lines) [] are m = absurd m
lines_have new i (line ∷ lines) (leg ∷ legs) are m =
    let x = m.0 in (
      subst (HasLine line) (sym x.columns) (new_has x.here x.there line new.equipment are.0),
      lines_have new (i + 1) lines legs are.1 m.1,
    )

-- the segments whose pairs of points begin with a leg give its tails
own_have : (i : ℕ) (legs : List LegLine) (segments : List SegmentLine)
    → AllByRecursion IsSegmentLine segments
    → AllZip HasSegment (own i legs segments) (tails_for i legs segments)
own_have i legs [] are = tt
own_have i legs (s ∷ segments) are = by (pair_of legs s) (own_have i legs segments are.1)
  where
    now : List SegmentLine
    now = own i legs segments

    tails : List (List ℕ)
    tails = tails_for i legs segments

    if_own : (b : Bool) (j k : ℕ) → AllZip HasSegment now tails
        → AllZip HasSegment (if b then s ∷ now else now)
        (with_tail (if b then Some (segment_tail j k s) else None) tails)
    if_own true j k later =
        (record { is_line = are.0; points = (65 + j) ∷ (66 + k) ∷ []; made = refl }, later)
    if_own false j k later = later

    by : (pair : Option (ℕ × ℕ)) → AllZip HasSegment now tails
        → AllZip HasSegment (own_at pair i s now) (with_tail (tail_at i s pair) tails)
    by None later = later
    by (Some pair) later = if_own (nat_eq pair.0 i) pair.0 pair.1 later

-- the segments of each leg from leg i on, as many legs as there are lines
abbrev groups : ℕ → List LegLine → List LegLine → List SegmentLine → List (List SegmentLine)
groups i [] legs segments = []
groups i (line ∷ lines) legs segments = own i legs segments ∷ groups (i + 1) lines legs segments

groups_joined : (i : ℕ) (lines legs : List LegLine) (segments : List SegmentLine)
    → grouped i lines legs segments ≡ flat_map (λ own. own) (groups i lines legs segments)
groups_joined i [] legs segments = refl
groups_joined i (line ∷ lines) legs segments =
    ap (λ (later : List SegmentLine). own i legs segments ++ later)
    (groups_joined (i + 1) lines legs segments)

tails_have : (new : NewLegs) (i : ℕ) (lines : List LegLine) (legs : Legs)
    → AllByRecursion IsSegmentLine new.segments → MadeFrom new i lines legs
    → AllZip (λ own leg. AllZip HasSegment own leg.tails) (groups i lines new.legs new.segments) legs
tails_have new i [] [] are m = tt
tails_have new i [] (leg ∷ legs) are m = absurd m
tails_have new i (line ∷ lines) [] are m = absurd m
tails_have new i (line ∷ lines) (leg ∷ legs) are m = (
  subst (AllZip HasSegment (own i new.legs new.segments)) (sym m.0.tails)
      (own_have i new.legs new.segments are),
  tails_have new (i + 1) lines legs are m.1,
)

first_has : (new : NewLegs) (lines : List LegLine) (legs : Legs) → 1 ≤ length lines
    → IsEquipment new.equipment → AllByRecursion IsLegLine lines → MadeFrom new 0 lines legs
    → FirstHas new.equipment legs
first_has new [] legs some is are m = absurd (omega (arith, some))
first_has new (line ∷ lines) [] some is are m = absurd m
first_has new (line ∷ lines) (leg ∷ legs) some is are m =
    let x = m.0 in
    subst (HasEquipment new.equipment) (sym x.columns)
    (new_equipment x.here x.there line new.equipment are.0 is)

-- ---- the segments in the order of the legs

-- the new legs with their segments in this order
abbrev in_order : NewLegs → NewLegs
in_order new = record new { segments = grouped 0 new.legs new.legs new.segments }

ordered : (new : NewLegs) → AreNewLegs new → AreNewLegs (in_order new)
ordered new h =
    let few = grouped_few 0 new.legs new.legs new.segments in
    let most = h.allowed.segments in
    record {
      allowed = record {
        some = h.allowed.some;
        legs = h.allowed.legs;
        segments = omega (arith, few, most);
        flown = all_grouped (λ s. flies new.legs s ≡ true) 0 new.legs new.legs new.segments
            h.allowed.flown;
      };
      equipment = h.equipment;
      legs = h.legs;
      segments = all_grouped IsSegmentLine 0 new.legs new.legs new.segments
          h.segments;
    }

leg_ordered : (here there : Option Offset) (i : ℕ) (line : LegLine) (new : NewLegs)
    → i < length new.legs → leg_at here there i line (in_order new) ≡ leg_at here there i line new
leg_ordered None there i line new h = refl
leg_ordered (Some here) None i line new h = refl
leg_ordered (Some here) (Some there) i line new h =
    ap (λ (tails : List (List ℕ)). Some (record {
      sequence = i + 1;
      columns = new_columns here there line new.equipment;
      tails = tails;
    })) (grouped_tails 0 i new.legs new.legs new.segments (omega arith) (omega (arith, h)))

legs_ordered : (v : Variations) (new : NewLegs) (i : ℕ) (lines : List LegLine)
    → i + length lines ≤ length new.legs
    → legs_from v (in_order new) i lines ≡ legs_from v new i lines
legs_ordered v new i [] h = refl
legs_ordered v new i (line ∷ lines) h = λ k.
    joined (leg_ordered (v line.departure.station) (v line.arrival.station) i line new
    (omega (arith, h)) k)
    (legs_ordered v new (i + 1) lines (omega (arith, h)) k)

-- ---- the new legs

legs_have : (rows : List Row) (day : ℕ) (legs : Legs) (w : IsWhole rows day legs)
    → HaveLines (in_order w.new) legs
legs_have rows day legs w =
    let new = w.new in
    let are = w.are_new in
    let m = made_from (variation_on rows day) new 0 new.legs legs w.made in
    record {
      equipment = first_has new new.legs legs are.allowed.some are.equipment are.legs m;
      lines = lines_have new 0 new.legs legs are.legs m;
      segments = groups 0 new.legs new.legs new.segments;
      in_order = groups_joined 0 new.legs new.legs new.segments;
      tails = tails_have new 0 new.legs legs are.segments m;
    }

legs_of : (rows : List Row) (day : ℕ) (legs : Legs) (w : IsWhole rows day legs)
    → new_legs (variation_on rows day) (in_order w.new) ≡ Some legs
legs_of rows day legs w =
    legs_ordered (variation_on rows day) w.new 0 w.new.legs (omega arith) ∙ w.made

-- new legs whose lines the legs have, and with which an action makes them of the old itinerary
pub record MakesBy (rows : List Row) (day : ℕ) (action : NewLegs → Action) (old legs : Legs) : Type 0 where
  pub new : NewLegs
  pub are : AreNewLegs new
  pub have : HaveLines new legs
  pub made : after_all rows day (action new ∷ []) old ≡ legs

pub new_make : (rows : List Row) (day : ℕ) (old legs : Legs)
    → Makes rows day candidate.NewFlight old legs → MakesBy rows day New old legs
new_make rows day old legs m =
    let w = m.1 in
    let all = new_legs (variation_on rows day) (in_order w.new) in
    record {
      new = in_order w.new;
      are = ordered w.new w.are_new;
      have = legs_have rows day legs w;
      made = ap (λ (o : Legs). (create all o).0) m.0
          ∙ ap (λ (o : Option Legs). (create o []).0) (legs_of rows day legs w);
    }

pub rpl_make : (rows : List Row) (day : ℕ) (old legs : Legs)
    → Makes rows day candidate.Replacement old legs → MakesBy rows day Rpl old legs
rpl_make rows day [] legs w = absurd w
rpl_make rows day (first ∷ old) legs w = record {
  new = in_order w.new;
  are = ordered w.new w.are_new;
  have = legs_have rows day legs w;
  made = ap (λ (o : Option Legs). (replace o (first ∷ old)).0) (legs_of rows day legs w);
}
