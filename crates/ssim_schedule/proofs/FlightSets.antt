-- Records of other flights change no itinerary of a flight. If the flight is not in the set,
-- leaving records out changes none either.
use Rattle.std.proofs.Common.{◌≡◌, ◌≢◌, ℕ, zero, suc, ◌+◌, ◌<◌, Bool, true, false, cond, ◌&&◌, ◌||◌, nat_eq, if◌then◌else◌, List, [], ◌∷◌, ◌++◌, length, take, set, get_or, slice_index_or, replicate, refl, sym, ap, ◌∙◌, arith}
use Rattle.std.proofs.lemmas.Bool.Decides.{nat_tests}
use Rattle.std.proofs.lemmas.Grind.{get_or-set_at}
use Rattle.std.proofs.lemmas.List.{get_or-set_other}
use Rattle.std.proofs.lemmas.List.Folds.{list_any_more}
use Rattle.std.specs.List.{filter, list_any}
use Rattle.ssim_values.specs.Flight.{FlightNumber, IsFlight}
use Rattle.ssim_periods.specs.Calendar.{holds}
use Rattle.ssim_periods.specs.Days.{each_day}
use Rattle.ssim_periods.proofs.DayLemmas.{each_day-same}
use Rattle.ssim_records.specs.Leg.{Name}
use Rattle.ssim_records.specs.declared.record.Record.{Record}
use Rattle.ssim_records.specs.declared.record.Record.TheVariants.{Header, Carrier, Leg, Segment, Trailer}
use Rattle.ssim_schedule.specs.clauses.DivisionPoints.{AreAtPoints, is_point}
use Rattle.ssim_schedule.specs.internal.FlightSet.{is_marked, is_record_of}
use Rattle.ssim_base.specs.ReadBack.{place_of}
use Rattle.ssim_base.specs.Timetable.{LegValue, Legs, days_of, is_among, itinerary, leg_of}
use Rattle.ssim_base.specs.Timetable.{period_of, placed, same_flight, same_name, tails_of}
use Rattle.ssim_base.specs.clauses.Timetable.{itinerary_among}
use Rattle.ssim_base.proofs.Places.{same-true, same_flight-place}

-- ---- marks

pub no_mark : (n i : ℕ) → slice_index_or (replicate n false) i false ≡ false
no_mark zero i = refl
no_mark (suc n) zero = refl
no_mark (suc n) (suc i) = no_mark n i

or-true : (b : Bool) → (b || true) ≡ true
or-true true = refl
or-true false = refl

or-false : (b : Bool) → (b || false) ≡ b
or-false true = refl
or-false false = refl

-- one more flight is marked
pub marked_more : (marks : List Bool) (fs : List FlightNumber) (i : ℕ) (f : FlightNumber) (p : ℕ) → p < length marks → i < length fs → f ≡ get_or fs i f → IsFlight f → p ≡ place_of f
    → ((g : FlightNumber) → IsFlight g → is_marked marks g ≡ is_among (take i fs) g) → (g : FlightNumber) → IsFlight g → is_marked (set marks p true) g ≡ is_among (take (i + 1) fs) g
marked_more marks fs i f p low within is is_flight at earlier g exists = by (nat_eq (place_of g) p) refl
  where
    same : same_flight g (get_or fs i f) ≡ nat_eq (place_of g) p
    same = ap (same_flight g) (sym is) ∙ same_flight-place g f exists is_flight ∙ ap (nat_eq (place_of g)) (sym at)

    more : (b : Bool) → nat_eq (place_of g) p ≡ b → is_among (take (i + 1) fs) g ≡ (is_among (take i fs) g || b)
    more b e = list_any_more (same_flight g) fs i f within ∙ ap (λ c. is_among (take i fs) g || c) (same ∙ e)

    by : (b : Bool) → nat_eq (place_of g) p ≡ b → is_marked (set marks p true) g ≡ is_among (take (i + 1) fs) g
    by true e =
        let here : place_of g ≡ p = grind (arith, nat_tests) in
        get_or-set_at marks p (place_of g) true false here low ∙ sym (more true e ∙ or-true (is_among (take i fs) g))
    by false e =
        let there : place_of g ≢ p = λ h. (let yes : nat_eq (place_of g) p ≡ true = grind (arith, nat_tests) in clash (sym yes ∙ e)) in
        get_or-set_other marks p (place_of g) true false there ∙ earlier g exists ∙ sym (more false e ∙ or-false (is_among (take i fs) g))
      where
        clash : true ≡ false → ⊥
        clash e = cc

-- ---- records of the flights of a set

module _ (p : FlightNumber → Bool) where
  abbrev those : List Record → List Record
  those = filter (is_record_of p)

  -- a record of a flight that is not in the set has another name than a leg of a flight in it
  other_name : (name other : Name) → p name.flight ≡ true → p other.flight ≡ false → same_name name other ≡ false
  other_name name other is is_not = by (same_flight name.flight other.flight) refl
    where
      by : (b : Bool) → same_flight name.flight other.flight ≡ b → (b && (nat_eq name.variation other.variation && nat_eq name.sequence other.sequence)) ≡ false
      by true e = let f = same-true name.flight other.flight e in absurd (clash (sym is ∙ ap p f ∙ is_not))
        where
          clash : true ≡ false → ⊥
          clash e = cc
      by false e = refl

  pub tails_kept : (name : Name) (rs : List Record) → p name.flight ≡ true → tails_of name (those rs) ≡ tails_of name rs
  tails_kept name [] is = refl
  tails_kept name (Header r ∷ later) is = tails_kept name later is
  tails_kept name (Carrier r ∷ later) is = tails_kept name later is
  tails_kept name (Trailer r ∷ later) is = tails_kept name later is
  tails_kept name (Leg r ∷ later) is = by (p r.name.flight) refl (tails_kept name later is)
    where
      by : (b : Bool) → p r.name.flight ≡ b → tails_of name (those later) ≡ tails_of name later → tails_of name (cond b (Leg r ∷ those later) (those later)) ≡ tails_of name (Leg r ∷ later)
      by true e rest = ap (λ (ts : List (List ℕ)). if same_name name r.name then [] else ts) rest
      by false e rest = rest ∙ ap (λ b. if b then [] else tails_of name later) (sym (other_name name r.name is e))
  tails_kept name (Segment r ∷ later) is = by (p r.name.flight) refl (tails_kept name later is)
    where
      by : (b : Bool) → p r.name.flight ≡ b → tails_of name (those later) ≡ tails_of name later → tails_of name (cond b (Segment r ∷ those later) (those later)) ≡ tails_of name (Segment r ∷ later)
      by true e rest = ap (λ (ts : List (List ℕ)). if same_name name r.name then r.tail ∷ ts else ts) rest
      by false e rest = rest ∙ ap (λ b. if b then r.tail ∷ tails_of name later else tails_of name later) (sym (other_name name r.name is e))

  no_legs : (b : Bool) (legs : Legs) → legs ≡ [] → legs ≡ (if b then legs else [])
  no_legs true legs e = refl
  no_legs false legs e = e

  -- the itinerary of a flight in the set is the same, and a flight that is not in it has none
  pub itinerary_kept : (rs : List Record) (g : FlightNumber) (n : ℕ) → itinerary (those rs) g n ≡ (if p g then itinerary rs g n else [])
  itinerary_kept [] g n = no_legs (p g) [] refl
  itinerary_kept (Header r ∷ later) g n = itinerary_kept later g n
  itinerary_kept (Carrier r ∷ later) g n = itinerary_kept later g n
  itinerary_kept (Trailer r ∷ later) g n = itinerary_kept later g n
  itinerary_kept (Segment r ∷ later) g n = by (p r.name.flight) (itinerary_kept later g n)
    where
      by : (b : Bool) → itinerary (those later) g n ≡ (if p g then itinerary later g n else []) → itinerary (cond b (Segment r ∷ those later) (those later)) g n ≡ (if p g then itinerary later g n else [])
      by true rest = rest
      by false rest = rest
  itinerary_kept (Leg r ∷ later) g n = by (p r.name.flight) (same_flight r.name.flight g) refl refl (itinerary_kept later g n)
    where
      on : Bool
      on = holds (period_of r) n

      leg : p r.name.flight ≡ true → leg_of r (those later) ≡ leg_of r later
      leg e = ap (λ (ts : List (List ℕ)). record { sequence = r.name.sequence; columns = r.columns; tails = ts }) (tails_kept r.name later e)

      by : (b s : Bool) → p r.name.flight ≡ b → same_flight r.name.flight g ≡ s → itinerary (those later) g n ≡ (if p g then itinerary later g n else [])
          → itinerary (cond b (Leg r ∷ those later) (those later)) g n ≡ (if p g then (if s && on then placed (leg_of r later) (itinerary later g n) else itinerary later g n) else [])
      by true true e f rest =
          let is : p g ≡ true = sym (ap p (same-true r.name.flight g f)) ∙ e in
          ap (λ b. if b && on then placed (leg_of r (those later)) (itinerary (those later) g n) else itinerary (those later) g n) f
          ∙ ap (λ (l : LegValue). if on then placed l (itinerary (those later) g n) else itinerary (those later) g n) (leg e)
          ∙ ap (λ (ls : Legs). if on then placed (leg_of r later) ls else ls) (rest ∙ ap (λ b. if b then itinerary later g n else []) is)
          ∙ ap (λ b. if b then (if on then placed (leg_of r later) (itinerary later g n) else itinerary later g n) else []) (sym is)
      by true false e f rest = ap (λ b. if b && on then placed (leg_of r (those later)) (itinerary (those later) g n) else itinerary (those later) g n) f ∙ rest
      by false true e f rest =
          let is_not : p g ≡ false = sym (ap p (same-true r.name.flight g f)) ∙ e in
          rest
          ∙ ap (λ b. if b then itinerary later g n else []) is_not
          ∙ ap (λ b. if b then (if on then placed (leg_of r later) (itinerary later g n) else itinerary later g n) else []) (sym is_not)
      by false false e f rest = rest

  -- the division points of a flight of the set are the same, and a flight that is not in it has none
  points_kept : (rs : List Record) (g : FlightNumber) (day : ℕ) → list_any (is_point g day) (those rs) ≡ (p g && list_any (is_point g day) rs)
  points_kept [] g day = none (p g)
    where
      none : (b : Bool) → false ≡ (b && false)
      none true = refl
      none false = refl
  points_kept (Header r ∷ later) g day = points_kept later g day
  points_kept (Carrier r ∷ later) g day = points_kept later g day
  points_kept (Trailer r ∷ later) g day = points_kept later g day
  points_kept (Segment r ∷ later) g day = by (p r.name.flight) (points_kept later g day)
    where
      by : (b : Bool) → list_any (is_point g day) (those later) ≡ (p g && list_any (is_point g day) later)
          → list_any (is_point g day) (cond b (Segment r ∷ those later) (those later)) ≡ (p g && list_any (is_point g day) later)
      by true rest = rest
      by false rest = rest
  points_kept (Leg r ∷ later) g day = by (p r.name.flight) (same_flight r.name.flight g) refl refl (points_kept later g day)
    where
      at : Bool
      at = nat_eq day r.first || nat_eq day ((period_of r).last + 1)

      any : Bool
      any = list_any (is_point g day) later

      by : (b s : Bool) → p r.name.flight ≡ b → same_flight r.name.flight g ≡ s → list_any (is_point g day) (those later) ≡ (p g && any)
          → list_any (is_point g day) (cond b (Leg r ∷ those later) (those later)) ≡ (p g && ((same_flight r.name.flight g && at) || any))
      by true true e f rest =
          let is : p g ≡ true = sym (ap p (same-true r.name.flight g f)) ∙ e in
          ap (λ x. (same_flight r.name.flight g && at) || x) (rest ∙ ap (λ b. b && any) is)
          ∙ ap (λ b. b && ((same_flight r.name.flight g && at) || any)) (sym is)
      by true false e f rest =
          ap (λ s. (s && at) || list_any (is_point g day) (those later)) f
          ∙ rest ∙ ap (λ s. p g && ((s && at) || any)) (sym f)
      by false true e f rest =
          let is_not : p g ≡ false = sym (ap p (same-true r.name.flight g f)) ∙ e in
          rest ∙ ap (λ b. b && any) is_not ∙ ap (λ b. b && ((same_flight r.name.flight g && at) || any)) (sym is_not)
      by false false e f rest = rest ∙ ap (λ s. p g && ((s && at) || any)) (sym f)

  -- division points among the records of the set are some among all records
  pub all_points : (rs : List Record) (g : FlightNumber) (cuts : List ℕ) → AreAtPoints cuts g (those rs) → AreAtPoints cuts g rs
  all_points rs g cuts are cut has = second (p g) _ (sym (points_kept rs g cut) ∙ are cut has)
    where
      second : (a b : Bool) → (a && b) ≡ true → b ≡ true
      second true b h = h
      second false b h = absurd (let never : false ≡ true = h in cc)

  -- a flight that is not in the set has no cuts
  pub no_points : (rs : List Record) (g : FlightNumber) (cuts : List ℕ) → p g ≡ false → AreAtPoints cuts g (those rs) → cuts ≡ []
  no_points rs g [] is_not are = refl
  no_points rs g (cut ∷ cuts) is_not are =
      let never : true ≡ false = sym (are cut (0, omega arith, refl)) ∙ points_kept rs g cut ∙ ap (λ b. b && list_any (is_point g cut) rs) is_not in
      absurd (let clash : true ≡ false = never in cc)

-- a flight of the list has in the records of their set the days that it has in all records
pub days_kept : (marks : List Bool) (flights : List FlightNumber) (rs : List Record) (g : FlightNumber) → is_marked marks g ≡ is_among flights g
    → days_of (filter (is_record_of (is_marked marks)) rs) g ≡ each_day (itinerary_among flights rs g)
days_kept marks flights rs g same =
    each_day-same (itinerary (filter (is_record_of (is_marked marks)) rs) g) (itinerary_among flights rs g)
    (λ n within. itinerary_kept (is_marked marks) rs g n ∙ ap (λ b. if b then itinerary rs g n else []) same)

-- ---- one record more

-- a record is put if it is of a flight of the set
module _ (p : FlightNumber → Bool) (r : Record) (rest done : List Record) where
  pub one_kept : is_record_of p r ≡ true → r ∷ (filter (is_record_of p) rest ++ done) ≡ filter (is_record_of p) (r ∷ rest) ++ done
  one_kept e = ap (λ b. cond b (r ∷ filter (is_record_of p) rest) (filter (is_record_of p) rest) ++ done) (sym e)

  pub one_left_out : is_record_of p r ≡ false → filter (is_record_of p) rest ++ done ≡ filter (is_record_of p) (r ∷ rest) ++ done
  one_left_out e = ap (λ b. cond b (r ∷ filter (is_record_of p) rest) (filter (is_record_of p) rest) ++ done) (sym e)
