-- The reason of a date stays the same while the UTC variations of the stations of the new legs do.
use Rattle.std.proofs.Common.{◌≡◌, ◌∙◌, ℕ, ◌+◌, ◌-◌, ◌<◌, ◌≤◌, Bool, true, false, ◌&&◌, ◌||◌, nat_le}
use Rattle.std.proofs.Common.{if◌then◌else◌, List, [], ◌∷◌, ◌++◌, length, refl, sym, ap, ap₂, arith}
use Rattle.std.proofs.Common.{Option, Some, bytes_eq}
use Rattle.std.specs.Prelude.{codes, slice_get}
use Rattle.std.specs.List.{AllByRecursion}
use Rattle.std.proofs.lemmas.Bool.Decides.{nat_tests}
use Rattle.std.proofs.lemmas.Slice.Eq.{bytes_eq-Decides}
use Rattle.ssim_values.specs.Variation.{Offset}
use Rattle.ssim_columns.specs.Leg.{leg_columns}
use Rattle.ssim_base.specs.Stations.{Row, covers, variation_at}
use Rattle.ssim_base.specs.Timetable.{LegValue, Legs}
use Rattle.ssim_outbox.specs.Reason.{Change, after_sequence, arrival_words, departure_words, first_columns, later_words}
use Rattle.ssim_outbox.specs.Reason.{are_numbered, legs_words, late_words, or_other}
use Rattle.ssim_outbox.specs.Reason.{reason_words, wanted}
use Rattle.ssim_outbox.specs.Route.{same_route}
use Rattle.ssim_outbox.specs.declared.wanted_leg.WantedLeg.{WantedLeg}
use Rattle.ssim_outbox.specs.internal.ReasonPieces.{HaveOneVariation, IsSteady, flies_at}
use Rattle.ssim_outbox.specs.internal.ReasonPieces.{has_day, has_station}

-- ---- rows

-- a row has all days between its cuts, or none
pub steady_row : (row : Row) (first end m : ℕ) → (first < row.first → end ≤ row.first)
    → (first < row.last + 1 → end ≤ row.last + 1) → first ≤ m → m < end
    → has_day row m ≡ has_day row first
steady_row row first end m a b from to =
    ap₂ (λ (x y : Bool). x && y) (begun (nat_le row.first first) refl) (ended (nat_le first row.last) refl)
  where
    begun : (t : Bool) → nat_le row.first first ≡ t → nat_le row.first m ≡ nat_le row.first first
    begun true e = let h : row.first ≤ first = grind (arith, nat_tests) in
        let k : nat_le row.first m ≡ true = grind (arith, nat_tests) in k ∙ sym e
    begun false e = let h : first < row.first = grind (arith, nat_tests) in
        let l : end ≤ row.first = a h in
        let k : nat_le row.first m ≡ false = grind (arith, nat_tests) in k ∙ sym e

    ended : (t : Bool) → nat_le first row.last ≡ t → nat_le m row.last ≡ nat_le first row.last
    ended true e = let h : first ≤ row.last = grind (arith, nat_tests) in
        let l : end ≤ row.last + 1 = b (omega arith) in
        let k : nat_le m row.last ≡ true = grind (arith, nat_tests) in k ∙ sym e
    ended false e = let h : row.last < first = grind (arith, nat_tests) in
        let k : nat_le m row.last ≡ false = grind (arith, nat_tests) in k ∙ sym e

-- rows that are steady up to an end are so up to an earlier one
pub still_steady : (legs : Legs) (first end less : ℕ) (rows : List Row) → less ≤ end
    → AllByRecursion (IsSteady legs first end) rows → AllByRecursion (IsSteady legs first less) rows
still_steady legs first end less [] h a = tt
still_steady legs first end less (row ∷ rows) h a =
    (λ has n from to. a.0 has n from (omega arith), still_steady legs first end less rows h a.1)

same_cover : (row : Row) (station : List ℕ) (first n : ℕ) (b : Bool)
    → bytes_eq row.station station ≡ b
    → (b ≡ true → has_day row n ≡ has_day row first)
    → covers row station n ≡ covers row station first
same_cover row station first n true e h = ap (λ (d : Bool). bytes_eq row.station station && d) (h refl)
same_cover row station first n false e h =
    ap (λ (b : Bool). b && has_day row n) e ∙ sym (ap (λ (b : Bool). b && has_day row first) e)

-- steady rows give a station of the legs one variation
pub one_variation : (legs : Legs) (first end : ℕ) (rows : List Row)
    → AllByRecursion (IsSteady legs first end) rows → HaveOneVariation rows legs first end
one_variation legs first end [] a station has n from to = refl
one_variation legs first end (row ∷ rows) a station has n from to =
    let own = same_cover row station first n (bytes_eq row.station station) refl
    (λ e. a.0 (ap (has_station legs) ((bytes_eq-Decides row.station station).0 e) ∙ has) n from to) in
    let later = one_variation legs first end rows a.1 station has n from to in
    ap₂ (λ (b : Bool) (v : Option Offset). if b then Some row.variation else v) own later

-- ---- reasons

or_left : (a b : Bool) → a ≡ true → (a || b) ≡ true
or_left a b e = ap (λ (x : Bool). x || b) e

or_right : (a b : Bool) → b ≡ true → (a || b) ≡ true
or_right true b e = refl
or_right false b e = e

own_station : (s : List ℕ) → bytes_eq s s ≡ true
own_station s = (bytes_eq-Decides s s).1 refl

-- the variations of the two stations of a leg are the same on two days
record SameVariations (rows : List Row) (m n : ℕ) (leg : LegValue) : Type 0 where
  departure : variation_at rows (leg_columns 37 39 leg.columns) m
      ≡ variation_at rows (leg_columns 37 39 leg.columns) n
  arrival : variation_at rows (leg_columns 55 57 leg.columns) m
      ≡ variation_at rows (leg_columns 55 57 leg.columns) n

-- those of each leg are, if those of each station of the legs are
each_leg : (rows : List Row) (m n : ℕ) (legs : Legs)
    → ((station : List ℕ) → has_station legs station ≡ true
    → variation_at rows station m ≡ variation_at rows station n)
    → AllByRecursion (SameVariations rows m n) legs
each_leg rows m n [] h = tt
each_leg rows m n (leg ∷ legs) h =
    let from = leg_columns 37 39 leg.columns in
    let to = leg_columns 55 57 leg.columns in (
      record {
        departure = h from (or_left (flies_at leg.columns from) (has_station legs from)
            (or_left (bytes_eq from from) (bytes_eq to from) (own_station from)));
        arrival = h to (or_left (flies_at leg.columns to) (has_station legs to)
            (or_right (bytes_eq from to) (bytes_eq to to) (own_station to)));
      },
      each_leg rows m n legs (λ station has. h station
          (or_right (flies_at leg.columns station) (has_station legs station) has)),
    )

module _ (rows : List Row) (m n : ℕ) (old new : Legs) (first : List ℕ) where
  abbrev on : ℕ → Change
  on day = record { rows = rows; day = day; old = old; new = new; first = first }

  same_wanted : (before : Option LegValue) (leg : LegValue) → SameVariations rows m n leg
      → wanted (on m) before leg ≡ wanted (on n) before leg
  same_wanted before leg same =
      ap₂ (λ (from to : Option Offset). record (wanted (on n) before leg) { departure = from; arrival = to })
      same.departure same.arrival

  same_words : (place room : ℕ) (legs : Legs) → AllByRecursion (SameVariations rows m n) legs
      → legs_words (on m) place room legs ≡ legs_words (on n) place room legs
  same_words place room [] a = refl
  same_words place room (leg ∷ legs) a =
      ap₂ (λ (w : WantedLeg) (later : List ℕ).
      after_sequence leg.sequence
      (departure_words w ++ (arrival_words w ++ (late_words w ++ later_words (on n) place room leg))) ++ later)
      (same_wanted (slice_get old place) leg a.0) (same_words (place + 1) (room - length leg.tails) legs a.1)

-- the reason of new legs is the same on two days on which their stations have the same variations
pub same_reason : (rows : List Row) (m n : ℕ) (old new : Legs)
    → ((station : List ℕ) → has_station new station ≡ true
    → variation_at rows station m ≡ variation_at rows station n)
    → reason_words rows m old new ≡ reason_words rows n old new
same_reason rows m n old new h =
    ap₂ (λ (kept made : List ℕ). if same_route old new then or_other kept
    else if are_numbered new then or_other made else codes " sequence")
    (same_words rows m n old new (first_columns new) 0 99 new each)
    (same_words rows m n [] new (first_columns new) 0 99 new each)
  where
    each : AllByRecursion (SameVariations rows m n) new
    each = each_leg rows m n new h
