-- Both ends of all periods that count are the points, and strictly rising cuts among them are no
-- more than these.
use Rattle.std.proofs.Common.{◌≡◌, ◌≤◌, ◌<◌, ◌+◌, ◌*◌, ℕ, suc, Bool, true, false, cond, ◌&&◌, ◌||◌, nat_eq, IsTrue, ◌⊎◌, inl, inr, Contains, List, [], ◌∷◌, ◌++◌, length, get_or, refl, sym, ap, subst, ◌∙◌, arith, length-append}
use Rattle.std.proofs.lemmas.Bool.Decides.{nat_tests}
use Rattle.std.proofs.lemmas.List.Folds.{list_any-append, list_any_at}
use Rattle.std.proofs.lemmas.List.Recursion.{is_count_by}
use Rattle.std.proofs.lemmas.Map.Keys.{IsDistinct-from_apart, below_from_sorted, sorted_from_strictly_increasing}
use Rattle.std.proofs.lemmas.Map.Made.{length-le_from_is_member}
use Rattle.std.specs.Cmp.{nat_eq_equiv}
use Rattle.std.specs.List.{count_by, list_any}
use Rattle.std.specs.List.Sorted.{IsStrictlyIncreasing}
use Rattle.ssim_records.specs.declared.record.Record.{Record}
use Rattle.ssim_records.specs.declared.record.Record.TheVariants.{Header, Carrier, Leg, Segment, Trailer}
use Rattle.ssim_base.specs.BaseSeen.{BaseSeen, is_leg_of}
use Rattle.ssim_base.proofs.Places.{same_flight-place}
use Rattle.ssim_schedule.specs.clauses.Acts.{AddsPointsOf, divides, is_named, is_point_of}
use Rattle.ssim_schedule.specs.clauses.DivisionPoints.{AreAtPoints, is_point}
use Rattle.ssim_base.specs.ReadBack.{place_of}
use Rattle.ssim_base.specs.Stations.{Row}
use Rattle.ssim_base.specs.Timetable.{period_of, same_flight}
use Rattle.ssim_base.specs.declared.sub_message.ResolvedSub.{ResolvedSub}
use Rattle.ssim_text.specs.declared.action.Action.{Action}
use Rattle.ssim_values.specs.Flight.{FlightNumber, IsFlight}
use Rattle.ssim_values.specs.Period.{DayRange}
use Rattle.ssim_held.specs.Entries.{Entry}
use Rattle.ssim_desk.specs.internal.Changes.{AddsSubPoints}
use Rattle.ssim_desk.specs.clauses.Desk.{AreDeskPoints, is_desk_point, is_row_point, is_sub_of}
use Rattle.ssim_desk.specs.clauses.Desk.{is_sub_point, point_bound, subs_of}

-- ---- parts of a test

both : (a b : Bool) → (a && b) ≡ true → (a ≡ true) × (b ≡ true)
both true b h = (refl, h)
both false b h = absurd (let never : false ≡ true = h in cc)

pub either : (a b : Bool) → (a || b) ≡ true → (a ≡ true) ⊎ (b ≡ true)
either true b h = inl refl
either false b h = inr h

pub left_true : (a b : Bool) → a ≡ true → (a || b) ≡ true
left_true a b h = ap (λ x. x || b) h

pub right_true : (a b : Bool) → b ≡ true → (a || b) ≡ true
right_true true b h = refl
right_true false b h = h

equal : (m n : ℕ) → nat_eq m n ≡ true → m ≡ n
equal m n h = grind (arith, nat_tests)

itself : (m n : ℕ) → m ≡ n → nat_eq m n ≡ true
itself m n h = grind (arith, nat_tests)

member : (xs : List ℕ) (x : ℕ) → list_any (nat_eq x) xs ≡ true → Contains xs x
member [] x h = absurd (let never : false ≡ true = h in cc)
member (y ∷ ys) x h = by (member ys x) (either (nat_eq x y) _ h)
  where
    by : (list_any (nat_eq x) ys ≡ true → Contains ys x) → (nat_eq x y ≡ true) ⊎ (list_any (nat_eq x) ys ≡ true) → Contains (y ∷ ys) x
    by rest (inl e) = (0, omega arith, sym (equal x y e))
    by rest (inr more) = let m = rest more in let lt = m.1 in (suc m.0, omega arith, m.2)

-- if each element of one kind is of another, so is one of a list
any_also : {X : Type 0} (p q : X → Bool) → ((x : X) → p x ≡ true → q x ≡ true) → (xs : List X) → list_any p xs ≡ true → list_any q xs ≡ true
any_also p q also [] h = h
any_also p q also (x ∷ xs) h = by (any_also p q also xs) (either (p x) _ h)
  where
    by : (list_any p xs ≡ true → list_any q xs ≡ true) → (p x ≡ true) ⊎ (list_any p xs ≡ true) → list_any q (x ∷ xs) ≡ true
    by rest (inl yea) = left_true _ _ (also x yea)
    by rest (inr more) = right_true (q x) _ (rest more)

-- ---- both ends of the periods that count

module _ {X : Type 0} (counts : X → Bool) (first end : X → ℕ) where
  abbrev ends : List X → List ℕ
  ends [] = []
  ends (x ∷ xs) = cond (counts x) (first x ∷ end x ∷ ends xs) (ends xs)

  abbrev number : List X → ℕ
  number [] = 0
  number (x ∷ xs) = cond (counts x) (1 + number xs) (number xs)

  length-both : (b : Bool) (x y : ℕ) (ns : List ℕ) (n : ℕ) → length ns ≡ 2 * n → length (cond b (x ∷ y ∷ ns) ns) ≡ 2 * cond b (1 + n) n
  length-both true x y ns n h = omega (arith, h)
  length-both false x y ns n h = h

  length-number : (xs : List X) → length (ends xs) ≡ 2 * number xs
  length-number [] = refl
  length-number (x ∷ xs) = length-both (counts x) (first x) (end x) (ends xs) (number xs) (length-number xs)

  length-ends : (xs : List X) → length (ends xs) ≡ 2 * count_by counts xs
  length-ends xs = length-number xs ∙ ap (λ n. 2 * n) (is_count_by number counts refl (λ y ys. refl) xs)

  module _ (day : ℕ) (test : X → Bool) (at : (x : X) → test x ≡ true → (counts x ≡ true) × ((day ≡ first x) ⊎ (day ≡ end x))) where
    here : (x : X) (ns : List ℕ) → (counts x ≡ true) × ((day ≡ first x) ⊎ (day ≡ end x)) → list_any (nat_eq day) (cond (counts x) (first x ∷ end x ∷ ns) ns) ≡ true
    here x ns (yea, inl is) = ap (λ b. list_any (nat_eq day) (cond b (first x ∷ end x ∷ ns) ns)) yea ∙ left_true _ _ (itself day (first x) is)
    here x ns (yea, inr is) = ap (λ b. list_any (nat_eq day) (cond b (first x ∷ end x ∷ ns) ns)) yea ∙ right_true (nat_eq day (first x)) _ (left_true _ _ (itself day (end x) is))

    later : (b : Bool) (x y : ℕ) (ns : List ℕ) → list_any (nat_eq day) ns ≡ true → list_any (nat_eq day) (cond b (x ∷ y ∷ ns) ns) ≡ true
    later true x y ns h = right_true (nat_eq day x) _ (right_true (nat_eq day y) _ h)
    later false x y ns h = h

    at_end : (xs : List X) → list_any test xs ≡ true → list_any (nat_eq day) (ends xs) ≡ true
    at_end [] h = absurd (let never : false ≡ true = h in cc)
    at_end (x ∷ xs) h = by (at_end xs) (either (test x) (list_any test xs) h)
      where
        by : (list_any test xs ≡ true → list_any (nat_eq day) (ends xs) ≡ true) → (test x ≡ true) ⊎ (list_any test xs ≡ true) → list_any (nat_eq day) (ends (x ∷ xs)) ≡ true
        by rest (inl yea) = here x (ends xs) (at x yea)
        by rest (inr more) = later (counts x) (first x) (end x) (ends xs) (rest more)

-- ---- the points of a flight

abbrev first_of : Record → ℕ
first_of (Header r) = 0
first_of (Carrier r) = 0
first_of (Leg r) = r.first
first_of (Segment r) = 0
first_of (Trailer r) = 0

abbrev end_of : Record → ℕ
end_of (Header r) = 0
end_of (Carrier r) = 0
end_of (Leg r) = (period_of r).last + 1
end_of (Segment r) = 0
end_of (Trailer r) = 0

turned : (a b : FlightNumber) → same_flight a b ≡ true → same_flight b a ≡ true
turned a b h =
    let parts = both (nat_eq a.number b.number) (nat_eq a.suffix b.suffix) h in
    let number : nat_eq b.number a.number ≡ true = itself b.number a.number (sym (equal a.number b.number parts.0)) in
    let suffix : nat_eq b.suffix a.suffix ≡ true = itself b.suffix a.suffix (sym (equal a.suffix b.suffix parts.1)) in
    ap (λ x. x && nat_eq b.suffix a.suffix) number ∙ suffix

one_of : (day m n : ℕ) → (nat_eq day m || nat_eq day n) ≡ true → (day ≡ m) ⊎ (day ≡ n)
one_of day m n h = by (either (nat_eq day m) (nat_eq day n) h)
  where
    by : (nat_eq day m ≡ true) ⊎ (nat_eq day n ≡ true) → (day ≡ m) ⊎ (day ≡ n)
    by (inl e) = inl (equal day m e)
    by (inr e) = inr (equal day n e)

-- whether the day is the first of the period of a sub-message that names the flight, or the day
-- after its last
abbrev is_sub_end : FlightNumber → ℕ → ResolvedSub → Bool
is_sub_end flight day sub = is_sub_of flight sub && (nat_eq day sub.period.first || nat_eq day (sub.period.last + 1))

module _ (base : BaseSeen) (entries : List Entry) (flight : FlightNumber) where
  abbrev leg_ends : List ℕ
  leg_ends = ends (is_leg_of flight) first_of end_of base.records

  abbrev sub_ends : List ℕ
  sub_ends = ends (is_sub_of flight) (λ s. s.period.first) (λ s. s.period.last + 1) (subs_of entries)

  abbrev row_ends : List ℕ
  row_ends = ends (λ (row : Row). true) (λ row. row.first) (λ row. row.last + 1) base.rows

  abbrev points : List ℕ
  points = leg_ends ++ (sub_ends ++ row_ends)

  at_leg : (day : ℕ) (r : Record) → is_point flight day r ≡ true → (is_leg_of flight r ≡ true) × ((day ≡ first_of r) ⊎ (day ≡ end_of r))
  at_leg day (Header r) h = absurd (let never : false ≡ true = h in cc)
  at_leg day (Carrier r) h = absurd (let never : false ≡ true = h in cc)
  at_leg day (Leg r) h = let parts = both (same_flight r.name.flight flight) _ h in (turned r.name.flight flight parts.0, one_of day r.first ((period_of r).last + 1) parts.1)
  at_leg day (Segment r) h = absurd (let never : false ≡ true = h in cc)
  at_leg day (Trailer r) h = absurd (let never : false ≡ true = h in cc)

  at_sub : (day : ℕ) (s : ResolvedSub) → is_sub_end flight day s ≡ true → (is_sub_of flight s ≡ true) × ((day ≡ s.period.first) ⊎ (day ≡ s.period.last + 1))
  at_sub day s h = let parts = both (is_sub_of flight s) _ h in (parts.0, one_of day s.period.first (s.period.last + 1) parts.1)

  -- a point of a sub-message is an end of its period or of a row
  sub_or_row : (day : ℕ) (subs : List ResolvedSub) → list_any (is_sub_point base.rows flight day) subs ≡ true → (list_any (is_sub_end flight day) subs ≡ true) ⊎ (list_any (is_row_point day) base.rows ≡ true)
  sub_or_row day [] h = absurd (let never : false ≡ true = h in cc)
  sub_or_row day (s ∷ subs) h = by (sub_or_row day subs) (either (is_sub_point base.rows flight day s) _ h)
    where
      there : Bool
      there = nat_eq day s.period.first || nat_eq day (s.period.last + 1)

      Ends : Type 0
      Ends = (list_any (is_sub_end flight day) (s ∷ subs) ≡ true) ⊎ (list_any (is_row_point day) base.rows ≡ true)

      later : (list_any (is_sub_end flight day) subs ≡ true) ⊎ (list_any (is_row_point day) base.rows ≡ true) → Ends
      later (inl yea) = inl (right_true (is_sub_end flight day s) _ yea)
      later (inr yea) = inr yea

      at : is_sub_of flight s ≡ true → (there ≡ true) ⊎ (list_any (is_row_point day) base.rows ≡ true) → Ends
      at named (inl yea) = inl (left_true _ _ (ap (λ b. b && there) named ∙ yea))
      at named (inr yea) = inr yea

      by : (list_any (is_sub_point base.rows flight day) subs ≡ true → (list_any (is_sub_end flight day) subs ≡ true) ⊎ (list_any (is_row_point day) base.rows ≡ true))
          → (is_sub_point base.rows flight day s ≡ true) ⊎ (list_any (is_sub_point base.rows flight day) subs ≡ true) → Ends
      by rest (inl yea) = let parts = both (is_sub_of flight s) _ yea in at parts.0 (either there _ parts.1)
      by rest (inr more) = later (rest more)

  among : (day : ℕ) → is_desk_point base entries flight day ≡ true → list_any (nat_eq day) points ≡ true
  among day h = list_any-append (nat_eq day) leg_ends (sub_ends ++ row_ends) ∙ by (either (list_any (is_point flight day) base.records) _ h)
    where
      rest : (list_any (is_sub_end flight day) (subs_of entries) ≡ true) ⊎ (list_any (is_row_point day) base.rows ≡ true) → list_any (nat_eq day) (sub_ends ++ row_ends) ≡ true
      rest (inl yea) = list_any-append (nat_eq day) sub_ends row_ends ∙ left_true _ _ (at_end (is_sub_of flight) (λ s. s.period.first) (λ s. s.period.last + 1) day (is_sub_end flight day) (at_sub day) (subs_of entries) yea)
      rest (inr yea) = list_any-append (nat_eq day) sub_ends row_ends ∙ right_true (list_any (nat_eq day) sub_ends) _ (at_end (λ (row : Row). true) (λ row. row.first) (λ row. row.last + 1) day (is_row_point day) (λ row e. (refl, one_of day row.first (row.last + 1) e)) base.rows yea)

      by : (list_any (is_point flight day) base.records ≡ true) ⊎ (list_any (is_sub_point base.rows flight day) (subs_of entries) ≡ true)
          → (list_any (nat_eq day) leg_ends || list_any (nat_eq day) (sub_ends ++ row_ends)) ≡ true
      by (inl yea) = left_true _ _ (at_end (is_leg_of flight) first_of end_of day (is_point flight day) (at_leg day) base.records yea)
      by (inr more) = right_true (list_any (nat_eq day) leg_ends) _ (rest (sub_or_row day (subs_of entries) more))

  -- a flight with a point is named
  named : (day : ℕ) → is_desk_point base entries flight day ≡ true → (list_any (is_leg_of flight) base.records || list_any (is_sub_of flight) (subs_of entries)) ≡ true
  named day h = by (either (list_any (is_point flight day) base.records) _ h)
    where
      by : (list_any (is_point flight day) base.records ≡ true) ⊎ (list_any (is_sub_point base.rows flight day) (subs_of entries) ≡ true)
          → (list_any (is_leg_of flight) base.records || list_any (is_sub_of flight) (subs_of entries)) ≡ true
      by (inl yea) = left_true _ _ (any_also (is_point flight day) (is_leg_of flight) (λ r e. (at_leg day r e).0) base.records yea)
      by (inr yea) = right_true (list_any (is_leg_of flight) base.records) _ (any_also (is_sub_point base.rows flight day) (is_sub_of flight) (λ s e. (both (is_sub_of flight s) _ e).0) (subs_of entries) yea)

  -- a flight that is not named has no cuts
  pub none_unnamed : (cuts : List ℕ) → AreDeskPoints base entries flight cuts → (list_any (is_leg_of flight) base.records || list_any (is_sub_of flight) (subs_of entries)) ≡ false → cuts ≡ []
  none_unnamed [] are unnamed = refl
  none_unnamed (cut ∷ cuts) are unnamed =
      let never : true ≡ false = sym (named cut (are cut (0, omega arith, refl))) ∙ unnamed in
      absurd (let clash : true ≡ false = never in cc)

  all_rows : (rows : List Row) → count_by (λ (row : Row). true) rows ≡ length rows
  all_rows rows = sym (is_count_by (λ (rs : List Row). length rs) (λ (row : Row). true) refl (λ y ys. omega arith) rows)

  length-points : length points ≡ point_bound base entries flight
  length-points = omega (
    arith,
    length-append leg_ends (sub_ends ++ row_ends),
    length-append sub_ends row_ends,
    length-ends (is_leg_of flight) first_of end_of base.records,
    length-ends (is_sub_of flight) (λ s. s.period.first) (λ s. s.period.last + 1) (subs_of entries),
    length-ends (λ (row : Row). true) (λ row. row.first) (λ row. row.last + 1) base.rows,
    all_rows base.rows,
  )

  -- strictly rising cuts, each of them a point, are no more than the bound
  pub within_bound : (cuts : List ℕ) → IsStrictlyIncreasing cuts → AreDeskPoints base entries flight cuts → length cuts ≤ point_bound base entries flight
  within_bound cuts rising are =
      subst (λ n. length cuts ≤ n) length-points
      (length-le_from_is_member nat_eq_equiv cuts points
      (IsDistinct-from_apart nat_eq cuts (λ i j d lt in_range. apart _ _ (below_from_sorted cuts i j d (sorted_from_strictly_increasing cuts rising) lt in_range)))
      (λ day has. among day (are day (member cuts day has))))
    where
      apart : (m n : ℕ) → m < n → nat_eq m n ≡ false
      apart m n h = grind (arith, nat_tests)

-- ---- more messages

subs_more : (test : ResolvedSub → Bool) (xs ys : List Entry) → list_any test (subs_of (xs ++ ys)) ≡ (list_any test (subs_of xs) || list_any test (subs_of ys))
subs_more test [] ys = refl
subs_more test (x ∷ xs) ys =
    list_any-append test x.dates (subs_of (xs ++ ys))
    ∙ ap (λ b. list_any test x.dates || b) (subs_more test xs ys)
    ∙ grouped (list_any test x.dates) (list_any test (subs_of xs)) (list_any test (subs_of ys))
    ∙ ap (λ b. b || list_any test (subs_of ys)) (sym (list_any-append test x.dates (subs_of xs)))
  where
    grouped : (a b c : Bool) → (a || (b || c)) ≡ ((a || b) || c)
    grouped true b c = refl
    grouped false b c = refl

module _ (base : BaseSeen) (flight : FlightNumber) where
  -- the cuts of a base's schedule are points of a desk that holds nothing
  pub begun_at : (cuts : List ℕ) → AreAtPoints cuts flight base.records → AreDeskPoints base [] flight cuts
  begun_at cuts are day has = left_true _ _ (are day has)

  -- after one more message its sub-messages add points
  pub more_at : (before : List Entry) (e : Entry) (old new : List ℕ) → AddsSubPoints base.rows e.dates flight old new → AreDeskPoints base before flight old → AreDeskPoints base (before ++ e ∷ []) flight new
  more_at before e old new adds are day has = by (adds day has)
    where
      point : ResolvedSub → Bool
      point = is_sub_point base.rows flight day

      all : (list_any point (subs_of before) || list_any point (subs_of (e ∷ []))) ≡ list_any point (subs_of (before ++ e ∷ []))
      all = sym (subs_more point before (e ∷ []))

      at_records : Bool
      at_records = list_any (is_point flight day) base.records

      put : (list_any point (subs_of before) || list_any point (subs_of (e ∷ []))) ≡ true → is_desk_point base (before ++ e ∷ []) flight day ≡ true
      put yea = right_true at_records _ (sym all ∙ yea)

      by_old : (at_records ≡ true) ⊎ (list_any point (subs_of before) ≡ true) → is_desk_point base (before ++ e ∷ []) flight day ≡ true
      by_old (inl yea) = left_true at_records _ yea
      by_old (inr yea) = put (left_true _ _ yea)

      by : Contains old day ⊎ IsTrue (list_any point e.dates) → is_desk_point base (before ++ e ∷ []) flight day ≡ true
      by (inl kept) = by_old (either at_records _ (are day kept))
      by (inr fresh) = put (right_true (list_any point (subs_of before)) _ (list_any-append point e.dates [] ∙ left_true _ _ fresh))

-- ---- one sub-message

-- a row that divides an action's dates is a row point
row_point : (action : Action) (day : ℕ) (rows : List Row) → list_any (divides action day) rows ≡ true → list_any (is_row_point day) rows ≡ true
row_point action day = any_also (divides action day) (is_row_point day) (λ row h. (both (is_named action row.station) (is_row_point day row) h).1)

-- what a sub-message adds, stated of the sub-message as it resolves
pub adds_told : (rows : List Row) (action : Action) (sub : ResolvedSub) (flight : FlightNumber) (period : DayRange) (g : FlightNumber) (old new : List ℕ) → flight ≡ sub.flight → period ≡ sub.period → IsFlight sub.flight → IsFlight g
    → AddsPointsOf flight rows action period g old new → AddsSubPoints rows (sub ∷ []) g old new
adds_told rows action sub flight period g old new same_flights same_period is is_g adds day has = by (adds day has)
  where
    flights : place_of flight ≡ place_of g → is_sub_of g sub ≡ true
    flights same = same_flight-place sub.flight g is is_g ∙ itself (place_of sub.flight) (place_of g) (ap place_of (sym same_flights) ∙ same)

    ends_told : (nat_eq day period.first || nat_eq day (period.last + 1)) ≡ true → (nat_eq day sub.period.first || nat_eq day (sub.period.last + 1)) ≡ true
    ends_told yea = subst (λ (p : DayRange). (nat_eq day p.first || nat_eq day (p.last + 1)) ≡ true) same_period yea

    there : Bool
    there = (nat_eq day sub.period.first || nat_eq day (sub.period.last + 1)) || list_any (is_row_point day) rows

    told : ((nat_eq day period.first || nat_eq day (period.last + 1)) ≡ true) ⊎ (list_any (divides action day) rows ≡ true) → there ≡ true
    told (inl yea) = left_true _ _ (ends_told yea)
    told (inr yea) = right_true (nat_eq day sub.period.first || nat_eq day (sub.period.last + 1)) _ (row_point action day rows yea)

    at : place_of flight ≡ place_of g → there ≡ true → list_any (is_sub_point rows g day) (sub ∷ []) ≡ true
    at same yea = left_true (is_sub_point rows g day sub) false (ap (λ b. b && there) (flights same) ∙ yea)

    by : Contains old day ⊎ ((place_of flight ≡ place_of g) × IsTrue (is_point_of rows action period day)) → Contains old day ⊎ IsTrue (list_any (is_sub_point rows g day) (sub ∷ []))
    by (inl kept) = inl kept
    by (inr (same, fresh)) = inr (at same (told (either (nat_eq day period.first || nat_eq day (period.last + 1)) _ fresh)))

-- cuts that are kept
pub adds_none : (rows : List Row) (subs : List ResolvedSub) (g : FlightNumber) (old : List ℕ) → AddsSubPoints rows subs g old old
adds_none rows subs g old day has = inl has

-- one of the sub-messages of a list adds, after others of it
pub adds_next : (rows : List Row) (subs : List ResolvedSub) (sub : ResolvedSub) (g : FlightNumber) (place : ℕ) (old between new : List ℕ) → place < length subs → sub ≡ get_or subs place sub
    → AddsSubPoints rows subs g old between → AddsSubPoints rows (sub ∷ []) g between new → AddsSubPoints rows subs g old new
adds_next rows subs sub g place old between new within is before one day has = by (one day has)
  where
    point : ResolvedSub → Bool
    point = is_sub_point rows g day

    first : (b : Bool) → (b || false) ≡ true → b ≡ true
    first true h = refl
    first false h = h

    by : Contains between day ⊎ IsTrue (list_any point (sub ∷ [])) → Contains old day ⊎ IsTrue (list_any point subs)
    by (inl kept) = before day kept
    by (inr fresh) = inr (list_any_at point subs place sub within (ap point (sym is) ∙ first (point sub) fresh))
