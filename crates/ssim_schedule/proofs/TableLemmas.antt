-- What a search finds among entries that rise, and what an edit at that index does.
use Rattle.std.proofs.Common.{◌≡◌, ◌≢◌, ℕ, zero, suc, ◌+◌, ◌-◌, ◌<◌, ◌≤◌, Bool, true, false, nat_eq, if◌then◌else◌, List, [], ◌∷◌, length, get_or, set, Result, Ok, Err, IfOk, IfErr, Some, slice_get, slice_index_or, map, inl, inr, refl, sym, ap, subst, ◌∙◌, arith, get_or-set_same, get_or-set_other, length-set}
use Rattle.std.specs.List.{insert, range_with_len}
use Rattle.std.specs.List.Sorted.{IsSearchInRange, IsBinarySearchResult, IsNonDecreasingBy}
use Rattle.std.specs.Ordering.{nat_cmp, ordering_index}
use Rattle.std.proofs.lemmas.Cmp.{ranked}
use Rattle.std.proofs.lemmas.List.{get_or_default}
use Rattle.std.proofs.lemmas.List.Sorted.{IsNonDecreasingBy-from_default}
use Rattle.std.proofs.lemmas.List.Edits.{length-insert, get_or-insert_below, get_or-insert_at, get_or-insert_above}
use Rattle.std.proofs.lemmas.Bool.{cases_eq}
use Rattle.std.proofs.lemmas.Bool.Decides.{nat_tests}
use Rattle.ssim_values.specs.Flight.{FlightNumber}
use Rattle.ssim_periods.specs.Calendar.{day_count}
use Rattle.ssim_periods.specs.clauses.Days.{Seen}
use Rattle.ssim_periods.specs.Days.{each_day}
use Rattle.ssim_base.specs.ReadBack.{place_of}
use Rattle.ssim_base.specs.Timetable.{Legs}
use Rattle.ssim_schedule.specs.internal.Table.{AreRising, IsAt, IsGapFor, Table, found, key_at, no_entry}
use Rattle.ssim_schedule.specs.declared.timetable.flight_table.FlightPeriods.{FlightPeriods}

-- no entry before index i has this key
abbrev NoneBefore : Table → ℕ → ℕ → Type 0
NoneBefore table k i = (j : ℕ) → j < i → key_at table j ≢ k

none_in_tail : (f : FlightPeriods) (table : Table) (k i : ℕ) → NoneBefore (f ∷ table) k (suc i) → NoneBefore table k i
none_in_tail f table k i none j lt = none (suc j) (omega arith)

at_in_tail : (f : FlightPeriods) (table : Table) (q : FlightNumber) (i : ℕ) → IsAt (f ∷ table) q (suc i) → IsAt table q i
at_in_tail f table q i is = record { in_range = omega (arith, is.in_range); its = is.its }

module _ {X : Type 0} (field : FlightPeriods → X) (other : X) where
  found-absent : (table : Table) (q : FlightNumber) → NoneBefore table (place_of q) (length table) → found field other table q ≡ other
  found-absent [] q none = refl
  found-absent (f ∷ table) q none = by (nat_eq (place_of f.flight) (place_of q)) refl (found-absent table q (none_in_tail f table (place_of q) _ none))
    where
      by : (b : Bool) → nat_eq (place_of f.flight) (place_of q) ≡ b → found field other table q ≡ other → (if b then field f else found field other table q) ≡ other
      by true e rest = absurd (none 0 (omega arith) (grind (arith, nat_tests)))
      by false e rest = rest

  found-present : (table : Table) (q : FlightNumber) (i : ℕ) → IsAt table q i → NoneBefore table (place_of q) i → found field other table q ≡ field (get_or table i no_entry)
  found-present [] q i is none = absurd (omega (arith, is.in_range))
  found-present (f ∷ table) q zero is none = let e : nat_eq (place_of f.flight) (place_of q) ≡ true = grind (arith, nat_tests, is.its) in rw e refl
  found-present (f ∷ table) q (suc i) is none =
      let apart = none 0 (omega arith) in
      let e : nat_eq (place_of f.flight) (place_of q) ≡ false = grind (arith, nat_tests, apart) in
      rw e (found-present table q i (at_in_tail f table q i is) (none_in_tail f table (place_of q) i none))

  -- writing over a flight's entry changes what that flight has
  found-set : (table : Table) (g : FlightPeriods) (i : ℕ) (q : FlightNumber) → IsAt table g.flight i → NoneBefore table (place_of g.flight) i
      → found field other (set table i g) q ≡ (if nat_eq (place_of g.flight) (place_of q) then field g else found field other table q)
  found-set [] g i q is none = absurd (omega (arith, is.in_range))
  found-set (f ∷ table) g zero q is none = grind (arith, nat_tests, is.its)
  found-set (f ∷ table) g (suc i) q is none =
      let apart = none 0 (omega arith) in
      grind (arith, nat_tests, apart, found-set table g i q (at_in_tail f table g.flight i is) (none_in_tail f table (place_of g.flight) i none))

  -- a new entry, before which there is none of the flight, changes what the flight has
  found-insert : (table : Table) (g : FlightPeriods) (i : ℕ) (q : FlightNumber) → NoneBefore table (place_of g.flight) i
      → found field other (insert table i g) q ≡ (if nat_eq (place_of g.flight) (place_of q) then field g else found field other table q)
  found-insert table g zero q none = refl
  found-insert [] g (suc i) q none = refl
  found-insert (f ∷ table) g (suc i) q none =
      let apart = none 0 (omega arith) in
      grind (arith, nat_tests, apart, found-insert table g i q (none_in_tail f table (place_of g.flight) i none))

module _ (table : Table) (rising : AreRising table) (q : FlightNumber) where
  comparisons_rise : IsNonDecreasingBy (λ f. ordering_index (nat_cmp (place_of f.flight) (place_of q))) table
  comparisons_rise = IsNonDecreasingBy-from_default (λ f. ordering_index (nat_cmp (place_of f.flight) (place_of q))) table no_entry (λ i j le in_range.
      let keys_rise : key_at table i ≤ key_at table j = grind (arith, rising i j, λ (same : i ≡ j). ap (key_at table) same) in
      grind (arith, nat_tests))

  -- a binary search ends at the flight's entry, or at the gap for it
  pub searched : (r : Result ℕ ℕ) → IsSearchInRange r (length table) → IsBinarySearchResult (λ f. nat_cmp (place_of f.flight) (place_of q)) table r
      → record { found : IfOk r (IsAt table q); absent : IfErr r (IsGapFor table q) }
  searched (Ok i) in_range equal = record { found = record { in_range = in_range; its = ranked _ (place_of q) _ (sym (equal no_entry)) }; absent = tt }
  searched (Err i) in_range parted = record {
    found = tt;
    absent = record {
      in_range = in_range;
      lower_before = λ j lt. ranked _ (place_of q) _ (sym ((parted comparisons_rise).0 j no_entry (omega arith) lt));
      higher_after = λ j le lt. ranked _ (place_of q) _ (sym ((parted comparisons_rise).1 j no_entry le lt));
    };
  }

none_before_at : (table : Table) → AreRising table → (q : FlightNumber) (i : ℕ) → IsAt table q i → NoneBefore table (place_of q) i
none_before_at table rising q i is j lt same = omega (arith, rising j i lt is.in_range, is.its)

module _ {X : Type 0} (field : FlightPeriods → X) (other : X) where
  pub found_at : (table : Table) → AreRising table → (q : FlightNumber) (i : ℕ) → IsAt table q i → found field other table q ≡ field (get_or table i no_entry)
  found_at table rising q i is = found-present field other table q i is (none_before_at table rising q i is)

  pub found_in_gap : (table : Table) (q : FlightNumber) (i : ℕ) → IsGapFor table q i → found field other table q ≡ other
  found_in_gap table q i gap = found-absent field other table q (λ j lt same. grind (arith, gap.lower_before j, gap.higher_after j))

  pub found_set : (table : Table) → AreRising table → (g : FlightPeriods) (i : ℕ) (q : FlightNumber) → IsAt table g.flight i
      → found field other (set table i g) q ≡ (if nat_eq (place_of g.flight) (place_of q) then field g else found field other table q)
  found_set table rising g i q is = found-set field other table g i q is (none_before_at table rising g.flight i is)

  pub found_insert : (table : Table) (g : FlightPeriods) (i : ℕ) (q : FlightNumber) → IsGapFor table g.flight i
      → found field other (insert table i g) q ≡ (if nat_eq (place_of g.flight) (place_of q) then field g else found field other table q)
  found_insert table g i q gap = found-insert field other table g i q (λ j lt same. omega (arith, gap.lower_before j lt))

-- writing over an entry keeps the order, since its flight stays
pub rising_set : (table : Table) → AreRising table → (g : FlightPeriods) (i : ℕ) → IsAt table g.flight i → AreRising (set table i g)
rising_set table rising g k is i j lt in_range =
    let same_length = length-set table k g in
    omega (arith, key_stays i, key_stays j, rising i j lt (omega arith))
  where
    key_stays : (i : ℕ) → key_at (set table k g) i ≡ key_at table i
    key_stays i = elim (cases_eq i k) [
      | inl same ↦ ap (λ n. key_at (set table k g) n) same ∙ ap (λ (f : FlightPeriods). place_of f.flight) (get_or-set_same table k g no_entry is.in_range) ∙ sym is.its ∙ ap (key_at table) (sym same)
      | inr apart ↦ ap (λ (f : FlightPeriods). place_of f.flight) (get_or-set_other table k i g no_entry apart)
    ]

-- a new entry in its gap keeps the order: each key is an old one below the gap, the new one, or an
-- old one moved up by one
pub rising_insert : (table : Table) → AreRising table → (g : FlightPeriods) (k : ℕ) → IsGapFor table g.flight k → AreRising (insert table k g)
rising_insert table rising g k gap i j lt in_range =
    let new = insert table k g in
    let key = λ (f : FlightPeriods). place_of f.flight in
    let length_new = length-insert table k g gap.in_range in
    let key_below : (i : ℕ) → i < k → key_at new i ≡ key_at table i = λ i below. ap key (get_or-insert_below table k g no_entry i below gap.in_range) in
    let key_here : (i : ℕ) → i ≡ k → key_at new i ≡ place_of g.flight = λ i here. rw here (ap key (get_or-insert_at table k g no_entry gap.in_range)) in
    let key_above : (i : ℕ) → k < i → key_at new i ≡ key_at table (i - 1) = λ i above. subst (λ q. key_at new q ≡ key_at table (i - 1)) {x = i - 1 + 1} (omega arith) (ap key (get_or-insert_above table k g no_entry (i - 1) (omega arith) gap.in_range)) in
    grind (arith, key_below i, key_here i, key_above i, key_below j, key_here j, key_above j, rising i j, rising i (j - 1), rising (i - 1) (j - 1), gap.lower_before i, gap.higher_after (j - 1))

-- ---- a table of entries, which is seen as `view`

pub is_at : {table view : Table} {q : FlightNumber} {i : ℕ} → table ≡ view → IsAt view q i
    → IsAt table q i
is_at {q = q} {i = i} same is = subst (λ (t : Table). IsAt t q i) (sym same) is

pub is_gap : {table view : Table} {q : FlightNumber} {i : ℕ} → table ≡ view → IsGapFor view q i
    → IsGapFor table q i
is_gap {q = q} {i = i} same gap = subst (λ (t : Table). IsGapFor t q i) (sym same) gap

module _ {X : Type 0} (field : FlightPeriods → X) (other : X) {table view : Table}
    (same : table ≡ view)
  where
    -- the entry that a search found is what the flight has
    pub entry_has : {q : FlightNumber} {i : ℕ} (entry : FlightPeriods) → AreRising table
        → IsAt view q i → entry ≡ get_or table i entry → field entry ≡ found field other view q
    entry_has {q} {i} entry rising at is =
        let here = is_at same at in
        ap field (is ∙ get_or_default table i entry no_entry here.in_range)
        ∙ sym (found_at field other table rising q i here)
        ∙ ap (λ (t : Table). found field other t q) same

    -- other periods are put in its place
    pub set_has : {q : FlightNumber} {i : ℕ} {x : X} (p : Seen Legs) → AreRising table
        → IsAt view q i → field (record { flight = q; periods = p }) ≡ x → (r : FlightNumber)
        → found field other (set table i (record { flight = q; periods = p })) r
        ≡ (if nat_eq (place_of q) (place_of r) then x else found field other view r)
    set_has {q} {i} {x} p rising at is r =
        found_set field other table rising (record { flight = q; periods = p }) i r (is_at same at)
        ∙ ap (λ (y : X). if nat_eq (place_of q) (place_of r) then y else found field other table r) is
        ∙ ap (λ (t : Table). if nat_eq (place_of q) (place_of r) then x else found field other t r)
        same

    -- an entry is put into the gap for it
    pub insert_has : {new : Table} {q : FlightNumber} {i : ℕ} {x : X} (p : Seen Legs)
        → new ≡ insert table i (record { flight = q; periods = p }) → IsGapFor view q i
        → field (record { flight = q; periods = p }) ≡ x → (r : FlightNumber)
        → found field other new r
        ≡ (if nat_eq (place_of q) (place_of r) then x else found field other view r)
    insert_has {new} {q} {i} {x} p items gap is r =
        ap (λ (t : Table). found field other t r) items
        ∙ found_insert field other table (record { flight = q; periods = p }) i r (is_gap same gap)
        ∙ ap (λ (y : X). if nat_eq (place_of q) (place_of r) then y else found field other table r) is
        ∙ ap (λ (t : Table). if nat_eq (place_of q) (place_of r) then x else found field other t r)
        same

-- ---- days

pub index-get : {V : Type 0} (xs : List V) (n : ℕ) (d x : V) → slice_get xs n ≡ Some x → slice_index_or xs n d ≡ x
index-get [] n d x h = cc
index-get (y ∷ ys) zero d x h = cc
index-get (y ∷ ys) (suc n) d x h = index-get ys n d x h

index-same : {V : Type 0} (d : V) (a k n : ℕ) → slice_index_or (map (λ _. d) (range_with_len a k)) n d ≡ d
index-same d a zero n = refl
index-same d a (suc k) zero = refl
index-same d a (suc k) (suc n) = index-same d (a + 1) k n

-- a list of one value has it on each day
pub index-each_day : {V : Type 0} (d : V) (n : ℕ) → slice_index_or (each_day (λ _. d)) n d ≡ d
index-each_day d n = index-same d 0 day_count n
