-- A table in blocks: what a flight has is what its block says, and a block in place of another
-- changes its own flights alone.
use Rattle.std.proofs.Common.{◌≡◌, ◌≢◌, ◌⊎◌, ℕ, zero, suc, ◌+◌, ◌-◌, ◌/◌, ◌<◌, ◌≤◌, Bool, true, false, nat_eq, if◌then◌else◌, List, [], ◌∷◌, ◌++◌, length, get_or, set, replicate, inl, inr, refl, sym, ap, subst, ◌∙◌, arith, get_or-set_same, get_or-set_other, length-set}
use Rattle.std.specs.List.{insert}
use Rattle.std.proofs.lemmas.Bool.{cases_eq, cases_lt}
use Rattle.std.proofs.lemmas.Bool.Decides.{nat_tests}
use Rattle.std.proofs.lemmas.List.{get_or_default, get_or_append_left, get_or-append_right, length-append}
use Rattle.ssim_values.specs.Flight.{FlightNumber}
use Rattle.ssim_values.specs.Period.{DayRange}
use Rattle.ssim_periods.specs.clauses.Days.{Seen}
use Rattle.ssim_base.specs.Timetable.{Legs}
use Rattle.ssim_schedule.specs.internal.Blocks.{AreBlocks, AreOf, IsBlock, block_of, all_entries}
use Rattle.ssim_base.specs.ReadBack.{place_of}
use Rattle.ssim_schedule.specs.internal.Table.{AddsEnds, AddsOnlyAt, AreRising, IsAt, IsGapFor, Table, found, key_at, no_entry}
use Rattle.ssim_schedule.specs.declared.timetable.flight_table.FlightPeriods.{FlightPeriods}
use Rattle.ssim_schedule.proofs.TableLemmas.{rising_insert, rising_set}

-- ---- one block

of_set : (k : ℕ) (table : Table) (i : ℕ) (f : FlightPeriods) → AreOf k table → block_of f.flight ≡ k → AreOf k (set table i f)
of_set k [] i f are its = tt
of_set k (g ∷ table) zero f are its = (its, are.1)
of_set k (g ∷ table) (suc i) f are its = (are.0, of_set k table i f are.1 its)

of_insert : (k : ℕ) (table : Table) (i : ℕ) (f : FlightPeriods) → AreOf k table → block_of f.flight ≡ k → AreOf k (insert table i f)
of_insert k table zero f are its = (its, are)
of_insert k [] (suc i) f are its = (its, tt)
of_insert k (g ∷ table) (suc i) f are its = (are.0, of_insert k table i f are.1 its)

of_key : (k : ℕ) (table : Table) (i : ℕ) → AreOf k table → i < length table → key_at table i / 1024 ≡ k
of_key k [] i are within = absurd (omega (arith, within))
of_key k (f ∷ table) zero are within = are.0
of_key k (f ∷ table) (suc i) are within = of_key k table i are.1 (omega (arith, within))

-- an entry that is written over, or a new one in its gap
block_set : (k : ℕ) (table : Table) (i : ℕ) (f : FlightPeriods) → IsBlock k table → IsAt table f.flight i → block_of f.flight ≡ k → IsBlock k (set table i f)
block_set k table i f is at its = record { its = of_set k table i f is.its its; rising = rising_set table is.rising f i at }

block_insert : (k : ℕ) (table : Table) (i : ℕ) (f : FlightPeriods) → IsBlock k table → IsGapFor table f.flight i → block_of f.flight ≡ k → IsBlock k (insert table i f)
block_insert k table i f is gap its = record { its = of_insert k table i f is.its its; rising = rising_insert table is.rising f i gap }

-- ---- what a flight has

module _ {X : Type 0} (field : FlightPeriods → X) where
  found-joined : (other : X) (a b : Table) (q : FlightNumber) → found field other (a ++ b) q ≡ found field (found field other b q) a q
  found-joined other [] b q = refl
  found-joined other (f ∷ a) b q = ap (λ (x : X). if nat_eq (place_of f.flight) (place_of q) then field f else x) (found-joined other a b q)

  found-elsewhere : (other : X) (k : ℕ) (a : Table) (q : FlightNumber) → AreOf k a → block_of q ≢ k → found field other a q ≡ other
  found-elsewhere other k [] q are apart = refl
  found-elsewhere other k (f ∷ a) q are apart = by (nat_eq (place_of f.flight) (place_of q)) refl (found-elsewhere other k a q are.1 apart)
    where
      by : (b : Bool) → nat_eq (place_of f.flight) (place_of q) ≡ b → found field other a q ≡ other → (if b then field f else found field other a q) ≡ other
      by true e rest =
          let same : place_of f.flight ≡ place_of q = grind (arith, nat_tests) in
          absurd (apart (ap (λ n. n / 1024) (sym same) ∙ are.0))
      by false e rest = rest

  found-before : (other : X) (k : ℕ) (blocks : List Table) (q : FlightNumber) → AreBlocks k blocks
      → block_of q < k → found field other (all_entries blocks) q ≡ other
  found-before other k [] q are less = refl
  found-before other k (b ∷ blocks) q are less =
      found-joined other b (all_entries blocks) q
      ∙ ap (λ (x : X). found field x b q) (found-before other (k + 1) blocks q are.1 (omega (arith, less)))
      ∙ found-elsewhere other k b q are.0.its (λ same. omega (arith, less, same))

  found-block : (other : X) (k : ℕ) (blocks : List Table) (j : ℕ) (q : FlightNumber) → AreBlocks k blocks → block_of q ≡ k + j
      → found field other (all_entries blocks) q ≡ found field other (get_or blocks j []) q
  found-block other k [] j q are its = refl
  found-block other k (b ∷ blocks) zero q are its =
      found-joined other b (all_entries blocks) q
      ∙ ap (λ (x : X). found field x b q) (found-before other (k + 1) blocks q are.1 (omega (arith, its)))
  found-block other k (b ∷ blocks) (suc j) q are its =
      found-joined other b (all_entries blocks) q
      ∙ found-elsewhere (found field other (all_entries blocks) q) k b q are.0.its (λ same. omega (arith, its, same))
      ∙ found-block other (k + 1) blocks j q are.1 (omega (arith, its))

  -- what a flight has is in its block
  found_block : (other : X) (blocks : List Table) (j : ℕ) (q : FlightNumber)
      → AreBlocks 0 blocks → j ≡ block_of q
      → found field other (get_or blocks j []) q ≡ found field other (all_entries blocks) q
  found_block other blocks j q are its = sym (found-block other 0 blocks j q are (omega (arith, its)))

  -- the same of blocks that are seen as one table
  in_block : (other : X) (blocks : List Table) {view : Table} {j : ℕ} (block : Table)
      (q : FlightNumber) → all_entries blocks ≡ view → AreBlocks 0 blocks
      → block ≡ get_or blocks j [] → j ≡ block_of q
      → found field other block q ≡ found field other view q
  in_block other blocks {view} {j} block q same are is its =
      ap (λ (t : Table). found field other t q) is
      ∙ found_block other blocks j q are its
      ∙ ap (λ (t : Table). found field other t q) same

-- ---- a block in place of another

blocks-set : (k : ℕ) (blocks : List Table) (j : ℕ) (new : Table) → AreBlocks k blocks → IsBlock (k + j) new → AreBlocks k (set blocks j new)
blocks-set k [] j new are its = tt
blocks-set k (b ∷ blocks) zero new are its = (subst (λ n. IsBlock n new) (omega arith) its, are.1)
blocks-set k (b ∷ blocks) (suc j) new are its = (are.0, blocks-set (k + 1) blocks j new are.1 (subst (λ n. IsBlock n new) (omega arith) its))

blocks_set : (blocks : List Table) (j : ℕ) (new : Table) → AreBlocks 0 blocks → IsBlock j new → AreBlocks 0 (set blocks j new)
blocks_set blocks j new are its = blocks-set 0 blocks j new are (subst (λ n. IsBlock n new) (omega arith) its)

block-at : (k : ℕ) (blocks : List Table) (j : ℕ) → AreBlocks k blocks → j < length blocks → IsBlock (k + j) (get_or blocks j [])
block-at k [] j are within = absurd (omega (arith, within))
block-at k (b ∷ blocks) zero are within = subst (λ n. IsBlock n b) (omega arith) are.0
block-at k (b ∷ blocks) (suc j) are within = subst (λ n. IsBlock n (get_or blocks j [])) (omega arith) (block-at (k + 1) blocks j are.1 (omega (arith, within)))

-- each block is one of its number
block_at : (blocks : List Table) (j : ℕ) → AreBlocks 0 blocks → j < length blocks → IsBlock j (get_or blocks j [])
block_at blocks j are within = subst (λ n. IsBlock n (get_or blocks j [])) (omega arith) (block-at 0 blocks j are within)

-- what holds of each flight's entry in the old block and in the new one, and of entries of other
-- blocks, which stay, holds of all
module _ {X : Type 0} (field : FlightPeriods → X) (other : X) (P : FlightNumber → X → X → Type 0) where
  each_flight : (blocks : List Table) (j : ℕ) (held new now : Table) → AreBlocks 0 blocks
      → j < length blocks → held ≡ get_or blocks j [] → all_entries blocks ≡ now → IsBlock j new
      → ((g : FlightNumber) → P g (found field other held g) (found field other new g)) → ((g : FlightNumber) → block_of g ≢ j → (x : X) → P g x x)
      → (g : FlightNumber)
      → P g (found field other now g) (found field other (all_entries (set blocks j new)) g)
  each_flight blocks j held new now are within is_held is_now its each apart g = by (cases_eq (block_of g) j)
    where
      after : AreBlocks 0 (set blocks j new)
      after = blocks_set blocks j new are its

      by : (block_of g ≡ j) ⊎ (block_of g ≢ j)
          → P g (found field other now g) (found field other (all_entries (set blocks j new)) g)
      by (inl here) =
          let new_is : found field other new g ≡ found field other (all_entries (set blocks j new)) g =
          ap (λ (t : Table). found field other t g) (sym (get_or-set_same blocks j new [] within)) ∙ found_block field other (set blocks j new) j g after (sym here) in
          let held_is : found field other held g ≡ found field other now g =
          ap (λ (t : Table). found field other t g) is_held ∙ found_block field other blocks j g are (sym here) ∙ ap (λ (t : Table). found field other t g) is_now in
          subst (λ (x : X). P g x (found field other (all_entries (set blocks j new)) g)) held_is (subst (λ (y : X). P g (found field other held g) y) new_is (each g))
      by (inr elsewhere) =
          let same : found field other now g ≡ found field other (all_entries (set blocks j new)) g =
          ap (λ (t : Table). found field other t g) (sym is_now) ∙ sym (found_block field other blocks (block_of g) g are refl)
          ∙ ap (λ (t : Table). found field other t g) (sym (get_or-set_other blocks j (block_of g) new [] elsewhere)) ∙ found_block field other (set blocks j new) (block_of g) g after refl in
          subst (λ (y : X). P g (found field other now g) y) same (apart g elsewhere (found field other now g))

-- flights of different blocks are different
apart_places : (q g : FlightNumber) (j : ℕ) → j ≡ block_of q → block_of g ≢ j → nat_eq (place_of q) (place_of g) ≡ false
apart_places q g j its apart = by (nat_eq (place_of q) (place_of g)) refl
  where
    by : (b : Bool) → nat_eq (place_of q) (place_of g) ≡ b → b ≡ false
    by true e =
        let same : place_of q ≡ place_of g = grind (arith, nat_tests) in
        absurd (apart (ap (λ n. n / 1024) (sym same) ∙ sym its))
    by false e = refl

-- ---- the block of a flight, among blocks that are seen as one table

pub record IsIn (blocks : List Table) (n : ℕ) (block now : Table) (flight : FlightNumber) : Type 0 where
  pub are : AreBlocks 0 blocks
  pub count : length blocks ≡ 264
  pub within : n < length blocks
  pub held : block ≡ get_or blocks n []
  pub seen : all_entries blocks ≡ now
  pub its : n ≡ block_of flight

pub is_in : {blocks : List Table} {n : ℕ} {first block now : Table} {flight : FlightNumber}
    → AreBlocks 0 blocks × (length blocks ≡ 264) → all_entries blocks ≡ now → n ≡ block_of flight
    → n < 264 → first ≡ get_or blocks n first → block ≡ first → IsIn blocks n block now flight
is_in {blocks = blocks} {n = n} {first = first} are seen its small at same =
    let within : n < length blocks = omega (arith, small, are.1) in
    record {
      are = are.0;
      count = are.1;
      within = within;
      held = same ∙ at ∙ get_or_default blocks n first [] within;
      seen = seen;
      its = its;
    }

module _ {blocks : List Table} {n : ℕ} {block now : Table} {flight : FlightNumber}
    (b : IsIn blocks n block now flight)
  where
    pub is_block : IsBlock n block
    is_block = subst (λ (t : Table). IsBlock n t) (sym b.held) (block_at blocks n b.are b.within)

    pub has : {X : Type 0} (field : FlightPeriods → X) (other : X)
        → found field other block flight ≡ found field other now flight
    has field other = in_block field other blocks block flight b.seen b.are b.held b.its

    -- an entry of it is written over, or put into its gap
    pub set_block : (i : ℕ) (f : FlightPeriods) → IsAt block flight i
        → place_of f.flight ≡ place_of flight → IsBlock n (set block i f)
    set_block i f at same =
        block_set n block i f is_block (record { in_range = at.in_range; its = at.its ∙ sym same })
        (ap (λ k. k / 1024) same ∙ sym b.its)

    pub insert_block : (i : ℕ) (p : Seen Legs) → IsGapFor block flight i
        → IsBlock n (insert block i (record { flight = flight; periods = p }))
    insert_block i p gap =
        block_insert n block i (record { flight = flight; periods = p }) is_block gap (sym b.its)

    module _ (new : Table) (is : IsBlock n new) where
      pub with_block : AreBlocks 0 (set blocks n new) × (length (set blocks n new) ≡ 264)
      with_block = (blocks_set blocks n new b.are is, length-set blocks n new ∙ b.count)

      -- what is changed of the flight in the block is changed in all blocks
      pub changed_in : {X : Type 0} (field : FlightPeriods → X) (other : X) (after : X → X)
          → ((q : FlightNumber) → found field other new q
          ≡ (if nat_eq (place_of flight) (place_of q) then after (found field other block q)
          else found field other block q))
          → (q : FlightNumber) → found field other (all_entries (set blocks n new)) q
          ≡ (if nat_eq (place_of flight) (place_of q) then after (found field other now q)
          else found field other now q)
      changed_in field other after made =
          each_flight field other
          (λ q x y. y ≡ (if nat_eq (place_of flight) (place_of q) then after x else x))
          blocks n block new now b.are b.within b.held b.seen is made
          (λ q elsewhere x. ap (λ (t : Bool). if t then after x else x)
          (sym (apart_places flight q n b.its elsewhere)))

      pub added_in : (period : DayRange) → AddsEnds flight period block new
          → AddsEnds flight period now (all_entries (set blocks n new))
      added_in period adds =
          each_flight (λ f. f.periods.cuts) [] (λ q x y. AddsOnlyAt flight period q x y)
          blocks n block new now b.are b.within b.held b.seen is adds (λ q elsewhere x cut kept. inl kept)

-- ---- all entries rise

key-front : (a b : Table) (i : ℕ) → i < length a → key_at (a ++ b) i ≡ key_at a i
key-front a b i within = ap (λ (f : FlightPeriods). place_of f.flight) (get_or_append_left a b no_entry i within)

key-back : (a b : Table) (i : ℕ) → length a ≤ i → key_at (a ++ b) i ≡ key_at b (i - length a)
key-back a b i le = ap (λ (f : FlightPeriods). place_of f.flight) (get_or-append_right a b (length a) i no_entry refl le)

from-key : (k : ℕ) (blocks : List Table) → AreBlocks k blocks → (i : ℕ)
    → i < length (all_entries blocks) → k ≤ key_at (all_entries blocks) i / 1024
from-key k [] are i within = absurd (omega (arith, within))
from-key k (b ∷ blocks) are i within = by (from-key (k + 1) blocks are.1) (cases_lt i (length b))
  where
    by : ((n : ℕ) → n < length (all_entries blocks) → k + 1 ≤ key_at (all_entries blocks) n / 1024)
        → (i < length b) ⊎ (length b ≤ i) → k ≤ key_at (b ++ all_entries blocks) i / 1024
    by rest (inl front) =
        let here = of_key k b i are.0.its front in
        subst (λ n. k ≤ n / 1024) (sym (key-front b (all_entries blocks) i front)) (omega (arith, here))
    by rest (inr back) =
        let long = length-append b (all_entries blocks) in
        let later = rest (i - length b) (omega (arith, within, back, long)) in
        subst (λ n. k ≤ n / 1024) (sym (key-back b (all_entries blocks) i back)) (omega (arith, later))

rising-joined : (k : ℕ) (blocks : List Table) → AreBlocks k blocks → AreRising (all_entries blocks)
rising-joined k [] are i j less within = absurd (omega (arith, within))
rising-joined k (b ∷ blocks) are i j less within = by (rising-joined (k + 1) blocks are.1) (cases_lt i (length b)) (cases_lt j (length b))
  where
    long : length (b ++ all_entries blocks) ≡ length b + length (all_entries blocks)
    long = length-append b (all_entries blocks)

    by : AreRising (all_entries blocks) → (i < length b) ⊎ (length b ≤ i)
        → (j < length b) ⊎ (length b ≤ j)
        → key_at (b ++ all_entries blocks) i < key_at (b ++ all_entries blocks) j
    by rest x (inl j_front) =
        let i_is = key-front b (all_entries blocks) i (omega (arith, less, j_front)) in
        let j_is = key-front b (all_entries blocks) j j_front in
        let rise = are.0.rising i j less j_front in
        omega (arith, i_is, j_is, rise)
    by rest (inl i_front) (inr j_back) =
        let i_is = key-front b (all_entries blocks) i i_front in
        let j_is = key-back b (all_entries blocks) j j_back in
        let i_block = of_key k b i are.0.its i_front in
        let j_block = from-key (k + 1) blocks are.1 (j - length b) (omega (arith, within, j_back, long)) in
        omega (arith, i_is, j_is, i_block, j_block)
    by rest (inr i_back) (inr j_back) =
        let i_is = key-back b (all_entries blocks) i i_back in
        let j_is = key-back b (all_entries blocks) j j_back in
        let rise = rest (i - length b) (j - length b) (omega (arith, less, i_back, j_back)) (omega (arith, within, j_back, long)) in
        omega (arith, i_is, j_is, rise)

pub rising_joined : (blocks : List Table) → AreBlocks 0 blocks → AreRising (all_entries blocks)
rising_joined blocks are = rising-joined 0 blocks are

-- ---- no entries

pub joined_empty : (n : ℕ) → all_entries (replicate n []) ≡ []
joined_empty zero = refl
joined_empty (suc n) = joined_empty n

empty_blocks : (k n : ℕ) → AreBlocks k (replicate n [])
empty_blocks k zero = tt
empty_blocks k (suc n) = (record { its = tt; rising = λ i j less within. absurd (omega (arith, within)) }, empty_blocks (k + 1) n)

pub blocks_empty : (n : ℕ) → AreBlocks 0 (replicate n [])
blocks_empty n = empty_blocks 0 n
