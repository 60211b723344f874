-- Days that are changed part by part are those that are changed at once.
use Rattle.std.proofs.Common.{◌≡◌, ◌≤◌, ◌<◌, ◌⊎◌, ℕ, zero, suc, ◌+◌, ◌-◌, Bool, true, false, ◌&&◌, ◌||◌, IsTrue, Contains, nat_eq, nat_le, nat_lt, if◌then◌else◌, List, [], ◌∷◌, length, slice_index_or, Some, inl, inr, refl, sym, ap, subst, ◌∙◌, arith}
use Rattle.std.specs.Str.{bytes_eq}
use Rattle.std.specs.List.{list_any}
use Rattle.std.proofs.lemmas.Bool.Decides.{nat_tests}
use Rattle.std.proofs.lemmas.Slice.Eq.{bytes_eq-Decides}
use Rattle.ssim_values.specs.Period.{DayRange}
use Rattle.ssim_periods.specs.Calendar.{holds}
use Rattle.ssim_values.specs.Calendar.{slot}
use Rattle.ssim_periods.specs.clauses.Days.{AddsOnly}
use Rattle.ssim_periods.specs.Days.{changed_on, count_on, counts_on}
use Rattle.ssim_text.specs.declared.leg.LegLine.{LegLine}
use Rattle.ssim_text.specs.declared.action.NewLegs.{NewLegs}
use Rattle.ssim_text.specs.declared.action.Action.{Action}
use Rattle.ssim_text.specs.declared.action.Action.TheVariants.{New, Cnl, Rpl, Eqt, Tim}
use Rattle.ssim_schedule.specs.internal.ActionParts.{AddsPoints, IsSteady, IsUniform, before, counts_by, sums_of}
use Rattle.ssim_schedule.specs.clauses.Acts.{acted_on, changed_by, divides, is_at, is_named}
use Rattle.ssim_schedule.specs.clauses.Acts.{is_point_of}
use Rattle.ssim_schedule.specs.Acts.{after_on, class_on, counted_by}
use Rattle.ssim_schedule.specs.Effect.{Outcome, Variations, class_number, create, effect, joined, leg_at, legs_from, outcome, replace, variation_on}
use Rattle.ssim_base.specs.Stations.{Row, variation_at}
use Rattle.ssim_base.specs.Timetable.{Days, Legs}

-- ---- lists of days

-- the days of t come to those of s, and all are those of u
pub record Comes (s t u : ℕ → Bool) : Type 0 where
  pub new : (n : ℕ) → t n ≡ true → (s n ≡ false) × (u n ≡ true)
  pub kept : (n : ℕ) → t n ≡ false → u n ≡ s n

module _ (s t u : ℕ → Bool) (comes : Comes s t u) where
  pub days_come : (after : ℕ → Legs → Legs) (n : ℕ) (days : Days) → changed_by t after n (changed_by s after n days) ≡ changed_by u after n days
  days_come after n [] = refl
  days_come after n (old ∷ days) =
      ap (λ (d : Legs). d ∷ changed_by t after (n + 1) (changed_by s after (n + 1) days)) (by (t n) refl)
      ∙ ap (λ (ds : Days). (if u n then after n old else old) ∷ ds) (days_come after (n + 1) days)
    where
      by : (b : Bool) → t n ≡ b → (if b then after n (if s n then after n old else old) else (if s n then after n old else old)) ≡ (if u n then after n old else old)
      by true e = rw ((comes.new n e).0, (comes.new n e).1) refl
      by false e = rw (comes.kept n e) refl

  pub counts_come : (after : ℕ → Legs → Legs) (class : ℕ → Legs → ℕ) (k n : ℕ) (days : Days) → counted_by s class k n days + counted_by t class k n (changed_by s after n days) ≡ counted_by u class k n days
  counts_come after class k n [] = refl
  counts_come after class k n (old ∷ days) = let ih = counts_come after class k (n + 1) days in let here = by (t n) refl in omega (arith, ih, here)
    where
      by : (b : Bool) → t n ≡ b → (if s n && nat_eq (class n old) k then 1 else 0) + (if b && nat_eq (class n (if s n then after n old else old)) k then 1 else 0) ≡ (if u n && nat_eq (class n old) k then 1 else 0)
      by true e = rw ((comes.new n e).0, (comes.new n e).1) (omega arith)
      by false e = rw (comes.kept n e) (omega arith)

-- no day is changed
pub days_none : (s : ℕ → Bool) (after : ℕ → Legs → Legs) → ((n : ℕ) → s n ≡ false) → (n : ℕ) (days : Days) → changed_by s after n days ≡ days
days_none s after none n [] = refl
days_none s after none n (old ∷ days) = rw (none n) (ap (λ (ds : Days). old ∷ ds) (days_none s after none (n + 1) days))

pub counts_none : (s : ℕ → Bool) (class : ℕ → Legs → ℕ) (k : ℕ) → ((n : ℕ) → s n ≡ false) → (n : ℕ) (days : Days) → counted_by s class k n days ≡ 0
counts_none s class k none n [] = refl
counts_none s class k none n (old ∷ days) = let ih = counts_none s class k none (n + 1) days in rw (none n) (omega (arith, ih))

-- the same days are changed
pub days_same : (s u : ℕ → Bool) (after : ℕ → Legs → Legs) → ((n : ℕ) → s n ≡ u n) → (n : ℕ) (days : Days) → changed_by s after n days ≡ changed_by u after n days
days_same s u after same n [] = refl
days_same s u after same n (old ∷ days) = rw (same n) (ap (λ (ds : Days). (if u n then after n old else old) ∷ ds) (days_same s u after same (n + 1) days))

pub counts_same : (s u : ℕ → Bool) (class : ℕ → Legs → ℕ) (k : ℕ) → ((n : ℕ) → s n ≡ u n) → (n : ℕ) (days : Days) → counted_by s class k n days ≡ counted_by u class k n days
counts_same s u class k same n [] = refl
counts_same s u class k same n (old ∷ days) = let ih = counts_same s u class k same (n + 1) days in rw (same n) (omega (arith, ih))

-- there are no more than the days up to the last of the set
pub counts_bound : (s : ℕ → Bool) (class : ℕ → Legs → ℕ) (k e : ℕ) → ((n : ℕ) → s n ≡ true → n < e) → (n : ℕ) (days : Days) → counted_by s class k n days ≤ e - n
counts_bound s class k e before n [] = omega arith
counts_bound s class k e before n (old ∷ days) = let ih = counts_bound s class k e before (n + 1) days in by (s n) refl ih
  where
    by : (b : Bool) → s n ≡ b → counted_by s class k (n + 1) days ≤ e - (n + 1) → (if b && nat_eq (class n old) k then 1 else 0) + counted_by s class k (n + 1) days ≤ e - n
    by true h ih = let lt = before n h in elim (nat_eq (class n old) k) as (λ c. (if c then 1 else 0) + counted_by s class k (n + 1) days ≤ e - n) [ true ↦ omega (arith, lt, ih) | false ↦ omega (arith, ih) ]
    by false h ih = omega (arith, ih)

-- ---- a period in one part

same_if : (a b : Bool) → a ≡ b → ◌≡◌ {A = ℕ} (if a then 1 else 0) (if b then 1 else 0)
same_if a b e = rw e refl

module _ (rows : List Row) (action : Action) (period : DayRange) (uniform : IsUniform rows action period) where
  none : ℕ → Bool
  none n = false

  pub days_at_once : (n : ℕ) (days : Days) → changed_on (holds period) (λ old. (effect rows action period.first old).0) n days ≡ changed_by (holds period) (after_on rows action) n days
  days_at_once n [] = refl
  days_at_once n (old ∷ days) =
      ap (λ (d : Legs). d ∷ changed_on (holds period) (λ old. (effect rows action period.first old).0) (n + 1) days) (by (holds period n) refl)
      ∙ ap (λ (ds : Days). (if holds period n then after_on rows action n old else old) ∷ ds) (days_at_once (n + 1) days)
    where
      by : (b : Bool) → holds period n ≡ b → (if b then (effect rows action period.first old).0 else old) ≡ (if b then after_on rows action n old else old)
      by true e = ap (λ (o : Outcome). o.0) (uniform n e old)
      by false e = refl

  pub counts_at_once : (k n : ℕ) (days : Days) → count_on (holds period) (λ old. class_number (effect rows action period.first old).1) k n days ≡ counted_by (holds period) (class_on rows action) k n days
  counts_at_once k n [] = refl
  counts_at_once k n (old ∷ days) = let ih = counts_at_once k (n + 1) days in let here = by (holds period n) refl in omega (arith, ih, here)
    where
      by : (b : Bool) → holds period n ≡ b → ◌≡◌ {A = ℕ} (if b && nat_eq (class_number (effect rows action period.first old).1) k then 1 else 0) (if b && nat_eq (class_on rows action n old) k then 1 else 0)
      by true e = same_if (nat_eq (class_number (effect rows action period.first old).1) k) (nat_eq (class_on rows action n old) k) (ap (λ (o : Outcome). nat_eq (class_number o.1) k) (uniform n e old))
      by false e = refl

-- ---- days between which no row begins or ends

or_true : (a b : Bool) → IsTrue b → IsTrue (a || b)
or_true true b h = refl
or_true false b h = h

true_or : (a b : Bool) → IsTrue a → IsTrue (a || b)
true_or true b h = refl
true_or false b h = absurd cc

-- on two days between which no row begins or ends, each named station has the same variation
pub steady : (rows : List Row) (action : Action) (d e : ℕ) (station : List ℕ) → d ≤ e → ((k : ℕ) (r : Row) → k < length rows → IsTrue (is_named action (slice_index_or rows k r).station) → IsSteady d e (slice_index_or rows k r)) → IsTrue (is_named action station)
    → variation_at rows station d ≡ variation_at rows station e
steady [] action d e station l h named = refl
steady (row ∷ rows) action d e station l h named =
    by (bytes_eq row.station station) refl (steady rows action d e station l (λ k r l n. h (suc k) r (omega arith) n) named)
  where
    by : (b : Bool) → bytes_eq row.station station ≡ b → variation_at rows station d ≡ variation_at rows station e
        → (if b && (nat_le row.first d && nat_le d row.last) then Some row.variation else variation_at rows station d) ≡ (if b && (nat_le row.first e && nat_le e row.last) then Some row.variation else variation_at rows station e)
    by true same rest =
        let its : row.station ≡ station = (bytes_eq-Decides row.station station).0 same in
        let here : IsSteady d e row = h 0 row (omega arith) (subst (λ t. IsTrue (is_named action t)) (sym its) named) in
        let first = here.0 in let last = here.1 in
        let one : (nat_le row.first d && nat_le d row.last) ≡ (nat_le row.first e && nat_le e row.last) = grind (arith, nat_tests) in
        ap (λ b. if b then Some row.variation else variation_at rows station d) one ∙ ap (λ o. if nat_le row.first e && nat_le e row.last then Some row.variation else o) rest
    by false same rest = rest

bytes_self : (t : List ℕ) → IsTrue (bytes_eq t t)
bytes_self t = (bytes_eq-Decides t t).1 refl

legs_same : (v w : Variations) (new : NewLegs) (i : ℕ) (lines : List LegLine) → ((station : List ℕ) → IsTrue (list_any (is_at station) lines) → v station ≡ w station) → legs_from v new i lines ≡ legs_from w new i lines
legs_same v w new i [] h = refl
legs_same v w new i (line ∷ lines) h =
    let board = line.departure.station in
    let off = line.arrival.station in
    let from : v board ≡ w board = h board (true_or (is_at board line) (list_any (is_at board) lines) (true_or (bytes_eq board board) (bytes_eq off board) (bytes_self board))) in
    let to : v off ≡ w off = h off (true_or (is_at off line) (list_any (is_at off) lines) (or_true (bytes_eq board off) (bytes_eq off off) (bytes_self off))) in
    ap (λ a. joined (leg_at a (v off) i line new) (legs_from v new (i + 1) lines)) from
    ∙ ap (λ b. joined (leg_at (w board) b i line new) (legs_from v new (i + 1) lines)) to
    ∙ ap (joined (leg_at (w board) (w off) i line new)) (legs_same v w new (i + 1) lines (λ station n. h station (or_true (is_at station line) (list_any (is_at station) lines) n)))

-- the same variations give the same outcome
outcome_same : (v w : Variations) (a : Action) → ((station : List ℕ) → IsTrue (is_named a station) → v station ≡ w station) → (old : Legs) → outcome v a old ≡ outcome w a old
outcome_same v w (New new) h old = ap (λ legs. create legs old) (legs_same v w new 0 new.legs h)
outcome_same v w Cnl h old = refl
outcome_same v w (Rpl new) h old = ap (λ legs. replace legs old) (legs_same v w new 0 new.legs h)
outcome_same v w (Eqt equipment) h old = refl
outcome_same v w (Tim lines) h old = refl

and_true : (a b : Bool) → (a && b) ≡ true → (a ≡ true) × (b ≡ true)
and_true true b h = (refl, h)
and_true false b h = absurd cc

held : (period : DayRange) (day : ℕ) → holds period day ≡ true → ((nat_le period.first day && nat_le day period.last) ≡ true) × (slice_index_or period.days (slot day) false ≡ true)
held period day h = and_true (nat_le period.first day && nat_le day period.last) (slice_index_or period.days (slot day) false) h

pub held_from : (period : DayRange) (day : ℕ) → holds period day ≡ true → period.first ≤ day
held_from period day h = let b : nat_le period.first day ≡ true = (and_true (nat_le period.first day) (nat_le day period.last) (held period day h).0).0 in grind (arith, nat_tests)

pub held_to : (period : DayRange) (day : ℕ) → holds period day ≡ true → day ≤ period.last
held_to period day h = let b : nat_le day period.last ≡ true = (and_true (nat_le period.first day) (nat_le day period.last) (held period day h).0).1 in grind (arith, nat_tests)

nearer : (first day last : ℕ) (row : Row) → first ≤ day → day ≤ last → IsSteady first last row → IsSteady first day row
nearer first day last row l m s = (elim s.0 as (λ _. (row.first ≤ first) ⊎ (day < row.first)) [ inl a ↦ inl a | inr b ↦ inr (omega arith) ], elim s.1 as (λ _. (row.last < first) ⊎ (day ≤ row.last)) [ inl a ↦ inl a | inr b ↦ inr (omega arith) ])

-- if no row that counts begins or ends within the period, the effect is the same on all its days
pub uniform_steady : (rows : List Row) (action : Action) (period : DayRange) → ((k : ℕ) (r : Row) → k < length rows → IsTrue (is_named action (slice_index_or rows k r).station) → IsSteady period.first period.last (slice_index_or rows k r)) → IsUniform rows action period
uniform_steady rows action period h day is_in old =
    let low = held_from period day is_in in
    let high = held_to period day is_in in
    outcome_same (variation_on rows period.first) (variation_on rows day) action
    (λ station named. steady rows action period.first day station low (λ k r l n. nearer period.first day period.last (slice_index_or rows k r) low high (h k r l n)) named) old

-- ---- the parts of a period

pub parts_come : (period part : DayRange) (at next : ℕ) → part.first ≡ at → part.last + 1 ≡ next → part.days ≡ period.days → period.first ≤ at → at < next → next ≤ period.last + 1 → Comes (before period at) (holds part) (before period next)
parts_come period part at next first last days from rises to =
    record {
      new = λ n e.
          let low = held_from part n e in let high = held_to part n e in
          let late : nat_lt n at ≡ false = grind (arith, nat_tests, first) in
          let early : nat_lt n next ≡ true = grind (arith, nat_tests, last) in
          let a : nat_le period.first n ≡ true = grind (arith, nat_tests, first) in
          let b : nat_le n period.last ≡ true = grind (arith, nat_tests, last) in
          let c : slice_index_or period.days (slot n) false ≡ true = ap (λ (ds : List Bool). slice_index_or ds (slot n) false) (sym days) ∙ (held part n e).1 in
          (ap (λ x. holds period n && x) late ∙ and_false (holds period n), rw (a, b, c, early) refl);
      kept = λ n e. same n (nat_lt n at) (nat_lt n next) refl refl e;
    }
  where
    and_false : (b : Bool) → (b && false) ≡ false
    and_false true = refl
    and_false false = refl

    off : (x y m : Bool) → x ≡ true → y ≡ true → ((x && y) && m) ≡ false → m ≡ false
    off true true m p q h = h
    off true false m p q h = absurd cc
    off false y m p q h = absurd cc

    none_of : (x m : Bool) → m ≡ false → ((x && m) && true) ≡ ((x && m) && false)
    none_of true true h = absurd cc
    none_of true false h = refl
    none_of false m h = refl

    same : (n : ℕ) (a b : Bool) → nat_lt n at ≡ a → nat_lt n next ≡ b → holds part n ≡ false → (holds period n && b) ≡ (holds period n && a)
    same n true true p q e = refl
    same n false false p q e = refl
    same n true false p q e = let lt : n < at = grind (arith, nat_tests) in let ge : next ≤ n = grind (arith, nat_tests) in absurd (omega (arith, lt, ge, rises))
    same n false true p q e =
        let ge : at ≤ n = grind (arith, nat_tests) in
        let lt : n < next = grind (arith, nat_tests) in
        let x : nat_le part.first n ≡ true = grind (arith, nat_tests, first, ge) in
        let y : nat_le n part.last ≡ true = grind (arith, nat_tests, last, lt) in
        let m : slice_index_or part.days (slot n) false ≡ false = off (nat_le part.first n) (nat_le n part.last) (slice_index_or part.days (slot n) false) x y e in
        let c : slice_index_or period.days (slot n) false ≡ false = ap (λ (ds : List Bool). slice_index_or ds (slot n) false) (sym days) ∙ m in
        none_of (nat_le period.first n && nat_le n period.last) (slice_index_or period.days (slot n) false) c

pub before_first : (period : DayRange) (n : ℕ) → before period period.first n ≡ false
before_first period n = by (holds period n) refl
  where
    by : (b : Bool) → holds period n ≡ b → (b && nat_lt n period.first) ≡ false
    by true e = let l = held_from period n e in grind (arith, nat_tests, l)
    by false e = refl

pub before_end : (period : DayRange) (n : ℕ) → before period (period.last + 1) n ≡ holds period n
before_end period n = by (holds period n) refl
  where
    by : (b : Bool) → holds period n ≡ b → (b && nat_lt n (period.last + 1)) ≡ b
    by true e = let l = held_to period n e in grind (arith, nat_tests, l)
    by false e = refl

pub before_bound : (period : DayRange) (at n : ℕ) → before period at n ≡ true → n < period.last + 1
before_bound period at n h = let l = held_to period n (and_true (holds period n) (nat_lt n at) h).0 in omega (arith, l)

-- the five counts of one part
pub five_at_once : (rows : List Row) (action : Action) (part : DayRange) → IsUniform rows action part → (days : Days) → counts_on (holds part) (λ old. class_number (effect rows action part.first old).1) days ≡ counts_by rows action (holds part) days
five_at_once rows action part uniform days =
    let e = counts_at_once rows action part uniform in
    rw (e 0 0 days, e 1 0 days, e 2 0 days, e 3 0 days, e 4 0 days) refl

-- a change made from equal rows, an equal action and an equal day has the same effect
module _ (rows made_rows : List Row) (action made_action : Action) (part : DayRange) (made_day : ℕ) (same_rows : made_rows ≡ rows) (same_action : made_action ≡ action) (same_day : made_day ≡ part.first) (uniform : IsUniform rows action part) (old : Days) where
  pub days_made : (new : Days) → new ≡ changed_on (holds part) (λ it. (effect made_rows made_action made_day it).0) 0 old → new ≡ acted_on rows action part old
  days_made new h =
      h ∙ ap (λ r. changed_on (holds part) (λ it. (effect r made_action made_day it).0) 0 old) same_rows
      ∙ ap (λ a. changed_on (holds part) (λ it. (effect rows a made_day it).0) 0 old) same_action
      ∙ ap (λ d. changed_on (holds part) (λ it. (effect rows action d it).0) 0 old) same_day
      ∙ days_at_once rows action part uniform 0 old

  pub counts_made : (counts : List ℕ) → counts ≡ counts_on (holds part) (λ it. class_number (effect made_rows made_action made_day it).1) old → counts ≡ counts_by rows action (holds part) old
  counts_made counts h =
      h ∙ ap (λ r. counts_on (holds part) (λ it. class_number (effect r made_action made_day it).1) old) same_rows
      ∙ ap (λ a. counts_on (holds part) (λ it. class_number (effect rows a made_day it).1) old) same_action
      ∙ ap (λ d. counts_on (holds part) (λ it. class_number (effect rows action d it).1) old) same_day
      ∙ five_at_once rows action part uniform old

-- ---- from part to part

module _ (rows : List Row) (action : Action) (period part : DayRange) (at next : ℕ) (comes : Comes (before period at) (holds part) (before period next)) (old mid : Days) (so_far : mid ≡ changed_by (before period at) (after_on rows action) 0 old) where
  pub days_next : (new : Days) → new ≡ acted_on rows action part mid → new ≡ changed_by (before period next) (after_on rows action) 0 old
  days_next new h = h ∙ ap (acted_on rows action part) so_far ∙ days_come (before period at) (holds part) (before period next) comes (after_on rows action) 0 old

  count_next : (k : ℕ) → counted_by (before period at) (class_on rows action) k 0 old + counted_by (holds part) (class_on rows action) k 0 mid ≡ counted_by (before period next) (class_on rows action) k 0 old
  count_next k =
      ap (λ (ds : Days). counted_by (before period at) (class_on rows action) k 0 old + counted_by (holds part) (class_on rows action) k 0 ds) so_far
      ∙ counts_come (before period at) (holds part) (before period next) comes (after_on rows action) (class_on rows action) k 0 old

  pub counts_next : (counts more : List ℕ) → counts ≡ counts_by rows action (before period at) old → more ≡ counts_by rows action (holds part) mid → sums_of counts more ≡ counts_by rows action (before period next) old
  counts_next counts more h m = rw (h, m) (rw (count_next 0, count_next 1, count_next 2, count_next 3, count_next 4) refl)

  pub counts_small : (counts more : List ℕ) → counts ≡ counts_by rows action (before period at) old → more ≡ counts_by rows action (holds part) mid → period.last < 36525 → (k : ℕ) → k < 5 → slice_index_or counts k 0 + slice_index_or more k 0 ≤ 36525
  counts_small counts more h m small k lt = rw (h, m) (by k lt)
    where
      each : (k : ℕ) → counted_by (before period at) (class_on rows action) k 0 old + counted_by (holds part) (class_on rows action) k 0 mid ≤ 36525
      each k = let e = count_next k in let b = counts_bound (before period next) (class_on rows action) k (period.last + 1) (before_bound period next) 0 old in omega (arith, e, b, small)

      by : (k : ℕ) → k < 5 → slice_index_or (counts_by rows action (before period at) old) k 0 + slice_index_or (counts_by rows action (holds part) mid) k 0 ≤ 36525
      by zero l = each 0
      by (suc zero) l = each 1
      by (suc (suc zero)) l = each 2
      by (suc (suc (suc zero))) l = each 3
      by (suc (suc (suc (suc zero)))) l = each 4
      by (suc (suc (suc (suc (suc k))))) l = absurd (omega (arith, l))

pub cuts_next : (rows : List Row) (action : Action) (period : DayRange) (first end : ℕ) (old mid new : List ℕ) → AddsPoints rows action period old mid → AddsOnly mid new first end → IsTrue (is_point_of rows action period first) → IsTrue (is_point_of rows action period end) → AddsPoints rows action period old new
cuts_next rows action period first end old mid new so_far adds p q cut has = by (adds cut has)
  where
    by : Contains mid cut ⊎ (cut ≡ first) ⊎ (cut ≡ end) → Contains old cut ⊎ IsTrue (is_point_of rows action period cut)
    by (inl was) = so_far cut was
    by (inr (inl e)) = inr (rw e p)
    by (inr (inr e)) = inr (rw e q)

-- ---- points

is_same : (n : ℕ) → nat_eq n n ≡ true
is_same n = grind (arith, nat_tests)

pub first_point : (rows : List Row) (action : Action) (period : DayRange) → IsTrue (is_point_of rows action period period.first)
first_point rows action period = true_or (nat_eq period.first period.first || nat_eq period.first (period.last + 1)) (list_any (divides action period.first) rows) (true_or (nat_eq period.first period.first) (nat_eq period.first (period.last + 1)) (is_same period.first))

pub end_point : (rows : List Row) (action : Action) (period : DayRange) → IsTrue (is_point_of rows action period (period.last + 1))
end_point rows action period = true_or (nat_eq (period.last + 1) period.first || nat_eq (period.last + 1) (period.last + 1)) (list_any (divides action (period.last + 1)) rows) (or_true (nat_eq (period.last + 1) period.first) (nat_eq (period.last + 1) (period.last + 1)) (is_same (period.last + 1)))

pub next_is_point : (rows : List Row) (action : Action) (period : DayRange) (limit next : ℕ) → limit ≡ period.last + 1 → (next ≡ limit) ⊎ IsTrue (list_any (divides action next) rows) → IsTrue (is_point_of rows action period next)
next_is_point rows action period limit next end (inl e) = rw (e, end) (end_point rows action period)
next_is_point rows action period limit next end (inr h) = or_true (nat_eq next period.first || nat_eq next (period.last + 1)) (list_any (divides action next) rows) h

-- ---- the loop's start and its end

pub start_point : (rows : List Row) (action : Action) (period : DayRange) (at : ℕ) → at ≡ period.first → IsTrue (is_point_of rows action period at)
start_point rows action period at e = rw e (first_point rows action period)

module _ (rows : List Row) (action : Action) (period : DayRange) (at : ℕ) (old : Days) where
  none_before : at ≡ period.first → (n : ℕ) → before period at n ≡ false
  none_before e n = rw e (before_first period n)

  pub days_start : at ≡ period.first → old ≡ changed_by (before period at) (after_on rows action) 0 old
  days_start e = sym (days_none (before period at) (after_on rows action) (none_before e) 0 old)

  pub counts_start : at ≡ period.first → ◌≡◌ {A = List ℕ} (0 ∷ 0 ∷ 0 ∷ 0 ∷ 0 ∷ []) (counts_by rows action (before period at) old)
  counts_start e =
      let none : (k : ℕ) → counted_by (before period at) (class_on rows action) k 0 old ≡ 0 = λ k. counts_none (before period at) (class_on rows action) k (none_before e) 0 old in
      rw (none 0, none 1, none 2, none 3, none 4) refl

  all_before : at ≡ period.last + 1 → (n : ℕ) → before period at n ≡ holds period n
  all_before e n = rw e (before_end period n)

  pub days_end : at ≡ period.last + 1 → changed_by (before period at) (after_on rows action) 0 old ≡ acted_on rows action period old
  days_end e = days_same (before period at) (holds period) (after_on rows action) (all_before e) 0 old

  pub counts_end : at ≡ period.last + 1 → counts_by rows action (before period at) old ≡ counts_by rows action (holds period) old
  counts_end e =
      let same : (k : ℕ) → counted_by (before period at) (class_on rows action) k 0 old ≡ counted_by (holds period) (class_on rows action) k 0 old = λ k. counts_same (before period at) (holds period) (class_on rows action) k (all_before e) 0 old in
      rw (same 0, same 1, same 2, same 3, same 4) refl

-- a part within which no row begins or ends
pub uniform_part : (rows : List Row) (action : Action) (part : DayRange) (at next : ℕ) → part.first ≡ at → part.last + 1 ≡ next → ((k : ℕ) (r : Row) → k < length rows → IsTrue (is_named action (slice_index_or rows k r).station) → IsSteady at (next - 1) (slice_index_or rows k r)) → IsUniform rows action part
uniform_part rows action part at next first last h =
    let end : next - 1 ≡ part.last = omega (arith, last) in
    uniform_steady rows action part (λ k r lt n. subst (λ x. IsSteady x part.last (slice_index_or rows k r)) (sym first) (subst (λ y. IsSteady at y (slice_index_or rows k r)) end (h k r lt n)))
