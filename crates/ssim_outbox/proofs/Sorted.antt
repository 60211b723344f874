-- A stable sort of sub-messages by rank. Those that name a date have one rank, so they keep their
-- order; on the date they act as before, and leave the same. Ranks say the order of a plan.
use Rattle.std.proofs.Common.{◌≡◌, ◌∙◌, ◌⊎◌, inl, inr, ℕ, suc, ◌+◌, ◌*◌, ◌<◌, ◌≤◌, ◌==◌, Bool, true}
use Rattle.std.proofs.Common.{false, not, ◌&&◌, cond, if◌then◌else◌, nat_le, List, [], ◌∷◌}
use Rattle.std.proofs.Common.{Bor, refl, sym, ap, ap₂, subst, arith}
use Rattle.std.specs.Fn.{Called, ComputesKey}
use Rattle.std.specs.List.{AllByRecursion, filter}
use Rattle.std.specs.List.Sorted.{IsNonDecreasingBy, IsPermutation, IsStableByKey}
use Rattle.std.specs.Ordering.{is_lt, nat_cmp}
use Rattle.std.specs.Prelude.{IsTrue}
use Rattle.std.proofs.lemmas.Bool.Decides.{nat_tests}
use Rattle.std.proofs.lemmas.Fn.{always_returns_same}
use Rattle.std.proofs.lemmas.List.Elements.{All-from_recursion, recursion_from_All}
use Rattle.std.proofs.lemmas.List.Sorted.{All-permutation}
use denote.Param.Members.{Mut}
use Rattle.ssim_values.specs.Characters.{is_letter}
use Rattle.ssim_values.specs.Flight.{FlightNumber, IsFlight, is_suffix}
use Rattle.ssim_values.specs.Period.{DayRange}
use Rattle.ssim_periods.specs.Calendar.{holds}
use Rattle.ssim_periods.proofs.CountLemmas.{le_or_lt}
use Rattle.ssim_periods.proofs.DayLemmas.{day_count-is, holds-Holds}
use Rattle.ssim_text.specs.declared.action.Action.TheVariants.{Cnl}
use Rattle.ssim_base.proofs.Places.{same-true}
use Rattle.ssim_base.specs.Stations.{Row}
use Rattle.ssim_base.specs.Timetable.{Days, Legs, same_flight}
use Rattle.ssim_schedule.specs.Acts.{after_on, itinerary_after}
use Rattle.ssim_outbox.specs.Acting.{ActOn}
use Rattle.ssim_outbox.specs.PlanOrder.{ComeInOrder, HaveOnePeriod, IsNotAfter, names_date}
use Rattle.ssim_outbox.specs.Published.{NamesDifferences, legs_after}
use Rattle.ssim_outbox.specs.declared.planned_sub.PlannedSub.{PlannedSub}
use Rattle.ssim_outbox.specs.internal.Sorted.{AreSorted, rank}
use Rattle.ssim_outbox.proofs.Settling.{both, either}

-- ---- what a stable sort keeps

-- whether two elements tie
tied : (a b : ℕ) → (not (is_lt (nat_cmp a b)) && not (is_lt (nat_cmp b a))) ≡ (b == a)
tied a b = grind (arith, nat_tests)

same_filter : {X : Type 0} (p q : X → Bool) (xs : List X) → ((x : X) → p x ≡ q x)
    → filter p xs ≡ filter q xs
same_filter p q [] h = refl
same_filter p q (x ∷ xs) h =
    ap₂ (λ (b : Bool) ys. cond b (x ∷ ys) ys) (h x) (same_filter p q xs h)

-- those of the rank of an element keep their order
kept_rank : {X : Type 0} (key : X → ℕ) (xs ys : List X) (x : X) → IsStableByKey key nat_cmp xs ys
    → filter (λ y. key y == key x) ys ≡ filter (λ y. key y == key x) xs
kept_rank {X} key xs ys x stable =
    let test = λ (y : X). not (is_lt (nat_cmp (key x) (key y))) && not
    (is_lt (nat_cmp (key y) (key x))) in
    let same = λ (y : X). tied (key x) (key y) in
    sym (same_filter test (λ y. key y == key x) ys same) ∙ stable x
    ∙ same_filter test (λ y. key y == key x) xs same

-- from the clause `stable` of `sort_by_key`, where each call gives the rank of the element
pub stable_ranks : {F : Type 0} {g : Mut F (Bor PlannedSub × Unit {0}) ℕ} {f : F}
    (xs ys : List PlannedSub)
    → ((key : PlannedSub → ℕ) → ComputesKey g key f → IsStableByKey key nat_cmp xs ys)
    → ((a : Bor PlannedSub × Unit {0}) (r : ℕ) (f' : F) → Called g f a r f'
    → (r ≡ rank a.0.now) × (f' ≡ f)) → (like : PlannedSub)
    → filter (λ sub. rank sub == rank like) ys ≡ filter (λ sub. rank sub == rank like) xs
stable_ranks {g = g} {f = f} xs ys stable h like =
    kept_rank rank xs ys like (stable rank (always_returns_same g (λ a r. r ≡ rank a.0.now) f h))

-- ---- those that name a date

-- what a test keeps of what a weaker one kept
twice : {X : Type 0} (p q : X → Bool) (xs : List X)
    → AllByRecursion (λ (x : X). p x ≡ true → q x ≡ true) xs → filter p (filter q xs) ≡ filter p xs
twice p q [] h = refl
twice p q (x ∷ xs) h = by (twice p q xs h.1) (p x) refl (q x) refl
  where
    by : filter p (filter q xs) ≡ filter p xs → (b : Bool) → p x ≡ b → (c : Bool) → q x ≡ c
        → filter p (cond (q x) (x ∷ filter q xs) (filter q xs))
        ≡ cond (p x) (x ∷ filter p xs) (filter p xs)
    by rest b e true f =
        ap (λ (c : Bool). filter p (cond c (x ∷ filter q xs) (filter q xs))) f
        ∙ ap (λ ys. cond (p x) (x ∷ ys) ys) rest
    by rest true e false f = let bad : false ≡ true = sym f ∙ h.0 e in absurd cc
    by rest false e false f =
        ap (λ (c : Bool). filter p (cond c (x ∷ filter q xs) (filter q xs))) f
        ∙ rest
        ∙ sym (ap (λ (b : Bool). cond b (x ∷ filter p xs) (filter p xs)) e)

equal-true : (a b : ℕ) → a ≡ b → (a == b) ≡ true
equal-true a b e = grind (arith, nat_tests)

-- a sub-message of a flight and a period
abbrev like_at : FlightNumber → DayRange → PlannedSub
like_at g period = record { action = Cnl; flight = g; period = period }

-- those that name a date have one rank
ranked : (g : FlightNumber) (n : ℕ) (period : DayRange) (subs : List PlannedSub)
    → AllByRecursion (λ (sub : PlannedSub). names_date g n sub ≡ true → sub.period ≡ period) subs
    → AllByRecursion (λ (sub : PlannedSub). names_date g n sub ≡ true
    → (rank sub == rank (like_at g period)) ≡ true) subs
ranked g n period [] h = tt
ranked g n period (sub ∷ subs) h = (of_one, ranked g n period subs h.1)
  where
    of_one : names_date g n sub ≡ true → (rank sub == rank (like_at g period)) ≡ true
    of_one named =
        let flight_is =
        same-true sub.flight g (both (same_flight sub.flight g) (holds sub.period n) named).0 in
        equal-true (rank sub) (rank (like_at g period))
        (ap₂ (λ (f : FlightNumber) (p : DayRange). (f.number * 128 + f.suffix) * 65536 + p.first)
        flight_is (h.0 named))

-- what holds of all sub-messages holds of them in another order
pub every_sorted : (P : PlannedSub → Type 0) (subs sorted : List PlannedSub)
    → IsPermutation subs sorted
    → AllByRecursion P subs → AllByRecursion P sorted
every_sorted P subs sorted moved h =
    recursion_from_All P sorted (All-permutation P subs sorted moved (All-from_recursion P subs h))

-- those that name a date keep their order
same_named : (subs sorted : List PlannedSub) (g : FlightNumber) (n : ℕ) → AreSorted subs sorted
    → HaveOnePeriod g n subs → filter (names_date g n) sorted ≡ filter (names_date g n) subs
same_named subs sorted g n is one =
    let like = like_at g one.0 in
    let of_rank = λ (sub : PlannedSub). rank sub == rank like in
    let moved = every_sorted
    (λ (sub : PlannedSub). names_date g n sub ≡ true → sub.period ≡ one.0) subs sorted
    is.permutation one.1 in
    sym (twice (names_date g n) of_rank sorted (ranked g n one.0 sorted moved))
    ∙ ap (filter (names_date g n)) (is.stable like)
    ∙ twice (names_date g n) of_rank subs (ranked g n one.0 subs one.1)

-- only those that name a date change what it has
legs_named : (rows : List Row) (subs : List PlannedSub) (g : FlightNumber) (n : ℕ) (legs : Legs)
    → legs_after rows (filter (names_date g n) subs) g n legs ≡ legs_after rows subs g n legs
legs_named rows [] g n legs = refl
legs_named rows (sub ∷ subs) g n legs =
    by (λ l. legs_named rows subs g n l) (names_date g n sub) refl
  where
    next : Legs
    next = itinerary_after rows sub.action sub.flight sub.period g n legs

    named : List PlannedSub
    named = filter (names_date g n) subs

    by : ((l : Legs) → legs_after rows named g n l ≡ legs_after rows subs g n l) → (b : Bool)
        → names_date g n sub ≡ b
        → legs_after rows (cond (names_date g n sub) (sub ∷ named) named) g n legs
        ≡ legs_after rows subs g n next
    by rest true e =
        ap (λ (b : Bool). legs_after rows (cond b (sub ∷ named) named) g n legs) e ∙ rest next
    by rest false e =
        ap (λ (b : Bool). legs_after rows (cond b (sub ∷ named) named) g n legs) e
        ∙ rest legs
        ∙ sym (ap (λ (b : Bool). legs_after rows subs g n
        (if b then after_on rows sub.action n legs else legs)) e)

-- only those that name a date have to act
act_named : (rows : List Row) (subs : List PlannedSub) (g : FlightNumber) (n : ℕ) (legs : Legs)
    → ActOn rows subs g n legs → ActOn rows (filter (names_date g n) subs) g n legs
act_named rows [] g n legs h = tt
act_named rows (sub ∷ subs) g n legs h =
    by (λ l k. act_named rows subs g n l k) (names_date g n sub) refl
  where
    next : Legs
    next = itinerary_after rows sub.action sub.flight sub.period g n legs

    named : List PlannedSub
    named = filter (names_date g n) subs

    by : ((l : Legs) → ActOn rows subs g n l → ActOn rows named g n l) → (b : Bool)
        → names_date g n sub ≡ b
        → ActOn rows (cond (names_date g n sub) (sub ∷ named) named) g n legs
    by rest true e =
        subst (λ (b : Bool). ActOn rows (cond b (sub ∷ named) named) g n legs) (sym e)
        (h.0, rest next h.1)
    by rest false e =
        subst (λ (b : Bool). ActOn rows (cond b (sub ∷ named) named) g n legs) (sym e)
        (rest legs (subst
        (λ (b : Bool). ActOn rows subs g n (if b then after_on rows sub.action n legs else legs))
        e h.1))

act_all : (rows : List Row) (subs : List PlannedSub) (g : FlightNumber) (n : ℕ) (legs : Legs)
    → ActOn rows (filter (names_date g n) subs) g n legs → ActOn rows subs g n legs
act_all rows [] g n legs h = tt
act_all rows (sub ∷ subs) g n legs h =
    by (λ l k. act_all rows subs g n l k) (names_date g n sub) refl
  where
    next : Legs
    next = itinerary_after rows sub.action sub.flight sub.period g n legs

    named : List PlannedSub
    named = filter (names_date g n) subs

    by : ((l : Legs) → ActOn rows named g n l → ActOn rows subs g n l) → (b : Bool)
        → names_date g n sub ≡ b → ActOn rows (sub ∷ subs) g n legs
    by rest true e =
        let k : ActOn rows (sub ∷ named) g n legs =
        subst (λ (b : Bool). ActOn rows (cond b (sub ∷ named) named) g n legs) e h in
        (k.0, rest next k.1)
    by rest false e =
        let k : ActOn rows named g n legs =
        subst (λ (b : Bool). ActOn rows (cond b (sub ∷ named) named) g n legs) e h in (
          λ is. let bad : false ≡ true = sym e ∙ is in absurd cc,
          subst (λ (b : Bool). ActOn rows subs g n
              (if b then after_on rows sub.action n legs else legs))
              (sym e) (rest legs k),
        )

-- sorted, those that name a date have one period too
pub period_sorted : (subs sorted : List PlannedSub) (g : FlightNumber) (n : ℕ) → AreSorted subs sorted
    → HaveOnePeriod g n subs → HaveOnePeriod g n sorted
period_sorted subs sorted g n is one = (
  one.0,
  every_sorted (λ (sub : PlannedSub). names_date g n sub ≡ true → sub.period ≡ one.0) subs sorted
      is.permutation one.1,
)

-- sorted, they leave the same of a date
pub legs_sorted : (rows : List Row) (subs sorted : List PlannedSub) (g : FlightNumber) (n : ℕ)
    (legs : Legs) → AreSorted subs sorted → HaveOnePeriod g n subs
    → legs_after rows sorted g n legs ≡ legs_after rows subs g n legs
legs_sorted rows subs sorted g n legs is one =
    sym (legs_named rows sorted g n legs)
    ∙ ap (λ (named : List PlannedSub). legs_after rows named g n legs)
    (same_named subs sorted g n is one)
    ∙ legs_named rows subs g n legs

-- sorted, they act on a date if they did before
pub act_sorted : (rows : List Row) (subs sorted : List PlannedSub) (g : FlightNumber) (n : ℕ)
    (legs : Legs) → AreSorted subs sorted → HaveOnePeriod g n subs
    → ActOn rows subs g n legs → ActOn rows sorted g n legs
act_sorted rows subs sorted g n legs is one h =
    act_all rows sorted g n legs
    (subst (λ (named : List PlannedSub). ActOn rows named g n legs)
    (sym (same_named subs sorted g n is one)) (act_named rows subs g n legs h))

-- ---- the order that ranks say

-- a suffix and a first day that ranks tell apart
pub record IsRanked (sub : PlannedSub) : Type 0 where
  pub suffix : sub.flight.suffix < 128
  pub first : sub.period.first < 65536

suffix_below : (s : ℕ) → IsTrue (is_suffix s) → s < 128
suffix_below s h = by (either (s == 32) (is_letter s) h)
  where
    by : IsTrue (s == 32) ⊎ IsTrue (is_letter s) → s < 128
    by (inl e) = grind (arith, nat_tests)
    by (inr e) = let to = (both (nat_le 65 s) (nat_le s 90) e).1 in grind (arith, nat_tests)

-- sub-messages of flights that exist and of dates of the calendar are so
pub all_ranked : (old new : FlightNumber → Days) (subs : List PlannedSub)
    → AllByRecursion (λ (sub : PlannedSub). IsFlight sub.flight) subs
    → AllByRecursion (NamesDifferences old new) subs → AllByRecursion IsRanked subs
all_ranked old new [] exist differing = tt
all_ranked old new (sub ∷ subs) exist differing = (of_one, all_ranked old new subs exist.1 differing.1)
  where
    of_one : IsRanked sub
    of_one =
        let flight = exist.0 in
        let names = differing.0 in
        let some = names.some in
        let from = (holds-Holds sub.period some.0 some.2).0 in
        let within : some.0 < 36525 = rw day_count-is at some.1 in
        record { suffix = suffix_below sub.flight.suffix flight.suffixed; first = omega arith }

-- a rank that is not greater
not_after : (one other : PlannedSub) → IsRanked one → IsRanked other → rank one ≤ rank other
    → IsNotAfter one other
not_after one other first second le = by (le_or_lt other.flight.number one.flight.number)
  where
    sa : one.flight.suffix < 128
    sa = first.suffix

    sb : other.flight.suffix < 128
    sb = second.suffix

    fa : one.period.first < 65536
    fa = first.first

    fb : other.period.first < 65536
    fb = second.first

    of_number : one.flight.number ≡ other.flight.number
        → (other.flight.suffix ≤ one.flight.suffix) ⊎ (one.flight.suffix < other.flight.suffix)
        → IsNotAfter one other
    of_number number (inr less) = inr (inl (number, less))
    of_number number (inl from) =
        let suffix : one.flight.suffix ≡ other.flight.suffix = omega (arith, sa, sb, fa, fb) in
        inr (inr (
          λ i. record { number = number i; suffix = suffix i },
          omega (arith, sa, sb, fa, fb),
        ))

    by : (other.flight.number ≤ one.flight.number) ⊎ (one.flight.number < other.flight.number)
        → IsNotAfter one other
    by (inr less) = inl less
    by (inl from) =
        let number : one.flight.number ≡ other.flight.number = omega (arith, sa, sb, fa, fb) in
        of_number number (le_or_lt other.flight.suffix one.flight.suffix)

pub come_in_order : (subs : List PlannedSub) → AllByRecursion IsRanked subs
    → IsNonDecreasingBy rank subs → ComeInOrder subs
come_in_order [] h up = tt
come_in_order (sub ∷ []) h up = tt
come_in_order (sub ∷ next ∷ later) h up = (
  not_after sub next h.0 h.1.0 (up 0 1 sub (omega arith) (omega arith)),
  come_in_order (next ∷ later) h.1
      (λ i j d le lt. up (suc i) (suc j) d (omega arith) (omega arith)),
)
