-- The pieces of a flight's days and the days themselves: what a leg of some piece has, a leg of some
-- day has; and the dates of the pieces are the days with legs.
use Rattle.std.proofs.Common.{◌≡◌, ◌∙◌, ℕ, zero, suc, ◌+◌, ◌-◌, ◌≤◌, ◌<◌, Bool, true, false, ◌||◌, cond}
use Rattle.std.proofs.Common.{if◌then◌else◌, nat_eq, min, ◌^◌, List, [], ◌∷◌, length, map, refl, sym, ap, ap₂}
use Rattle.std.proofs.Common.{arith}
use Rattle.std.specs.List.{count_by, flat_map, list_any, range_with_len, sum_by}
use Rattle.std.proofs.lemmas.Bool.Decides.{nat_tests}
use Rattle.std.proofs.lemmas.List.Sums.{sum_by-cons}
use Rattle.ssim_values.specs.Period.{DayRange}
use Rattle.ssim_periods.specs.Calendar.{day_count, holds}
use Rattle.ssim_periods.specs.Cover.{break_after, cover, cover_from, last_where}
use Rattle.ssim_periods.specs.Days.{each_day}
use Rattle.ssim_periods.specs.Pieces.{alone, has_value, held_on, pieces_with, values_of}
use Rattle.ssim_periods.proofs.CoverLaw.{period_at-holds}
use Rattle.ssim_periods.proofs.CoverLemmas.{break_after-is, cover_from-step, last_where-is}
use Rattle.ssim_periods.proofs.DayLemmas.{day_count-is, index-each_day, length-each_day}
use Rattle.ssim_periods.proofs.PieceLaw.{Every, Every-append, Every-sort, pieces_law}
use Rattle.ssim_base.specs.Export.{Piece, pieces, same_itinerary}
use Rattle.ssim_base.specs.clauses.ItineraryLaws.{exact_itinerary}
use Rattle.ssim_base.specs.Timetable.{Days, Legs, on_day}
use Rattle.ssim_overview.specs.Totals.{calendar, date_count, has_legs}
use Rattle.ssim_overview.specs.internal.Totals.{dates_of_pieces}
use Rattle.ssim_overview.proofs.Tests.{or_left, or_right, same_truth}

-- ---- tests

-- some number of a range passes
pub any_at : (test : ℕ → Bool) (a k n : ℕ) → a ≤ n → n < a + k → test n ≡ true
    → list_any test (range_with_len a k) ≡ true
any_at test a zero n from to t = absurd (omega arith)
any_at test a (suc k) n from to t = elim (nat_eq a n) as (λ b. nat_eq a n ≡ b → (test a || list_any test (range_with_len (a + 1) k)) ≡ true) [
  | true ↦ λ same. let is : a ≡ n = grind (arith, nat_tests) in
      or_left (test a) (list_any test (range_with_len (a + 1) k)) (ap test is ∙ t)
  | false ↦ λ other. let later : a + 1 ≤ n = grind (arith, nat_tests) in
      or_right (test a) (list_any test (range_with_len (a + 1) k))
      (any_at test (a + 1) k n later (omega arith) t)
] refl

-- the number of a range that passes
pub record Found (test : ℕ → Bool) (a k : ℕ) : Type 0 where
  pub n : ℕ
  pub from : a ≤ n
  pub to : n < a + k
  pub passes : test n ≡ true

pub any_found : (test : ℕ → Bool) (a k : ℕ) → list_any test (range_with_len a k) ≡ true → Found test a k
any_found test a zero h = absurd cc
any_found test a (suc k) h = elim (test a) as (λ b. test a ≡ b → (b || list_any test (range_with_len (a + 1) k)) ≡ true → Found test a (suc k)) [
  | true ↦ λ e t. record { n = a; from = omega arith; to = omega arith; passes = e }
  | false ↦ λ e t. let f = any_found test (a + 1) k t in let low = f.from in let high = f.to in
      record { n = f.n; from = omega arith; to = omega arith; passes = f.passes }
] refl h

-- the same numbers pass
pub any_same : (test other : ℕ → Bool) (a k : ℕ) → ((n : ℕ) → n < a + k → test n ≡ other n)
    → list_any test (range_with_len a k) ≡ list_any other (range_with_len a k)
any_same test other a zero h = refl
any_same test other a (suc k) h =
    ap₂ (λ (x y : Bool). x || y) (h a (omega arith))
    (any_same test other (a + 1) k (λ n l. h n (omega arith)))

-- ---- sums over days

abbrev over : (ℕ → ℕ) → ℕ → ℕ → ℕ
over f a k = sum_by f (range_with_len a k)

over_none : (a k : ℕ) → over (λ n. 0) a k ≡ 0
over_none a zero = refl
over_none a (suc k) =
    let first = sum_by-cons (λ (n : ℕ). 0) a (range_with_len (a + 1) k) in
    let rest = over_none (a + 1) k in
    omega arith

over_both : (f g : ℕ → ℕ) (a k : ℕ) → over (λ n. f n + g n) a k ≡ over f a k + over g a k
over_both f g a zero = refl
over_both f g a (suc k) =
    let all = sum_by-cons (λ (n : ℕ). f n + g n) a (range_with_len (a + 1) k) in
    let one = sum_by-cons f a (range_with_len (a + 1) k) in
    let other = sum_by-cons g a (range_with_len (a + 1) k) in
    let rest = over_both f g (a + 1) k in
    omega arith

pub over_same : (f g : ℕ → ℕ) (a k : ℕ) → ((n : ℕ) → n < a + k → f n ≡ g n) → over f a k ≡ over g a k
over_same f g a zero h = refl
over_same f g a (suc k) h =
    sum_by-cons f a (range_with_len (a + 1) k)
    ∙ ap₂ (λ (x y : ℕ). x + y) (h a (omega arith)) (over_same f g (a + 1) k (λ n l. h n (omega arith)))
    ∙ sym (sum_by-cons g a (range_with_len (a + 1) k))

-- ---- each piece

-- a period of the days before the end that holds its first and its last day
abbrev pub Ended : ℕ → DayRange → Type 0
Ended end p =
    (p.first ≤ p.last) × (p.last < end) × (holds p p.first ≡ true) × (holds p p.last ≡ true)

cover_ended : (count : ℕ) (is_in : ℕ → Bool) (from end : ℕ) → Every (Ended end) (cover_from count is_in from end)
cover_ended zero is_in from end = tt
cover_ended (suc count) is_in from end =
    cover_from-step count is_in from end (Every (Ended end)) (λ none. tt) (λ a f.
    let after = break_after is_in a end in
    let lt = f.lt in
    let b = break_after-is is_in a end lt in let gt = b.0 in let le = b.1 in
    let l = last_where-is is_in a (after - a) f.own in let low = l.0 in let high = l.1 in
    let last = last_where is_in a (after - a) in (
      (
        low,
        omega arith,
        (period_at-holds is_in a end a lt f.own).1 (omega arith) gt ∙ f.own,
        (period_at-holds is_in a end last lt f.own).1 low (omega arith) ∙ l.2,
      ),
      cover_ended count is_in after end,
    ))

paired : (end : ℕ) (v : Legs) (periods : List DayRange) → Every (Ended end) periods
    → Every (λ (piece : Piece). Ended end piece.0) (map (λ period. (period, v)) periods)
paired end v [] e = tt
paired end v (p ∷ periods) e = (e.0, paired end v periods e.1)

of_values : (days : Days) (values : List Legs)
    → Every (λ (piece : Piece). Ended (length days) piece.0)
    (flat_map (pieces_with same_itinerary days) values)
of_values days [] = tt
of_values days (v ∷ values) =
    Every-append (λ (piece : Piece). Ended (length days) piece.0) (pieces_with same_itinerary days v)
    (flat_map (pieces_with same_itinerary days) values)
    (paired (length days) v (cover (has_value same_itinerary days v) (length days))
    (cover_ended (length days) (has_value same_itinerary days v) 0 (length days)))
    (of_values days values)

-- each of the pieces of days holds its first and its last day
pub pieces_ended : (days : Days) → Every (λ (piece : Piece). Ended (length days) piece.0) (pieces days)
pieces_ended days =
    Every-sort (λ (piece : Piece). Ended (length days) piece.0)
    (flat_map (pieces_with same_itinerary days) (values_of same_itinerary [] days))
    (of_values days (values_of same_itinerary [] days))

-- ---- what is held on a day

pub held_is : (days : Days) (n : ℕ) → held_on (pieces days) n ≡ alone same_itinerary [] (on_day days n)
held_is days n = (pieces_law same_itinerary [] exact_itinerary days).on_each_day n

-- the legs of a day pass exactly if they do alone
alone_any : (test : Legs → Bool) → test [] ≡ false → (legs : Legs)
    → list_any test (alone same_itinerary [] legs) ≡ test legs
alone_any test none [] = sym none
alone_any test none (leg ∷ legs) = or_false (test (leg ∷ legs))
  where
    or_false : (b : Bool) → (b || false) ≡ b
    or_false true = refl
    or_false false = refl

-- one day of a piece whose legs pass
held_of_any : (test : Legs → Bool) (end : ℕ) (ps : List Piece) → Every (λ (piece : Piece). Ended end piece.0) ps
    → list_any (λ piece. test piece.1) ps ≡ true
    → (n : ℕ) × (n < end) × (list_any test (held_on ps n) ≡ true)
held_of_any test end [] e h = absurd cc
held_of_any test end (p ∷ ps) e h = by (held_of_any test end ps e.1) (test p.1) refl h
  where
    later : (n : ℕ) (b : Bool) → list_any test (held_on ps n) ≡ true
        → list_any test (if b then p.1 ∷ held_on ps n else held_on ps n) ≡ true
    later n true t = or_right (test p.1) (list_any test (held_on ps n)) t
    later n false t = t

    by : (list_any (λ (piece : Piece). test piece.1) ps ≡ true → (n : ℕ) × (n < end) × (list_any test (held_on ps n) ≡ true))
        → (b : Bool) → test p.1 ≡ b → (b || list_any (λ (piece : Piece). test piece.1) ps) ≡ true
        → (n : ℕ) × (n < end) × (list_any test (held_on (p ∷ ps) n) ≡ true)
    by rest true t all = (
      p.0.first,
      (let low = e.0.0 in let high = e.0.1 in omega arith),
      ap (λ (b : Bool). list_any test (if b then p.1 ∷ held_on ps p.0.first else held_on ps p.0.first)) e.0.2
          ∙ or_left (test p.1) (list_any test (held_on ps p.0.first)) t,
    )
    by rest false t all =
        let found = rest all in
        (found.0, found.1, later found.0 (holds p.0 found.0) found.2)

-- a piece that is held on a day
any_of_held : (test : Legs → Bool) (ps : List Piece) (n : ℕ) → list_any test (held_on ps n) ≡ true
    → list_any (λ piece. test piece.1) ps ≡ true
any_of_held test [] n h = absurd cc
any_of_held test (p ∷ ps) n h = by (any_of_held test ps n) (holds p.0 n) h
  where
    held : Bool
    held = list_any test (held_on ps n)

    later : Bool
    later = list_any (λ (piece : Piece). test piece.1) ps

    here : (held ≡ true → later ≡ true) → (b : Bool) → (b || held) ≡ true → (b || later) ≡ true
    here rest true t = refl
    here rest false t = rest t

    by : (held ≡ true → later ≡ true) → (b : Bool)
        → list_any test (if b then p.1 ∷ held_on ps n else held_on ps n) ≡ true
        → (test p.1 || later) ≡ true
    by rest true t = here rest (test p.1) t
    by rest false t = or_right (test p.1) later (rest t)

-- ---- legs by date

pub on_its_day : (legs_on : ℕ → Legs) (n : ℕ) → n < 36525 → on_day (each_day legs_on) n ≡ legs_on n
on_its_day legs_on n lt = index-each_day legs_on n [] lt

held_test : (test : Legs → Bool) → test [] ≡ false → (legs_on : ℕ → Legs) (n : ℕ) → n < 36525
    → list_any test (held_on (pieces (each_day legs_on)) n) ≡ test (legs_on n)
held_test test none legs_on n lt =
    ap (list_any test) (held_is (each_day legs_on) n)
    ∙ alone_any test none (on_day (each_day legs_on) n) ∙ ap test (on_its_day legs_on n lt)

-- some piece passes exactly if the legs of some date do
pub any_piece : (test : Legs → Bool) → test [] ≡ false → (legs_on : ℕ → Legs)
    → list_any (λ piece. test piece.1) (pieces (each_day legs_on))
    ≡ list_any (λ n. test (legs_on n)) calendar
any_piece test none legs_on =
    let days = each_day legs_on in
    let ps = pieces days in
    let len : length days ≡ 36525 = length-each_day legs_on in
    let count = day_count-is in
    same_truth (list_any (λ (piece : Piece). test piece.1) ps) (list_any (λ n. test (legs_on n)) calendar)
    (λ some. let found = held_of_any test (length days) ps (pieces_ended days) some in
    let within = found.1 in let lt : found.0 < 36525 = omega arith in
    any_at (λ n. test (legs_on n)) 0 day_count found.0 (omega arith) (omega arith)
    (sym (held_test test none legs_on found.0 lt) ∙ found.2))
    (λ some. let found = any_found (λ n. test (legs_on n)) 0 day_count some in
    let within = found.to in let lt : found.n < 36525 = omega arith in
    any_of_held test ps found.n (held_test test none legs_on found.n lt ∙ found.passes))

-- ---- dates

held_more : (piece : Piece) (ps : List Piece) (n : ℕ)
    → cond (holds piece.0 n) 1 0 + length (held_on ps n) ≡ length (held_on (piece ∷ ps) n)
held_more piece ps n = by (holds piece.0 n)
  where
    by : (b : Bool)
        → cond b 1 0 + length (held_on ps n)
        ≡ length (if b then piece.1 ∷ held_on ps n else held_on ps n)
    by true = omega arith
    by false = omega arith

-- the days of pieces, piece by piece or day by day
by_day : (ps : List Piece) (a k : ℕ)
    → sum_by (λ piece. count_by (holds piece.0) (range_with_len a k)) ps
    ≡ over (λ n. length (held_on ps n)) a k
by_day [] a k = sym (over_none a k)
by_day (piece ∷ ps) a k =
    sum_by-cons (λ (p : Piece). count_by (holds p.0) (range_with_len a k)) piece ps
    ∙ ap (λ (m : ℕ). count_by (holds piece.0) (range_with_len a k) + m) (by_day ps a k)
    ∙ sym (over_both (λ n. cond (holds piece.0 n) 1 0) (λ n. length (held_on ps n)) a k)
    ∙ over_same (λ n. cond (holds piece.0 n) 1 0 + length (held_on ps n))
    (λ n. length (held_on (piece ∷ ps) n)) a k (λ n l. held_more piece ps n)

alone_one : (legs : Legs) → length (alone same_itinerary [] legs) ≡ cond (has_legs legs) 1 0
alone_one [] = refl
alone_one (leg ∷ legs) = refl

-- the dates of the pieces of a flight are those on which it flies
pub dates_counted : (legs_on : ℕ → Legs)
    → dates_of_pieces (pieces (each_day legs_on)) ≡ date_count legs_on
dates_counted legs_on =
    let days = each_day legs_on in
    let count = day_count-is in
    by_day (pieces days) 0 day_count
    ∙ over_same (λ n. length (held_on (pieces days) n)) (λ n. cond (has_legs (legs_on n)) 1 0) 0 day_count
    (λ n l. ap length (held_is days n) ∙ alone_one (on_day days n)
    ∙ ap (λ (legs : Legs). cond (has_legs legs) 1 0) (on_its_day legs_on n (omega arith)))

-- ---- whether a day is held

held_by_some : (ps : List Piece) (n : ℕ)
    → list_any (λ piece. holds piece.0 n) ps ≡ list_any (λ _. true) (held_on ps n)
held_by_some [] n = refl
held_by_some (p ∷ ps) n = by (held_by_some ps n) (holds p.0 n)
  where
    by : list_any (λ (piece : Piece). holds piece.0 n) ps ≡ list_any (λ (_ : Legs). true) (held_on ps n)
        → (b : Bool) → (b || list_any (λ (piece : Piece). holds piece.0 n) ps)
        ≡ list_any (λ (_ : Legs). true) (if b then p.1 ∷ held_on ps n else held_on ps n)
    by rest true = refl
    by rest false = rest

alone_some : (legs : Legs) → list_any (λ _. true) (alone same_itinerary [] legs) ≡ has_legs legs
alone_some [] = refl
alone_some (leg ∷ legs) = refl

-- some piece holds a date exactly if the flight flies on it
pub is_held : (legs_on : ℕ → Legs) (n : ℕ) → n < 36525
    → list_any (λ piece. holds piece.0 n) (pieces (each_day legs_on)) ≡ has_legs (legs_on n)
is_held legs_on n lt =
    held_by_some (pieces (each_day legs_on)) n
    ∙ ap (list_any (λ (_ : Legs). true)) (held_is (each_day legs_on) n)
    ∙ alone_some (on_day (each_day legs_on) n) ∙ ap has_legs (on_its_day legs_on n lt)

-- ---- sums that fit

-- a sum so far and a number more, if the whole fits
pub saturated : (count n result so_far m total : ℕ) → (so_far < 2 ^ 64 → count ≡ so_far) → n ≡ m
    → result ≡ min (count + n) 18446744073709551615
    → total ≡ so_far + m → total < 2 ^ 64 → result ≡ total
saturated count n result so_far m total before is added more fits =
    let so : count ≡ so_far = before (omega arith) in
    omega arith

-- the same with a number that is known if it fits
pub saturated_if : (count n result so_far m total : ℕ) → (so_far < 2 ^ 64 → count ≡ so_far)
    → (m < 2 ^ 64 → n ≡ m) → result ≡ min (count + n) 18446744073709551615
    → total ≡ so_far + m → total < 2 ^ 64 → result ≡ total
saturated_if count n result so_far m total before is added more fits =
    saturated count n result so_far m total before (is (omega arith)) added more fits
