-- Minute by minute the departures and then the arrivals are rank by rank all movements.
use Rattle.std.proofs.Common.{◌≡◌, ◌∙◌, ℕ, zero, suc, ◌+◌, ◌*◌, ◌/◌, ◌%◌, ◌<◌, ◌≤◌, ◌==◌, ◌&&◌, nat_eq, Bool, true, false, if◌then◌else◌, cond, List, [], ◌∷◌, ◌++◌, refl, sym, ap, ap₂, append_assoc, arith}
use Rattle.std.specs.List.{AllByRecursion as Every, filter, flat_map, range_with_len}
use Rattle.std.specs.List.Sorted.{IsNonDecreasingBy, IsStableByKey}
use Rattle.std.specs.Ordering.{nat_cmp}
use Rattle.std.proofs.lemmas.Bool.Decides.{nat_tests}
use Rattle.ssim_board.specs.InOrder.{arrives_at, by_time, departs_at, is_arrival, is_departure, minute_count, of_minute}
use Rattle.ssim_board.specs.LocalTime.{moment_on}
use Rattle.ssim_board.specs.internal.Ranks.{kind_number, rank}
use Rattle.ssim_board.specs.declared.movement.Movement.{Movement}
use Rattle.ssim_board.specs.declared.movement.MovementKind.{MovementKind}
use Rattle.ssim_board.specs.declared.movement.MovementKind.TheVariants.{Departure, Arrival}
use Rattle.ssim_board.proofs.Ranked.{of_rank, sorted_is}

departure_rank : (minutes m : ℕ) (kind : MovementKind) → (nat_eq minutes m && is_departure kind) ≡ (2 * minutes + kind_number kind == 2 * m)
departure_rank minutes m Departure = grind (arith, nat_tests)
departure_rank minutes m Arrival = grind (arith, nat_tests)

arrival_rank : (minutes m : ℕ) (kind : MovementKind) → (nat_eq minutes m && is_arrival kind) ≡ (2 * minutes + kind_number kind == 2 * m + 1)
arrival_rank minutes m Departure = grind (arith, nat_tests)
arrival_rank minutes m Arrival = grind (arith, nat_tests)

departures_are : (all : List Movement) (m : ℕ) → filter (departs_at m) all ≡ of_rank rank all (2 * m)
departures_are [] m = refl
departures_are (x ∷ all) m = ap₂ (λ (b : Bool) ys. cond b (x ∷ ys) ys) (departure_rank x.time.minutes m x.kind) (departures_are all m)

arrivals_are : (all : List Movement) (m : ℕ) → filter (arrives_at m) all ≡ of_rank rank all (2 * m + 1)
arrivals_are [] m = refl
arrivals_are (x ∷ all) m = ap₂ (λ (b : Bool) ys. cond b (x ∷ ys) ys) (arrival_rank x.time.minutes m x.kind) (arrivals_are all m)

-- two ranks for each minute
minutes_are : (all : List Movement) (a n : ℕ) → flat_map (of_minute all) (range_with_len a n) ≡ flat_map (of_rank rank all) (range_with_len (2 * a) (2 * n))
minutes_are all a zero = refl
minutes_are all a (suc n) =
    let f = of_rank rank all in
    let two_more : 2 * suc n ≡ suc (suc (2 * n)) = omega arith in
    let next : 2 * (a + 1) ≡ 2 * a + 1 + 1 = omega arith in
    ap₂ (λ ys zs. ys ++ zs) (ap₂ (λ ys zs. ys ++ zs) (departures_are all a) (arrivals_are all a)) (minutes_are all (a + 1) n ∙ ap (λ (k : ℕ). flat_map f (range_with_len k (2 * n))) next)
    ∙ append_assoc (f (2 * a)) (f (2 * a + 1)) (flat_map f (range_with_len (2 * a + 1 + 1) (2 * n)))
    ∙ ap (λ (k : ℕ). flat_map f (range_with_len (2 * a) k)) (sym two_more)

by_time_is : (all : List Movement) → by_time all ≡ flat_map (of_rank rank all) (range_with_len 0 (2 * minute_count))
unfolding by_time
by_time_is all = minutes_are all 0 minute_count

-- a movement of each rank
abbrev with_rank : ℕ → Movement
with_rank r = record {
  kind = if r % 2 == 0 then Departure else Arrival;
  time = moment_on 0 (r / 2);
  flight = record { number = 0; suffix = 32 };
  date = 0;
  sequence = 0;
  aircraft_type = [];
  other_station = [];
  other_time = moment_on 0 0;
  is_uncertain = false;
}

has_rank : (r : ℕ) → rank (with_rank r) ≡ r
has_rank r = by (r % 2 == 0) refl
  where
    by : (b : Bool) → (r % 2 == 0) ≡ b → 2 * (r / 2) + kind_number (if b then Departure else Arrival) ≡ r
    by true even = let none : r % 2 ≡ 0 = grind (arith, nat_tests) in omega arith
    by false odd = let some : 0 < r % 2 = grind (arith, nat_tests) in omega arith

abbrev pub IsRanked : Movement → Type 0
IsRanked movement = movement.time.minutes ≤ 1440

small : (kind : MovementKind) → kind_number kind ≤ 1
small Departure = omega arith
small Arrival = omega arith

each_rank : (ys : List Movement) → Every IsRanked ys → Every (λ y. rank y < 2 * minute_count) ys
unfolding minute_count
each_rank [] h = tt
each_rank (y ∷ ys) h = (let few = small y.kind in let time = h.0 in omega arith, each_rank ys h.1)

-- a stable sort by rank is by time
pub sorted_by_time : (xs ys : List Movement) → Every IsRanked ys → IsNonDecreasingBy rank ys → IsStableByKey rank nat_cmp xs ys → ys ≡ by_time xs
sorted_by_time xs ys timed up stable = sorted_is rank with_rank has_rank (2 * minute_count) xs ys (each_rank ys timed) up stable ∙ sym (by_time_is xs)
