-- Rows of the flights that are chosen of all flights: the flights rise, so each has keys of its own.
use Rattle.std.proofs.Common.{◌≡◌, ◌≤◌, ◌+◌, ℕ, zero, suc, Bool, true, false, cond, List, [], ◌∷◌}
use Rattle.std.proofs.Common.{◌++◌, filter, map, ap, ◌∙◌, arith, refl}
use Rattle.std.proofs.lemmas.List.{map-append}
use Rattle.std.specs.List.{AllByRecursion as Each, flat_map, range_with_len}
use Rattle.ssim_values.specs.Flight.{FlightNumber, IsFlight}
use Rattle.ssim_base.specs.Export.{flight_at, flight_count}
use Rattle.ssim_base.specs.ReadBack.{place_of}
use Rattle.ssim_base.proofs.Each.{each-append}
use Rattle.ssim_base.proofs.Places.{flight-is, place-flight}
use Rattle.ssim_sql.specs.Keys.{AreDistinct}
use Rattle.ssim_sql.proofs.Distinct.{apart_by, distinct-append}

-- the chosen ones of some flights, each with its pieces
abbrev pub chosen : {P : Type 0} → (FlightNumber → List P) → (FlightNumber × List P → Bool) → ℕ → ℕ
    → List (FlightNumber × List P)
chosen pieces is_chosen low k =
    filter is_chosen (map (λ g. (g, pieces g)) (map flight_at (range_with_len low k)))

each_from : {K : Type 0} (flight_of : K → FlightNumber) (low : ℕ) (ks : List K)
    → Each (λ k. low + 1 ≤ place_of (flight_of k)) ks → Each (λ k. low ≤ place_of (flight_of k)) ks
each_from flight_of low [] each = tt
each_from flight_of low (k ∷ ks) each =
    (let above = each.0 in omega (arith, above), each_from flight_of low ks each.1)

each_at : {K : Type 0} (flight_of : K → FlightNumber) (low : ℕ) (ks : List K)
    → Each (λ k. flight_of k ≡ flight_at low) ks → Each (λ k. place_of (flight_of k) ≡ low) ks
each_at flight_of low [] each = tt
each_at flight_of low (k ∷ ks) each =
    (ap place_of each.0 ∙ place-flight low, each_at flight_of low ks each.1)

each_differs : {K : Type 0} (flight_of : K → FlightNumber) (low : ℕ) (ks : List K)
    → Each (λ k. low + 1 ≤ place_of (flight_of k)) ks
    → Each (λ k. low ≡ place_of (flight_of k) → ⊥) ks
each_differs flight_of low [] each = tt
each_differs flight_of low (k ∷ ks) each =
    (λ e. let above = each.0 in omega (arith, above, e), each_differs flight_of low ks each.1)

each_least : {K : Type 0} (flight_of : K → FlightNumber) (low : ℕ) (ks : List K)
    → Each (λ k. flight_of k ≡ flight_at low) ks → Each (λ k. low ≤ place_of (flight_of k)) ks
each_least flight_of low [] each = tt
each_least flight_of low (k ∷ ks) each = (
  let at = ap place_of each.0 ∙ place-flight low in omega (arith, at),
  each_least flight_of low ks each.1,
)

-- the keys of flights from a rank on
pub from_rank : {P K : Type 0} (pieces : FlightNumber → List P)
    (is_chosen : FlightNumber × List P → Bool) (keys : FlightNumber × List P → List K)
    (flight_of : K → FlightNumber)
    → ((g : FlightNumber) → IsFlight g → AreDistinct (keys (g, pieces g)))
    → ((g : FlightNumber) → Each (λ k. flight_of k ≡ g) (keys (g, pieces g)))
    → (low k : ℕ) → low + k ≤ flight_count
    → AreDistinct (flat_map keys (chosen pieces is_chosen low k))
    × Each (λ k. low ≤ place_of (flight_of k)) (flat_map keys (chosen pieces is_chosen low k))
from_rank pieces is_chosen keys flight_of own named low zero within = (tt, tt)
from_rank pieces is_chosen keys flight_of own named low (suc k) within =
    let g = flight_at low in
    let more = from_rank pieces is_chosen keys flight_of own named (low + 1) k (omega arith) in
    let rest = chosen pieces is_chosen (low + 1) k in
    let mine = keys (g, pieces g) in
    elim (is_chosen (g, pieces g)) as (λ (b : Bool).
    AreDistinct (flat_map keys (cond b ((g, pieces g) ∷ rest) rest))
    × Each (λ k. low ≤ place_of (flight_of k)) (flat_map keys (cond b ((g, pieces g) ∷ rest) rest))) [
      | true ↦ (
        distinct-append mine (flat_map keys rest) (own g (flight-is low (omega arith))) more.0
            (apart_by (λ k. place_of (flight_of k)) low mine (flat_map keys rest)
            (each_at flight_of low mine (named g))
            (each_differs flight_of low (flat_map keys rest) more.1)),
        each-append (λ k. low ≤ place_of (flight_of k)) mine (flat_map keys rest)
            (each_least flight_of low mine (named g))
            (each_from flight_of low (flat_map keys rest) more.1),
      )
      | false ↦ (more.0, each_from flight_of low (flat_map keys rest) more.1)
    ]

-- a map of what is joined
pub map-flat_map : {X K L : Type 0} (f : K → L) (g : X → List K) (xs : List X)
    → map f (flat_map g xs) ≡ flat_map (λ x. map f (g x)) xs
map-flat_map f g [] = refl
map-flat_map f g (x ∷ xs) =
    map-append f (g x) (flat_map g xs) ∙ ap (λ ls. map f (g x) ++ ls) (map-flat_map f g xs)
