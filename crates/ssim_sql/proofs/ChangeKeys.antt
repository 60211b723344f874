-- No two legs of sides have one key.
use Rattle.std.proofs.Common.{◌≡◌, ◌≢◌, ◌≤◌, ◌<◌, ℕ, Bool, true, false, if◌then◌else◌}
use Rattle.std.proofs.Common.{List, [], ◌∷◌, ◌++◌, codes, length, map, refl, slice_index_or, sym}
use Rattle.std.proofs.Common.{ap, subst, arith}
use Rattle.std.proofs.lemmas.List.{map-append}
use Rattle.std.proofs.lemmas.List.Elements.{recursion_from_All}
use Rattle.std.proofs.lemmas.List.FromFn.{length-map-range_with_len}
use Rattle.std.specs.List.{AllByRecursion as Each, flat_map}
use Rattle.ssim_values.specs.Flight.{FlightNumber}
use Rattle.ssim_values.specs.Period.{DayRange}
use Rattle.ssim_periods.specs.Calendar.{day_count}
use Rattle.ssim_periods.specs.Pieces.{ArePieces, held_on}
use Rattle.ssim_periods.proofs.PieceLaw.{alone-short, pieces_law}
use Rattle.ssim_base.specs.Export.{flight_count}
use Rattle.ssim_base.specs.ReadBack.{IsTimetable}
use Rattle.ssim_base.specs.Timetable.{Above, Days, Legs, on_day}
use Rattle.ssim_base.proofs.Each.{each-any, each-append, each-flat_map}
use Rattle.ssim_difference.specs.Differences.{Compared, DifferencePiece, difference}
use Rattle.ssim_difference.specs.Differences.{difference_pieces, differences, differing_days, differs}
use Rattle.ssim_difference.specs.Differences.{differs_on, no_difference, pair, same_difference}
use Rattle.ssim_difference.specs.clauses.DifferenceLaws.{exact_difference}
use Rattle.ssim_difference.specs.declared.difference.Difference.{Difference}
use Rattle.ssim_difference.proofs.Pieces.{hold_differences}
use Rattle.ssim_sql.specs.ChangeRows.{both_legs, change_legs, side_legs}
use Rattle.ssim_sql.specs.Keys.{AreDistinct, LegKey, change_key}
use Rattle.ssim_sql.proofs.Distinct.{apart_by, distinct-append, distinct-map}
use Rattle.ssim_sql.proofs.FlightKeys.{from_rank, map-flat_map}
use Rattle.ssim_sql.proofs.LegKeys.{piece_keys, rising}
use Rattle.ssim_sql.proofs.PieceKeys.{AreOnce, Begins, pieces_distinct}

abbrev SideKey : Type 0
SideKey = LegKey × List ℕ

-- ---- a side

abbrev side_keys : List ℕ → FlightNumber → DayRange → Legs → List SideKey
side_keys side flight period legs = map change_key (side_legs side flight (period, legs))

of_side : (side : List ℕ) (flight : FlightNumber) (period : DayRange) (legs : Legs)
    → map (λ (k : LegKey). (k, side)) (piece_keys flight (period, legs))
    ≡ side_keys side flight period legs
of_side side flight period [] = refl
of_side side flight period (leg ∷ legs) =
    ap (λ (ks : List SideKey). ((flight, period.first, leg.sequence), side) ∷ ks)
    (of_side side flight period legs)

side_distinct : (side : List ℕ) (flight : FlightNumber) (period : DayRange) (legs : Legs)
    → Above 0 legs → AreDistinct (side_keys side flight period legs)
side_distinct side flight period legs above =
    subst (λ (ks : List SideKey). AreDistinct ks) (of_side side flight period legs)
    (distinct-map (λ (k : LegKey). (k, side)) (λ (k : SideKey). k.0) (λ k. refl)
    (piece_keys flight (period, legs)) (rising flight period 0 legs above))

-- what is true of each key of a side
of_each : (P : SideKey → Type 0) (side : List ℕ) (flight : FlightNumber) (period : DayRange)
    → ((n : ℕ) → P ((flight, period.first, n), side)) → (legs : Legs)
    → Each P (side_keys side flight period legs)
of_each P side flight period each [] = tt
of_each P side flight period each (leg ∷ legs) =
    (each leg.sequence, of_each P side flight period each legs)

-- ---- a piece

abbrev both_keys : FlightNumber → DifferencePiece → List SideKey
both_keys flight piece = map change_key (both_legs flight piece)

sides : (flight : FlightNumber) (piece : DifferencePiece) → both_keys flight piece
    ≡ side_keys (codes "old") flight piece.0 piece.1.old
    ++ side_keys (codes "new") flight piece.0 piece.1.new
sides flight piece =
    map-append change_key (side_legs (codes "old") flight (piece.0, piece.1.old))
    (side_legs (codes "new") flight (piece.0, piece.1.new))

old≢new : codes "old" ≢ codes "new"
old≢new e =
    let first : 111 ≡ 110 = ap (λ (bs : List ℕ). slice_index_or bs 0 0) e in
    omega (arith, first)

abbrev AreAbove : Difference → Type 0
AreAbove d = Above 0 d.old × Above 0 d.new

piece_distinct : (flight : FlightNumber) (piece : DifferencePiece) → AreAbove piece.1
    → AreDistinct (both_keys flight piece)
piece_distinct flight piece above =
    let old = side_keys (codes "old") flight piece.0 piece.1.old in
    let new = side_keys (codes "new") flight piece.0 piece.1.new in
    subst (λ (ks : List SideKey). AreDistinct ks) (sym (sides flight piece))
    (distinct-append old new
    (side_distinct (codes "old") flight piece.0 piece.1.old above.0)
    (side_distinct (codes "new") flight piece.0 piece.1.new above.1)
    (apart_by (λ (k : SideKey). k.1) (codes "old") old new
    (of_each (λ k. k.1 ≡ codes "old") (codes "old") flight piece.0 (λ n. refl) piece.1.old)
    (of_each (λ k. codes "old" ≢ k.1) (codes "new") flight piece.0 (λ n. old≢new) piece.1.new)))

each_key : (P : SideKey → Type 0) (flight : FlightNumber) (piece : DifferencePiece)
    → ((n : ℕ) (side : List ℕ) → P ((flight, piece.0.first, n), side))
    → Each P (both_keys flight piece)
each_key P flight piece each =
    subst (λ (ks : List SideKey). Each P ks) (sym (sides flight piece))
    (each-append P (side_keys (codes "old") flight piece.0 piece.1.old)
    (side_keys (codes "new") flight piece.0 piece.1.new)
    (of_each P (codes "old") flight piece.0 (λ n. each n (codes "old")) piece.1.old)
    (of_each P (codes "new") flight piece.0 (λ n. each n (codes "new")) piece.1.new))

-- ---- the pieces of a flight

law : (old new : Days)
    → ArePieces same_difference no_difference (differing_days old new) (difference_pieces old new)
law old new = pieces_law same_difference no_difference exact_difference (differing_days old new)

once : (old new : Days) → AreOnce (difference_pieces old new)
once old new n =
    subst (λ (found : List Difference). length found ≤ 1) (sym ((law old new).on_each_day n))
    (alone-short same_difference no_difference _)

begin : (old new : Days) → Each (Begins day_count) (difference_pieces old new)
begin old new =
    recursion_from_All (Begins day_count) (difference_pieces old new) (λ k d within.
    let from = (law old new).each_begins k d within in
    let whole = days_length old new in
    (let one = from.0 in let other = from.1 in omega (arith, one, other, whole), from.2))
  where
    days_length : (old new : Days) → length (differing_days old new) ≡ day_count
    days_length old new =
        length-map-range_with_len (λ n. difference (on_day old n) (on_day new n)) 0 day_count

held_above : (old new : Days) → ((n : ℕ) → n < day_count → Above 0 (on_day old n))
    → ((n : ℕ) → n < day_count → Above 0 (on_day new n))
    → (n : ℕ) → n < day_count → Each AreAbove (held_on (difference_pieces old new) n)
held_above old new before after n less =
    subst (λ (found : List Difference). Each AreAbove found) (sym (hold_differences old new n less))
    (by (differs_on old new n))
  where
    by : (b : Bool) → Each AreAbove (if b then pair (on_day old n) (on_day new n) ∷ [] else [])
    by true = ((before n less, after n less), tt)
    by false = tt

of_pieces : (flight : FlightNumber) (old new : Days)
    → ((n : ℕ) → n < day_count → Above 0 (on_day old n))
    → ((n : ℕ) → n < day_count → Above 0 (on_day new n))
    → AreDistinct (flat_map (both_keys flight) (difference_pieces old new))
of_pieces flight old new before after =
    pieces_distinct day_count AreAbove (both_keys flight) (λ (k : SideKey). k.0.1)
    (difference_pieces old new) (once old new) (begin old new) (held_above old new before after)
    (λ p above. piece_distinct flight p above)
    (λ p. each_key (λ k. k.0.1 ≡ p.0.first) flight p (λ n side. refl))

-- ---- all flights

abbrev flight_keys : Compared → List SideKey
flight_keys flight = map change_key (flat_map (both_legs flight.0) flight.1)

by_pieces : (flight : FlightNumber) (ps : List DifferencePiece)
    → flight_keys (flight, ps) ≡ flat_map (both_keys flight) ps
by_pieces flight ps = map-flat_map change_key (both_legs flight) ps

pub change_keys : (old new : FlightNumber → Days) → IsTimetable old → IsTimetable new
    → AreDistinct (map change_key (change_legs (differences old new)))
change_keys old new before after =
    subst (λ (keys : List SideKey). AreDistinct keys)
    (sym (map-flat_map change_key (λ (flight : Compared). flat_map (both_legs flight.0) flight.1)
    (differences old new)))
    (from_rank (λ g. difference_pieces (old g) (new g)) differs flight_keys (λ (k : SideKey). k.0.0)
    (λ g exists. subst (λ (keys : List SideKey). AreDistinct keys)
    (sym (by_pieces g (difference_pieces (old g) (new g))))
    (of_pieces g (old g) (new g) (λ n less. before.rising g n exists less)
    (λ n less. after.rising g n exists less)))
    (λ g. subst (λ (keys : List SideKey). Each (λ k. k.0.0 ≡ g) keys)
    (sym (by_pieces g (difference_pieces (old g) (new g))))
    (each-flat_map (λ (k : SideKey). k.0.0 ≡ g) (both_keys g) (difference_pieces (old g) (new g))
    (each-any (λ (p : DifferencePiece). Each (λ k. k.0.0 ≡ g) (both_keys g p))
    (difference_pieces (old g) (new g)) (λ p. each_key (λ k. k.0.0 ≡ g) g p (λ n side. refl)))))
    0 flight_count (omega arith)).0
