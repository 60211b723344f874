-- The dates of a flight with their reasons: those that pieces give, and those of the differing dates.
use Rattle.std.proofs.Common.{◌≡◌, ◌∙◌, ℕ, ◌+◌, ◌<◌, ◌≤◌, Bool, true, false, ◌&&◌, nat_le, nat_lt}
use Rattle.std.proofs.Common.{if◌then◌else◌, List, [], ◌∷◌, ◌++◌, filter, map, refl, sym, ap, arith}
use Rattle.std.specs.Prelude.{slice_index_or}
use Rattle.std.specs.List.{flat_map}
use Rattle.std.specs.Str.{bytes_eq}
use Rattle.std.proofs.lemmas.Bool.Decides.{nat_tests}
use Rattle.ssim_values.specs.Calendar.{slot}
use Rattle.ssim_values.specs.Flight.{FlightNumber}
use Rattle.ssim_values.specs.Period.{DayRange}
use Rattle.ssim_periods.specs.Calendar.{day_count, holds}
use Rattle.ssim_periods.specs.Days.{changed_on, each_day}
use Rattle.ssim_periods.specs.Pieces.{held_on, pieces_of}
use Rattle.ssim_periods.proofs.DayLemmas.{changed_on-each_day, day_count-is, each_day-same}
use Rattle.ssim_base.specs.Export.{all_flights}
use Rattle.ssim_base.specs.Stations.{Row}
use Rattle.ssim_base.specs.Timetable.{Days, on_day}
use Rattle.ssim_difference.specs.Differences.{Compared, DifferencePiece, compared, difference_pieces}
use Rattle.ssim_difference.specs.Differences.{differences, differs, differs_on, pair}
use Rattle.ssim_difference.specs.declared.difference.Difference.{Difference}
use Rattle.ssim_difference.proofs.Pieces.{hold_differences}
use Rattle.ssim_outbox.specs.Reason.{reason_words}
use Rattle.ssim_outbox.specs.Unsaid.{flight_lines, reason_on, unsaid_lines, unsaid_pieces}
use Rattle.ssim_outbox.specs.internal.AddedLines.{divided_lines}
use Rattle.ssim_outbox.specs.internal.ReasonPieces.{HaveOneVariation, IsPart, division}
use Rattle.ssim_outbox.specs.internal.ReasonPieces.{reason_after, reason_put}
use Rattle.ssim_outbox.proofs.Steady.{same_reason}

-- ---- the parts of a piece

-- the reasons when the days of a piece before a day got theirs
abbrev pub put_before : List Row → DifferencePiece → (ℕ → List ℕ) → ℕ → ℕ → List ℕ
put_before rows piece before first n = if nat_lt n first then reason_put rows piece before n else before n

-- the day is one of the period if the weekday is, between the ends
held : (p : DayRange) (n : ℕ) (b : Bool) → p.first ≤ n → n ≤ p.last → slice_index_or p.days (slot n) false ≡ b
    → holds p n ≡ b
held p n b from to e =
    let f : nat_le p.first n ≡ true = grind (arith, nat_tests) in
    let t : nat_le n p.last ≡ true = grind (arith, nat_tests) in
    ap (λ (x : Bool). (x && nat_le n p.last) && slice_index_or p.days (slot n) false) f
    ∙ ap (λ (x : Bool). x && slice_index_or p.days (slot n) false) t ∙ e

-- days before the first and after the last are not held
before_first : (p : DayRange) (n : ℕ) → n < p.first → holds p n ≡ false
before_first p n h =
    let f : nat_le p.first n ≡ false = grind (arith, nat_tests) in
    ap (λ (x : Bool). (x && nat_le n p.last) && slice_index_or p.days (slot n) false) f

and_false : (a : Bool) → (a && false) ≡ false
and_false true = refl
and_false false = refl

after_last : (p : DayRange) (n : ℕ) → p.last < n → holds p n ≡ false
after_last p n h =
    let t : nat_le n p.last ≡ false = grind (arith, nat_tests) in
    ap (λ (x : Bool). (nat_le p.first n && x) && slice_index_or p.days (slot n) false) t
    ∙ ap (λ (x : Bool). x && slice_index_or p.days (slot n) false) (and_false (nat_le p.first n))

-- no day before the first one got its reason yet
pub none_put : (rows : List Row) (piece : DifferencePiece) (before : ℕ → List ℕ) (n : ℕ)
    → before n ≡ put_before rows piece before piece.0.first n
none_put rows piece before n = by (nat_lt n piece.0.first) refl
  where
    by : (b : Bool) → nat_lt n piece.0.first ≡ b
        → before n ≡ put_before rows piece before piece.0.first n
    by true e =
        let early : n < piece.0.first = grind (arith, nat_tests) in
        sym (ap (λ (b : Bool). if b then reason_put rows piece before n else before n) e
        ∙ ap (λ (b : Bool). if b then reason_words rows n piece.1.old piece.1.new else before n)
        (before_first piece.0 n early))
    by false e = sym (ap (λ (b : Bool). if b then reason_put rows piece before n else before n) e)

-- all days got their reason
pub all_put : (rows : List Row) (piece : DifferencePiece) (before : ℕ → List ℕ) (first n : ℕ)
    → piece.0.last < first
    → put_before rows piece before first n ≡ reason_put rows piece before n
all_put rows piece before first n past = by (nat_lt n first) refl
  where
    by : (b : Bool) → nat_lt n first ≡ b
        → put_before rows piece before first n ≡ reason_put rows piece before n
    by true e = ap (λ (b : Bool). if b then reason_put rows piece before n else before n) e
    by false e =
        let late : piece.0.last < n = grind (arith, nat_tests) in
        ap (λ (b : Bool). if b then reason_put rows piece before n else before n) e
        ∙ sym (ap (λ (b : Bool). if b then reason_words rows n piece.1.old piece.1.new else before n)
        (after_last piece.0 n late))

-- one part more
module _ (rows : List Row) (piece : DifferencePiece) (before : ℕ → List ℕ) (first next : ℕ) (part : DayRange)
    (is : IsPart piece.0 first next part) (from : piece.0.first ≤ first) (some : first < next)
    (to : next ≤ piece.0.last + 1) (one : HaveOneVariation rows piece.1.new first next) where
  abbrev reason : List ℕ
  reason = reason_words rows part.first piece.1.old piece.1.new

  abbrev so_far : ℕ → List ℕ
  so_far = put_before rows piece before first

  abbrev own : ℕ → List ℕ
  own n = reason_words rows n piece.1.old piece.1.new

  -- on a day of the part
  inside : (n : ℕ) → first ≤ n → n < next
      → (if holds part n then reason else so_far n) ≡ reason_put rows piece before n
  inside n a b = by (slice_index_or piece.0.days (slot n) false) refl
    where
      yet : so_far n ≡ before n
      yet = let e : nat_lt n first ≡ false = grind (arith, nat_tests) in
          ap (λ (b : Bool). if b then reason_put rows piece before n else before n) e

      same : reason ≡ own n
      same = ap (λ (day : ℕ). reason_words rows day piece.1.old piece.1.new) is.first_is
          ∙ same_reason rows first n piece.1.old piece.1.new (λ station has. sym (one station has n a b))

      by : (w : Bool) → slice_index_or piece.0.days (slot n) false ≡ w
          → (if holds part n then reason else so_far n) ≡ reason_put rows piece before n
      by w e =
          let mine : holds piece.0 n ≡ w = held piece.0 n w (omega arith) (omega arith) e in
          let its : holds part n ≡ w = held part n w (omega (arith, is.first_is)) (omega (arith, is.last_is))
          (ap (λ (days : List Bool). slice_index_or days (slot n) false) is.days_are ∙ e) in
          ap (λ (b : Bool). if b then reason else so_far n) its
          ∙ chosen w
          ∙ sym (ap (λ (b : Bool). if b then own n else before n) mine)
        where
          chosen : (w : Bool) → (if w then reason else so_far n) ≡ (if w then own n else before n)
          chosen true = same
          chosen false = yet

  -- on any day
  pub part_put : (n : ℕ)
      → (if holds part n then reason else so_far n) ≡ put_before rows piece before next n
  part_put n = by (nat_lt n first) (nat_lt n next) refl refl
    where
      by : (a b : Bool) → nat_lt n first ≡ a → nat_lt n next ≡ b
          → (if holds part n then reason else so_far n) ≡ put_before rows piece before next n
      by true b e f =
          let early : n < first = grind (arith, nat_tests) in
          let t : nat_lt n next ≡ true = grind (arith, nat_tests) in
          ap (λ (x : Bool). if x then reason else so_far n) (before_first part n (omega (arith, is.first_is)))
          ∙ ap (λ (x : Bool). if x then reason_put rows piece before n else before n) e
          ∙ sym (ap (λ (x : Bool). if x then reason_put rows piece before n else before n) t)
      by false true e f =
          let a : first ≤ n = grind (arith, nat_tests) in
          let b : n < next = grind (arith, nat_tests) in
          inside n a b
          ∙ sym (ap (λ (x : Bool). if x then reason_put rows piece before n else before n) f)
      by false false e f =
          let late : next ≤ n = grind (arith, nat_tests) in
          ap (λ (x : Bool). if x then reason else so_far n) (after_last part n (omega (arith, is.last_is)))
          ∙ ap (λ (x : Bool). if x then reason_put rows piece before n else before n) e
          ∙ sym (ap (λ (x : Bool). if x then reason_put rows piece before n else before n) f)

  -- the list of the days after the part got its reason
  pub days_put : (old new : List (List ℕ)) (given : List ℕ) → old ≡ each_day so_far → given ≡ reason
      → new ≡ changed_on (holds part) (λ words. given) 0 old
      → new ≡ each_day (put_before rows piece before next)
  days_put old new given o g e =
      e ∙ ap (changed_on (holds part) (λ words. given) 0) o
      ∙ changed_on-each_day (holds part) (λ words. given) so_far
      ∙ ap (λ (words : List ℕ). each_day (λ n. if holds part n then words else so_far n)) g
      ∙ each_day-same (λ n. if holds part n then reason else so_far n) (put_before rows piece before next)
      (λ n within. part_put n)

-- ---- all pieces

-- one piece more
pub more_after : (rows : List Row) (pieces : List DifferencePiece) (piece : DifferencePiece) (before : ℕ → List ℕ)
    → reason_after rows (pieces ++ piece ∷ []) before ≡ reason_put rows piece (reason_after rows pieces before)
more_after rows [] piece before = refl
more_after rows (first ∷ pieces) piece before = more_after rows pieces piece (reason_put rows first before)

-- the reason of a day after pieces, by those that hold it
none_held : (rows : List Row) (pieces : List DifferencePiece) (before : ℕ → List ℕ) (n : ℕ)
    → held_on pieces n ≡ [] → reason_after rows pieces before n ≡ before n
none_held rows [] before n e = refl
none_held rows (piece ∷ pieces) before n e =
    by (holds piece.0 n) refl (none_held rows pieces (reason_put rows piece before) n)
  where
    by : (b : Bool) → holds piece.0 n ≡ b
        → (held_on pieces n ≡ [] → reason_after rows pieces (reason_put rows piece before) n
        ≡ reason_put rows piece before n)
        → reason_after rows pieces (reason_put rows piece before) n ≡ before n
    by true h later = absurd (let both : piece.1 ∷ held_on pieces n ≡ [] =
        sym (ap (λ (b : Bool). if b then piece.1 ∷ held_on pieces n else held_on pieces n) h) ∙ e in cc)
    by false h later =
        later (sym (ap (λ (b : Bool). if b then piece.1 ∷ held_on pieces n else held_on pieces n) h) ∙ e)
        ∙ ap (λ (b : Bool). if b then reason_words rows n piece.1.old piece.1.new else before n) h

one_held : (rows : List Row) (pieces : List DifferencePiece) (before : ℕ → List ℕ) (n : ℕ) (d : Difference)
    → held_on pieces n ≡ d ∷ [] → reason_after rows pieces before n ≡ reason_words rows n d.old d.new
one_held rows [] before n d e = absurd cc
one_held rows (piece ∷ pieces) before n d e =
    by (holds piece.0 n) refl (one_held rows pieces (reason_put rows piece before) n d)
  where
    by : (b : Bool) → holds piece.0 n ≡ b
        → (held_on pieces n ≡ d ∷ [] → reason_after rows pieces (reason_put rows piece before) n
        ≡ reason_words rows n d.old d.new)
        → reason_after rows pieces (reason_put rows piece before) n ≡ reason_words rows n d.old d.new
    by true h later =
        let both : piece.1 ∷ held_on pieces n ≡ d ∷ [] =
        sym (ap (λ (b : Bool). if b then piece.1 ∷ held_on pieces n else held_on pieces n) h) ∙ e in
        let rest : held_on pieces n ≡ [] = cc in
        let same : piece.1 ≡ d = cc in
        none_held rows pieces (reason_put rows piece before) n rest
        ∙ ap (λ (b : Bool). if b then reason_words rows n piece.1.old piece.1.new else before n) h
        ∙ ap (λ (x : Difference). reason_words rows n x.old x.new) same
    by false h later =
        later (sym (ap (λ (b : Bool). if b then piece.1 ∷ held_on pieces n else held_on pieces n) h) ∙ e)

-- the pieces of a difference give each date on which the flight differs its reason
differing_reason : (rows : List Row) (old new : Days) (n : ℕ) → n < day_count
    → reason_after rows (difference_pieces old new) (λ m. []) n ≡ reason_on rows old new n
differing_reason rows old new n within = by (differs_on old new n) (hold_differences old new n within)
  where
    by : (b : Bool)
        → held_on (difference_pieces old new) n
        ≡ (if b then pair (on_day old n) (on_day new n) ∷ [] else [])
        → reason_after rows (difference_pieces old new) (λ m. []) n
        ≡ (if b then reason_words rows n (on_day old n) (on_day new n) else [])
    by true e =
        one_held rows (difference_pieces old new) (λ m. []) n (pair (on_day old n) (on_day new n)) e
    by false e = none_held rows (difference_pieces old new) (λ m. []) n e

division_is : (rows : List Row) (old new : Days)
    → division rows (difference_pieces old new) ≡ unsaid_pieces rows old new
division_is rows old new =
    ap (pieces_of bytes_eq [])
    (each_day-same (reason_after rows (difference_pieces old new) (λ m. [])) (reason_on rows old new)
    (λ n within. differing_reason rows old new n (rw day_count-is within)))

-- ---- all flights

abbrev unsaid_flight : List ℕ → List Row → (FlightNumber → Days) → (FlightNumber → Days) → Compared → List ℕ
unsaid_flight airline rows old new flight =
    flight_lines airline flight.0 (unsaid_pieces rows (old flight.0) (new flight.0))

divided : (airline : List ℕ) (rows : List Row) (old new : FlightNumber → Days) (flights : List FlightNumber)
    → flat_map (divided_lines airline rows) (filter differs (map (compared old new) flights))
    ≡ flat_map (unsaid_flight airline rows old new) (filter differs (map (compared old new) flights))
divided airline rows old new [] = refl
divided airline rows old new (flight ∷ flights) =
    by (filter differs (map (compared old new) flights)) (differs (compared old new flight))
    (divided airline rows old new flights)
  where
    by : (rest : List Compared) (b : Bool)
        → flat_map (divided_lines airline rows) rest ≡ flat_map (unsaid_flight airline rows old new) rest
        → flat_map (divided_lines airline rows) (if b then compared old new flight ∷ rest else rest)
        ≡ flat_map (unsaid_flight airline rows old new) (if b then compared old new flight ∷ rest else rest)
    by rest true later =
        (λ i. flight_lines airline flight (division_is rows (old flight) (new flight) i) ++ later i)
    by rest false later = later

-- the lines of the flights that differ
pub lines_divided : (airline : List ℕ) (rows : List Row) (old new : FlightNumber → Days) (unsaid : List Compared)
    → unsaid ≡ differences old new
    → flat_map (divided_lines airline rows) unsaid ≡ unsaid_lines airline rows old new
lines_divided airline rows old new unsaid is =
    ap (flat_map (divided_lines airline rows)) is ∙ divided airline rows old new all_flights
