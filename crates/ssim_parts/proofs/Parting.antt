-- One part more of a piece, and one piece more.
use Rattle.std.proofs.Common.{◌≡◌, ◌∙◌, ◌≤◌, ◌<◌, ℕ, zero, suc, ◌+◌, Bool, true, false, ◌&&◌, nat_le}
use Rattle.std.proofs.Common.{nat_lt, if◌then◌else◌, List, [], ◌∷◌, ◌++◌, map, length, get_or, refl}
use Rattle.std.proofs.Common.{sym, ap, append-nil, arith}
use Rattle.std.specs.Prelude.{slice_index_or}
use Rattle.std.specs.List.{AllByRecursion}
use Rattle.std.proofs.lemmas.Bool.Decides.{nat_tests}
use Rattle.ssim_values.specs.Calendar.{slot}
use Rattle.ssim_values.specs.Period.{DayRange}
use Rattle.ssim_values.specs.declared.time_mode.TimeMode.{TimeMode}
use Rattle.ssim_periods.specs.Calendar.{holds}
use Rattle.ssim_periods.specs.Pieces.{alone, held_on}
use Rattle.ssim_base.specs.Export.{Piece, same_itinerary}
use Rattle.ssim_base.specs.Stations.{Row}
use Rattle.ssim_base.specs.Timetable.{Above, Legs}
use Rattle.ssim_parts.specs.declared.moved_flight.MovedFlight.{MovedFlight}
use Rattle.ssim_parts.specs.MovedLegs.{legs_if_kept, moved_flight, moved_leg, moved_legs}
use Rattle.ssim_parts.specs.MovedLegs.{own_fate, shift_of}
use Rattle.ssim_parts.specs.declared.fate.Fate.{Fate}
use Rattle.ssim_parts.specs.declared.fate.Fate.TheVariants.{Absent, Kept, Left}
use Rattle.ssim_parts.specs.internal.Placed.{IsPart, MovedPiece}
use Rattle.ssim_parts.proofs.Held.{held_on-more}

-- ---- lists

pub all_both : {A : Type 0} (P : A → Type 0) (xs ys : List A) → AllByRecursion P xs
    → AllByRecursion P ys → AllByRecursion P (xs ++ ys)
all_both P [] ys a b = b
all_both P (x ∷ xs) ys a b = (a.0, all_both P xs ys a.1 b)

pub all_at : {A : Type 0} (P : A → Type 0) (xs : List A) (i : ℕ) (d : A) → i < length xs
    → AllByRecursion P xs → P (get_or xs i d)
all_at P [] i d less a = absurd (omega arith)
all_at P (x ∷ xs) zero d less a = a.0
all_at P (x ∷ xs) (suc i) d less a = all_at P xs i d (omega arith) a.1

-- ---- legs in order

pub moved_order : (rows : List Row) (wanted : TimeMode) (n shift low : ℕ) (legs : Legs)
    → Above low legs → Above low (map (moved_leg rows wanted n shift) legs)
moved_order rows wanted n shift low [] a = tt
moved_order rows wanted n shift low (leg ∷ legs) a =
    (a.0, a.1, moved_order rows wanted n shift leg.sequence legs a.2)

kept_order : (fate : Fate) (legs : Legs) → Above 0 legs → Above 0 (legs_if_kept fate legs)
kept_order Absent legs a = tt
kept_order (Left reason) legs a = tt
kept_order (Kept shift) legs a = a

pub flight_order : (rows : List Row) (wanted : TimeMode) (n : ℕ) (legs : Legs) → Above 0 legs
    → Above 0 (moved_flight rows wanted n legs).legs
flight_order rows wanted n legs a =
    kept_order (own_fate rows wanted n legs) (moved_legs rows wanted n legs)
    (moved_order rows wanted n (shift_of rows wanted n legs) 0 legs a)

-- ---- the parts of a piece

-- the flight dates of a piece before a day
abbrev pub before_day : List Row → TimeMode → DayRange → Legs → ℕ → ℕ → List MovedFlight
before_day rows wanted period legs first n =
    if holds period n && nat_lt n first then moved_flight rows wanted n legs ∷ [] else []

-- the day is one of the period if the weekday is, between the ends
held : (p : DayRange) (n : ℕ) (b : Bool) → p.first ≤ n → n ≤ p.last
    → slice_index_or p.days (slot n) false ≡ b → holds p n ≡ b
held p n b from to e =
    let f : nat_le p.first n ≡ true = grind (arith, nat_tests) in
    let t : nat_le n p.last ≡ true = grind (arith, nat_tests) in
    ap (λ (x : Bool). (x && nat_le n p.last) && slice_index_or p.days (slot n) false) f
    ∙ ap (λ (x : Bool). x && slice_index_or p.days (slot n) false) t ∙ e

-- days before the first and after the last are not held
before_first : (p : DayRange) (n : ℕ) → n < p.first → holds p n ≡ false
before_first p n h =
    let f : nat_le p.first n ≡ false = grind (arith, nat_tests) in
    ap (λ (x : Bool). (x && nat_le n p.last) && slice_index_or p.days (slot n) false) f

and_false : (a : Bool) → (a && false) ≡ false
and_false true = refl
and_false false = refl

and_true : (a : Bool) → (a && true) ≡ a
and_true true = refl
and_true false = refl

after_last : (p : DayRange) (n : ℕ) → p.last < n → holds p n ≡ false
after_last p n h =
    let t : nat_le n p.last ≡ false = grind (arith, nat_tests) in
    ap (λ (x : Bool). (nat_le p.first n && x) && slice_index_or p.days (slot n) false) t
    ∙ ap (λ (x : Bool). x && slice_index_or p.days (slot n) false) (and_false (nat_le p.first n))

module _ (rows : List Row) (wanted : TimeMode) (period : DayRange) (legs : Legs) where
  abbrev one : ℕ → List MovedFlight
  one n = moved_flight rows wanted n legs ∷ []

  -- at the beginning none is there
  pub none_before : (n : ℕ) → before_day rows wanted period legs period.first n ≡ []
  none_before n = by (nat_lt n period.first) refl
    where
      by : (b : Bool) → nat_lt n period.first ≡ b
          → (if holds period n && b then one n else []) ≡ []
      by true e =
          let early : n < period.first = grind (arith, nat_tests) in
          ap (λ (x : Bool). if x && true then one n else []) (before_first period n early)
      by false e = ap (λ (x : Bool). if x then one n else []) (and_false (holds period n))

  -- at the end all are
  pub all_before : (first n : ℕ) → period.last < first
      → before_day rows wanted period legs first n ≡ (if holds period n then one n else [])
  all_before first n past = by (nat_lt n first) refl
    where
      by : (b : Bool) → nat_lt n first ≡ b
          → (if holds period n && b then one n else []) ≡ (if holds period n then one n else [])
      by true e = ap (λ (x : Bool). if x then one n else []) (and_true (holds period n))
      by false e =
          let late : period.last < n = grind (arith, nat_tests) in
          let none = after_last period n late in
          ap (λ (x : Bool). if x then one n else []) (and_false (holds period n))
          ∙ sym (ap (λ (x : Bool). if x then one n else []) none)

  -- one part more
  pub part_more : (first next : ℕ) (part : DayRange) (value : MovedFlight)
      → IsPart period first next part → period.first ≤ first → first < next
      → next ≤ period.last + 1 → value ≡ moved_flight rows wanted first legs
      → ((n : ℕ) → first ≤ n → n < next
      → moved_flight rows wanted n legs ≡ moved_flight rows wanted first legs)
      → (n : ℕ) → before_day rows wanted period legs first n ++ held_on ((part, value) ∷ []) n
      ≡ before_day rows wanted period legs next n
  part_more first next part value is from some to valued even n =
      by (nat_lt n first) (nat_lt n next) refl refl
    where
      by : (a b : Bool) → nat_lt n first ≡ a → nat_lt n next ≡ b
          → (if holds period n && a then one n else []) ++ (if holds part n then value ∷ [] else [])
          ≡ (if holds period n && b then one n else [])
      by true true e f =
          let early : n < first = grind (arith, nat_tests) in
          let none = before_first part n (omega (arith, is.first_is, early)) in
          ap (λ (x : Bool). (if holds period n && true then one n else [])
          ++ (if x then value ∷ [] else [])) none
          ∙ append-nil (if holds period n && true then one n else [])
      by true false e f =
          let early : n < first = grind (arith, nat_tests) in
          let late : next ≤ n = grind (arith, nat_tests) in
          absurd (omega (arith, early, late, some))
      by false true e f =
          let a : first ≤ n = grind (arith, nat_tests) in
          let b : n < next = grind (arith, nat_tests) in
          let mine : holds period n ≡ slice_index_or period.days (slot n) false =
          held period n (slice_index_or period.days (slot n) false) (omega (arith, a, from))
          (omega (arith, b, to)) refl in
          let its : holds part n ≡ slice_index_or period.days (slot n) false =
          held part n (slice_index_or period.days (slot n) false) (omega (arith, is.first_is, a))
          (omega (arith, is.last_is, b))
          (ap (λ (days : List Bool). slice_index_or days (slot n) false) is.days_are) in
          ap (λ (x : Bool). (if x then one n else []) ++ (if holds part n then value ∷ [] else []))
          (and_false (holds period n))
          ∙ ap (λ (x : Bool). if x then value ∷ [] else []) (its ∙ sym mine)
          ∙ ap (λ (v : MovedFlight). if holds period n then v ∷ [] else []) (valued ∙ sym (even n a b))
          ∙ sym (ap (λ (x : Bool). if x then one n else []) (and_true (holds period n)))
      by false false e f =
          let late : next ≤ n = grind (arith, nat_tests) in
          let none = after_last part n (omega (arith, is.last_is, late)) in
          ap (λ (x : Bool). (if x then one n else []) ++ (if holds part n then value ∷ [] else []))
          (and_false (holds period n))
          ∙ ap (λ (x : Bool). if x then value ∷ [] else []) none
          ∙ sym (ap (λ (x : Bool). if x then one n else []) (and_false (holds period n)))

-- ---- all pieces

map-append : {A B : Type 0} (f : A → B) (xs ys : List A) → map f (xs ++ ys) ≡ map f xs ++ map f ys
map-append f [] ys = refl
map-append f (x ∷ xs) ys = ap (λ l. f x ∷ l) (map-append f xs ys)

-- one piece more
pub piece_more : (rows : List Row) (wanted : TimeMode) (pieces : List Piece) (piece : Piece)
    (parts more : List MovedPiece) (n : ℕ)
    → held_on parts n ≡ map (moved_flight rows wanted n) (held_on pieces n)
    → held_on more n ≡ held_on parts n
    ++ (if holds piece.0 n then moved_flight rows wanted n piece.1 ∷ [] else [])
    → held_on more n ≡ map (moved_flight rows wanted n) (held_on (pieces ++ piece ∷ []) n)
piece_more rows wanted pieces piece parts more n were is =
    is
    ∙ ap (λ (l : List MovedFlight). l
    ++ (if holds piece.0 n then moved_flight rows wanted n piece.1 ∷ [] else [])) were
    ∙ ap (λ (l : List MovedFlight). map (moved_flight rows wanted n) (held_on pieces n) ++ l)
    (by (holds piece.0 n))
    ∙ sym (map-append (moved_flight rows wanted n) (held_on pieces n) (held_on (piece ∷ []) n))
    ∙ sym (ap (map (moved_flight rows wanted n)) (held_on-more pieces piece n))
  where
    by : (b : Bool) → (if b then moved_flight rows wanted n piece.1 ∷ [] else [])
        ≡ map (moved_flight rows wanted n) (if b then piece.1 ∷ [] else [])
    by true = refl
    by false = refl

-- ---- the itinerary of a piece

skipped : (p : Piece) (pieces : List Piece) (n : ℕ) (legs : List Legs) → holds p.0 n ≡ false
    → held_on (p ∷ pieces) n ≡ legs → held_on pieces n ≡ legs
skipped p pieces n legs e is =
    sym (ap (λ (b : Bool). if b then p.1 ∷ held_on pieces n else held_on pieces n) e) ∙ is

taken : (p : Piece) (pieces : List Piece) (n : ℕ) (legs : List Legs) → holds p.0 n ≡ true
    → held_on (p ∷ pieces) n ≡ legs → p.1 ∷ held_on pieces n ≡ legs
taken p pieces n legs e is =
    sym (ap (λ (b : Bool). if b then p.1 ∷ held_on pieces n else held_on pieces n) e) ∙ is

-- if a piece holds a date, some do
some_held : (pieces : List Piece) (i : ℕ) (d : Piece) (n : ℕ) → i < length pieces
    → holds (get_or pieces i d).0 n ≡ true → held_on pieces n ≡ [] → ⊥
some_held [] i d n less h none = absurd (omega arith)
some_held (p ∷ pieces) zero d n less h none =
    let both = taken p pieces n [] h none in absurd cc
some_held (p ∷ pieces) (suc i) d n less h none =
    by (holds p.0 n) refl (some_held pieces i d n (omega arith) h)
  where
    by : (b : Bool) → holds p.0 n ≡ b → (held_on pieces n ≡ [] → ⊥) → ⊥
    by true e later = let both = taken p pieces n [] e none in absurd cc
    by false e later = later (skipped p pieces n [] e none)

-- a piece that holds a date has the itinerary of the date, if no other piece holds it
one_held : (pieces : List Piece) (i : ℕ) (d : Piece) (n : ℕ) (legs : Legs) → i < length pieces
    → holds (get_or pieces i d).0 n ≡ true → held_on pieces n ≡ legs ∷ []
    → (get_or pieces i d).1 ≡ legs
one_held [] i d n legs less h is = absurd (omega arith)
one_held (p ∷ pieces) zero d n legs less h is =
    let both = taken p pieces n (legs ∷ []) h is in cc
one_held (p ∷ pieces) (suc i) d n legs less h is =
    by (holds p.0 n) refl (one_held pieces i d n legs (omega arith) h)
  where
    by : (b : Bool) → holds p.0 n ≡ b
        → (held_on pieces n ≡ legs ∷ [] → (get_or pieces i d).1 ≡ legs)
        → (get_or pieces i d).1 ≡ legs
    by true e later =
        let both = taken p pieces n (legs ∷ []) e is in
        let none : held_on pieces n ≡ [] = cc in
        absurd (some_held pieces i d n (omega arith) h none)
    by false e later = later (skipped p pieces n (legs ∷ []) e is)

pub piece_at : (pieces : List Piece) (i : ℕ) (d : Piece) (n : ℕ) (legs : Legs) → i < length pieces
    → holds (get_or pieces i d).0 n ≡ true → held_on pieces n ≡ alone same_itinerary [] legs
    → (get_or pieces i d).1 ≡ legs
piece_at pieces i d n [] less h is = absurd (some_held pieces i d n less h is)
piece_at pieces i d n (leg ∷ legs) less h is = one_held pieces i d n (leg ∷ legs) less h is
