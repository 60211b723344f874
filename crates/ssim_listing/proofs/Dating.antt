-- The dates of pieces: those of each piece, by day.
use Rattle.std.proofs.Common.{◌≡◌, ◌∙◌, ◌⊎◌, inl, inr, ℕ, zero, suc, ◌+◌, ◌-◌, ◌≤◌, ◌<◌, ◌==◌, Bool, true, false, cond}
use Rattle.std.proofs.Common.{List, [], ◌∷◌, ◌++◌, map, filter, Bor, refl, sym, ap, ap₂, subst, append-nil, arith}
use Rattle.std.proofs.lemmas.Bool.Decides.{nat_tests}
use Rattle.std.proofs.lemmas.List.{map-append}
use Rattle.std.proofs.lemmas.List.Elements.{filter-append}
use Rattle.std.specs.List.{AllByRecursion as Every, flat_map, range_with_len}
use Rattle.ssim_values.specs.Period.{DayRange}
use Rattle.ssim_periods.specs.Calendar.{day_count, holds}
use Rattle.ssim_periods.specs.Pieces.{held_on}
use Rattle.ssim_periods.proofs.DayLemmas.{day_count-is}
use Rattle.ssim_listing.specs.Dates.{dates_of, dates_on}
use Rattle.ssim_listing.specs.internal.FlightDates.{dates_by_piece, seen_dates}
use Rattle.ssim_listing.proofs.Every.{every_append, every_made}
use Rattle.ssim_listing.proofs.Ranges.{same_in, window}
use Rattle.ssim_listing.proofs.Ranked.{of_rank}

-- ---- what is kept of a list that a function makes

filter_made : {X Y : Type 0} (p : Y → Bool) (f : X → List Y) (xs : List X) → filter p (flat_map f xs) ≡ flat_map (λ x. filter p (f x)) xs
filter_made p f [] = refl
filter_made p f (x ∷ xs) = filter-append p (f x) (flat_map f xs) ∙ ap (λ ys. filter p (f x) ++ ys) (filter_made p f xs)

pub map_made : {X Y Z : Type 0} (g : Y → Z) (f : X → List Y) (xs : List X) → map g (flat_map f xs) ≡ flat_map (λ x. map g (f x)) xs
map_made g f [] = refl
map_made g f (x ∷ xs) = map-append g (f x) (flat_map f xs) ∙ ap (λ ys. map g (f x) ++ ys) (map_made g f xs)

-- ---- the days of a period

not_between : (period : DayRange) (n : ℕ) → (n < period.first) ⊎ (period.last + 1 ≤ n) → holds period n ≡ false
not_between period n (inl early) = grind (arith, nat_tests)
not_between period n (inr late) = grind (arith, nat_tests)

other : (n k : ℕ) → (k < n) ⊎ (n + 1 ≤ k) → (k == n) ≡ false
other n k (inl early) = grind (arith, nat_tests)
other n k (inr late) = grind (arith, nat_tests)

itself : (n : ℕ) → (n == n) ≡ true
itself n = grind (arith, nat_tests)

-- ---- the dates of pieces

abbrev dates_from : {V : Type 0} → ℕ → List V → List (ℕ × V)
dates_from n = map (λ value. (n, value))

-- those of some dates that are on a day
abbrev on : {V : Type 0} → ℕ → List (ℕ × V) → List (ℕ × V)
on n = filter (λ date. date.0 == n)

module _ {V : Type 0} where
  not_held : (piece : DayRange × V) (n : ℕ) → holds piece.0 n ≡ false → dates_on (piece ∷ []) n ≡ []
  not_held piece n e = ap (λ (b : Bool). dates_from n (cond b (piece.1 ∷ []) [])) e

  -- the dates of a piece are between its first and its last day
  pub piece_dates : (piece : DayRange × V) → piece.0.last < 36525
      → flat_map (dates_on (piece ∷ [])) (range_with_len piece.0.first (piece.0.last + 1 - piece.0.first)) ≡ dates_of (piece ∷ [])
  piece_dates piece within =
      let all = day_count-is in
      sym (window (dates_on (piece ∷ [])) piece.0.first (piece.0.last + 1) day_count (omega arith)
      (λ n below outside. not_held piece n (not_between piece.0 n outside)))

  -- the dates of pieces on a day, by the first piece
  first_piece : (piece : DayRange × V) (pieces : List (DayRange × V)) (n : ℕ) → dates_on (piece ∷ pieces) n ≡ dates_on (piece ∷ []) n ++ dates_on pieces n
  first_piece piece pieces n = by (holds piece.0 n)
    where
      by : (b : Bool) → dates_from n (cond b (piece.1 ∷ held_on pieces n) (held_on pieces n)) ≡ dates_from n (cond b (piece.1 ∷ []) []) ++ dates_from n (held_on pieces n)
      by true = refl
      by false = refl

  -- the dates on one day that are on another
  on_one : (n k : ℕ) (values : List V) → on n (dates_from k values) ≡ cond (k == n) (dates_from k values) []
  on_one n k [] = by (k == n)
    where
      by : (b : Bool) → ◌≡◌ {A = List (ℕ × V)} [] (cond b [] [])
      by true = refl
      by false = refl
  on_one n k (value ∷ values) = by (k == n) (on_one n k values)
    where
      by : (b : Bool) → on n (dates_from k values) ≡ cond b (dates_from k values) []
          → cond b ((k, value) ∷ on n (dates_from k values)) (on n (dates_from k values)) ≡ cond b ((k, value) ∷ dates_from k values) []
      by true same = ap (λ dates. (k, value) ∷ dates) same
      by false none = none

  -- the dates of a piece that are on a day
  on_piece : (piece : DayRange × V) (n : ℕ) → n < day_count → on n (dates_of (piece ∷ [])) ≡ dates_on (piece ∷ []) n
  on_piece piece n within =
      let f : ℕ → List (ℕ × V) = dates_on (piece ∷ []) in
      let g : ℕ → List (ℕ × V) = λ k. on n (f k) in
      let one : n + 1 - n ≡ 1 = omega arith in
      filter_made (λ date. date.0 == n) f (range_with_len 0 day_count)
      ∙ window g n (n + 1) day_count (omega arith)
      (λ k below outside. on_one n k (held_on (piece ∷ []) k) ∙ ap (λ (b : Bool). cond b (f k) []) (other n k outside))
      ∙ ap (λ (m : ℕ). flat_map g (range_with_len n m)) one ∙ append-nil (g n)
      ∙ on_one n n (held_on (piece ∷ []) n) ∙ ap (λ (b : Bool). cond b (f n) []) (itself n)

  -- the dates of each piece that are on a day
  on_pieces : (pieces : List (DayRange × V)) (n : ℕ) → n < day_count → on n (dates_by_piece pieces) ≡ dates_on pieces n
  on_pieces [] n within = refl
  on_pieces (piece ∷ pieces) n within =
      filter-append (λ date. date.0 == n) (dates_of (piece ∷ [])) (dates_by_piece pieces)
      ∙ ap₂ (λ (xs ys : List (ℕ × V)). xs ++ ys) (on_piece piece n within) (on_pieces pieces n within) ∙ sym (first_piece piece pieces n)

  -- each date is in the calendar
  abbrev IsDate : ℕ × V → Type 0
  IsDate date = date.0 < day_count

  each_from : (n : ℕ) (values : List V) → n < day_count → Every IsDate (dates_from n values)
  each_from n [] within = tt
  each_from n (value ∷ values) within = (within, each_from n values within)

  each_on : (pieces : List (DayRange × V)) (a k : ℕ) → a + k ≤ day_count → Every IsDate (flat_map (dates_on pieces) (range_with_len a k))
  each_on pieces a zero within = tt
  each_on pieces a (suc k) within =
      every_append IsDate (dates_on pieces a) (flat_map (dates_on pieces) (range_with_len (a + 1) k))
      (each_from a (held_on pieces a) (omega arith)) (each_on pieces (a + 1) k (omega arith))

  each_dated : (pieces : List (DayRange × V)) → Every IsDate (dates_by_piece pieces)
  each_dated pieces = every_made IsDate (λ piece. dates_of (piece ∷ [])) pieces (λ piece. each_on (piece ∷ []) 0 day_count (omega arith))

  -- ---- dates with references to their values

  abbrev pub number_of : ℕ × Bor V → ℕ
  number_of date = date.0

  seen_on : (dates : List (ℕ × Bor V)) (n : ℕ) → seen_dates (of_rank number_of dates n) ≡ on n (seen_dates dates)
  seen_on [] n = refl
  seen_on (date ∷ dates) n = by (date.0 == n) (seen_on dates n)
    where
      by : (b : Bool) → seen_dates (of_rank number_of dates n) ≡ on n (seen_dates dates)
          → seen_dates (cond b (date ∷ of_rank number_of dates n) (of_rank number_of dates n)) ≡ cond b ((date.0, date.1.now) ∷ on n (seen_dates dates)) (on n (seen_dates dates))
      by true same = ap (λ others. (date.0, date.1.now) ∷ others) same
      by false same = same

  each_seen : (dates : List (ℕ × Bor V)) → Every IsDate (seen_dates dates) → Every (λ date. number_of date < day_count) dates
  each_seen [] h = tt
  each_seen (date ∷ dates) h = (h.0, each_seen dates h.1)

  pub each_before_end : (pieces : List (DayRange × V)) (dates : List (ℕ × Bor V)) → seen_dates dates ≡ dates_by_piece pieces → Every (λ date. number_of date < day_count) dates
  each_before_end pieces dates are = each_seen dates (subst (Every IsDate) (sym are) (each_dated pieces))

  -- the dates of each piece, day by day
  pub by_day : (pieces : List (DayRange × V)) (dates sorted : List (ℕ × Bor V)) → seen_dates dates ≡ dates_by_piece pieces
      → sorted ≡ flat_map (of_rank number_of dates) (range_with_len 0 day_count) → seen_dates sorted ≡ dates_of pieces
  by_day pieces dates sorted are is =
      ap seen_dates is ∙ map_made (λ date. (date.0, date.1.now)) (of_rank number_of dates) (range_with_len 0 day_count)
      ∙ same_in (λ n. seen_dates (of_rank number_of dates n)) (dates_on pieces) 0 day_count
      (λ n from to. let within : n < day_count = omega arith in seen_on dates n ∙ ap (on n) are ∙ on_pieces pieces n within)
