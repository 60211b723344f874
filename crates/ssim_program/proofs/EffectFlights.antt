-- Timetables that differ, on each flight, as two others do have the same differences and the same
-- number of dates that differ.
use Rattle.std.proofs.Common.{filter, ◌≡◌, ◌∙◌, inl, inr, ℕ, zero, suc, ◌+◌, ◌≤◌, Bool, false, List}
use Rattle.std.proofs.Common.{[], ◌∷◌, map, refl, sym, ap, ap₂, arith, cond}
use Rattle.std.specs.Prelude.{not}
use Rattle.std.specs.List.{count_by, range_with_len, sum_by}
use Rattle.std.proofs.lemmas.List.Sums.{sum_by-cons}
use Rattle.ssim_values.specs.Flight.{FlightNumber, IsFlight}
use Rattle.ssim_periods.specs.Calendar.{day_count}
use Rattle.ssim_base.specs.Export.{all_flights, flight_at, flight_count}
use Rattle.ssim_base.specs.Timetable.{Days, on_day}
use Rattle.ssim_base.specs.clauses.ItineraryLaws.{exact_itinerary}
use Rattle.ssim_base.proofs.Places.{flight-is}
use Rattle.ssim_schedule.proofs.Divisions.{flights_from}
use Rattle.ssim_desk.specs.clauses.Outcomes.{DifferAs}
use Rattle.ssim_difference.specs.Differences.{Compared, DifferencePiece, compared, date_count}
use Rattle.ssim_difference.specs.Differences.{differences, differing_dates, difference_pieces}
use Rattle.ssim_difference.specs.Differences.{differs, differs_on}
use Rattle.ssim_difference.specs.Lines.{last_line}
use Rattle.ssim_difference.proofs.Pieces.{quiet}
use Rattle.ssim_program.specs.print.Effects.{last_difference}

-- ---- a flight that does not differ

count_none : (test : ℕ → Bool) → ((n : ℕ) → test n ≡ false) → (days : List ℕ) → count_by test days
    ≡ 0
count_none test none [] = refl
count_none test none (n ∷ days) =
    sum_by-cons (λ m. cond (test m) 1 0) n days
    ∙ ap₂ (λ (b : Bool) (k : ℕ). cond b 1 0 + k) (none n) (count_none test none days)

module _ (old new : Days) (same : old ≡ new) where
  on : (n : ℕ) → on_day old n ≡ on_day new n
  on n = ap (λ (days : Days). on_day days n) same

  no_pieces : difference_pieces old new ≡ []
  no_pieces = quiet old new (λ n within. on n)

  no_dates : differing_dates old new ≡ 0
  no_dates =
      count_none (differs_on old new)
      (λ n. ap not ((exact_itinerary (on_day old n) (on_day new n)).1 (on n)))
      (range_with_len 0 day_count)

-- ---- all flights

module _ (old new first last : FlightNumber → Days)
    (differ : (g : FlightNumber) → IsFlight g → DifferAs (old g) (new g) (first g) (last g)) where
  pieces_alike : (g : FlightNumber) → DifferAs (old g) (new g) (first g) (last g)
      → difference_pieces (old g) (new g) ≡ difference_pieces (first g) (last g)
  pieces_alike g (inl (one, other)) = ap₂ difference_pieces one other
  pieces_alike g (inr (one, other)) = no_pieces (old g) (new g) one
      ∙ sym (no_pieces (first g) (last g) other)

  dates_alike : (g : FlightNumber) → DifferAs (old g) (new g) (first g) (last g)
      → differing_dates (old g) (new g) ≡ differing_dates (first g) (last g)
  dates_alike g (inl (one, other)) = ap₂ differing_dates one other
  dates_alike g (inr (one, other)) = no_dates (old g) (new g) one
      ∙ sym (no_dates (first g) (last g) other)

  compared_alike : (low k : ℕ) → low + k ≤ flight_count
      → map (compared old new) (flights_from low k) ≡ map (compared first last) (flights_from low k)
  compared_alike low zero within = refl
  compared_alike low (suc k) within =
      let g = flight_at low in
      ap₂ (λ (ps : List DifferencePiece) (rest : List Compared). (g, ps) ∷ rest)
      (pieces_alike g (differ g (flight-is low (omega arith))))
      (compared_alike (low + 1) k (omega arith))

  counts_alike : (low k : ℕ) → low + k ≤ flight_count
      → sum_by (λ g. differing_dates (old g) (new g)) (flights_from low k)
      ≡ sum_by (λ g. differing_dates (first g) (last g)) (flights_from low k)
  counts_alike low zero within = refl
  counts_alike low (suc k) within =
      let g = flight_at low in
      sum_by-cons (λ f. differing_dates (old f) (new f)) g (flights_from (low + 1) k)
      ∙ ap₂ (λ (n rest : ℕ). n + rest) (dates_alike g (differ g (flight-is low (omega arith))))
      (counts_alike (low + 1) k (omega arith))
      ∙ sym (sum_by-cons (λ f. differing_dates (first f) (last f)) g (flights_from (low + 1) k))

  -- so the last line is the same
  pub last_alike : last_difference old new ≡ last_difference first last
  last_alike =
      ap₂ last_line (ap (filter_differs) (compared_alike 0 flight_count (omega arith)))
      (counts_alike 0 flight_count (omega arith))
    where
      filter_differs : List Compared → List Compared
      filter_differs = filter differs
