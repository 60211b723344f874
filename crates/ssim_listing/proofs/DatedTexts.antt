-- The lines of the dates of pieces, of texts that are made once a piece.
use Rattle.std.proofs.Common.{◌≡◌, ◌∙◌, ℕ, Bool, true, false, cond, List, [], ◌∷◌, ◌++◌, map, Vec, refl, sym, ap, ap₂}
use Rattle.std.specs.List.{flat_map, range_with_len}
use Rattle.std.proofs.lemmas.List.Folds.{flat_map-map}
use Rattle.ssim_values.specs.Period.{DayRange}
use Rattle.ssim_periods.specs.Calendar.{day_count, holds}
use Rattle.ssim_periods.specs.Pieces.{held_on}
use Rattle.ssim_base.specs.Export.{Piece}
use Rattle.ssim_base.specs.Timetable.{Legs}
use Rattle.ssim_listing.specs.Dates.{FlightDate, date_lines, dates_of, dates_on}
use Rattle.ssim_listing.specs.LegText.{leg_text}
use Rattle.ssim_listing.specs.internal.FlightDates.{dated_text, seen_pieces, seen_texts, with_texts}
use Rattle.ssim_listing.proofs.Dating.{map_made}
use Rattle.ssim_listing.proofs.Ranges.{same_in}

-- ---- dates of pieces with other values

module _ {V W : Type 0} (f : V → W) where
  abbrev valued : List (DayRange × V) → List (DayRange × W)
  valued pieces = map (λ piece. (piece.0, f piece.1)) pieces

  abbrev dated : List (ℕ × V) → List (ℕ × W)
  dated dates = map (λ date. (date.0, f date.1)) dates

  abbrev on_day : ℕ → List W → List (ℕ × W)
  on_day n values = map (λ value. (n, value)) values

  dates_on_valued : (pieces : List (DayRange × V)) (n : ℕ) → dates_on (valued pieces) n ≡ dated (dates_on pieces n)
  dates_on_valued [] n = refl
  dates_on_valued (piece ∷ pieces) n = by (holds piece.0 n) (dates_on_valued pieces n)
    where
      by : (b : Bool) → dates_on (valued pieces) n ≡ dated (dates_on pieces n)
          → on_day n (cond b (f piece.1 ∷ held_on (valued pieces) n) (held_on (valued pieces) n))
          ≡ dated (map (λ value. (n, value)) (cond b (piece.1 ∷ held_on pieces n) (held_on pieces n)))
      by true same = ap (λ dates. (n, f piece.1) ∷ dates) same
      by false same = same

  pub dates_of_valued : (pieces : List (DayRange × V)) → dates_of (valued pieces) ≡ dated (dates_of pieces)
  dates_of_valued pieces =
      same_in (dates_on (valued pieces)) (λ n. dated (dates_on pieces n)) 0 day_count (λ n from to. dates_on_valued pieces n)
      ∙ sym (map_made (λ date. (date.0, f date.1)) (dates_on pieces) (range_with_len 0 day_count))

-- ---- the lines

-- the lines of a date, of the texts of its legs
abbrev shown : List ℕ → ℕ × List (List ℕ) → List ℕ
shown name date = flat_map (dated_text name date.0) date.1

lines_of_date : (name : List ℕ) (dates : List FlightDate)
    → flat_map (λ (date : FlightDate). shown name (date.0, map leg_text date.1)) dates ≡ flat_map (date_lines name) dates
lines_of_date name [] = refl
lines_of_date name (date ∷ dates) =
    ap₂ (λ (these others : List ℕ). these ++ others) (flat_map-map (dated_text name date.0) leg_text date.1) (lines_of_date name dates)

pub lines_of_texts : {A B : Type 0} (name : List ℕ) (pieces : List Piece) (made : List (DayRange × Vec (Vec ℕ A) B))
    → seen_pieces made ≡ with_texts pieces
    → flat_map (λ date. shown name (date.0, seen_texts date.1.items)) (dates_of made) ≡ flat_map (date_lines name) (dates_of pieces)
lines_of_texts {A} {B} name pieces made are =
    let seen : Vec (Vec ℕ A) B → List (List ℕ) = λ texts. seen_texts texts.items in
    let texts : Legs → List (List ℕ) = λ legs. map leg_text legs in
    sym (flat_map-map (shown name) (λ date. (date.0, seen date.1)) (dates_of made))
    ∙ (ap (flat_map (shown name)) (sym (dates_of_valued seen made) ∙ (ap (λ (ps : List (DayRange × List (List ℕ))). dates_of ps) are ∙ dates_of_valued texts pieces))
    ∙ (flat_map-map (shown name) (λ date. (date.0, texts date.1)) (dates_of pieces) ∙ lines_of_date name (dates_of pieces)))
