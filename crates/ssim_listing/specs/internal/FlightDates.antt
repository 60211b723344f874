-- The dates of a flight, found piece by piece, and the lines of their legs, made once a piece.
use Rattle.std.specs.Prelude.{ℕ, List, [], ◌∷◌, ◌++◌, Vec, map}
use Rattle.std.specs.Borrow.{Bor}
use Rattle.std.specs.List.{flat_map}
use Rattle.ssim_values.specs.Day.{day_text}
use Rattle.ssim_values.specs.Period.{DayRange}
use Rattle.ssim_base.specs.Export.{Piece, line}
use Rattle.ssim_listing.specs.Dates.{dates_of}
use Rattle.ssim_listing.specs.LegText.{leg_text}

-- dates with references to their values
abbrev pub seen_dates : {V : Type 0} → List (ℕ × Bor V) → List (ℕ × V)
seen_dates dates = map (λ date. (date.0, date.1.now)) dates

-- the dates of each piece, piece by piece
abbrev pub dates_by_piece : {V : Type 0} → List (DayRange × V) → List (ℕ × V)
dates_by_piece pieces = flat_map (λ piece. dates_of (piece ∷ [])) pieces

-- texts as bytes
abbrev pub seen_texts : {A : Type 0} → List (Vec ℕ A) → List (List ℕ)
seen_texts texts = map (λ text. text.items) texts

-- periods with their texts as bytes
abbrev pub seen_pieces : {A B : Type 0}
    → List (DayRange × Vec (Vec ℕ A) B) → List (DayRange × List (List ℕ))
seen_pieces pieces = map (λ piece. (piece.0, seen_texts piece.1.items)) pieces

-- the periods of pieces with the line of each leg
abbrev pub with_texts : List Piece → List (DayRange × List (List ℕ))
with_texts pieces = map (λ piece. (piece.0, map leg_text piece.1)) pieces

-- the flight, the date and the text of a leg
abbrev pub dated_text : List ℕ → ℕ → List ℕ → List ℕ
dated_text name day text = line (name ++ 32 ∷ day_text day ++ 32 ∷ text)
