-- Small examples of letters and of a row, checked by computation.
use Rattle.std.specs.Prelude.{◌≡◌, ℕ, List, [], ◌∷◌, map, codes, nat_eq, refl}
use Rattle.ssim_calendar.specs.Letters.{cell, letter_at, new_values}
use Rattle.ssim_calendar.specs.Picture.{first_date, last_date, row_line, week_of}

-- seven days from 01JAN00, a Saturday, with the values 4, none, 7, 4, 7, 9 and none
abbrev seven_days : List ℕ
seven_days = 4 ∷ 0 ∷ 7 ∷ 4 ∷ 7 ∷ 9 ∷ 0 ∷ []

three_values : new_values nat_eq 0 seven_days 7 ≡ 4 ∷ 7 ∷ 9 ∷ []
three_values = refl

abbrev seven_cells : List ℕ
seven_cells = codes "A.BABC."

their_letters : map (cell nat_eq 0 (4 ∷ 7 ∷ 9 ∷ [])) seven_days ≡ seven_cells
their_letters = refl

-- the 26th different value and the next one; the 52nd and the next one
the_letters : letter_at 25 ∷ letter_at 26 ∷ letter_at 51 ∷ letter_at 52 ∷ [] ≡ codes "Zaz#"
the_letters = refl

their_dates : (first_date seven_cells ∷ last_date seven_cells ∷ []) ≡ 0 ∷ 5 ∷ []
their_dates = refl

their_weeks : (week_of 0 ∷ week_of 1 ∷ week_of 2 ∷ week_of 5 ∷ []) ≡ 0 ∷ 0 ∷ 1 ∷ 1 ∷ []
their_weeks = refl

-- the Mondays before 01JAN00 and on 03JAN00; the Saturday and the one after the last date
monday_row : row_line seven_cells 0 5 0 2 0 ≡ codes "1  B\n"
monday_row = refl

saturday_row : row_line seven_cells 0 5 0 2 5 ≡ codes "6 A\n"
saturday_row = refl

sunday_row : row_line seven_cells 0 5 0 2 6 ≡ codes "7 .\n"
sunday_row = refl
