-- The legend of a calendar: the number of dates and the lines of each letter.
use Rattle.std.specs.Prelude.{ℕ, zero, suc, ◌-◌, ◌==◌, nat_lt, if◌then◌else◌, List, [], ◌∷◌}
use Rattle.std.specs.Prelude.{◌++◌, length, replicate}
use Rattle.std.specs.Prelude.{slice_index_or, codes}
use Rattle.std.specs.Fmt.{decimal}
use Rattle.std.specs.List.{count_by, flat_map, range_with_len}
use Rattle.ssim_calendar.specs.Letters.{letter_at}

-- the number of dates with a letter
abbrev pub dates_of : List ℕ → ℕ → ℕ
dates_of cells letter = count_by (λ cell. cell == letter) cells

-- the larger of two numbers
abbrev pub larger : ℕ → ℕ → ℕ
larger m n = if nat_lt m n then n else m

-- the largest number of dates of the first n letters
abbrev pub most_dates : List ℕ → ℕ → ℕ
most_dates cells zero = 0
most_dates cells (suc n) = larger (most_dates cells n) (dates_of cells (letter_at n))

-- a number in decimal digits, with blanks before it up to a width
abbrev pub aligned : ℕ → ℕ → List ℕ
aligned width number = replicate (width - length (decimal number)) 32 ++ decimal number

-- a letter and its number of dates
abbrev pub head_of : List ℕ → ℕ → ℕ → List ℕ
head_of cells width place = letter_at place ∷ 32 ∷ aligned width (dates_of cells (letter_at place))

-- a line of bytes, a blank and a text
abbrev pub text_after : List ℕ → List ℕ → List ℕ
text_after head text = head ++ 32 ∷ text ++ 10 ∷ []

-- the texts of a letter: the first after its head, the others below it
abbrev pub entry_lines : List ℕ → List (List ℕ) → List ℕ
entry_lines head [] = []
entry_lines head (text ∷ later) =
    text_after head text ++ flat_map (text_after (replicate (length head) 32)) later

-- the line with the number of dates that have no letter of their own, if there is one
abbrev pub more_line : ℕ → List ℕ
more_line dates =
    if nat_lt 0 dates then codes "# " ++ decimal dates ++ codes " more" ++ 10 ∷ [] else []

-- the texts of each letter, and then the dates without a letter of their own
abbrev pub legend : List (List (List ℕ)) → List ℕ → List ℕ
legend entries cells =
    let width = length (decimal (most_dates cells (length entries))) in
    flat_map (λ place. entry_lines (head_of cells width place) (slice_index_or entries place []))
    (range_with_len 0 (length entries))
    ++ more_line (dates_of cells 35)
