-- The picture of a calendar: a column for each week, a row for each weekday, in blocks of 53 weeks.
-- Weeks are counted from 0, the week of 01JAN00, a Saturday: its Monday would be five days before.
-- A cell is the letter of a day, or a full stop if the day has none.
use Rattle.std.specs.Prelude.{ℕ, ◌+◌, ◌-◌, ◌*◌, ◌/◌, Bool, not, ◌&&◌, ◌||◌, ◌==◌, nat_eq, nat_le}
use Rattle.std.specs.Prelude.{nat_lt, if◌then◌else◌, List, [], ◌∷◌, ◌++◌, take, drop, length}
use Rattle.std.specs.Prelude.{max, min, slice_index, slice_index_or}
use Rattle.std.specs.List.{flat_map, list_any, position_or_len, range_with_len}
use Rattle.std.specs.Str.{bytes_eq}
use Rattle.ssim_values.specs.Day.{day_text}
use Rattle.ssim_periods.specs.Cover.{last_where}
use Rattle.ssim_text.specs.Left.{without_end}

-- whether the day has a letter
abbrev pub has_letter : List ℕ → ℕ → Bool
has_letter cells n = not (slice_index_or cells n 46 == 46)

-- the first day that has a letter; the number of days if there is none
abbrev pub first_date : List ℕ → ℕ
first_date cells = position_or_len (λ cell. not (cell == 46)) cells

-- the last day that has a letter
abbrev pub last_date : List ℕ → ℕ
last_date cells = last_where (has_letter cells) 0 (length cells)

-- the week of a day
abbrev pub week_of : ℕ → ℕ
week_of n = (n + 5) / 7

-- the day above a week: its Monday, or 01JAN00 above week 0
abbrev pub monday : ℕ → ℕ
monday week = 7 * week - 5

-- the weeks from one up to another, which is not among them
abbrev pub weeks : ℕ → ℕ → List ℕ
weeks from end = range_with_len from (end - from)

-- a line without the blanks at its end
abbrev pub trimmed_line : List ℕ → List ℕ
trimmed_line bytes = without_end bytes ++ 10 ∷ []

-- ---- the lines of a block, from one week up to another

-- the title, and the first and the last day of the block from the first date to the last
abbrev pub title_line : List ℕ → ℕ → ℕ → ℕ → ℕ → List ℕ
title_line title first last from end =
    title ++ 32 ∷ day_text (max first (monday from)) ++ 32 ∷ day_text (min last (7 * end - 6))
    ++ 10 ∷ []

-- the three letters of the month above a week
abbrev pub month_above : ℕ → List ℕ
month_above week = take 3 (drop 2 (day_text (monday week)))

-- whether the week is the first of the block, or has another month than the week before
abbrev pub begins_month : ℕ → ℕ → Bool
begins_month from week =
    nat_eq week from || not (bytes_eq (month_above week) (month_above (week - 1)))

-- whether a week of the block begins a month
abbrev pub begins_within : ℕ → ℕ → ℕ → Bool
begins_within from end week = nat_lt week end && begins_month from week

-- whether the month is named above the week: it begins a month, and none of the next three does
abbrev pub is_named : ℕ → ℕ → ℕ → Bool
is_named from end week =
    begins_month from week
    && not (list_any (begins_within from end) ((week + 1) ∷ (week + 2) ∷ (week + 3) ∷ []))

-- whether the name of a month, which has three letters, is also above this week
abbrev pub is_beside_name : ℕ → ℕ → ℕ → Bool
is_beside_name from end week =
    (nat_lt from week && is_named from end (week - 1))
    || (nat_lt (from + 1) week && is_named from end (week - 2))

-- what begins above a week: the name of its month, nothing within a name, or a blank
abbrev pub name_above : ℕ → ℕ → ℕ → List ℕ
name_above from end week =
    if is_named from end week then month_above week
    else (if is_beside_name from end week then [] else 32 ∷ [])

-- the names of the months
abbrev pub months_line : ℕ → ℕ → List ℕ
months_line from end = trimmed_line (32 ∷ 32 ∷ flat_map (name_above from end) (weeks from end))

-- a digit of the day of the month above a week: place 0 for the tens, 1 for the ones
abbrev pub digit_above : ℕ → ℕ → List ℕ
digit_above place week = slice_index (day_text (monday week)) place ∷ []

-- this digit above each week
abbrev pub digits_line : ℕ → ℕ → ℕ → List ℕ
digits_line from end place = 32 ∷ 32 ∷ flat_map (digit_above place) (weeks from end) ++ 10 ∷ []

-- the cell of a weekday in a week; a blank before the first date and after the last
abbrev pub mark : List ℕ → ℕ → ℕ → ℕ → ℕ → List ℕ
mark cells first last weekday week =
    if nat_le (first + 5) (7 * week + weekday) && nat_le (7 * week + weekday) (last + 5)
    then slice_index_or cells (7 * week + weekday - 5) 46 ∷ [] else 32 ∷ []

-- the row of a weekday, 0 for Monday
abbrev pub row_line : List ℕ → ℕ → ℕ → ℕ → ℕ → ℕ → List ℕ
row_line cells first last from end weekday =
    trimmed_line ((49 + weekday) ∷ 32 ∷ flat_map (mark cells first last weekday) (weeks from end))

-- a block, which an empty line ends
abbrev pub block : List ℕ → List ℕ → ℕ → ℕ → ℕ → ℕ → List ℕ
block title cells first last from end =
    title_line title first last from end ++ months_line from end ++ digits_line from end 0
    ++ digits_line from end 1
    ++ flat_map (row_line cells first last from end) (range_with_len 0 7) ++ 10 ∷ []

-- ---- the whole

-- the blocks of the weeks from one up to another
abbrev pub blocks : List ℕ → List ℕ → ℕ → ℕ → ℕ → ℕ → List ℕ
blocks title cells first last from end =
    flat_map (λ k. block title cells first last (from + 53 * k) (min end (from + 53 * k + 53)))
    (range_with_len 0 ((end - from + 52) / 53))

-- the picture from the week of the first date to the week of the last; nothing if there is no date
abbrev pub picture : List ℕ → List ℕ → List ℕ
picture title cells =
    let first = first_date cells in let last = last_date cells in
    if nat_lt first (length cells)
    then blocks title cells first last (week_of first) (week_of last + 1) else []
