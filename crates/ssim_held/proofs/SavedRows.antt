-- The lines of rows are a station table of these rows: each line is cut at its blanks into the
-- parts that were written.
use Rattle.std.proofs.Common.{◌≡◌, ℕ, ◌+◌, ◌-◌, ◌/◌, ◌%◌, ◌<◌, ◌≤◌, Bool, true, false, not, ◌&&◌, IsTrue, List, [], ◌∷◌, ◌++◌, length, Some, None, refl, sym, ap, subst, ◌∙◌, arith, rules, append_assoc, length-append}
use Rattle.std.specs.Prelude.{◌==◌, if◌then◌else◌}
use Rattle.std.specs.List.{All, AllByRecursion as Each, flat_map, list_all, onto_first}
use Rattle.std.proofs.lemmas.Bool.{and_from, and_parts}
use Rattle.std.proofs.lemmas.Bool.Decides.{nat_tests}
use Rattle.std.proofs.lemmas.List.{append-nil}
use Rattle.std.proofs.lemmas.List.Elements.{All-get_or}
use Rattle.ssim_values.specs.Calendar.{day_limit}
use Rattle.ssim_values.specs.Characters.{two_digits}
use Rattle.ssim_values.specs.Clock.{clock_text}
use Rattle.ssim_values.specs.Day.{SpellsDay, day_of, day_text, month_name, month_names}
use Rattle.ssim_values.specs.Station.{is_station}
use Rattle.ssim_values.specs.Variation.{Offset, variation_text}
use Rattle.ssim_values.proofs.CalendarLemmas.{day_bound}
use Rattle.ssim_values.proofs.ClockLaws.{variation_of-variation_text}
use Rattle.ssim_values.proofs.DayLaws.{SpellsDay-day_text, day_of-day_text}
use Rattle.ssim_records.proofs.CarriedTexts.{length_station}
use Rattle.ssim_records.proofs.Days.{length_day}
use Rattle.ssim_text.specs.Bytes.{before, after_word, drop_blanks, from, is_printable, word}
use Rattle.ssim_text.specs.Left.{left_from, numbered, pieces, without_end}
use Rattle.ssim_text.specs.Lines.{day_in, station_in}
use Rattle.ssim_text.proofs.LeftLemmas.{after}
use Rattle.ssim_text.proofs.LinesKept.{IsLine, chosen, line_behind}
use Rattle.ssim_text.proofs.Words.{before_mark, behind_first, from_mark, is_solid, lacks, no_blanks, solid_line, solid_no_blank, solid_printable, word_first}
use Rattle.ssim_base.specs.Stations.{AreRows, Row, SpellsRow, SpellsTable, variation_in}
use Rattle.ssim_held.specs.File.{IsRow, row_line, row_text}

-- ---- bytes without blanks

-- the bytes are printable and no blanks
abbrev IsSolid : List ℕ → Type 0
IsSolid xs = list_all is_solid xs ≡ true

solid_join : (xs ys : List ℕ) → IsSolid xs → IsSolid ys → IsSolid (xs ++ ys)
solid_join [] ys a b = b
solid_join (x ∷ xs) ys a b =
    let p = and_parts (is_solid x) (list_all is_solid xs) a in
    and_from (is_solid x) (list_all is_solid (xs ++ ys)) p.0 (solid_join xs ys p.1 b)

solid_lacks : (xs : List ℕ) → IsSolid xs → lacks 32 xs ≡ true
solid_lacks [] h = refl
solid_lacks (x ∷ xs) h =
    let p = and_parts (is_solid x) (list_all is_solid xs) h in
    and_from (not (x == 32)) (lacks 32 xs) (solid_no_blank x p.0) (solid_lacks xs p.1)

no_end : (x : ℕ) → is_solid x ≡ true → not (x == 10) ≡ true
no_end x h = grind (arith, nat_tests)

solid_no_end : (xs : List ℕ) → IsSolid xs → lacks 10 xs ≡ true
solid_no_end [] h = refl
solid_no_end (x ∷ xs) h =
    let p = and_parts (is_solid x) (list_all is_solid xs) h in
    and_from (not (x == 10)) (lacks 10 xs) (no_end x p.0) (solid_no_end xs p.1)

lacks_join : (mark : ℕ) (xs ys : List ℕ) → lacks mark xs ≡ true → lacks mark ys ≡ true → lacks mark (xs ++ ys) ≡ true
lacks_join mark [] ys a b = b
lacks_join mark (x ∷ xs) ys a b =
    let p = and_parts (not (x == mark)) (lacks mark xs) a in
    and_from (not (x == mark)) (lacks mark (xs ++ ys)) p.0 (lacks_join mark xs ys p.1 b)

blank_no_end : (ys : List ℕ) → lacks 10 ys ≡ true → lacks 10 (32 ∷ ys) ≡ true
blank_no_end ys h = and_from (not (32 == 10)) (lacks 10 ys) refl h

-- ---- the parts of a row

digit_solid : (n : ℕ) → n < 10 → is_solid (48 + n) ≡ true
digit_solid n h = grind (arith, nat_tests)

two_solid : (n : ℕ) → n < 100 → IsSolid (two_digits n)
two_solid n h =
    let tens : n / 10 < 10 = omega arith in
    let units : n % 10 < 10 = omega arith in
    and_from (is_solid (48 + n / 10)) (is_solid (48 + n % 10) && true) (digit_solid (n / 10) tens) (and_from (is_solid (48 + n % 10)) true (digit_solid (n % 10) units) refl)

solid_names : All IsSolid month_names
solid_names = search rules

month_solid : (m : ℕ) → 1 ≤ m → m ≤ 12 → IsSolid (month_name m)
month_solid m low high = All-get_or IsSolid month_names (m - 1) [] (omega arith) solid_names

solid_by : (n : ℕ) (text : List ℕ) → SpellsDay n text → IsSolid text
solid_by n text s =
    let bound : s.day < 100 = omega (arith, day_bound s.year s.month s.day s.is_date) in
    let low : s.year - 2000 < 100 = omega (arith, s.is_date.year_to) in
    subst IsSolid (sym s.spelled)
    (solid_join (two_digits s.day ++ month_name s.month) (two_digits (s.year - 2000)) (solid_join (two_digits s.day) (month_name s.month) (two_solid s.day bound) (month_solid s.month s.is_date.month_from s.is_date.month_to)) (two_solid (s.year - 2000) low))

day_solid : (n : ℕ) → n < day_limit → IsSolid (day_text n)
day_solid n h = solid_by n (day_text n) (SpellsDay-day_text n h)

three_solid : (a b c : ℕ) → is_station (a ∷ b ∷ c ∷ []) ≡ true → IsSolid (a ∷ b ∷ c ∷ [])
three_solid a b c h = grind (arith, nat_tests)

station_solid : (station : List ℕ) → length station ≡ 3 → is_station station ≡ true → IsSolid station
station_solid (a ∷ b ∷ c ∷ []) l h = three_solid a b c h
station_solid [] l h = absurd (omega (arith, l))
station_solid (a ∷ []) l h = absurd (omega (arith, l))
station_solid (a ∷ b ∷ []) l h = absurd (omega (arith, l))
station_solid (a ∷ b ∷ c ∷ d ∷ xs) l h = absurd (omega (arith, l))

clock_solid : (n : ℕ) → n ≤ 900 → IsSolid (clock_text n)
clock_solid n h = grind (arith, nat_tests)

sign_solid : (b : Bool) → is_solid (if b then 45 else 43) ≡ true
sign_solid true = refl
sign_solid false = refl

variation_solid : (v : Offset) → v.minutes ≤ 900 → IsSolid (variation_text v)
variation_solid v h = and_from (is_solid (if v.negative then 45 else 43)) (list_all is_solid (clock_text v.minutes)) (sign_solid v.negative) (clock_solid v.minutes h)

-- ---- the line of a row

eq_length : (xs : List ℕ) (n : ℕ) → length xs ≡ n → (length xs == n) ≡ true
eq_length xs n h = grind (arith, nat_tests)

station_read : (text : List ℕ) → IsTrue (is_station text) → station_in text ≡ Some text
station_read text h =
    chosen (length text == 3) (if is_station text then Some text else None) None (eq_length text 3 (length_station text h)) ∙ chosen (is_station text) (Some text) None h

day_read : (n : ℕ) → n < day_limit → day_in (day_text n) ≡ Some n
day_read n h = chosen (length (day_text n) == 7) (day_of (day_text n)) None (eq_length (day_text n) 7 (length_day n h)) ∙ day_of-day_text n h

variation_read : (v : Offset) → v.minutes ≤ 900 → variation_in (variation_text v) ≡ Some v
variation_read v h = variation_of-variation_text v h

no_blanks_alone : (xs : List ℕ) → 1 ≤ length xs → lacks 32 xs ≡ true → drop_blanks xs ≡ xs
no_blanks_alone xs some h = ap drop_blanks (sym (append-nil xs)) ∙ no_blanks xs [] some h ∙ append-nil xs

module _ (row : Row) (is : IsRow row) where
  first_low : row.first < day_limit
  first_low = omega (arith, is.ordered, is.in_calendar)

  station_lacks : lacks 32 row.station ≡ true
  station_lacks = solid_lacks row.station (station_solid row.station (length_station row.station is.station) is.station)

  first_lacks : lacks 32 (day_text row.first) ≡ true
  first_lacks = solid_lacks (day_text row.first) (day_solid row.first first_low)

  last_lacks : lacks 32 (day_text row.last) ≡ true
  last_lacks = solid_lacks (day_text row.last) (day_solid row.last is.in_calendar)

  variation_lacks : lacks 32 (variation_text row.variation) ≡ true
  variation_lacks = solid_lacks (variation_text row.variation) (variation_solid row.variation is.variation)

  -- from the last day on, from the first day on
  abbrev two_parts : List ℕ
  two_parts = day_text row.last ++ 32 ∷ variation_text row.variation

  abbrev three_parts : List ℕ
  three_parts = day_text row.first ++ 32 ∷ two_parts

  three_first : drop_blanks three_parts ≡ three_parts
  three_first = no_blanks (day_text row.first) (32 ∷ two_parts) (omega (arith, length_day row.first first_low)) first_lacks

  two_first : drop_blanks two_parts ≡ two_parts
  two_first = no_blanks (day_text row.last) (32 ∷ variation_text row.variation) (omega (arith, length_day row.last is.in_calendar)) last_lacks

  after_station : after_word (row_text row) ≡ three_parts
  after_station = behind_first row.station three_parts station_lacks three_first

  after_first : after_word three_parts ≡ two_parts
  after_first = behind_first (day_text row.first) two_parts first_lacks two_first

  after_last : after_word two_parts ≡ variation_text row.variation
  after_last = behind_first (day_text row.last) (variation_text row.variation) last_lacks (no_blanks_alone (variation_text row.variation) (omega arith) variation_lacks)

  spells_row : SpellsRow row (row_text row)
  spells_row = record {
    station = ap station_in (word_first row.station three_parts station_lacks) ∙ station_read row.station is.station;
    first = ap (λ t. day_in (word t)) after_station ∙ ap day_in (word_first (day_text row.first) two_parts first_lacks) ∙ day_read row.first first_low;
    last = ap (λ t. day_in (word (after_word t))) after_station ∙ ap (λ t. day_in (word t)) after_first
        ∙ ap day_in (word_first (day_text row.last) (variation_text row.variation) last_lacks) ∙ day_read row.last is.in_calendar;
    variation = ap (λ t. variation_in (after_word (after_word t))) after_station ∙ ap (λ t. variation_in (after_word t)) after_first ∙ ap variation_in after_last ∙ variation_read row.variation is.variation;
    ordered = is.ordered;
  }

  no_ends : lacks 10 (row_text row) ≡ true
  no_ends =
      lacks_join 10 row.station (32 ∷ three_parts) (solid_no_end row.station (station_solid row.station (length_station row.station is.station) is.station))
      (blank_no_end three_parts (lacks_join 10 (day_text row.first) (32 ∷ two_parts) (solid_no_end (day_text row.first) (day_solid row.first first_low))
      (blank_no_end two_parts (lacks_join 10 (day_text row.last) (32 ∷ variation_text row.variation) (solid_no_end (day_text row.last) (day_solid row.last is.in_calendar))
      (blank_no_end (variation_text row.variation) (solid_no_end (variation_text row.variation) (variation_solid row.variation is.variation)))))))

-- ---- the lines of rows

printable_all : (xs : List ℕ) → IsSolid xs → list_all is_printable xs ≡ true
printable_all [] h = refl
printable_all (x ∷ xs) h =
    let p = and_parts (is_solid x) (list_all is_solid xs) h in
    and_from (is_printable x) (list_all is_printable xs) (solid_printable x p.0) (printable_all xs p.1)

row_is_line : (row : Row) → IsRow row → IsLine (row_text row)
row_is_line row is =
    let first_low : row.first < day_limit = omega (arith, is.ordered, is.in_calendar) in
    let variation = solid_line (variation_text row.variation) (omega arith) (variation_solid row.variation is.variation) in
    let last = line_behind (day_text row.last) (32 ∷ variation_text row.variation) (printable_all (day_text row.last) (day_solid row.last is.in_calendar))
    (line_behind (32 ∷ []) (variation_text row.variation) refl variation) in
    let first = line_behind (day_text row.first) (32 ∷ (day_text row.last ++ 32 ∷ variation_text row.variation)) (printable_all (day_text row.first) (day_solid row.first first_low))
    (line_behind (32 ∷ []) (day_text row.last ++ 32 ∷ variation_text row.variation) refl last) in
    line_behind row.station (32 ∷ (day_text row.first ++ 32 ∷ (day_text row.last ++ 32 ∷ variation_text row.variation)))
    (printable_all row.station (station_solid row.station (length_station row.station is.station) is.station))
    (line_behind (32 ∷ []) (day_text row.first ++ 32 ∷ (day_text row.last ++ 32 ∷ variation_text row.variation)) refl first)

one_cut : (b : Bool) (x : ℕ) (xs : List ℕ) → pieces xs ≡ before 10 xs ∷ after (from 10 xs)
    → (if b then [] ∷ pieces xs else onto_first x (pieces xs)) ≡ (if b then [] else x ∷ before 10 xs) ∷ after (if b then x ∷ xs else from 10 xs)
one_cut true x xs h = refl
one_cut false x xs h = ap (onto_first x) h

pieces_cut : (xs : List ℕ) → pieces xs ≡ before 10 xs ∷ after (from 10 xs)
pieces_cut [] = refl
pieces_cut (x ∷ xs) = one_cut (x == 10) x xs (pieces_cut xs)

numbered_some : (n : ℕ) (line : List ℕ) (later : List (ℕ × List ℕ)) → 1 ≤ length line → numbered n line later ≡ (n, line) ∷ later
numbered_some n [] later h = absurd (omega (arith, h))
numbered_some n (b ∷ line) later h = refl

row_line_first : (row : Row) (n : ℕ) (rest : List ℕ) → IsRow row → left_from n (pieces (row_line row ++ rest)) ≡ (n, row_text row) ∷ left_from (n + 1) (pieces rest)
row_line_first row n rest is =
    let line = row_is_line row is in
    ap (λ (t : List ℕ). left_from n (pieces t)) (append_assoc (row_text row) (10 ∷ []) rest)
    ∙ ap (left_from n) (pieces_cut (row_text row ++ 10 ∷ rest))
    ∙ ap (λ (t : List ℕ). numbered n (without_end t) (left_from (n + 1) (after (from 10 (row_text row ++ 10 ∷ rest))))) (before_mark 10 (row_text row) rest (no_ends row is))
    ∙ ap (λ (t : List ℕ). numbered n (without_end (row_text row)) (left_from (n + 1) (after t))) (from_mark 10 (row_text row) rest (no_ends row is))
    ∙ ap (λ (t : List ℕ). numbered n t (left_from (n + 1) (pieces rest))) line.ended
    ∙ numbered_some n (row_text row) (left_from (n + 1) (pieces rest)) line.some

rows_from : (rows : List Row) (n : ℕ) → Each IsRow rows → AreRows rows (left_from n (pieces (flat_map row_line rows)))
rows_from [] n each = tt
rows_from (row ∷ rows) n each =
    subst (AreRows (row ∷ rows)) (sym (row_line_first row n (flat_map row_line rows) each.0)) (spells_row row each.0, rows_from rows (n + 1) each.1)

-- the lines of rows are a table of them
pub row_lines_are_table : (rows : List Row) → Each IsRow rows → SpellsTable rows (flat_map row_line rows)
row_lines_are_table rows each = rows_from rows 1 each

-- ---- their length

pub length_row : (row : Row) → IsRow row → length (row_line row) ≡ 26
length_row row is =
    let first_low : row.first < day_limit = omega (arith, is.ordered, is.in_calendar) in
    let station = length_station row.station is.station in
    let first = length_day row.first first_low in
    let last = length_day row.last is.in_calendar in
    let whole = length-append (row_text row) (10 ∷ []) in
    let one = length-append row.station (32 ∷ (day_text row.first ++ 32 ∷ (day_text row.last ++ 32 ∷ variation_text row.variation))) in
    let two = length-append (day_text row.first) (32 ∷ (day_text row.last ++ 32 ∷ variation_text row.variation)) in
    let three = length-append (day_text row.last) (32 ∷ variation_text row.variation) in
    omega (arith, station, first, last, whole, one, two, three)

pub length_rows : (rows : List Row) → Each IsRow rows → Each (λ row. length (row_line row) ≡ 26) rows
length_rows [] each = tt
length_rows (row ∷ rows) each = (length_row row each.0, length_rows rows each.1)
