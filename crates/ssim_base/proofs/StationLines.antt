-- The rows of a station table: a table is cut at LF, and its lines are read one after another up to
-- the first that is no row.
use Rattle.std.proofs.Common.{◌≡◌, ◌≤◌, ℕ, ◌+◌, Bool, true, false, List, [], ◌∷◌, ◌++◌, Option, Some, None, Result, Ok, Err, inl, inr, refl, sym, ap, subst, ◌∙◌, append_assoc, arith}
use Rattle.std.specs.Prelude.{nat_le, if◌then◌else◌}
use Rattle.std.proofs.lemmas.Bool.Decides.{nat_tests}
use Rattle.ssim_values.specs.Variation.{Offset}
use Rattle.ssim_text.specs.Bytes.{before, from, word, after_word, ◌>>=◌}
use Rattle.ssim_text.specs.Left.{without_end, numbered, left_from, pieces}
use Rattle.ssim_text.specs.Lines.{station_in, day_in}
use Rattle.ssim_text.proofs.LeftLemmas.{after, first_piece}
use Rattle.ssim_base.specs.Stations.{Row, SpellsRow, AreRows, IsFirstOther, NamesLine, variation_in}
use Rattle.ssim_base.specs.internal.StationRows.{StopsAs, row_of, row_before, row_then, rows_of}
use Rattle.ssim_base.specs.declared.stations.StationFault.{StationFault}
use Rattle.ssim_base.specs.declared.stations.StationFault.TheVariants.{Memory, Stations}

-- ---- rows of lines that are joined

-- these rows, and then what the other lines give
abbrev pub rows_on : List Row → Result (List Row) ℕ → Result (List Row) ℕ
rows_on rows (Ok more) = Ok (rows ++ more)
rows_on rows (Err n) = Err n

on_none : (r : Result (List Row) ℕ) → rows_on [] r ≡ r
on_none (Ok rows) = refl
on_none (Err n) = refl

on_both : (xs ys : List Row) (r : Result (List Row) ℕ) → rows_on (xs ++ ys) r ≡ rows_on xs (rows_on ys r)
on_both xs ys (Ok rows) = ap (λ (zs : List Row). Ok zs) (append_assoc xs ys rows)
on_both xs ys (Err n) = refl

one_on : (n : ℕ) (o : Option Row) (r more y : Result (List Row) ℕ) (a : List Row) → row_then n o r ≡ Ok a → ((b : List Row) → r ≡ Ok b → more ≡ rows_on b y) → row_then n o more ≡ rows_on a y
one_on n None r more y a h ih = absurd cc
one_on n (Some row) (Err m) more y a h ih = absurd cc
one_on n (Some row) (Ok b) more (Ok c) a h ih =
    let e : row ∷ b ≡ a = cc in
    ap (row_before row) (ih b refl) ∙ ap (λ (rows : List Row). Ok (rows ++ c)) e
one_on n (Some row) (Ok b) more (Err m) a h ih = ap (row_before row) (ih b refl)

rows-append : (xs ys : List (ℕ × List ℕ)) (a : List Row) → rows_of xs ≡ Ok a → rows_of (xs ++ ys) ≡ rows_on a (rows_of ys)
rows-append [] ys a h = let e : [] ≡ a = cc in sym (on_none (rows_of ys)) ∙ ap (λ (rows : List Row). rows_on rows (rows_of ys)) e
rows-append (line ∷ xs) ys a h = one_on line.0 (row_of line.1) (rows_of xs) (rows_of (xs ++ ys)) (rows_of ys) a h (rows-append xs ys)

one_stop : (n m : ℕ) (o : Option Row) (r more : Result (List Row) ℕ) → row_then n o r ≡ Err m → (r ≡ Err m → more ≡ Err m) → row_then n o more ≡ Err m
one_stop n m None r more h ih = h
one_stop n m (Some row) (Ok b) more h ih = absurd cc
one_stop n m (Some row) (Err k) more h ih = ap (row_before row) (ih h)

rows-stop : (xs ys : List (ℕ × List ℕ)) (m : ℕ) → rows_of xs ≡ Err m → rows_of (xs ++ ys) ≡ Err m
rows-stop [] ys m h = absurd cc
rows-stop (line ∷ xs) ys m h = one_stop line.0 m (row_of line.1) (rows_of xs) (rows_of (xs ++ ys)) h (rows-stop xs ys m)

-- ---- the loop over lines

-- a further line
pub line_on : (whole : Result (List Row) ℕ) (rows more new : List Row) (n x : ℕ) (rest next : List ℕ) → rows_on rows (rows_of (left_from n (pieces rest))) ≡ whole
    → new ≡ rows ++ more → rows_of (numbered n (without_end (before 10 rest)) []) ≡ Ok more → from 10 rest ≡ x ∷ next
    → rows_on new (rows_of (left_from (n + 1) (pieces next))) ≡ whole
line_on whole rows more new n x rest next h e one f =
    ap (λ (all : List Row). rows_on all (rows_of (left_from (n + 1) (pieces next)))) e
    ∙ on_both rows more (rows_of (left_from (n + 1) (pieces next)))
    ∙ ap (rows_on rows) (sym (rows-append (numbered n (without_end (before 10 rest)) []) (left_from (n + 1) (pieces next)) more one))
    ∙ ap (λ (lines : List (ℕ × List ℕ)). rows_on rows (rows_of lines)) (sym (first_piece n rest (x ∷ next) f))
    ∙ h

nothing_after : (rows : List Row) → rows ++ [] ≡ rows
nothing_after [] = refl
nothing_after (row ∷ rows) = ap (λ (more : List Row). row ∷ more) (nothing_after rows)

-- the last line
pub last_line : (whole : Result (List Row) ℕ) (rows more new : List Row) (n : ℕ) (rest : List ℕ) → rows_on rows (rows_of (left_from n (pieces rest))) ≡ whole
    → new ≡ rows ++ more → rows_of (numbered n (without_end (before 10 rest)) []) ≡ Ok more → from 10 rest ≡ []
    → whole ≡ Ok new
last_line whole rows more new n rest h e one f =
    sym h
    ∙ ap (λ (lines : List (ℕ × List ℕ)). rows_on rows (rows_of lines)) (first_piece n rest [] f)
    ∙ ap (rows_on rows) (rows-append (numbered n (without_end (before 10 rest)) []) [] more one)
    ∙ ap (λ (all : List Row). Ok (rows ++ all)) (nothing_after more)
    ∙ ap (λ (all : List Row). Ok all) (sym e)

-- a line that is no row
pub stops : (whole : Result (List Row) ℕ) (rows : List Row) (n : ℕ) (rest : List ℕ) (fault : StationFault) → rows_on rows (rows_of (left_from n (pieces rest))) ≡ whole
    → StopsAs (rows_of (numbered n (without_end (before 10 rest)) [])) fault → StopsAs whole fault
stops whole rows n rest Memory h one = tt
stops whole rows n rest (Stations m) h one =
    sym h
    ∙ ap (λ (lines : List (ℕ × List ℕ)). rows_on rows (rows_of lines)) (first_piece n rest (from 10 rest) refl)
    ∙ ap (rows_on rows) (rows-stop (numbered n (without_end (before 10 rest)) []) (left_from (n + 1) (after (from 10 rest))) m one)

-- ---- the function reads what the relation spells

abbrev row_from : List ℕ → ℕ → ℕ → Offset → Row
row_from s f l v = record { station = s; first = f; last = l; variation = v }

abbrev row_by : Option (List ℕ) → Option ℕ → Option ℕ → Option Offset → Option Row
row_by station first last variation = do
  s ← station
  f ← first
  l ← last
  v ← variation
  if nat_le f l then Some (row_from s f l v) else None

record Parts (row : Row) (s : Option (List ℕ)) (f l : Option ℕ) (v : Option Offset) : Type 0 where
  station : s ≡ Some row.station
  first : f ≡ Some row.first
  last : l ≡ Some row.last
  variation : v ≡ Some row.variation
  ordered : row.first ≤ row.last

ordered_row : (s : List ℕ) (f l : ℕ) (v : Offset) (row : Row) (b : Bool) → nat_le f l ≡ b → (if b then Some (row_from s f l v) else None) ≡ Some row → Parts row (Some s) (Some f) (Some l) (Some v)
ordered_row s f l v row false e h = absurd cc
ordered_row s f l v row true e h =
    let same : row_from s f l v ≡ row = cc in
    let le : f ≤ l = grind (arith, nat_tests) in
    record {
      station = ap (λ (r : Row). Some r.station) same;
      first = ap (λ (r : Row). Some r.first) same;
      last = ap (λ (r : Row). Some r.last) same;
      variation = ap (λ (r : Row). Some r.variation) same;
      ordered = subst (λ (r : Row). r.first ≤ r.last) same le;
    }

parts_of : (s : Option (List ℕ)) (f l : Option ℕ) (v : Option Offset) (row : Row) → row_by s f l v ≡ Some row → Parts row s f l v
parts_of None f l v row h = absurd cc
parts_of (Some s) None l v row h = absurd cc
parts_of (Some s) (Some f) None v row h = absurd cc
parts_of (Some s) (Some f) (Some l) None row h = absurd cc
parts_of (Some s) (Some f) (Some l) (Some v) row h = ordered_row s f l v row (nat_le f l) refl h

row-spells : (line : List ℕ) (row : Row) → row_of line ≡ Some row → SpellsRow row line
unfolding row_of
row-spells line row h =
    let p = parts_of (station_in (word line)) (day_in (word (after_word line))) (day_in (word (after_word (after_word line)))) (variation_in (after_word (after_word (after_word line)))) row h in
    record { station = p.station; first = p.first; last = p.last; variation = p.variation; ordered = p.ordered }

spells-row : (line : List ℕ) (row : Row) → SpellsRow row line → row_of line ≡ Some row
unfolding row_of
spells-row line row is =
    let le : nat_le row.first row.last ≡ true = grind (arith, nat_tests, is.ordered) in
    rw (is.station, is.first, is.last, is.variation, le) refl

-- ---- tables

spelled_by : (n : ℕ) (line : List ℕ) (o : Option Row) (lines : List (ℕ × List ℕ)) (r : Result (List Row) ℕ) (rows : List Row) → row_of line ≡ o → rows_of lines ≡ r
    → ((more : List Row) → rows_of lines ≡ Ok more → AreRows more lines) → row_then n o r ≡ Ok rows → AreRows rows ((n, line) ∷ lines)
spelled_by n line None lines r rows one others ih h = absurd cc
spelled_by n line (Some row) lines (Err m) rows one others ih h = absurd cc
spelled_by n line (Some row) lines (Ok more) rows one others ih h =
    let same : row ∷ more ≡ rows = cc in
    subst (λ (all : List Row). AreRows all ((n, line) ∷ lines)) same (row-spells line row one, ih more others)

pub rows-spelled : (lines : List (ℕ × List ℕ)) (rows : List Row) → rows_of lines ≡ Ok rows → AreRows rows lines
rows-spelled [] rows h = let same : [] ≡ rows = cc in subst (λ (all : List Row). AreRows all []) same tt
rows-spelled (line ∷ lines) rows h = spelled_by line.0 line.1 (row_of line.1) lines (rows_of lines) rows refl refl (rows-spelled lines) h

pub spelled-rows : (lines : List (ℕ × List ℕ)) (rows : List Row) → AreRows rows lines → rows_of lines ≡ Ok rows
spelled-rows [] [] are = refl
spelled-rows [] (row ∷ rows) are = absurd are
spelled-rows (line ∷ lines) [] are = absurd are
spelled-rows (line ∷ lines) (row ∷ rows) are = rw (spells-row line.1 row are.0, spelled-rows lines rows are.1) refl

other_by : (n m : ℕ) (line : List ℕ) (o : Option Row) (lines : List (ℕ × List ℕ)) (r : Result (List Row) ℕ) → row_of line ≡ o → rows_of lines ≡ r
    → (rows_of lines ≡ Err m → IsFirstOther lines m) → row_then n o r ≡ Err m → IsFirstOther ((n, line) ∷ lines) m
other_by n m line None lines r one others ih h = inl (cc, λ row spelled. let is = spells-row line row spelled in absurd cc)
other_by n m line (Some row) lines (Ok more) one others ih h = absurd cc
other_by n m line (Some row) lines (Err k) one others ih h = let same : rows_of lines ≡ Err m = others ∙ h in inr (row, row-spells line row one, ih same)

first_other : (lines : List (ℕ × List ℕ)) (m : ℕ) → rows_of lines ≡ Err m → IsFirstOther lines m
first_other [] m h = absurd cc
first_other (line ∷ lines) m h = other_by line.0 m line.1 (row_of line.1) lines (rows_of lines) refl refl (first_other lines m) h

-- the result names the first line that is no row
pub names_line : (lines : List (ℕ × List ℕ)) (fault : StationFault) → StopsAs (rows_of lines) fault → NamesLine lines fault
names_line lines Memory h = tt
names_line lines (Stations n) h = first_other lines n h

-- the one table, unless memory was refused
pub gives_rows : (lines : List (ℕ × List ℕ)) (rows answer : List Row) → rows_of lines ≡ Ok answer → AreRows rows lines → answer ≡ rows
gives_rows lines rows answer h are = let is = spelled-rows lines rows are in cc

pub gives_fault : (lines : List (ℕ × List ℕ)) (rows : List Row) (fault : StationFault) → StopsAs (rows_of lines) fault → AreRows rows lines → fault ≡ Memory
gives_fault lines rows Memory h are = refl
gives_fault lines rows (Stations n) h are = let is = spelled-rows lines rows are in absurd cc
