-- Rows, and the statements that insert them.
use Rattle.std.specs.Prelude.{ℕ, ◌+◌, ◌==◌, nat_lt, if◌then◌else◌, List, [], ◌∷◌, ◌++◌, codes, map}
use Rattle.std.specs.List.{enumerate_from, flat_map}
use Rattle.ssim_sql.specs.Literal.{quote}

-- a row of a value and others: in parentheses, with a comma between two
abbrev pub row : List ℕ → List (List ℕ) → List ℕ
row first others = 40 ∷ first ++ flat_map (λ value. 44 ∷ value) others ++ 41 ∷ []

-- a row of the timetable with this name
abbrev pub row_of : List ℕ → List (List ℕ) → List ℕ
row_of name values = row (quote name) values

-- the place in its statement of the row after one: a statement has at most 500 rows
abbrev pub next_place : ℕ → ℕ
next_place place = if nat_lt place 499 then place + 1 else 0

-- what comes before a row: the first line of a statement, or the end of the row before
abbrev pub before_row : List ℕ → ℕ → List ℕ
before_row head place = if place == 0 then head else codes ",\n"

-- what comes after a row: the end of a full statement, or nothing
abbrev pub after_row : ℕ → List ℕ
after_row place = if nat_lt place 499 then [] else codes ";\n"

-- the rows from a place of a statement on, and the end of the last statement
abbrev pub statements_from : List ℕ → ℕ → List (List ℕ) → List ℕ
statements_from head place [] = if place == 0 then [] else codes ";\n"
statements_from head place (row ∷ rows) =
    before_row head place ++ row ++ after_row place
    ++ statements_from head (next_place place) rows

-- The statements of rows, each with this first line: a row a line, with a comma after it, or a
-- semicolon after the last of a statement. Without rows there is none.
unfoldable pub statements : List ℕ → List (List ℕ) → List ℕ
statements head rows = statements_from head 0 rows

-- values in order, each with its number from n on, as rows
abbrev pub numbered : {V : Type 0} → (ℕ → V → List ℕ) → ℕ → List V → List (List ℕ)
numbered text n values = map (λ it. text it.0 it.1) (enumerate_from n values)
