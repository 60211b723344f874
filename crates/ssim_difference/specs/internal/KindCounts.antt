-- How many changes of a kind the pieces of flights have.
use Rattle.std.specs.Prelude.{ℕ, Bool, cond, min, nat_lt, if◌then◌else◌, List, ◌++◌}
use Rattle.std.specs.List.{flat_map, sum_by}
use Rattle.ssim_difference.specs.Differences.{Compared, DifferencePiece}
use Rattle.ssim_difference.specs.Kinds.{all_kinds, counted_line, is_of_kind}
use Rattle.ssim_difference.specs.Lines.{last_line}
use Rattle.ssim_difference.specs.declared.change_kind.ChangeKind.{ChangeKind}
use Rattle.ssim_difference.specs.declared.difference.Difference.{Difference}
use Rattle.ssim_difference.specs.internal.Counted.{days_in}

-- whether a difference is of a kind
abbrev pub has_kind : ChangeKind → Difference → Bool
has_kind kind d = is_of_kind kind d.old d.new

-- the number of days of a period, if its difference is of a kind
abbrev pub days_of_kind : ChangeKind → DifferencePiece → ℕ
days_of_kind kind piece = if has_kind kind piece.1 then days_in piece.0 else 0

-- the number of days of the pieces of a kind
abbrev pub dates_of_kind : ChangeKind → List DifferencePiece → ℕ
dates_of_kind kind pieces = sum_by (days_of_kind kind) pieces

-- 1 if a number is not 0
abbrev pub one_if_any : ℕ → ℕ
one_if_any n = cond (nat_lt 0 n) 1 0

-- how many flights have a piece of a kind
abbrev pub flights_of_kind : ChangeKind → List Compared → ℕ
flights_of_kind kind flights = sum_by (λ flight. one_if_any (dates_of_kind kind flight.1)) flights

-- the number of days of the pieces of a kind of flights
abbrev pub all_of_kind : ChangeKind → List Compared → ℕ
all_of_kind kind flights = sum_by (λ flight. dates_of_kind kind flight.1) flights

-- at most the greatest number of 64 bits
abbrev pub capped : ℕ → ℕ
capped n = min n 18446744073709551615

-- the line of a kind of these flights
abbrev pub line_of_kind : List Compared → ChangeKind → List ℕ
line_of_kind flights kind = counted_line kind (capped (flights_of_kind kind flights))
    (capped (all_of_kind kind flights))

-- the lines of the kinds of these flights, and the last line
abbrev pub counted_lines : List Compared → ℕ → List ℕ
counted_lines flights dates =
    flat_map (line_of_kind flights) all_kinds ++ last_line flights dates
