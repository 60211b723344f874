-- Dates as people type them: 5JUN27, 05JUN27, 5JUN2027, 05JUN2027 or 2027-06-05.
use Rattle.std.specs.Prelude.{ℕ, ◌==◌, ◌&&◌, if◌then◌else◌, List, [], ◌∷◌, ◌++◌, Option, Some, None}
use Rattle.std.specs.Prelude.{codes}
use Rattle.std.specs.Str.{bytes_eq}
use Rattle.ssim_values.specs.Day.{day_of}
use Rattle.ssim_words.specs.Typed.{typed}

-- the name of the month that two digits number
abbrev pub month_of : List ℕ → Option (List ℕ)
month_of digits =
    if bytes_eq digits (codes "01") then Some (codes "JAN")
    else (if bytes_eq digits (codes "02") then Some (codes "FEB")
    else (if bytes_eq digits (codes "03") then Some (codes "MAR")
    else (if bytes_eq digits (codes "04") then Some (codes "APR")
    else (if bytes_eq digits (codes "05") then Some (codes "MAY")
    else (if bytes_eq digits (codes "06") then Some (codes "JUN")
    else (if bytes_eq digits (codes "07") then Some (codes "JUL")
    else (if bytes_eq digits (codes "08") then Some (codes "AUG")
    else (if bytes_eq digits (codes "09") then Some (codes "SEP")
    else (if bytes_eq digits (codes "10") then Some (codes "OCT")
    else (if bytes_eq digits (codes "11") then Some (codes "NOV")
    else (if bytes_eq digits (codes "12") then Some (codes "DEC") else None)))))))))))

-- the date with two digits of the year, if the two before them are 20
abbrev pub in_century : ℕ → ℕ → List ℕ → Option ℕ
in_century h k text = if (h == 50) && (k == 48) then day_of text else None

-- the date with a named month, if there is one
abbrev pub of_named : ℕ → ℕ → List ℕ → Option (List ℕ) → List ℕ → Option ℕ
of_named h k year (Some name) day = in_century h k (day ++ name ++ year)
of_named h k year None day = None

-- the date of a year of four digits, the first two of them apart, with a month of two digits
abbrev pub of_month : ℕ → ℕ → List ℕ → List ℕ → List ℕ → Option ℕ
of_month h k year month day = of_named h k year (month_of month) day

-- the date that the letters and digits of a word spell
abbrev pub day_spelled : List ℕ → Option ℕ
day_spelled (d ∷ a ∷ b ∷ c ∷ y ∷ z ∷ []) = day_of (48 ∷ d ∷ a ∷ b ∷ c ∷ y ∷ z ∷ [])
day_spelled (d ∷ e ∷ a ∷ b ∷ c ∷ y ∷ z ∷ []) = day_of (d ∷ e ∷ a ∷ b ∷ c ∷ y ∷ z ∷ [])
day_spelled (d ∷ a ∷ b ∷ c ∷ h ∷ k ∷ y ∷ z ∷ []) =
    in_century h k (48 ∷ d ∷ a ∷ b ∷ c ∷ y ∷ z ∷ [])
day_spelled (d ∷ e ∷ a ∷ b ∷ c ∷ h ∷ k ∷ y ∷ z ∷ []) =
    in_century h k (d ∷ e ∷ a ∷ b ∷ c ∷ y ∷ z ∷ [])
day_spelled (h ∷ k ∷ y ∷ z ∷ s ∷ m ∷ n ∷ t ∷ d ∷ e ∷ []) =
    if (s == 45) && (t == 45) then of_month h k (y ∷ z ∷ []) (m ∷ n ∷ []) (d ∷ e ∷ []) else None
day_spelled _ = None

-- the date that a word spells
abbrev pub typed_day : List ℕ → Option ℕ
typed_day word = day_spelled (typed word)
