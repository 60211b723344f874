-- The lines of a text without blank lines, and without blanks and CR bytes at their ends.
use Rattle.std.specs.Prelude.{◌≡◌, ◌≤◌, ℕ, ◌+◌, ◌-◌, Bool, true, ◌||◌, ◌==◌, nat_lt, if◌then◌else◌}
use Rattle.std.specs.Prelude.{List, [], ◌∷◌, map, length, slice_index, Option, Some, None}
use Rattle.std.specs.List.{slice_split, list_all}
use Rattle.ssim_text.specs.Bytes.{is_printable}

-- whether a byte is dropped at the end of a line: a CR byte or a blank
abbrev pub is_dropped : ℕ → Bool
is_dropped b = (b == 13) || (b == 32)

-- a byte before the rest of a line, without blanks and CR bytes at the line's end
abbrev pub onto : ℕ → List ℕ → List ℕ
onto b [] = if is_dropped b then [] else b ∷ []
onto b (c ∷ rest) = b ∷ c ∷ rest

-- a line without the CR bytes and blanks at its end
abbrev pub without_end : List ℕ → List ℕ
without_end [] = []
without_end (b ∷ rest) = onto b (without_end rest)

-- a line with its number before the later lines; only the later lines if it is empty
abbrev pub numbered : ℕ → List ℕ → List (ℕ × List ℕ) → List (ℕ × List ℕ)
numbered n [] later = later
numbered n (b ∷ line) later = (n, b ∷ line) ∷ later

-- the lines that are left of these lines, numbered from n
abbrev pub left_from : ℕ → List (List ℕ) → List (ℕ × List ℕ)
left_from n [] = []
left_from n (line ∷ lines) = numbered n (without_end line) (left_from (n + 1) lines)

-- the lines of a text, which LF divides
abbrev pub pieces : List ℕ → List (List ℕ)
pieces = slice_split (λ b. b == 10)

-- the lines of a text that are left, numbered from 1
abbrev pub lines_left : List ℕ → List (ℕ × List ℕ)
lines_left text = left_from 1 (pieces text)

-- the numbers of numbered lines
abbrev pub numbers : List (ℕ × List ℕ) → List ℕ
numbers lines = map (λ l. l.0) lines

-- the texts of numbered lines
abbrev pub texts : List (ℕ × List ℕ) → List (List ℕ)
texts lines = map (λ l. l.1) lines

-- the number of the line at an index; past the last line, its number plus one; 1 without lines
abbrev pub place_number : List ℕ → ℕ → ℕ
place_number ns i =
    if nat_lt i (length ns) then slice_index ns i else slice_index ns (length ns - 1) + 1

-- the number of the first line with a byte outside 32 to 126
abbrev pub first_unprintable : List (ℕ × List ℕ) → Option ℕ
first_unprintable [] = None
first_unprintable (line ∷ more) =
    if list_all is_printable line.1 then first_unprintable more else Some line.0

-- a line that a text can have: one printable byte or more, the last of them no blank
pub record IsTextLine (line : List ℕ) : Type 0 where
  pub some : 1 ≤ length line
  pub printable : list_all is_printable line ≡ true
  pub ended : without_end line ≡ line
