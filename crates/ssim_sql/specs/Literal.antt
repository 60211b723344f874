-- Texts of SQL, how they are written and how they are read.
use Rattle.std.specs.Prelude.{◌≡◌, ◌≢◌, ℕ, ◌+◌, ◌/◌, ◌%◌, ◌==◌, nat_lt, Bool, true, false}
use Rattle.std.specs.Prelude.{if◌then◌else◌, List, [], ◌∷◌, ◌++◌}
use Rattle.std.specs.List.{flat_map}

-- ---- as they are written

-- the character of this number, below 256, in UTF-8
abbrev pub character : ℕ → List ℕ
character b = if nat_lt b 128 then b ∷ [] else (192 + b / 64) ∷ (128 + b % 64) ∷ []

-- the characters of bytes: a byte is the character of its number
abbrev pub characters : List ℕ → List ℕ
characters bytes = flat_map character bytes

-- a byte within a text: an apostrophe is doubled
abbrev pub quoted_byte : ℕ → List ℕ
quoted_byte b = if b == 39 then 39 ∷ 39 ∷ [] else character b

-- bytes as a text: their characters between two apostrophes, with each apostrophe doubled
unfoldable pub quote : List ℕ → List ℕ
quote bytes = 39 ∷ flat_map quoted_byte bytes ++ 39 ∷ []

-- ---- as they are read

-- a byte of a text before those that were read after it
abbrev pub onto : ℕ → List ℕ × List ℕ → List ℕ × List ℕ
onto b read = (b ∷ read.0, read.1)

-- The text before the apostrophe that ends it, and what follows. An apostrophe, after which the
-- flag is true, ends the text unless the next byte is one, too: then both are one apostrophe of
-- it.
abbrev pub read_from : Bool → List ℕ → List ℕ × List ℕ
read_from ended [] = ([], [])
read_from false (b ∷ rest) = if b == 39 then read_from true rest else onto b (read_from false rest)
read_from true (b ∷ rest) = if b == 39 then onto 39 (read_from false rest) else ([], b ∷ rest)

-- what SQL reads: a text at the beginning of these bytes, and the bytes after it
abbrev pub read_literal : List ℕ → List ℕ × List ℕ
read_literal [] = ([], [])
read_literal (b ∷ rest) = read_from false rest

-- bytes that do not begin with an apostrophe
abbrev pub BeginsOtherwise : List ℕ → Type 0
BeginsOtherwise [] = Unit {0}
BeginsOtherwise (b ∷ rest) = b ≢ 39

-- A text is read back: its characters, and then exactly what follows it.
abbrev pub ReadsBack : Type 0
ReadsBack = (bytes rest : List ℕ) → BeginsOtherwise rest
    → read_literal (quote bytes ++ rest) ≡ (characters bytes, rest)
