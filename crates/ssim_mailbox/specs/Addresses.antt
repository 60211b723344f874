-- Lines of addresses.
use Rattle.std.specs.Prelude.{ℕ, Bool, false, ◌&&◌, ◌||◌, ◌==◌, not, if◌then◌else◌, List, [], ◌∷◌, length, take, drop, filter}
use Rattle.std.specs.List.{list_all, slice_split}
use Rattle.ssim_values.specs.Characters.{is_letter, is_digit}

-- whether a byte is a letter or a digit
abbrev pub is_alphanumeric : ℕ → Bool
is_alphanumeric b = is_letter b || is_digit b

-- an address: four letters and three letters or digits
abbrev pub is_address : List ℕ → Bool
is_address word =
    (length word == 7) && list_all is_letter (take 4 word) && list_all is_alphanumeric (drop 4 word)

-- the words of a line, which blanks divide
abbrev pub words : List ℕ → List (List ℕ)
words line = filter (λ word. not (length word == 0)) (slice_split (λ b. b == 32) line)

-- one or more addresses
abbrev pub are_addresses : List (List ℕ) → Bool
are_addresses [] = false
are_addresses (word ∷ more) = list_all is_address (word ∷ more)

-- a line without a priority at its beginning: the letter Q, a letter and a blank
abbrev pub after_priority : List ℕ → List ℕ
after_priority [] = []
after_priority (a ∷ []) = a ∷ []
after_priority (a ∷ b ∷ []) = a ∷ b ∷ []
after_priority (a ∷ b ∷ c ∷ rest) =
    if (a == 81) && is_letter b && (c == 32) then rest else a ∷ b ∷ c ∷ rest

-- a line of addresses, with a priority or without
abbrev pub is_address_line : List ℕ → Bool
is_address_line line = are_addresses (words (after_priority line))
