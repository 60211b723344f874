-- Aircraft types as people type them: one to three letters or digits, as 320 or E90.
use Rattle.std.specs.Prelude.{ℕ, ◌&&◌, ◌||◌, Bool, if◌then◌else◌, List, [], ◌∷◌, Option, Some, None}
use Rattle.std.specs.List.{list_all}
use Rattle.ssim_values.specs.Characters.{is_digit, is_letter}
use Rattle.ssim_words.specs.Typed.{typed}

abbrev pub is_letter_or_digit : ℕ → Bool
is_letter_or_digit b = is_letter b || is_digit b

-- the text, if it has letters and digits alone
abbrev pub if_plain : List ℕ → List ℕ → Option (List ℕ)
if_plain letters text = if list_all is_letter_or_digit letters then Some text else None

-- the three columns that the letters and digits of a word fill, with blanks after them
abbrev pub aircraft_spelled : List ℕ → Option (List ℕ)
aircraft_spelled (a ∷ []) = if_plain (a ∷ []) (a ∷ 32 ∷ 32 ∷ [])
aircraft_spelled (a ∷ b ∷ []) = if_plain (a ∷ b ∷ []) (a ∷ b ∷ 32 ∷ [])
aircraft_spelled (a ∷ b ∷ d ∷ []) = if_plain (a ∷ b ∷ d ∷ []) (a ∷ b ∷ d ∷ [])
aircraft_spelled _ = None

-- the aircraft type that a word spells, in three columns
abbrev pub typed_aircraft : List ℕ → Option (List ℕ)
typed_aircraft word = aircraft_spelled (typed word)
