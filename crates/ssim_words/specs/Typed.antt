-- Words of a command line as people type them.
use Rattle.std.specs.Prelude.{ℕ, ◌==◌, if◌then◌else◌, List, [], ◌∷◌}
use Rattle.std.specs.Char.{to_ascii_uppercase}
use Rattle.std.specs.List.{flat_map}

-- what is read of a byte: nothing of a blank, and A to Z of a to z
abbrev pub letter : ℕ → List ℕ
letter byte = if byte == 32 then [] else to_ascii_uppercase byte ∷ []

-- a word without its blanks, with a to z as A to Z
abbrev pub typed : List ℕ → List ℕ
typed word = flat_map letter word
