-- What several words are read as.
use Rattle.std.specs.Prelude.{ℕ, List, [], ◌∷◌, Option, Some, None}

-- a value before others, if there are all of them
abbrev pub before : Option (List ℕ) → Option (List (List ℕ)) → Option (List (List ℕ))
before (Some value) (Some values) = Some (value ∷ values)
before _ _ = None

-- what each word is read as; nothing if one of them is read as nothing
abbrev pub each_read : (List ℕ → Option (List ℕ)) → List (List ℕ) → Option (List (List ℕ))
each_read read [] = Some []
each_read read (word ∷ words) = before (read word) (each_read read words)
