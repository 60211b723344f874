-- Blocks of lines, as a command prints them for several flights.
use Rattle.std.specs.Prelude.{ℕ, List, [], ◌∷◌}
use Rattle.std.specs.List.{join_by}

-- the lines of the blocks, with an empty line between two
abbrev pub blocks : List (List ℕ) → List ℕ
blocks = join_by (λ block. block) (10 ∷ [])
