-- Blocks of lines that come after empty lines.
use Rattle.std.proofs.Common.{◌≡◌, ◌∷◌, ◌++◌, [], ℕ, List, Vec, Global, map, sym}
use Rattle.std.specs.List.{flat_map}
use Rattle.std.proofs.lemmas.List.Folds.{flat_map-map}

-- the lines of the blocks, each after an empty line
pub later_blocks : (later : List (Vec ℕ Global)) → flat_map (λ b. (10 ∷ []) ++ b.items) later
    ≡ flat_map (λ block. (10 ∷ []) ++ block) (map (λ b. b.items) later)
later_blocks later =
    sym (flat_map-map (λ (block : List ℕ). (10 ∷ []) ++ block) (λ (b : Vec ℕ Global). b.items) later)
