-- The texts of a legend.
use Rattle.std.specs.Prelude.{Vec, ℕ, List}
use Rattle.std.specs.Prelude.{map}

-- the bytes of each text
abbrev pub texts_of : {A : Type 0} → List (Vec ℕ A) → List (List ℕ)
texts_of texts = map (λ text. text.items) texts
