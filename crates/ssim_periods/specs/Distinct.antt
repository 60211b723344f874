-- Distinct values in the order in which they came.
use Rattle.std.specs.Prelude.{ℕ, suc, Bool, if◌then◌else◌, Option}
use Rattle.std.specs.Prelude.{Some, None, option_map, List, [], ◌∷◌}

-- the index of a value among others; none if it is not among them
abbrev pub index_of : {V : Type 0} → (V → V → Bool) → List V → V → Option ℕ
index_of alike [] v = None
index_of alike (x ∷ values) v = if alike x v then Some 0 else option_map suc (index_of alike values v)
