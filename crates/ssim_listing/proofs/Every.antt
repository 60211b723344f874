-- A property of each element of a list, by recursion.
use Rattle.std.proofs.Common.{ℕ, List, [], ◌∷◌, ◌++◌}
use Rattle.std.specs.List.{AllByRecursion as Every, flat_map}

pub every_append : {X : Type 0} (P : X → Type 0) (xs ys : List X) → Every P xs → Every P ys → Every P (xs ++ ys)
every_append P [] ys h k = k
every_append P (x ∷ xs) ys h k = (h.0, every_append P xs ys h.1 k)

pub every_made : {X Y : Type 0} (P : Y → Type 0) (f : X → List Y) (xs : List X) → ((x : X) → Every P (f x)) → Every P (flat_map f xs)
every_made P f [] h = tt
every_made P f (x ∷ xs) h = every_append P (f x) (flat_map f xs) (h x) (every_made P f xs h)
