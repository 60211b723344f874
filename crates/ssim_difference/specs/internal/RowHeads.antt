-- The first fields of the rows of a period on which a flight differs.
use Rattle.std.specs.Prelude.{ℕ, List, [], ◌∷◌}
use Rattle.ssim_difference.specs.declared.rows.Head.{Head}

-- the flight, the period and the kind of the change
abbrev pub fields_of : Head → List (List ℕ)
fields_of head =
    head.name.now ∷ head.first.now ∷ head.last.now ∷ head.days.now ∷ head.change.now ∷ []
