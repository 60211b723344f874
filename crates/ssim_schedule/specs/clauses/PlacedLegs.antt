-- Legs that are placed among the legs of an itinerary.
use Rattle.std.specs.Prelude.{ℕ, ◌+◌, nat_lt, if◌then◌else◌, [], ◌∷◌, ◌++◌, take, drop}
use Rattle.ssim_base.specs.Timetable.{Legs}

-- the number of legs before the first leg whose leg sequence is n or higher
abbrev pub legs_before : ℕ → Legs → ℕ
legs_before n [] = 0
legs_before n (l ∷ legs) = if nat_lt l.sequence n then legs_before n legs + 1 else 0

-- the legs placed among others: each comes before the first of those that are left of the others
-- whose leg sequence is not lower
abbrev pub placed_each : Legs → Legs → Legs
placed_each [] others = others
placed_each (l ∷ legs) others =
    let count = legs_before l.sequence others in
    take count others ++ l ∷ placed_each legs (drop count others)
