-- Bytes without the blanks around them.
use Rattle.std.specs.Prelude.{ℕ, ◌==◌, if◌then◌else◌, List, [], ◌∷◌}
use Rattle.ssim_text.specs.Left.{without_end}

-- bytes without the blanks at their beginning
abbrev pub without_start : List ℕ → List ℕ
without_start [] = []
without_start (b ∷ rest) = if b == 32 then without_start rest else b ∷ rest

-- bytes without the blanks at both ends
abbrev pub trimmed : List ℕ → List ℕ
trimmed bytes = without_end (without_start bytes)
