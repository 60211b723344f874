-- Bytes that are the same as text of a page.
use Rattle.std.specs.Prelude.{ℕ, Bool, not, ◌&&◌, ◌==◌, nat_lt}

-- whether a byte is the same as text of a page
abbrev pub is_plain : ℕ → Bool
is_plain b = not (b == 38) && not (b == 60) && not (b == 62) && nat_lt b 127
