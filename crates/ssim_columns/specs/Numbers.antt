-- Numbers in digits.
use Rattle.std.specs.Prelude.{ℕ, Bool, ◌+◌, ◌-◌, ◌*◌, ◌/◌, ◌%◌, ◌==◌, zero, suc, if◌then◌else◌, List, [], ◌∷◌, ◌++◌, reverse, Option, Some, None}
use Rattle.ssim_values.specs.Characters.{is_digit}

-- whether a byte is a blank
abbrev pub is_blank : ℕ → Bool
is_blank b = b == 32

-- the number that digits spell, after those that spell n
abbrev pub digits_after : ℕ → List ℕ → Option ℕ
digits_after n [] = Some n
digits_after n (b ∷ bs) = if is_digit b then digits_after (n * 10 + (b - 48)) bs else None

-- the number that a text of one or more digits spells
unfoldable pub digits_of : List ℕ → Option ℕ
digits_of [] = None
digits_of (b ∷ bs) = digits_after 0 (b ∷ bs)

-- the text without the blanks that it begins with
abbrev pub drop_blanks : List ℕ → List ℕ
drop_blanks [] = []
drop_blanks (b ∷ bs) = if is_blank b then drop_blanks bs else b ∷ bs

-- the text without the blanks at its end
unfoldable pub drop_blanks_at_end : List ℕ → List ℕ
drop_blanks_at_end text = reverse (drop_blanks (reverse text))

-- the number that a text of one or more digits spells, with blanks before or after
unfoldable pub number_of : List ℕ → Option ℕ
number_of text = digits_of (drop_blanks_at_end (drop_blanks text))

-- the number, if it is not 0
abbrev pub from_one : Option ℕ → Option ℕ
from_one None = None
from_one (Some n) = if n == 0 then None else Some n

-- the leg sequence that a text spells: a number from 1
unfoldable pub sequence_of : List ℕ → Option ℕ
sequence_of text = from_one (number_of text)

-- a number in w digits
abbrev pub digits : ℕ → ℕ → List ℕ
digits zero n = []
digits (suc w) n = digits w (n / 10) ++ (48 + n % 10) ∷ []
