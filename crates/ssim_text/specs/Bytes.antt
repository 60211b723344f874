-- How a line is cut into its parts.
use Rattle.std.specs.Prelude.{ℕ, Bool, ◌&&◌, ◌||◌, ◌==◌, nat_le, if◌then◌else◌, Option, Some, None, List, []}
use Rattle.std.specs.Prelude.{◌∷◌, length}
use Rattle.std.specs.List.{list_all}
use Rattle.ssim_values.specs.Characters.{is_letter, is_digit}

infixl 10 ◌>>=◌
-- what the function gives for the value; None if there is no value
abbrev pub ◌>>=◌ : {A B : Type 0} → Option A → (A → Option B) → Option B
(Some x) >>= f = f x
None >>= f = None

-- the bytes before the first b
abbrev pub before : ℕ → List ℕ → List ℕ
before b [] = []
before b (x ∷ xs) = if x == b then [] else x ∷ before b xs

-- the bytes from the first b on
abbrev pub from : ℕ → List ℕ → List ℕ
from b [] = []
from b (x ∷ xs) = if x == b then x ∷ xs else from b xs

-- the bytes after the blanks at the beginning
abbrev pub drop_blanks : List ℕ → List ℕ
drop_blanks [] = []
drop_blanks (x ∷ xs) = if x == 32 then drop_blanks xs else x ∷ xs

-- the first word: one or more blanks divide the parts of a line
abbrev pub word : List ℕ → List ℕ
word = before 32

-- the bytes after the first word and the blanks that follow it
abbrev pub after_word : List ℕ → List ℕ
after_word line = drop_blanks (from 32 line)

-- whether a byte is a letter or a digit
abbrev pub is_alphanumeric : ℕ → Bool
is_alphanumeric b = is_letter b || is_digit b

-- whether a byte is allowed in a line
abbrev pub is_printable : ℕ → Bool
is_printable b = nat_le 32 b && nat_le b 126

-- whether a text has a length in bounds and each byte passes the test
abbrev pub is_text_of : (ℕ → Bool) → ℕ → ℕ → List ℕ → Bool
is_text_of test low high text =
    nat_le low (length text) && nat_le (length text) high && list_all test text
