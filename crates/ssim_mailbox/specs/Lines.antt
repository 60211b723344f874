-- The lines of a mailbox.
use Rattle.std.specs.Prelude.{ℕ, ◌+◌, Bool, false, ◌&&◌, ◌||◌, ◌==◌, nat_le, if◌then◌else◌, List, [], ◌∷◌, reverse}
use Rattle.std.specs.List.{slice_split}

-- the list without the elements at its beginning that pass the test
abbrev pub drop_while : {X : Type 0} → (X → Bool) → List X → List X
drop_while test [] = []
drop_while test (x ∷ xs) = if test x then drop_while test xs else x ∷ xs

-- the list without the elements at its end that pass the test
abbrev pub drop_while_at_end : {X : Type 0} → (X → Bool) → List X → List X
drop_while_at_end test xs = reverse (drop_while test (reverse xs))

-- whether a byte is a control character of the transmission: SOH, STX or ETX
abbrev pub is_control : ℕ → Bool
is_control b = nat_le 1 b && nat_le b 3

-- whether a byte is dropped at the end of a line: such a control character, a CR byte or a blank
abbrev pub is_dropped_at_end : ℕ → Bool
is_dropped_at_end b = is_control b || (b == 13) || (b == 32)

-- a line as it is read
abbrev pub shown : List ℕ → List ℕ
shown line = drop_while_at_end is_dropped_at_end (drop_while is_control line)

-- whether a line begins with a dot
abbrev pub begins_with_dot : List ℕ → Bool
begins_with_dot [] = false
begins_with_dot (b ∷ rest) = b == 46

-- a line of a mailbox: its number, its bytes as they are read, and whether the last line above it
-- that is not empty begins with a dot
pub record MailLine : Type 0 where
  pub number : ℕ
  pub bytes : List ℕ
  pub under_dot : Bool

-- the same of the next line: an empty line changes nothing
abbrev pub dot_after : Bool → List ℕ → Bool
dot_after under_dot [] = under_dot
dot_after under_dot (b ∷ rest) = begins_with_dot (b ∷ rest)

-- these lines, numbered from n
abbrev pub lines_from : ℕ → Bool → List (List ℕ) → List MailLine
lines_from n under_dot [] = []
lines_from n under_dot (line ∷ lines) =
    record { number = n; bytes = shown line; under_dot = under_dot }
    ∷ lines_from (n + 1) (dot_after under_dot (shown line)) lines

-- the lines of a mailbox, which LF divides
abbrev pub lines_in : List ℕ → List MailLine
lines_in mailbox = lines_from 1 false (slice_split (λ b. b == 10) mailbox)
