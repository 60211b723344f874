-- The lines of a mailbox, one after another.
use Rattle.std.specs.Prelude.{◌≡◌, ℕ, ◌+◌, ◌==◌, List, [], ◌∷◌, Option, Some, None, option_map}
use Rattle.std.specs.List.{slice_split}
use Rattle.ssim_mailbox.specs.declared.line.MailboxLine.{MailboxLine}
use Rattle.ssim_mailbox.specs.declared.line.Lines.{Lines}
use Rattle.ssim_mailbox.specs.Lines.{MailLine, dot_after, lines_from, shown}

-- what contracts see of a line
abbrev pub line_of : MailboxLine → MailLine
line_of l = record { number = l.number; bytes = l.bytes.now; under_dot = l.under_dot }

-- the parts of the bytes beside a mark, if there is one
abbrev pub split_rest : ℕ → Option (List ℕ) → List (List ℕ)
split_rest mark None = []
split_rest mark (Some rest) = slice_split (λ b. b == mark) rest

-- the bytes of each line that is left
abbrev pub pieces_left : Lines → List (List ℕ)
pieces_left lines = split_rest 10 (option_map (λ r. r.now) lines.rest)

-- the lines that are left
abbrev pub lines_left : Lines → List MailLine
lines_left lines = lines_from (lines.above + 1) lines.under_dot (pieces_left lines)

-- the line that has these bytes, and is the first of those that are left
abbrev pub first_line : Lines → List ℕ → MailLine
first_line lines piece =
    record { number = lines.above + 1; bytes = shown piece; under_dot = lines.under_dot }

-- the line is the next one, if there is one, and the others are left
abbrev pub IsNextLine : Option MailLine → Lines → Lines → Type 0
IsNextLine None old new = pieces_left old ≡ []
IsNextLine (Some line) old new =
    (piece : List ℕ) × (line ≡ first_line old piece) × (pieces_left old ≡ piece ∷ pieces_left new)
    × (new.above ≡ old.above + 1) × (new.under_dot ≡ dot_after old.under_dot (shown piece))
