-- What is kept of a desk, so that the effects of a change are known later.
use Rattle.std.specs.Prelude.{Vec, ◌≡◌, ℕ, Bool, true, false, not, ◌&&◌, if◌then◌else◌, List, []}
use Rattle.std.specs.Prelude.{Option, None, Some}
use Rattle.std.specs.BTreeSet.{BTreeSet, contains_by}
use Rattle.std.specs.Cmp.Lexicographic.{slice_cmp}
use Rattle.std.specs.List.{list_any}
use Rattle.std.specs.Ordering.{nat_cmp}
use Rattle.ssim_held.specs.Entries.{DeskSeen}
use Rattle.ssim_desk.specs.declared.finding_line.FindingLine.{FindingLine}
use Rattle.ssim_program.specs.declared.effects.Before.{Before}
use Rattle.ssim_program.specs.print.Effects.{fails_as, finding_line}
use Rattle.ssim_program.specs.print.Shown.{fails}

-- whether a line is in a set
abbrev pub is_in : {A : Type 0} → BTreeSet (Vec ℕ A) → List ℕ → Bool
is_in set text = contains_by (λ k. slice_cmp nat_cmp text k.items) set

-- the set has the lines of those of these sub-messages that fail, and no others
abbrev pub HasFailing : {A : Type 0} → BTreeSet (Vec ℕ A) → List FindingLine → Type 0
HasFailing set found = (text : List ℕ) → is_in set text ≡ list_any (fails_as text) found

-- what is kept of a desk: its messages
abbrev pub IsBefore : DeskSeen → Before → Type 0
IsBefore desk before = before.messages.items ≡ desk.held

-- the line of a sub-message that fails, if it is not in a set
abbrev pub line_unless : {A : Type 0} → BTreeSet (Vec ℕ A) → FindingLine → List ℕ
line_unless set found =
    if fails found.finding && not (is_in set (finding_line found)) then finding_line found else []

-- it is kept if the words ask for the effects
abbrev pub IsAsked : Bool → DeskSeen → Option Before → Type 0
IsAsked false desk None = Unit {0}
IsAsked false desk (Some before) = ⊥
IsAsked true desk None = ⊥
IsAsked true desk (Some before) = IsBefore desk before
