-- The rows of sub-messages as the code goes over them, message by message.
use Rattle.std.specs.Prelude.{ℕ, List, [], ◌∷◌, ◌++◌, drop, length}
use Rattle.ssim_base.specs.declared.sub_message.ResolvedSub.{ResolvedSub}
use Rattle.ssim_held.specs.Entries.{Entry}
use Rattle.ssim_desk.specs.declared.finding_line.FindingLine.{FindingLine}
use Rattle.ssim_sql.specs.Messages.{sub_row}

-- the rows of the sub-messages with these full dates, of which these are the first findings
abbrev pub sub_rows : List ℕ → List ResolvedSub → List FindingLine → List (List ℕ)
sub_rows name (dated ∷ dates) (found ∷ findings) =
    sub_row name dated found ∷ sub_rows name dates findings
sub_rows _ _ _ = []

-- the rows of the sub-messages of messages; the findings are those of all of them, in order
abbrev pub rows_of_subs : List ℕ → List Entry → List FindingLine → List (List ℕ)
rows_of_subs name [] findings = []
rows_of_subs name (e ∷ entries) findings =
    sub_rows name e.dates findings ++ rows_of_subs name entries (drop (length e.dates) findings)
