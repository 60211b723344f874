-- The messages of a desk, as they are on a page.
use Rattle.std.specs.Prelude.{ℕ, List, [], ◌∷◌, ◌++◌, drop, length}
use Rattle.ssim_base.specs.Export.{line}
use Rattle.ssim_base.specs.declared.sub_message.ResolvedSub.{ResolvedSub}
use Rattle.ssim_text.specs.Canonical.{canonical}
use Rattle.ssim_held.specs.Entries.{Entry}
use Rattle.ssim_desk.specs.declared.finding_line.FindingLine.{FindingLine}
use Rattle.ssim_page.specs.Messages.{message_article, sub_begin}
use Rattle.ssim_program.specs.print.PrintedLine.{counts_text}

-- the line of a sub-message: its action, its flight and its full dates, and then what `findings`
-- prints of its dates
abbrev pub sub_line : ResolvedSub → FindingLine → List ℕ
sub_line dated found =
    line (sub_begin found.action found.designator dated.period ++ counts_text found.finding)

-- the lines of the sub-messages with these full dates, of which these are the first findings
abbrev pub sub_lines : List ResolvedSub → List FindingLine → List ℕ
sub_lines (dated ∷ dates) (found ∷ findings) = sub_line dated found ++ sub_lines dates findings
sub_lines _ _ = []

-- The articles of messages, each with the lines of its sub-messages and its text. The findings are
-- those of the sub-messages of all of them, in order.
abbrev pub message_articles : List Entry → List FindingLine → List ℕ
message_articles [] findings = []
message_articles (e ∷ entries) findings =
    message_article e.reference (sub_lines e.dates findings) (canonical e.message)
    ++ message_articles entries (drop (length e.dates) findings)
