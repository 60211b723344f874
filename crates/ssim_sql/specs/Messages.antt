-- The rows of what a desk holds: its station table, its messages, and what these found.
use Rattle.std.specs.Prelude.{ℕ, List, [], ◌∷◌, ◌++◌, drop, length, map}
use Rattle.std.specs.Fmt.{decimal}
use Rattle.std.specs.List.{zip}
use Rattle.ssim_values.specs.DayMask.{digits_of}
use Rattle.ssim_values.specs.Designator.{designator_text}
use Rattle.ssim_values.specs.Variation.{variation_text}
use Rattle.ssim_text.specs.Canonical.{canonical}
use Rattle.ssim_text.specs.Lines.{identifier_text, kind_text}
use Rattle.ssim_text.specs.Reference.{printed_reference}
use Rattle.ssim_base.specs.Stations.{Row}
use Rattle.ssim_base.specs.declared.sub_message.ResolvedSub.{ResolvedSub}
use Rattle.ssim_held.specs.Entries.{DeskSeen, Entry}
use Rattle.ssim_desk.specs.Desk.{finding_lines}
use Rattle.ssim_desk.specs.declared.finding_line.FindingLine.{FindingLine}
use Rattle.ssim_listing.specs.Rows.{iso_date}
use Rattle.ssim_sql.specs.Blanks.{trimmed}
use Rattle.ssim_sql.specs.Literal.{quote}
use Rattle.ssim_sql.specs.Statements.{numbered, row_of, statements}
use Rattle.ssim_sql.specs.declared.constant.heads.TheConstants.{STATION_ROW_HEAD}
use Rattle.ssim_sql.specs.declared.constant.heads.TheConstants.{MESSAGE_HEAD, SUB_MESSAGE_HEAD}

-- the row of a station at a place of the table
unfoldable pub station_row : List ℕ → ℕ → Row → List ℕ
station_row name place row = row_of name (
    decimal place ∷ quote row.station ∷ quote (iso_date row.first) ∷ quote (iso_date row.last)
    ∷ quote (variation_text row.variation) ∷ [])

-- The row of a message at a place in order of reference: its reference, its place, its kind, its
-- date, its originator and its canonical text.
unfoldable pub message_row : List ℕ → ℕ → Entry → List ℕ
message_row name place e = row_of name (
    quote (printed_reference e.reference) ∷ decimal place ∷ quote (kind_text e.reference.kind)
    ∷ quote (iso_date e.reference.date) ∷ quote (trimmed e.reference.originator)
    ∷ quote (canonical e.message) ∷ [])

-- The row of a sub-message: the reference and its number, its action, its flight, its period with
-- full dates, and how many of these dates found what.
unfoldable pub sub_row : List ℕ → ResolvedSub → FindingLine → List ℕ
sub_row name dated found = row_of name (
    quote (printed_reference found.reference) ∷ decimal found.sub
    ∷ quote (identifier_text found.action) ∷ quote (designator_text found.designator)
    ∷ quote (iso_date dated.period.first) ∷ quote (iso_date dated.period.last)
    ∷ quote (digits_of dated.period.days)
    ∷ decimal found.finding.acted ∷ decimal found.finding.absent ∷ decimal found.finding.present
    ∷ decimal found.finding.leg ∷ decimal found.finding.station ∷ [])

-- the sub-messages of messages, each with its full dates and what it found: rows of `sub_message`,
-- before they are text; the findings are those of all of them, in order
abbrev pub subs_found : List Entry → List FindingLine → List (ResolvedSub × FindingLine)
subs_found [] findings = []
subs_found (e ∷ entries) findings =
    zip e.dates findings ++ subs_found entries (drop (length e.dates) findings)

-- the rows of the sub-messages of messages
abbrev pub sub_message_rows : List ℕ → List Entry → List FindingLine → List (List ℕ)
sub_message_rows name entries findings =
    map (λ it. sub_row name it.0 it.1) (subs_found entries findings)

-- The statements of what a desk holds: the rows of its station table, its messages in order of
-- reference, and their sub-messages.
unfoldable pub held_statements : List ℕ → DeskSeen → List ℕ
held_statements name desk =
    statements STATION_ROW_HEAD.now (numbered (station_row name) 1 desk.base.rows)
    ++ statements MESSAGE_HEAD.now (numbered (message_row name) 1 desk.held)
    ++ statements SUB_MESSAGE_HEAD.now (sub_message_rows name desk.held (finding_lines desk))
