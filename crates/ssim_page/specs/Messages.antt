-- The messages on the page: an article for each message of a desk.
use Rattle.std.specs.Prelude.{ℕ, ◌==◌, if◌then◌else◌, List, [], ◌∷◌, ◌++◌, codes}
use Rattle.std.specs.List.{flat_map}
use Rattle.ssim_values.specs.Designator.{designator_text}
use Rattle.ssim_values.specs.Period.{DayRange}
use Rattle.ssim_values.specs.declared.designator.Designator.{Designator}
use Rattle.ssim_text.specs.Lines.{identifier_text}
use Rattle.ssim_text.specs.Reference.{printed_reference}
use Rattle.ssim_text.specs.declared.kind.ActionIdentifier.{ActionIdentifier}
use Rattle.ssim_text.specs.declared.reference.Reference.{Reference}
use Rattle.ssim_page.specs.Html.{escaped}
use Rattle.ssim_page.specs.Link.{dated_link}

-- ---- a sub-message

-- The begin of the line of a sub-message: its action, a link to its flight, and its period with full
-- dates. What the sub-message found follows it.
unfoldable pub sub_begin : ActionIdentifier → Designator → DayRange → List ℕ
sub_begin action designator period =
    (codes "<li>" ++ identifier_text action ++ codes " ")
    ++ dated_link (designator_text designator) period

-- ---- a message

-- a byte of the mark of a message: a hyphen for a blank
abbrev pub mark_byte : ℕ → List ℕ
mark_byte b = if b == 32 then 45 ∷ [] else b ∷ []

-- the mark of a message, by which its article is found: its reference with a hyphen for each blank
unfoldable pub mark : Reference → List ℕ
mark reference = flat_map mark_byte (printed_reference reference)

-- the begin of the article of a message: the heading has its reference
unfoldable pub message_title : Reference → List ℕ
message_title reference =
    codes "<article id=\"" ++ mark reference ++ codes "\"><h3>"
    ++ printed_reference reference ++ codes "</h3><ol>\n"

-- The article of a message with the lines of its sub-messages, and its text.
unfoldable pub message_article : Reference → List ℕ → List ℕ → List ℕ
message_article reference subs text =
    message_title reference ++ subs ++ codes "</ol><pre>\n" ++ escaped text
    ++ codes "</pre></article>\n"

-- ---- all messages

-- the section of messages with these articles
unfoldable pub message_section : List ℕ → List ℕ
message_section articles =
    codes "<section id=\"messages\"><h2>Messages</h2>\n" ++ articles ++ codes "</section>\n"

-- the messages with these articles; nothing if there is none
abbrev pub messages : List ℕ → List ℕ
messages [] = []
messages (b ∷ articles) = message_section (b ∷ articles)
