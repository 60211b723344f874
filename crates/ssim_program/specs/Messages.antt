-- The messages of a desk that a command prints, and the flights by which they are chosen.
use Rattle.std.specs.Prelude.{◌≡◌, ℕ, ◌+◌, Bool, false, not, ◌&&◌, ◌||◌}
use Rattle.std.specs.Prelude.{if◌then◌else◌, List, [], ◌∷◌, ◌++◌, All, codes, filter, map}
use Rattle.ssim_values.specs.Flight.{FlightNumber}
use Rattle.std.specs.List.{AllByRecursion, flat_map, join_by, list_any}
use Rattle.ssim_values.specs.DayMask.{digits_of}
use Rattle.ssim_values.specs.Period.{DayRange}
use Rattle.ssim_values.specs.declared.designator.Designator.{Designator}
use Rattle.ssim_values.specs.declared.fault.Fault.TheVariants as value_fault
use Rattle.ssim_text.specs.Canonical.{canonical}
use Rattle.ssim_text.specs.Grammar.{identifier_of}
use Rattle.ssim_text.specs.Message.{MessageValue}
use Rattle.ssim_text.specs.declared.action.Sub.{Sub}
use Rattle.ssim_text.specs.declared.reference.Reference.{Reference}
use Rattle.ssim_periods.specs.Calendar.{holds}
use Rattle.ssim_periods.specs.CommonDays.{have_common_date}
use Rattle.ssim_base.specs.Export.{line}
use Rattle.ssim_base.specs.declared.sub_message.ResolvedSub.{ResolvedSub}
use Rattle.ssim_mailbox.specs.Texts.{texts_in}
use Rattle.ssim_words.specs.Date.{typed_day}
use Rattle.ssim_words.specs.Flight.{NameEach}
use Rattle.ssim_held.specs.Entries.{Entry}
use Rattle.ssim_listing.specs.Rows.{iso_date}
use Rattle.ssim_outbox.specs.MailFile.{IsMail, mail_texts}
use Rattle.ssim_parts.specs.Chosen.{Choosing, chooses_date, chooses_flight}
use Rattle.ssim_command_line.specs.Line.{Text}
use Rattle.ssim_program.specs.Answer.{Answer, Gives, OneOr, OrElse, Require, ◌>>=◌}
use Rattle.ssim_program.specs.Desks.{other_airline}
use Rattle.ssim_program.specs.print.PrintedLine.{sub_fields}
use Rattle.ssim_program.specs.declared.refusal.Refusal.TheVariants as refused

-- ---- flights that words name

-- the flight is of the airline
abbrev pub IsOf : List ℕ → Designator → Type 0
IsOf airline flight = flight.airline ≡ airline

-- of a first word and those after it, all but the last; the last
abbrev pub but_last : Text → List Text → List Text
but_last first [] = []
but_last first (word ∷ words) = first ∷ but_last word words

abbrev pub last_of : Text → List Text → Text
last_of first [] = first
last_of first (word ∷ words) = last_of word words

-- The flights of the airline that all words but the last name, and the date that the last word
-- spells. A word that names no flight is refused before the date, and that before a flight of another
-- airline.
abbrev pub flights_on : List ℕ → Text → List Text → Answer (List FlightNumber × ℕ)
flights_on airline word words = do
  room ← Gives (tt {0})
  flights ← OneOr (NameEach airline (but_last word words))
      (refused.Value value_fault.BadDesignator)
  day ← OrElse (typed_day (last_of word words)) (refused.Value value_fault.BadDate)
  here ← Require (All (IsOf airline) flights) other_airline
  Gives (map (λ d. d.flight) flights, day)

-- the flights of the airline that words name; a word that names no flight is refused before a flight
-- of another airline
abbrev pub flights_named : List ℕ → List Text → Answer (List FlightNumber)
flights_named airline words = do
  room ← Gives (tt {0})
  flights ← OneOr (NameEach airline words) (refused.Value value_fault.BadDesignator)
  here ← Require (All (IsOf airline) flights) other_airline
  Gives (map (λ d. d.flight) flights)

-- ---- the messages that are chosen by flights and a span of dates

-- whether a sub-message is of a chosen flight and, if a span is given, has a chosen date
abbrev pub is_sub_chosen : Bool → Choosing → ResolvedSub → Bool
is_sub_chosen spanned choice sub =
    chooses_flight choice sub.flight
    && (not spanned || have_common_date (holds sub.period) (chooses_date choice))

-- whether neither flights nor a span are given
abbrev pub is_all : Bool → List FlightNumber → Bool
is_all spanned [] = not spanned
is_all spanned (flight ∷ flights) = false

-- whether neither is given, or one sub-message of the message is chosen by both
abbrev pub is_chosen : Bool → Choosing → Entry → Bool
is_chosen spanned choice e =
    is_all spanned choice.flights || list_any (is_sub_chosen spanned choice) e.dates

-- the chosen ones of the messages, in their order
abbrev pub messages_on : Bool → Choosing → List Entry → List Entry
messages_on spanned choice entries = filter (is_chosen spanned choice) entries

-- the canonical texts of the messages, an empty line between two
abbrev pub message_texts : List Entry → List ℕ
message_texts entries = join_by (λ e. canonical e.message) (10 ∷ []) entries

-- the row of CSV of a sub-message with this number in its message: the reference, the number, the
-- action, the flight, and the period of its dates
abbrev pub sub_row : Reference → ℕ → Sub → DayRange → List ℕ
sub_row reference number sub period =
    line (sub_fields reference number (identifier_of sub.action) sub.designator
    ++ 44 ∷ iso_date period.first ++ 44 ∷ iso_date period.last ++ 44 ∷ digits_of period.days)

-- the row of a sub-message with this number, if it is chosen
abbrev pub chosen_row : Bool → Choosing → Reference → ℕ → Sub → ResolvedSub → List ℕ
chosen_row spanned choice reference number sub dated =
    if is_sub_chosen spanned choice dated then sub_row reference number sub dated.period else []

-- the rows of the chosen sub-messages of a message, the first of which has this number
abbrev pub sub_rows : Bool → Choosing → Reference → ℕ → List Sub → List ResolvedSub
    → List ℕ
sub_rows spanned choice reference number (sub ∷ subs) (dated ∷ dates) =
    chosen_row spanned choice reference number sub dated
    ++ sub_rows spanned choice reference (number + 1) subs dates
sub_rows _ _ _ _ _ _ = []

-- the rows of a message
abbrev pub message_rows : Bool → Choosing → Entry → List ℕ
message_rows spanned choice e = sub_rows spanned choice e.reference 1 e.message.subs e.dates

-- the names of the fields, and a row for each chosen sub-message of the messages, in order
abbrev pub chosen_rows : Bool → Choosing → List Entry → List ℕ
chosen_rows spanned choice entries =
    line (codes "reference,sub,action,flight,first,last,days")
    ++ flat_map (message_rows spanned choice) entries

-- the rows of the chosen sub-messages, or the texts of the chosen messages
abbrev pub printed_messages : Bool → Bool → Choosing → List Entry → List ℕ
printed_messages csv spanned choice entries =
    if csv then chosen_rows spanned choice entries
    else message_texts (messages_on spanned choice entries)

-- the messages themselves
abbrev pub values_of : List Entry → List MessageValue
values_of entries = map (λ e. e.message) entries

-- What is printed of messages is a mailbox with their canonical texts and no others, in order, if a
-- text can have each message and no line of its free text begins or ends a text.
abbrev pub TextsAreMail : Type 0
TextsAreMail =
    (entries : List Entry) → AllByRecursion IsMail (values_of entries)
    → texts_in (message_texts entries) ≡ mail_texts 1 (values_of entries)
