-- The command lines of the program: the table of its commands.
use Rattle.std.specs.Prelude.{◌≡◌, ◌==◌, ℕ, Bool, true, false, not, List, [], ◌∷◌, ◌++◌, Option, None}
use Rattle.std.specs.Prelude.{Some, codes, if◌then◌else◌, unwrap_or, flat_map, map, option_map}
use Rattle.std.specs.Prelude.{◌+◌, ◌-◌, ◌*◌, ◌&&◌, nat_le}
use Rattle.std.specs.List.{list_all}
use Rattle.std.specs.Option.{option_map_or}
use Rattle.std.specs.Str.{bytes_eq}
use Rattle.clap.specs.Words.{Row, Rule, all_of, first_of, new_rule}
use Rattle.clap.specs.declared.builder.action.ArgAction.TheVariants.{Append, SetTrue}
use Rattle.ssim_command_line.specs.declared.board_form.BoardForm.{BoardForm}
use Rattle.ssim_command_line.specs.declared.board_form.Direction.{Direction}
use Rattle.ssim_command_line.specs.declared.board_form.Direction.TheVariants.{Departures, Arrivals}
use Rattle.ssim_command_line.specs.declared.command_line.ChoiceWords.{ChoiceWords}
use Rattle.ssim_command_line.specs.declared.command_line.DiffForm.{DiffForm}
use Rattle.ssim_command_line.specs.declared.command_line.FindingsForm.{FindingsForm}
use Rattle.ssim_command_line.specs.declared.command_line.ListForm.{ListForm}
use Rattle.ssim_command_line.specs.declared.command_line.ProblemsForm.{ProblemsForm}
use Rattle.ssim_command_line.specs.declared.command_line.ModeWord.{ModeWord}
use Rattle.ssim_command_line.specs.declared.command_line.ModeWord.TheVariants.{Utc, Local}
use Rattle.ssim_command_line.specs.declared.command_line.ReceiveForm.{ReceiveForm}
use Rattle.ssim_command_line.specs.declared.command_line.Request.{Request}
use Rattle.ssim_command_line.specs.declared.command_line.SpanWords.{SpanWords}
use Rattle.ssim_command_line.specs.declared.command_line.Request.TheVariants as request

-- a text as its bytes
abbrev pub Text : Type 0
Text = List ℕ

-- which flight dates are chosen, in words: from a first to a last date of origin, of some stations
-- and some aircraft types
pub record ChoiceTexts : Type 0 where
  pub from : Option Text
  pub to : Option Text
  pub stations : List Text
  pub aircraft : List Text

-- between which dates of origin a command looks, in words
pub record SpanTexts : Type 0 where
  pub from : Option Text
  pub to : Option Text

-- a command with its values
pub data Line : Type 0 where
  Check : (dataset : Text) → Line
  Problems : (form : ProblemsForm) (dataset : Text) → Line
  Tidy : (dataset : Text) → Line
  Start : (notes : Bool) (dataset stations out : Text) → Line
  Take : (effects : Bool) (desk out : Text) (texts : List Text) → Line
  Receive : (refused : Option Text) (form : ReceiveForm) (desk out : Text) (texts : List Text) → Line
  Merge : (effects : Bool) (since : Option Text) (desk other out : Text) → Line
  Carry : (effects : Bool) (desk other out : Text) → Line
  Texts : (csv : Bool) (span : SpanTexts) (desk : Text) (flights : List Text) → Line
  Withdraw : (effects : Bool) (desk out : Text) (references : List Text) → Line
  Show : (file flight : Text) (words : List Text) → Line
  History : (csv : Bool) (file flight : Text) (words : List Text) → Line
  Blame : (csv : Bool) (file : Text) (flights : List Text) → Line
  Board : (form : BoardForm) (file station date : Text) → Line
  Listing : (form : ListForm) (choice : ChoiceTexts) (file : Text) (flights : List Text) → Line
  Calendar : (choice : ChoiceTexts) (file : Text) (flights : List Text) → Line
  Info : (file : Text) → Line
  Stations : (file : Text) → Line
  Sql : (file : Text) → Line
  Page : (from : Option Text) (file : Text) → Line
  Diff : (form : DiffForm) (choice : ChoiceTexts) (from to : Text) (flights : List Text) → Line
  Publish : (from to reference out : Text) → Line
  Findings : (form : FindingsForm) (span : SpanTexts) (desk : Text) (flights : List Text) → Line
  Export : (desk : Text) → Line
  Select : (choice : ChoiceTexts) (file : Text) (flights : List Text) → Line
  Convert : (mode : ModeWord) (file out : Text) → Line
  Split : (dataset prefix : Text) → Line
  Rehearse : (dataset stations script : Text) → Line
  Explain : (status : Bool) (word : Text) → Line

-- a choice as its texts
abbrev pub choice_line : ChoiceWords → ChoiceTexts
choice_line choice = record {
  from = option_map (λ date. date.now) choice.from;
  to = option_map (λ date. date.now) choice.to;
  stations = map (λ station. station.now) choice.stations.items;
  aircraft = map (λ aircraft. aircraft.now) choice.aircraft.items;
}

-- a span as its texts
abbrev pub span_line : SpanWords → SpanTexts
span_line span = record {
  from = option_map (λ date. date.now) span.from;
  to = option_map (λ date. date.now) span.to;
}

-- the command line of a request
abbrev pub line_of : Request → Line
line_of (request.Check dataset) = Check dataset.now
line_of (request.Problems form dataset) = Problems form dataset.now
line_of (request.Tidy dataset) = Tidy dataset.now
line_of (request.Start notes dataset stations out) =
    Start notes dataset.now stations.now out.now
line_of (request.Take effects desk out texts) =
    Take effects desk.now out.now (map (λ t. t.now) texts.items)
line_of (request.Receive refused form desk out texts) =
    Receive (option_map (λ r. r.now) refused) form desk.now out.now (map (λ t. t.now) texts.items)
line_of (request.Merge effects since desk other out) =
    Merge effects (option_map (λ s. s.now) since) desk.now other.now out.now
line_of (request.Carry effects desk other out) = Carry effects desk.now other.now out.now
line_of (request.Texts csv span desk flights) =
    Texts csv (span_line span) desk.now (map (λ t. t.now) flights.items)
line_of (request.Withdraw effects desk out references) =
    Withdraw effects desk.now out.now (map (λ r. r.now) references.items)
line_of (request.Show file flight words) =
    Show file.now flight.now (map (λ t. t.now) words.items)
line_of (request.History csv file flight words) =
    History csv file.now flight.now (map (λ t. t.now) words.items)
line_of (request.Blame csv file flights) =
    Blame csv file.now (map (λ t. t.now) flights.items)
line_of (request.Board form file station date) = Board form file.now station.now date.now
line_of (request.List form choice file flights) =
    Listing form (choice_line choice) file.now (map (λ t. t.now) flights.items)
line_of (request.Calendar choice file flights) =
    Calendar (choice_line choice) file.now (map (λ t. t.now) flights.items)
line_of (request.Info file) = Info file.now
line_of (request.Stations file) = Stations file.now
line_of (request.Sql file) = Sql file.now
line_of (request.Page from file) = Page (option_map (λ f. f.now) from) file.now
line_of (request.Diff form choice from to flights) =
    Diff form (choice_line choice) from.now to.now (map (λ t. t.now) flights.items)
line_of (request.Publish from to reference out) = Publish from.now to.now reference.now out.now
line_of (request.Findings form span desk flights) =
    Findings form (span_line span) desk.now (map (λ t. t.now) flights.items)
line_of (request.Export desk) = Export desk.now
line_of (request.Select choice file flights) =
    Select (choice_line choice) file.now (map (λ t. t.now) flights.items)
line_of (request.Convert mode file out) = Convert mode file.now out.now
line_of (request.Split dataset prefix) = Split dataset.now prefix.now
line_of (request.Rehearse dataset stations script) = Rehearse dataset.now stations.now script.now
line_of (request.Explain status word) = Explain status word.now

-- ---- the words of a command, by their ids

-- a value that has to be there
abbrev pub needed : Text → Rule
needed id = record (new_rule id) { value_names = 1; required = true }

-- a value that may be missing
abbrev pub possible : Text → Rule
possible id = record (new_rule id) { value_names = 1 }

-- one or more texts
abbrev pub several_texts : Rule
several_texts = record (needed (codes "texts")) { action = Some Append }

-- any number of texts
abbrev pub any_texts : Rule
any_texts = record (new_rule (codes "texts")) { value_names = 1; action = Some Append }

-- an option with a value
abbrev pub optional : Text → Rule
optional name = record (new_rule name) { long = Some name; value_names = 1 }

-- an option with a value that may come several times
abbrev pub repeated : Text → Rule
repeated name = record (optional name) { action = Some Append }

-- an option without a value
abbrev pub flag : Text → Rule
flag name = record (new_rule name) { long = Some name; action = Some SetTrue }

abbrev pub one_value : List Rule
one_value = needed (codes "first") ∷ []

abbrev pub two_values : List Rule
two_values = one_value ++ needed (codes "second") ∷ []

abbrev pub three_values : List Rule
three_values = two_values ++ needed (codes "third") ∷ []

abbrev pub one_or_two_values : List Rule
one_or_two_values = one_value ++ possible (codes "second") ∷ []

abbrev pub four_values : List Rule
four_values = three_values ++ needed (codes "fourth") ∷ []

-- the values that are given, in order
abbrev pub values_in : List Row → List Text
values_in rows = flat_map (λ id. unwrap_or (all_of id rows) []) (codes "first" ∷ codes "second"
    ∷ codes "third" ∷ codes "fourth" ∷ codes "texts" ∷ [])

-- whether an option without a value is given
abbrev pub is_given : Text → List Row → Bool
is_given name rows = option_map_or (λ text. bytes_eq text (codes "true")) (first_of name rows) false

-- which of the options of `list` are given
abbrev pub form_of : List Row → ListForm
form_of rows = record { csv = is_given (codes "csv") rows; dates = is_given (codes "dates") rows }

-- how `diff` prints with --csv, --summary and --status: not with both of the first
abbrev pub diff_form_with : Bool → Bool → Bool → Option DiffForm
diff_form_with true true status = None
diff_form_with csv summary status =
    Some (record { csv = csv; summary = summary; status = status })

-- how `diff` prints, if its options say it
abbrev pub diff_form_of : List Row → Option DiffForm
diff_form_of rows =
    diff_form_with (is_given (codes "csv") rows) (is_given (codes "summary") rows)
    (is_given (codes "status") rows)

-- which of the options of `problems` are given
abbrev pub problems_form_of : List Row → ProblemsForm
problems_form_of rows =
    record { csv = is_given (codes "csv") rows; status = is_given (codes "status") rows }

-- how `receive` prints with --csv, --status and --effects: not with the first and the last
abbrev pub receive_form_with : Bool → Bool → Bool → Option ReceiveForm
receive_form_with true status true = None
receive_form_with csv status effects =
    Some (record { csv = csv; status = status; effects = effects })

-- how `receive` prints, if its options say it
abbrev pub receive_form_of : List Row → Option ReceiveForm
receive_form_of rows =
    receive_form_with (is_given (codes "csv") rows) (is_given (codes "status") rows)
    (is_given (codes "effects") rows)

-- which of the options of `findings` are given
abbrev pub findings_form_of : List Row → FindingsForm
findings_form_of rows =
    record { csv = is_given (codes "csv") rows; not_acted = is_given (codes "not-acted") rows }

-- the time mode of a word
abbrev pub mode_of : Text → Option ModeWord
mode_of word =
    if bytes_eq word (codes "utc") then Some Utc
    else if bytes_eq word (codes "local") then Some Local
    else None

-- whether a byte is a digit
abbrev pub is_digit : ℕ → Bool
is_digit byte = nat_le 48 byte && nat_le byte 57

-- the number that one to three digits are; 0 for any other word
abbrev pub number_in : Text → ℕ
number_in (a ∷ []) = a - 48
number_in (a ∷ b ∷ []) = 10 * (a - 48) + (b - 48)
number_in (a ∷ b ∷ d ∷ []) = 100 * (a - 48) + 10 * (b - 48) + (d - 48)
number_in _ = 0

-- the number of dates that the value of --days is: from 1 to 366, in at most three digits
abbrev pub days_in : Text → Option ℕ
days_in word =
    if list_all is_digit word && (nat_le 1 (number_in word) && nat_le (number_in word) 366)
    then Some (number_in word)
    else None

-- which lines --departures and --arrivals leave: not both
abbrev pub only_of : Bool → Bool → Option (Option Direction)
only_of false false = Some None
only_of true false = Some (Some Departures)
only_of false true = Some (Some Arrivals)
only_of true true = None

-- whether rows are printed, a number of dates, if --days is given, and the lines that are left
abbrev pub form_with : Bool → Option Text → Option (Option Direction) → Option BoardForm
form_with csv days None = None
form_with csv None (Some only) = Some (record { csv = csv; days = None; only = only })
form_with csv (Some word) (Some only) =
    option_map (λ days. record { csv = csv; days = Some days; only = only }) (days_in word)

-- how `board` prints, if its options say it
abbrev pub board_form_of : List Row → Option BoardForm
board_form_of rows =
    form_with (is_given (codes "csv") rows) (first_of (codes "days") rows)
    (only_of (is_given (codes "departures") rows) (is_given (codes "arrivals") rows))

-- which flight dates the options choose
abbrev pub choice_of : List Row → ChoiceTexts
choice_of rows = record {
  from = first_of (codes "from") rows;
  to = first_of (codes "to") rows;
  stations = unwrap_or (all_of (codes "station") rows) [];
  aircraft = unwrap_or (all_of (codes "aircraft") rows) [];
}

-- which span of dates the options give
abbrev pub span_of : List Row → SpanTexts
span_of rows = record { from = first_of (codes "from") rows; to = first_of (codes "to") rows }

-- the options of a span
abbrev pub span_words : List Rule
span_words = optional (codes "from") ∷ optional (codes "to") ∷ []

-- the options of a choice
abbrev pub choice_words : List Rule
choice_words =
    optional (codes "from") ∷ optional (codes "to") ∷ repeated (codes "station")
    ∷ repeated (codes "aircraft") ∷ []

-- the options of `board`
abbrev pub board_words : List Rule
board_words =
    flag (codes "csv") ∷ optional (codes "days") ∷ flag (codes "departures") ∷ flag (codes "arrivals") ∷ []

-- the options of `receive`
abbrev pub receive_words : List Rule
receive_words =
    optional (codes "refused") ∷ flag (codes "csv") ∷ flag (codes "status")
    ∷ flag (codes "effects") ∷ []

-- the options of `diff`
abbrev pub diff_words : List Rule
diff_words =
    flag (codes "csv") ∷ flag (codes "summary") ∷ flag (codes "status") ∷ choice_words

-- ---- the line that values make: of as many as it names, or of those and the texts after them. One
-- of two may be missing, which is the first of them. A time mode is one of two words. The options of
-- `board`, of `diff` and of `receive` may say no form.

abbrev pub one : (Text → Line) → List Text → Option Line
one make (a ∷ []) = Some (make a)
one make _ = None

abbrev pub two : (Text → Text → Line) → List Text → Option Line
two make (a ∷ b ∷ []) = Some (make a b)
two make _ = None

abbrev pub three : (Text → Text → Text → Line) → List Text → Option Line
three make (a ∷ b ∷ d ∷ []) = Some (make a b d)
three make _ = None

abbrev pub mode_and_two : (ModeWord → Text → Text → Line) → List Text → Option Line
mode_and_two make (word ∷ a ∷ b ∷ []) = option_map (λ mode. make mode a b) (mode_of word)
mode_and_two make _ = None

abbrev pub formed_three : (BoardForm → Text → Text → Text → Line) → Option BoardForm → List Text
    → Option Line
formed_three make form (a ∷ b ∷ d ∷ []) = option_map (λ f. make f a b d) form
formed_three make form _ = None

abbrev pub four : (Text → Text → Text → Text → Line) → List Text → Option Line
four make (a ∷ b ∷ d ∷ e ∷ []) = Some (make a b d e)
four make _ = None

abbrev pub one_or_two : (Option Text → Text → Line) → List Text → Option Line
one_or_two make (a ∷ []) = Some (make None a)
one_or_two make (a ∷ b ∷ []) = Some (make (Some a) b)
one_or_two make _ = None

abbrev pub one_and_texts : (Text → List Text → Line) → List Text → Option Line
one_and_texts make (a ∷ texts) = Some (make a texts)
one_and_texts make _ = None

abbrev pub one_and_several : (Text → List Text → Line) → List Text → Option Line
one_and_several make (a ∷ t ∷ texts) = Some (make a (t ∷ texts))
one_and_several make _ = None

abbrev pub two_and_texts : (Text → Text → List Text → Line) → List Text → Option Line
two_and_texts make (a ∷ b ∷ t ∷ texts) = Some (make a b (t ∷ texts))
two_and_texts make _ = None

abbrev pub formed_two_and_texts : (ReceiveForm → Text → Text → List Text → Line)
    → Option ReceiveForm → List Text → Option Line
formed_two_and_texts make form (a ∷ b ∷ t ∷ texts) = option_map (λ f. make f a b (t ∷ texts)) form
formed_two_and_texts make form _ = None

abbrev pub formed_two_and_any : (DiffForm → Text → Text → List Text → Line) → Option DiffForm
    → List Text → Option Line
formed_two_and_any make form (a ∷ b ∷ texts) = option_map (λ f. make f a b texts) form
formed_two_and_any make form _ = None

-- ---- the table

-- a command: its name, its words, and the line that its options and values make
pub record Command : Type 0 where
  pub name : Text
  pub words : List Rule
  pub make : List Row → List Text → Option Line

-- a command without options
abbrev pub command : Text → List Rule → (List Text → Option Line) → Command
command name words make = record { name = name; words = words; make = λ rows. make }

-- the commands, in the order of help
abbrev pub commands : List Command
commands =
    command (codes "check") one_value (one Check)
    ∷ record {
      name = codes "problems";
      words = one_value ++ flag (codes "csv") ∷ flag (codes "status") ∷ [];
      make = λ rows. one (Problems (problems_form_of rows));
    }
    ∷ command (codes "tidy") one_value (one Tidy)
    ∷ record {
      name = codes "start";
      words = three_values ++ flag (codes "notes") ∷ [];
      make = λ rows. three (Start (is_given (codes "notes") rows));
    }
    ∷ record {
      name = codes "take";
      words = two_values ++ several_texts ∷ flag (codes "effects") ∷ [];
      make = λ rows. two_and_texts (Take (is_given (codes "effects") rows));
    }
    ∷ record {
      name = codes "receive";
      words = two_values ++ several_texts ∷ receive_words;
      make = λ rows. formed_two_and_texts (Receive (first_of (codes "refused") rows))
          (receive_form_of rows);
    }
    ∷ record {
      name = codes "merge";
      words = three_values ++ optional (codes "since") ∷ flag (codes "effects") ∷ [];
      make = λ rows. three
          (Merge (is_given (codes "effects") rows) (first_of (codes "since") rows));
    }
    ∷ record {
      name = codes "carry";
      words = three_values ++ flag (codes "effects") ∷ [];
      make = λ rows. three (Carry (is_given (codes "effects") rows));
    }
    ∷ record {
      name = codes "texts";
      words = one_value ++ any_texts ∷ flag (codes "csv") ∷ span_words;
      make = λ rows. one_and_texts (Texts (is_given (codes "csv") rows) (span_of rows));
    }
    ∷ record {
      name = codes "withdraw";
      words = two_values ++ several_texts ∷ flag (codes "effects") ∷ [];
      make = λ rows. two_and_texts (Withdraw (is_given (codes "effects") rows));
    }
    ∷ command (codes "show") (two_values ++ several_texts ∷ []) (two_and_texts Show)
    ∷ record {
      name = codes "history";
      words = two_values ++ several_texts ∷ flag (codes "csv") ∷ [];
      make = λ rows. two_and_texts (History (is_given (codes "csv") rows));
    }
    ∷ record {
      name = codes "blame";
      words = one_value ++ several_texts ∷ flag (codes "csv") ∷ [];
      make = λ rows. one_and_several (Blame (is_given (codes "csv") rows));
    }
    ∷ record {
      name = codes "list";
      words = one_value ++ any_texts ∷ flag (codes "csv") ∷ flag (codes "dates") ∷ choice_words;
      make = λ rows. one_and_texts (Listing (form_of rows) (choice_of rows));
    }
    ∷ record {
      name = codes "board";
      words = three_values ++ board_words;
      make = λ rows. formed_three Board (board_form_of rows);
    }
    ∷ record {
      name = codes "calendar";
      words = one_value ++ several_texts ∷ choice_words;
      make = λ rows. one_and_several (Calendar (choice_of rows));
    }
    ∷ command (codes "info") one_value (one Info)
    ∷ command (codes "stations") one_value (one Stations)
    ∷ command (codes "sql") one_value (one Sql)
    ∷ record {
      name = codes "diff";
      words = two_values ++ any_texts ∷ diff_words;
      make = λ rows. formed_two_and_any (λ form. Diff form (choice_of rows)) (diff_form_of rows);
    }
    ∷ command (codes "publish") four_values (four Publish)
    ∷ command (codes "page") one_or_two_values (one_or_two Page)
    ∷ record {
      name = codes "findings";
      words = one_value ++ any_texts ∷ flag (codes "csv") ∷ flag (codes "not-acted") ∷ span_words;
      make = λ rows. one_and_texts (Findings (findings_form_of rows) (span_of rows));
    }
    ∷ command (codes "export") one_value (one Export)
    ∷ record {
      name = codes "select";
      words = one_value ++ any_texts ∷ choice_words;
      make = λ rows. one_and_texts (Select (choice_of rows));
    }
    ∷ command (codes "convert") three_values (mode_and_two Convert)
    ∷ command (codes "split") two_values (two Split)
    ∷ command (codes "rehearse") three_values (three Rehearse)
    ∷ record {
      name = codes "explain";
      words = one_value ++ flag (codes "status") ∷ [];
      make = λ rows. one (Explain (is_given (codes "status") rows));
    }
    ∷ []

-- the line of the first of the commands that has the name, if the values make one
abbrev pub line_among : List Command → Text → List Row → List Text → Option Line
line_among [] name rows values = None
line_among (c ∷ rest) name rows values =
    if bytes_eq name c.name then c.make rows values else line_among rest name rows values

-- the line of the command of this name, of its options and values
abbrev pub line_from : Text → List Row → List Text → Option Line
line_from = line_among commands

-- ---- plain words

-- the word is not empty and begins with no hyphen (45), or is the hyphen alone
abbrev pub is_plain : Text → Bool
is_plain [] = false
is_plain (x ∷ []) = true
is_plain (x ∷ y ∷ rest) = not (x == 45)

-- The words are the program's name, a command's name and plain values, which make the line. No
-- option is given.
pub record Spells (words : List Text) (line : Line) : Type 0 where
  pub program : Text
  pub name : Text
  pub values : List Text
  pub words_are : words ≡ program ∷ name ∷ values
  pub plain : list_all is_plain values ≡ true
  pub made : line_from name [] values ≡ Some line
