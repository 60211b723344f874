-- What each command of the table makes of plain values: no fault, and the line that they spell.
use Rattle.std.proofs.Common.{◌≡◌, ◌∙◌, true, false, refl, sym, ap, List, [], ◌∷◌, ◌++◌, Option, Some, None}
use Rattle.std.proofs.Common.{append-nil, append_assoc, codes, is_some, option_map, true≢false}
use Rattle.std.specs.List.{fold}
use Rattle.clap.specs.Kinds.{Kinds}
use Rattle.clap.specs.Simple.{Shape, built_leaf, filled, inherited, marked_built, with_leaf_noted}
use Rattle.clap.specs.Walk.{Row, Rule, Walk, first_of, nothing_held, positional, reading_by, settled, walk_from}
use Rattle.clap.specs.declared.parser.matches.ValueSource.TheVariants.{CommandLine}
use Rattle.clap.proofs.OnLiterals.{clap_on_literals}
use Rattle.ssim_command_line.specs.Line.{Command, Line, Text, any_texts, command, four, four_values}
use Rattle.ssim_command_line.specs.Line.{one, one_and_several, one_and_texts, one_or_two}
use Rattle.ssim_command_line.specs.Line.{one_or_two_values, one_value, three}
use Rattle.ssim_command_line.specs.Line.{three_values, two, two_and_texts}
use Rattle.ssim_command_line.specs.Line.{board_form_of, board_words, formed_three}
use Rattle.ssim_command_line.specs.Line.{choice_of, choice_words, diff_form_of, diff_words}
use Rattle.ssim_command_line.specs.Line.{findings_form_of, flag, form_of}
use Rattle.ssim_command_line.specs.Line.{is_given, optional, problems_form_of, receive_form_of, receive_words}
use Rattle.ssim_command_line.specs.Line.{several_texts, span_of, span_words}
use Rattle.ssim_command_line.specs.Line.{formed_two_and_any, formed_two_and_texts, two_values, values_in}
use Rattle.ssim_command_line.specs.Line.{Blame, Board, Calendar, Check, Diff, Explain, Export, Findings, History}
use Rattle.ssim_command_line.specs.Line.{Listing}
use Rattle.ssim_command_line.specs.Line.{Merge, Page, Problems, Publish, Receive, Rehearse, Select, Show, Start}
use Rattle.ssim_command_line.specs.Line.{Carry, Convert, Info, Split, Sql, Stations, Take, Texts, Tidy, Withdraw, mode_and_two}
use Rattle.ssim_command_line.specs.declared.board_form.BoardForm.{BoardForm}
use Rattle.ssim_command_line.specs.declared.command_line.DiffForm.{DiffForm}
use Rattle.ssim_command_line.specs.declared.command_line.ModeWord.{ModeWord}
use Rattle.ssim_command_line.specs.declared.command_line.ReceiveForm.{ReceiveForm}
use Rattle.ssim_command_line.specs.Usage.{bare_program, leaf}
use Rattle.ssim_command_line.proofs.PlainWords.{Outcome, outcome, plain_walked, step_at}

-- a command as the program builds it
abbrev above : Shape
above = with_leaf_noted (record (marked_built bare_program.top) { is_leaf = false })

abbrev pub shape : Command → Shape
shape c = built_leaf (inherited above (leaf c.name c.words))

-- the faults, and the line of the rows
abbrev Reading : Type 0
Reading = Kinds × Option Line

abbrev pub read_of : Command → Outcome → Reading
read_of c o = (o.0, c.make o.1 (values_in o.1))

-- what is read of these faults and of the words from a walk on
abbrev reads : Command → Kinds → Walk → List Text → Reading
reads c k w words = read_of c (outcome (shape c) k w words)

abbrev start : Walk
start = walk_from nothing_held

-- the command reads these values without a fault, as the line that they make
abbrev Reads : Command → List Text → Type 0
Reads c values = reads c [] start values ≡ ([], c.make [] values)

-- the command reads the values that make a line so
abbrev pub IsReader : Command → Type 0
IsReader c = (values : List Text) → is_some (c.make [] values) ≡ true → Reads c values

-- a row of the table, and that it reads its values so
pub record Reader : Type 0 where
  pub row : Command
  pub reads : IsReader row

-- ---- values

abbrev pub by : Text → List Rule → (List Row → List Text → Option Line) → Command
by name words make = record { name = name; words = words; make = make }

no_line : {X : Type 0} → false ≡ true → X
no_line e = absurd (true≢false (sym e))

one_reader : (name : Text) (words : List Rule) (make : List Row → Text → Line)
    → ((a : Text) → Reads (by name words (λ rows. one (make rows))) (a ∷ []))
    → IsReader (by name words (λ rows. one (make rows)))
one_reader name words make r [] e = no_line e
one_reader name words make r (a ∷ []) e = r a
one_reader name words make r (a ∷ b ∷ rest) e = no_line e

two_reader : (name : Text) (words : List Rule) (make : List Row → Text → Text → Line)
    → ((a b : Text) → Reads (by name words (λ rows. two (make rows))) (a ∷ b ∷ []))
    → IsReader (by name words (λ rows. two (make rows)))
two_reader name words make r [] e = no_line e
two_reader name words make r (a ∷ []) e = no_line e
two_reader name words make r (a ∷ b ∷ []) e = r a b
two_reader name words make r (a ∷ b ∷ d ∷ rest) e = no_line e

three_reader : (name : Text) (words : List Rule) (make : List Row → Text → Text → Text → Line)
    → ((a b d : Text) → Reads (by name words (λ rows. three (make rows))) (a ∷ b ∷ d ∷ []))
    → IsReader (by name words (λ rows. three (make rows)))
three_reader name words make r [] e = no_line e
three_reader name words make r (a ∷ []) e = no_line e
three_reader name words make r (a ∷ b ∷ []) e = no_line e
three_reader name words make r (a ∷ b ∷ d ∷ []) e = r a b d
three_reader name words make r (a ∷ b ∷ d ∷ f ∷ rest) e = no_line e

formed_reader : (name : Text) (words : List Rule) (make : BoardForm → Text → Text → Text → Line)
    (form : List Row → Option BoardForm)
    → ((a b d : Text) → Reads (by name words (λ rows. formed_three make (form rows))) (a ∷ b ∷ d ∷ []))
    → IsReader (by name words (λ rows. formed_three make (form rows)))
formed_reader name words make form r [] e = no_line e
formed_reader name words make form r (a ∷ []) e = no_line e
formed_reader name words make form r (a ∷ b ∷ []) e = no_line e
formed_reader name words make form r (a ∷ b ∷ d ∷ []) e = r a b d
formed_reader name words make form r (a ∷ b ∷ d ∷ f ∷ rest) e = no_line e

mode_reader : (name : Text) (words : List Rule) (make : List Row → ModeWord → Text → Text → Line)
    → ((a b d : Text) → Reads (by name words (λ rows. mode_and_two (make rows))) (a ∷ b ∷ d ∷ []))
    → IsReader (by name words (λ rows. mode_and_two (make rows)))
mode_reader name words make r [] e = no_line e
mode_reader name words make r (a ∷ []) e = no_line e
mode_reader name words make r (a ∷ b ∷ []) e = no_line e
mode_reader name words make r (a ∷ b ∷ d ∷ []) e = r a b d
mode_reader name words make r (a ∷ b ∷ d ∷ f ∷ rest) e = no_line e

four_reader : (name : Text) (words : List Rule) (make : List Row → Text → Text → Text → Text → Line)
    → ((a b d f : Text) → Reads (by name words (λ rows. four (make rows))) (a ∷ b ∷ d ∷ f ∷ []))
    → IsReader (by name words (λ rows. four (make rows)))
four_reader name words make r [] e = no_line e
four_reader name words make r (a ∷ []) e = no_line e
four_reader name words make r (a ∷ b ∷ []) e = no_line e
four_reader name words make r (a ∷ b ∷ d ∷ []) e = no_line e
four_reader name words make r (a ∷ b ∷ d ∷ f ∷ []) e = r a b d f
four_reader name words make r (a ∷ b ∷ d ∷ f ∷ g ∷ rest) e = no_line e

-- ---- texts after the values, which all go to one positional

-- the walk after the texts `seen`, which are used, and t, which is pending
abbrev after_texts : Shape → Walk → List Text → Text → Walk
after_texts s w [] t = plain_walked s w t
after_texts s w (x ∷ seen) t = record {
  held = record {
    rows = (settled s.rules w.held).rows ++ (record {
      id = codes "texts";
      values = x ∷ seen;
      count = None;
      source = Some CommandLine;
      reading = reading_by (filled any_texts);
    }) ∷ [];
    pending = Some (codes "texts", t ∷ []);
    skip = 0;
  };
  waiting = positional;
  position = w.position;
  is_trailing = false;
  stopped = None;
}

-- after these texts the next is taken, too, and the words may end
abbrev TakesNext : Command → Walk → (List Text → Option Line) → List Text → Type 0
TakesNext c w make seen = (t u : Text) →
    let here : Walk = after_texts (shape c) w seen t in
    let now : Kinds × Walk × Reading = (step_at (shape c) here, plain_walked (shape c) here u, reads c [] here []) in
    now ≡ ([], after_texts (shape c) w (seen ++ t ∷ []) u, ([], make ((seen ++ t ∷ []) ++ [])))

module _ (c : Command) (w : Walk) (make : List Text → Option Line)
    (first : TakesNext c w make []) (later : (x : Text) (seen : List Text) → TakesNext c w make (x ∷ seen)) where
  next : (seen : List Text) → TakesNext c w make seen
  next [] = first
  next (x ∷ seen) = later x seen

  texts_read : (seen : List Text) (t : Text) (rest : List Text)
      → reads c [] (after_texts (shape c) w seen t) rest ≡ ([], make (seen ++ t ∷ rest))
  texts_read seen t [] =
      ap (λ (x : Kinds × Walk × Reading). x.2) (next seen t t)
      ∙ ap (λ (ts : List Text). ([], make ts)) (append-nil (seen ++ t ∷ []))
  texts_read seen t (u ∷ rest) =
      ap (λ (x : Kinds × Walk × Reading). reads c x.0 x.1 rest) (next seen t u)
      ∙ texts_read (seen ++ t ∷ []) u rest
      ∙ ap (λ (ts : List Text). ([], make ts)) (append_assoc seen (t ∷ []) (u ∷ rest))

abbrev after_values : Command → List Text → Walk
after_values c values = fold (plain_walked (shape c)) start values

-- the command takes texts after these values
record TakesTexts (c : Command) (values : List Text) (make : List Text → Option Line) : Type 0 where
  enter : (t : Text) (rest : List Text)
      → reads c [] start (values ++ t ∷ rest) ≡ reads c [] (after_texts (shape c) (after_values c values) [] t) rest
  first : TakesNext c (after_values c values) make []
  later : (x : Text) (seen : List Text) → TakesNext c (after_values c values) make (x ∷ seen)

taken : {c : Command} {values : List Text} {make : List Text → Option Line} → TakesTexts c values make
    → (t : Text) (rest : List Text) → reads c [] start (values ++ t ∷ rest) ≡ ([], make (t ∷ rest))
taken {c} {values} {make} takes t rest =
    takes.enter t rest ∙ texts_read c (after_values c values) make takes.first takes.later [] t rest

texts_reader : (name : Text) (words : List Rule) (make : List Row → Text → List Text → Line)
    → (let c = by name words (λ rows. one_and_texts (make rows)) in
    (a : Text) → Reads c (a ∷ []) × TakesTexts c (a ∷ []) (λ texts. Some (make [] a texts)))
    → IsReader (by name words (λ rows. one_and_texts (make rows)))
texts_reader name words make r [] e = no_line e
texts_reader name words make r (a ∷ []) e = (r a).0
texts_reader name words make r (a ∷ t ∷ rest) e = taken (r a).1 t rest

some_reader : (name : Text) (words : List Rule) (make : List Row → Text → List Text → Line)
    → (let c = by name words (λ rows. one_and_several (make rows)) in
    (a : Text) → TakesTexts c (a ∷ []) (λ texts. Some (make [] a texts)))
    → IsReader (by name words (λ rows. one_and_several (make rows)))
some_reader name words make r [] e = no_line e
some_reader name words make r (a ∷ []) e = no_line e
some_reader name words make r (a ∷ t ∷ rest) e = taken (r a) t rest

several_reader : (name : Text) (words : List Rule) (make : List Row → Text → Text → List Text → Line)
    → (let c = by name words (λ rows. two_and_texts (make rows)) in
    (a b : Text) → TakesTexts c (a ∷ b ∷ []) (λ texts. Some (make [] a b texts)))
    → IsReader (by name words (λ rows. two_and_texts (make rows)))
several_reader name words make r [] e = no_line e
several_reader name words make r (a ∷ []) e = no_line e
several_reader name words make r (a ∷ b ∷ []) e = no_line e
several_reader name words make r (a ∷ b ∷ t ∷ rest) e = taken (r a b) t rest

formed_texts_reader : (name : Text) (words : List Rule)
    (make : List Row → ReceiveForm → Text → Text → List Text → Line) (form : List Row → Option ReceiveForm)
    → (let c = by name words (λ rows. formed_two_and_texts (make rows) (form rows)) in
    (a b : Text) → TakesTexts c (a ∷ b ∷ []) (λ texts. option_map (λ f. make [] f a b texts) (form [])))
    → IsReader (by name words (λ rows. formed_two_and_texts (make rows) (form rows)))
formed_texts_reader name words make form r [] e = no_line e
formed_texts_reader name words make form r (a ∷ []) e = no_line e
formed_texts_reader name words make form r (a ∷ b ∷ []) e = no_line e
formed_texts_reader name words make form r (a ∷ b ∷ t ∷ rest) e = taken (r a b) t rest

any_reader : (name : Text) (words : List Rule) (make : List Row → DiffForm → Text → Text → List Text → Line)
    (form : List Row → Option DiffForm)
    → (let c = by name words (λ rows. formed_two_and_any (make rows) (form rows)) in
    (a b : Text) → Reads c (a ∷ b ∷ [])
    × TakesTexts c (a ∷ b ∷ []) (λ texts. option_map (λ f. make [] f a b texts) (form [])))
    → IsReader (by name words (λ rows. formed_two_and_any (make rows) (form rows)))
any_reader name words make form r [] e = no_line e
any_reader name words make form r (a ∷ []) e = no_line e
any_reader name words make form r (a ∷ b ∷ []) e = (r a b).0
any_reader name words make form r (a ∷ b ∷ t ∷ rest) e = taken (r a b).1 t rest

-- ---- the commands

module _ (name : Text) where
  pub one_plain : (make : Text → Line) → IsReader (command name one_value (one make))
  unfolding clap_on_literals
  one_plain make = one_reader name one_value (λ rows. make) (λ a. refl)

  pub two_plain : (make : Text → Text → Line) → IsReader (command name two_values (two make))
  unfolding clap_on_literals
  two_plain make = two_reader name two_values (λ rows. make) (λ a b. refl)

  pub three_plain : (make : Text → Text → Text → Line) → IsReader (command name three_values (three make))
  unfolding clap_on_literals
  three_plain make = three_reader name three_values (λ rows. make) (λ a b d. refl)

  pub mode_plain : (make : ModeWord → Text → Text → Line)
      → IsReader (command name three_values (mode_and_two make))
  unfolding clap_on_literals
  mode_plain make = mode_reader name three_values (λ rows. make) (λ a b d. refl)

  pub four_plain : (make : Text → Text → Text → Text → Line) → IsReader (command name four_values (four make))
  unfolding clap_on_literals
  four_plain make = four_reader name four_values (λ rows. make) (λ a b d f. refl)

  pub several_plain : (make : Text → Text → List Text → Line)
      → IsReader (command name (two_values ++ several_texts ∷ []) (two_and_texts make))
  unfolding clap_on_literals
  several_plain make = several_reader name (two_values ++ several_texts ∷ []) (λ rows. make)
      (λ a b. record { enter = λ t rest. refl; first = λ t u. refl; later = λ x seen t u. refl })

-- the rows of the table with options, or any number of texts
abbrev pub problems_row : Command
problems_row = by (codes "problems")
    (one_value ++ flag (codes "csv") ∷ flag (codes "status") ∷ [])
    (λ rows. one (Problems (problems_form_of rows)))

abbrev pub explain_row : Command
explain_row = by (codes "explain") (one_value ++ flag (codes "status") ∷ [])
    (λ rows. one (Explain (is_given (codes "status") rows)))

abbrev pub start_row : Command
start_row = by (codes "start") (three_values ++ flag (codes "notes") ∷ [])
    (λ rows. three (Start (is_given (codes "notes") rows)))

abbrev pub take_row : Command
take_row = by (codes "take") (two_values ++ several_texts ∷ flag (codes "effects") ∷ [])
    (λ rows. two_and_texts (Take (is_given (codes "effects") rows)))

abbrev pub receive_row : Command
receive_row = by (codes "receive") (two_values ++ several_texts ∷ receive_words)
    (λ rows. formed_two_and_texts (Receive (first_of (codes "refused") rows)) (receive_form_of rows))

abbrev pub merge_row : Command
merge_row = by (codes "merge") (three_values ++ optional (codes "since") ∷ flag (codes "effects") ∷ [])
    (λ rows. three (Merge (is_given (codes "effects") rows) (first_of (codes "since") rows)))

abbrev pub carry_row : Command
carry_row = by (codes "carry") (three_values ++ flag (codes "effects") ∷ [])
    (λ rows. three (Carry (is_given (codes "effects") rows)))

abbrev pub withdraw_row : Command
withdraw_row = by (codes "withdraw") (two_values ++ several_texts ∷ flag (codes "effects") ∷ [])
    (λ rows. two_and_texts (Withdraw (is_given (codes "effects") rows)))

abbrev pub texts_row : Command
texts_row = by (codes "texts") (one_value ++ any_texts ∷ flag (codes "csv") ∷ span_words)
    (λ rows. one_and_texts (Texts (is_given (codes "csv") rows) (span_of rows)))

abbrev pub list_row : Command
list_row = by (codes "list")
    (one_value ++ any_texts ∷ flag (codes "csv") ∷ flag (codes "dates") ∷ choice_words)
    (λ rows. one_and_texts (Listing (form_of rows) (choice_of rows)))

abbrev pub history_row : Command
history_row = by (codes "history") (two_values ++ several_texts ∷ flag (codes "csv") ∷ [])
    (λ rows. two_and_texts (History (is_given (codes "csv") rows)))

abbrev pub blame_row : Command
blame_row = by (codes "blame") (one_value ++ several_texts ∷ flag (codes "csv") ∷ [])
    (λ rows. one_and_several (Blame (is_given (codes "csv") rows)))

abbrev pub board_row : Command
board_row = by (codes "board") (three_values ++ board_words)
    (λ rows. formed_three Board (board_form_of rows))

abbrev pub calendar_row : Command
calendar_row = by (codes "calendar") (one_value ++ several_texts ∷ choice_words)
    (λ rows. one_and_several (Calendar (choice_of rows)))

abbrev pub diff_row : Command
diff_row = by (codes "diff") (two_values ++ any_texts ∷ diff_words)
    (λ rows. formed_two_and_any (λ form. Diff form (choice_of rows)) (diff_form_of rows))

abbrev pub findings_row : Command
findings_row = by (codes "findings")
    (one_value ++ any_texts ∷ flag (codes "csv") ∷ flag (codes "not-acted") ∷ span_words)
    (λ rows. one_and_texts (Findings (findings_form_of rows) (span_of rows)))

abbrev pub select_row : Command
select_row = by (codes "select") (one_value ++ any_texts ∷ choice_words)
    (λ rows. one_and_texts (Select (choice_of rows)))

abbrev pub page_row : Command
page_row = command (codes "page") one_or_two_values (one_or_two Page)

one_of_page : (a : Text) → Reads page_row (a ∷ [])
unfolding clap_on_literals
one_of_page a = refl

two_of_page : (a b : Text) → Reads page_row (a ∷ b ∷ [])
unfolding clap_on_literals
two_of_page a b = refl

pub page_read : IsReader page_row
page_read [] e = no_line e
page_read (a ∷ []) e = one_of_page a
page_read (a ∷ b ∷ []) e = two_of_page a b
page_read (a ∷ b ∷ d ∷ rest) e = no_line e

pub problems_read : IsReader problems_row
unfolding clap_on_literals
problems_read = one_reader problems_row.name problems_row.words
    (λ rows. Problems (problems_form_of rows)) (λ a. refl)

pub explain_read : IsReader explain_row
unfolding clap_on_literals
explain_read = one_reader explain_row.name explain_row.words
    (λ rows. Explain (is_given (codes "status") rows)) (λ a. refl)

pub start_read : IsReader start_row
unfolding clap_on_literals
start_read = three_reader start_row.name start_row.words
    (λ rows. Start (is_given (codes "notes") rows)) (λ a b d. refl)

pub take_read : IsReader take_row
unfolding clap_on_literals
take_read = several_reader take_row.name take_row.words
    (λ rows. Take (is_given (codes "effects") rows))
    (λ a b. record { enter = λ t rest. refl; first = λ t u. refl; later = λ x seen t u. refl })

pub receive_read : IsReader receive_row
unfolding clap_on_literals
receive_read = formed_texts_reader receive_row.name receive_row.words
    (λ rows. Receive (first_of (codes "refused") rows)) receive_form_of
    (λ a b. record { enter = λ t rest. refl; first = λ t u. refl; later = λ x seen t u. refl })

pub merge_read : IsReader merge_row
unfolding clap_on_literals
merge_read = three_reader merge_row.name merge_row.words
    (λ rows. Merge (is_given (codes "effects") rows) (first_of (codes "since") rows)) (λ a b d. refl)

pub carry_read : IsReader carry_row
unfolding clap_on_literals
carry_read = three_reader carry_row.name carry_row.words
    (λ rows. Carry (is_given (codes "effects") rows)) (λ a b d. refl)

pub withdraw_read : IsReader withdraw_row
unfolding clap_on_literals
withdraw_read = several_reader withdraw_row.name withdraw_row.words
    (λ rows. Withdraw (is_given (codes "effects") rows))
    (λ a b. record { enter = λ t rest. refl; first = λ t u. refl; later = λ x seen t u. refl })

pub texts_read_by : IsReader texts_row
unfolding clap_on_literals
texts_read_by = texts_reader texts_row.name texts_row.words
    (λ rows. Texts (is_given (codes "csv") rows) (span_of rows))
    (λ a. (refl, record { enter = λ t rest. refl; first = λ t u. refl; later = λ x seen t u. refl }))

pub history_read : IsReader history_row
unfolding clap_on_literals
history_read = several_reader history_row.name history_row.words
    (λ rows. History (is_given (codes "csv") rows))
    (λ a b. record { enter = λ t rest. refl; first = λ t u. refl; later = λ x seen t u. refl })

pub blame_read : IsReader blame_row
unfolding clap_on_literals
blame_read = some_reader blame_row.name blame_row.words
    (λ rows. Blame (is_given (codes "csv") rows))
    (λ a. record { enter = λ t rest. refl; first = λ t u. refl; later = λ x seen t u. refl })

pub list_read : IsReader list_row
unfolding clap_on_literals
list_read = texts_reader list_row.name list_row.words (λ rows. Listing (form_of rows) (choice_of rows))
    (λ a. (refl, record { enter = λ t rest. refl; first = λ t u. refl; later = λ x seen t u. refl }))

pub board_read : IsReader board_row
unfolding clap_on_literals
board_read = formed_reader board_row.name board_row.words Board board_form_of (λ a b d. refl)

pub calendar_read : IsReader calendar_row
unfolding clap_on_literals
calendar_read = some_reader calendar_row.name calendar_row.words (λ rows. Calendar (choice_of rows))
    (λ a. record { enter = λ t rest. refl; first = λ t u. refl; later = λ x seen t u. refl })

pub diff_read : IsReader diff_row
unfolding clap_on_literals
diff_read = any_reader diff_row.name diff_row.words (λ rows form. Diff form (choice_of rows)) diff_form_of
    (λ a b. (refl, record { enter = λ t rest. refl; first = λ t u. refl; later = λ x seen t u. refl }))

pub findings_read : IsReader findings_row
unfolding clap_on_literals
findings_read = texts_reader findings_row.name findings_row.words
    (λ rows. Findings (findings_form_of rows) (span_of rows))
    (λ a. (refl, record { enter = λ t rest. refl; first = λ t u. refl; later = λ x seen t u. refl }))

pub select_read : IsReader select_row
unfolding clap_on_literals
select_read = texts_reader select_row.name select_row.words (λ rows. Select (choice_of rows))
    (λ a. (refl, record { enter = λ t rest. refl; first = λ t u. refl; later = λ x seen t u. refl }))

abbrev pub with_one : Text → (Text → Line) → Reader
with_one name make = record { row = command name one_value (one make); reads = one_plain name make }

abbrev pub with_three : Text → (Text → Text → Text → Line) → Reader
with_three name make = record { row = command name three_values (three make); reads = three_plain name make }

abbrev pub with_two : Text → (Text → Text → Line) → Reader
with_two name make = record { row = command name two_values (two make); reads = two_plain name make }

abbrev pub with_several : Text → (Text → Text → List Text → Line) → Reader
with_several name make = record {
  row = command name (two_values ++ several_texts ∷ []) (two_and_texts make);
  reads = several_plain name make;
}

-- all the rows of the table
abbrev pub readers : List Reader
readers =
    with_one (codes "check") Check
    ∷ record { row = problems_row; reads = problems_read }
    ∷ with_one (codes "tidy") Tidy
    ∷ record { row = start_row; reads = start_read }
    ∷ record { row = take_row; reads = take_read }
    ∷ record { row = receive_row; reads = receive_read }
    ∷ record { row = merge_row; reads = merge_read }
    ∷ record { row = carry_row; reads = carry_read }
    ∷ record { row = texts_row; reads = texts_read_by }
    ∷ record { row = withdraw_row; reads = withdraw_read }
    ∷ with_several (codes "show") Show
    ∷ record { row = history_row; reads = history_read }
    ∷ record { row = blame_row; reads = blame_read }
    ∷ record { row = list_row; reads = list_read }
    ∷ record { row = board_row; reads = board_read }
    ∷ record { row = calendar_row; reads = calendar_read }
    ∷ with_one (codes "info") Info
    ∷ with_one (codes "stations") Stations
    ∷ with_one (codes "sql") Sql
    ∷ record { row = diff_row; reads = diff_read }
    ∷ record { row = command (codes "publish") four_values (four Publish); reads = four_plain (codes "publish") Publish }
    ∷ record { row = page_row; reads = page_read }
    ∷ record { row = findings_row; reads = findings_read }
    ∷ with_one (codes "export") Export
    ∷ record { row = select_row; reads = select_read }
    ∷ record {
      row = command (codes "convert") three_values (mode_and_two Convert);
      reads = mode_plain (codes "convert") Convert;
    }
    ∷ with_two (codes "split") Split
    ∷ with_three (codes "rehearse") Rehearse
    ∷ record { row = explain_row; reads = explain_read }
    ∷ []
