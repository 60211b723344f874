-- Words that spell a command name it, and what `clap` finds in any words is what the contract of `parse` says.
use Rattle.std.proofs.Common.{◌≡◌, ◌∙◌, inl, inr, Bool, cond, true, false, refl, ap, ap₂, List, [], ◌∷◌}
use Rattle.std.proofs.Common.{◌++◌, ℕ, arith, Option, Some, None, sym, true≢false, subst}
use Rattle.std.specs.List.{find, fold}
use Rattle.std.proofs.Common.{drop, get_or, map}
use Rattle.std.specs.Option.{option_map_or}
use Rattle.std.specs.Prelude.{Box, ◌==◌, is_some, option_map, unwrap_or}
use Rattle.std.specs.Str.{bytes_eq}
use Rattle.clap.specs.Walk.{Names as Labels, Row, Walk, answers_to, nothing_held, rows_after, walk, walk_from, walked}
use Rattle.clap.specs.Simple.{App, HasMatchesOf, Shape, built, entered, is_simple, label_of, names_of, rows_at}
use Rattle.clap.specs.Simple.{subcommand_of, subcommand_rows, subcommand_rows_of}
use Rattle.clap.specs.Matches.{subcommand_name_of}
use Rattle.clap.specs.Faults.{check_fault, defaults_fault, entered_fault, fault_of, is_simple_and_free, level_fault}
use Rattle.clap.specs.Faults.{settle_fault, turn_fault, walk_fault}
use Rattle.clap.specs.Kinds.{HasKind, IsAmong, Kinds, or_else}
use Rattle.clap.specs.Walk.{finished, settled}
use Rattle.clap.specs.Values.{kind_of}
use Rattle.clap.specs.declared.error.Error.{Error}
use Rattle.clap.specs.declared.error.kind.ErrorKind.{ErrorKind}
use Rattle.clap.specs.declared.error.kind.ErrorKind.TheVariants as kind
use Rattle.clap.specs.declared.parser.matches.ArgMatches.{ArgMatches}
use Rattle.clap.specs.declared.parser.matches.ArgMatches.TheViews.{out-ArgMatches, out-SubCommand}
use Rattle.clap.specs.declared.parser.matches.SubCommand.{SubCommand}
use Rattle.std.specs.Box.{box_value}
use Rattle.clap.proofs.OnLiterals.{clap_on_literals}
use Rattle.clap.proofs.WalkLemmas.{both, walk_stopped}
use Rattle.ssim_command_line.specs.Line.{Command, Line, Spells, Text, line_among, values_in}
use Rattle.ssim_command_line.specs.clauses.Usage.{IsFaultOf}
use Rattle.ssim_command_line.specs.Usage.{IsNoCommand, Names, line_at, whole_program}
use Rattle.ssim_command_line.specs.declared.command_line.LineFault.{LineFault}
use Rattle.ssim_command_line.specs.declared.command_line.LineFault.TheVariants as fault
use Rattle.ssim_command_line.proofs.PlainWords.{level_is}
use Rattle.ssim_command_line.proofs.Readings.{IsReader, Reader, read_of, readers, shape}

-- ---- the name of a command, at the top level

pub simple : is_simple whole_program ≡ true
simple = refl

free : is_simple_and_free whole_program ≡ true
free = refl

abbrev whole : App
whole = built whole_program

abbrev labels : Labels
labels = names_of whole

abbrev start : Walk
start = walk_from nothing_held

-- the walk after the name, its faults, and the command that it enters
abbrev Met : Type 0
Met = Walk × Kinds × Option Shape

abbrev met : Command → Met
met c = (
  walked whole.top.rules labels start c.name,
  turn_fault whole.top labels start c.name,
  find (λ x. answers_to c.name (label_of x)) whole.subs,
)

abbrev enters : Command → Met
enters c = (record start { stopped = Some (c.name, []) }, [], Some (shape c))

abbrev rows_of : List Reader → List Command
rows_of = map (λ r. r.row)

all_met : map met (rows_of readers) ≡ map enters (rows_of readers)
unfolding clap_on_literals
all_met = refl

-- the words after a subcommand are left to it
stopped_right : (s : Shape) (names : Labels) (w : Walk) (name : Text) (seen words : List Text)
    → walk_fault s names (record w { stopped = Some (name, seen) }) words ≡ []
unfolding walk_fault walked
stopped_right s names w name seen [] = refl
stopped_right s names w name seen (x ∷ xs) = stopped_right s names w name (seen ++ x ∷ []) xs

module _ (c : Command) (is : met c ≡ enters c) (values : List Text) where
  abbrev stop : Walk
  stop = record start { stopped = Some (c.name, values) }

  abbrev rows : List Row
  rows = rows_after (shape c).rules [] values

  walk_is : walk whole.top.rules labels nothing_held (c.name ∷ values) ≡ stop
  walk_is =
      ap (λ (x : Met). fold (walked whole.top.rules labels) x.0 values) is
      ∙ sym (walk_stopped whole.top.rules labels start c.name [] values)

  entered_is : entered whole (Some (c.name, values)) ≡ Some (c.name, rows)
  entered_is = ap (λ (x : Met). option_map (λ s. rows_at s values) x.2) is

  enters_it : (program : Text) → subcommand_of whole_program (program ∷ c.name ∷ values) ≡ Some (c.name, rows)
  enters_it program = ap (λ (w : Walk). entered whole w.stopped) walk_is ∙ entered_is

  -- what is found after the words
  abbrev found_after : Bool → Kinds → Walk → Kinds
  found_after has below w =
      or_else below (or_else (settle_fault whole.top.rules whole.top.args_override_self w.held)
      (or_else (defaults_fault (settled whole.top.rules w.held).rows whole.top.rules)
      (check_fault whole.top (finished whole.top.rules w.held) has)))

  turned : walk_fault whole.top labels start (c.name ∷ values) ≡ []
  unfolding walk_fault
  turned =
      ap (λ (x : Met). or_else x.1 (walk_fault whole.top labels x.0 values)) is
      ∙ stopped_right whole.top labels start c.name [] values

  right : (program : Text) → level_fault (shape c) [] nothing_held values false [] ≡ []
      → fault_of whole_program (program ∷ c.name ∷ values) ≡ []
  unfolding clap_on_literals
  right program level =
      let below : entered_fault whole (Some (c.name, values)) ≡ [] =
      ap (λ (x : Met). option_map_or (λ s. level_fault s [] nothing_held values false []) x.2 []) is ∙ level in
      ap (λ (w : Walk). level_fault whole.top labels nothing_held (c.name ∷ values) (is_some (entered whole w.stopped)) (entered_fault whole w.stopped)) walk_is
      ∙ ap₂ (λ (k : Kinds) (w : Walk). or_else k (found_after (is_some (entered whole (Some (c.name, values)))) (entered_fault whole (Some (c.name, values))) w)) turned walk_is
      ∙ ap₂ (λ (has : Bool) (k : Kinds). found_after has k stop) (ap is_some entered_is) below

-- ---- the row of a name

same_bytes : (a b : List ℕ) → bytes_eq a b ≡ true → a ≡ b
same_bytes [] [] e = refl
same_bytes [] (y ∷ ys) e = absurd (true≢false (sym e))
same_bytes (x ∷ xs) [] e = absurd (true≢false (sym e))
same_bytes (x ∷ xs) (y ∷ ys) e =
    let p = both _ _ e in
    let head : (x == y) ≡ true = p.0 in
    ap₂ (λ (h : ℕ) (l : List ℕ). h ∷ l) (grind arith) (same_bytes xs ys p.1)

record IsFound (cs : List Command) (name : Text) : Type 0 where
  row : Command
  is : name ≡ row.name
  meets : met row ≡ enters row
  reads : IsReader row
  line : (rows : List Row) (values : List Text) → line_among cs name rows values ≡ row.make rows values

found : (rs : List Reader) (name : Text) (values : List Text)
    → map met (rows_of rs) ≡ map enters (rows_of rs)
    → is_some (line_among (rows_of rs) name [] values) ≡ true → IsFound (rows_of rs) name
found [] name values m e = absurd (true≢false (sym e))
found (r ∷ rest) name values m e =
    choose (bytes_eq name r.row.name) refl (found rest name values (ap (drop 1) m)) e
  where
    choose : (b : Bool) → bytes_eq name r.row.name ≡ b
        → (is_some (line_among (rows_of rest) name [] values) ≡ true → IsFound (rows_of rest) name)
        → is_some (cond b (r.row.make [] values) (line_among (rows_of rest) name [] values)) ≡ true
        → IsFound (r.row ∷ (rows_of rest)) name
    choose true is later some = record {
      row = r.row;
      is = same_bytes name r.row.name is;
      meets = ap (λ (l : List Met). get_or l 0 (met r.row)) m;
      reads = r.reads;
      line = λ rows given.
          ap (λ (b : Bool). cond b (r.row.make rows given) (line_among (rows_of rest) name rows given)) is;
    }
    choose false is later some =
        let f = later some in
        record {
          row = f.row;
          is = f.is;
          meets = f.meets;
          reads = f.reads;
          line = λ rows given.
              ap (λ (b : Bool). cond b (r.row.make rows given) (line_among (rows_of rest) name rows given)) is
              ∙ f.line rows given;
        }

-- words that spell a command name it
pub spells_names : (words : List Text) (line : Line) → Spells words line → Names words line
spells_names words line s =
    let f = found readers s.name s.values all_met (ap is_some s.made) in
    let made : f.row.make [] s.values ≡ Some line = sym (f.line [] s.values) ∙ s.made in
    let read = ap (read_of f.row) (level_is (shape f.row) s.values s.plain) ∙ f.reads s.values (ap is_some made) in
    let rows = rows_after (shape f.row).rules [] s.values in
    let words_are : words ≡ s.program ∷ f.row.name ∷ s.values = s.words_are ∙ ap (λ (x : Text). s.program ∷ x ∷ s.values) f.is in
    record {
      right = ap (fault_of whole_program) words_are ∙ right f.row f.meets s.values s.program (ap (λ (x : Kinds × Option Line). x.0) read);
      name = s.name;
      rows = rows;
      entered = ap (subcommand_of whole_program) words_are ∙ enters_it f.row f.meets s.values s.program
          ∙ ap (λ (x : Text). Some (x, rows)) (sym f.is);
      read = f.line rows (values_in rows) ∙ (ap (λ (x : Kinds × Option Line). x.1) read ∙ made);
    }

-- ---- what words name

some_inj : {X : Type 0} (x y : X) → Some x ≡ Some y → x ≡ y
some_inj x y e = ap (λ o. unwrap_or o x) e

none_some : {X : Type 0} (x : X) → None ≡ Some x → ⊥
none_some x e = true≢false (sym (ap is_some e))

-- words name one command, and then no fault is found in them
pub names_once : (words : List Text) (a b : Line) → Names words a → Names words b → a ≡ b
names_once words a b n m =
    let same : (n.name, n.rows) ≡ (m.name, m.rows) = some_inj _ _ (sym n.entered ∙ m.entered) in
    some_inj _ _ (sym n.read ∙ (ap (λ (p : Text × List Row). line_at p.0 p.1) same ∙ m.read))

pub names_faultless : (words : List Text) (line : Line) (k : ErrorKind) → Names words line
    → IsAmong k (fault_of whole_program words) → ⊥
names_faultless words line k n among = subst (IsAmong k) n.right among

-- words that spell a command have no fault but for memory
pub spelled_fault : (words : List Text) (line : Line) (e : LineFault) → Spells words line → IsFaultOf words e
    → e ≡ fault.Memory
spelled_fault words line fault.Memory s is = refl
spelled_fault words line (fault.Shown error) s is =
    absurd (names_faultless words line (kind_of error) (spells_names words line s) is)
spelled_fault words line fault.NoCommand s is = absurd (is.1 line (spells_names words line s))

-- ---- what a parse finds

module _ {Z : Type 0} where
  name_first : (o : Option (Box SubCommand Z))
      → option_map (λ b. (out-SubCommand (box_value b)).name.now) o ≡ option_map (λ p. p.0) (subcommand_rows o)
  name_first None = refl
  name_first (Some b) = refl

pair_of : (o : Option (Text × List Row)) (name : Text) (given : List Row) → Some name ≡ option_map (λ p. p.0) o
    → Some given ≡ option_map (λ p. p.1) o → o ≡ Some (name, given)
pair_of None name given n r = absurd (true≢false (ap is_some n))
pair_of (Some p) name given n r =
    ap₂ (λ (a : Text) (b : List Row). Some (a, b)) (sym (some_inj _ _ n)) (sym (some_inj _ _ r))

module _ (words : List Text) (app : App) (is : app ≡ whole_program) where
  -- a parse that fails, but not for memory, fails for the words
  pub fault_shown : (e : Error) → (is_simple_and_free app ≡ true → HasKind (fault_of app words) e)
      → (kind_of e ≡ kind.OutOfMemory → ⊥) → IsAmong (kind_of e) (fault_of whole_program words)
  fault_shown e kinds other =
      among (subst (λ (x : App). HasKind (fault_of x words) e) is (kinds (ap is_simple_and_free is ∙ free)))
    where
      among : HasKind (fault_of whole_program words) e → IsAmong (kind_of e) (fault_of whole_program words)
      among (inl memory) = absurd (other memory)
      among (inr found) = found

  module _ (m : ArgMatches) (matches : HasMatchesOf app words m)
      (kinds : is_simple_and_free app ≡ true → fault_of app words ≡ []) where
    faultless : fault_of whole_program words ≡ []
    faultless = ap (λ (x : App). fault_of x words) (sym is) ∙ kinds (ap is_simple_and_free is ∙ free)

    entered_rows : subcommand_rows_of m ≡ subcommand_of whole_program words
    entered_rows = (matches (ap is_simple is ∙ simple)).1 ∙ ap (λ (x : App). subcommand_of x words) is

    -- words that enter no subcommand name no command
    pub names_unentered : None ≡ subcommand_name_of m → IsNoCommand words
    names_unentered named = (
      faultless,
      λ (line : Line) (n : Names words line). none_some _ (named ∙ name_first (out-ArgMatches m).subcommand
          ∙ ap (option_map (λ p. p.0)) (entered_rows ∙ n.entered)),
    )

    module _ (name : Text) (rows : List Row) (named : Some name ≡ subcommand_name_of m)
        (found : Some rows ≡ option_map (λ p. p.1) (subcommand_rows (out-ArgMatches m).subcommand)) where
      enters_rows : subcommand_of whole_program words ≡ Some (name, rows)
      enters_rows = sym entered_rows
          ∙ pair_of (subcommand_rows_of m) name rows (named ∙ name_first (out-ArgMatches m).subcommand) found

      -- a parse that succeeds gives the command that the words name
      pub names_read : (got : Line) → Some got ≡ line_at name rows → Names words got
      names_read got read =
          record { right = faultless; name = name; rows = rows; entered = enters_rows; read = sym read }

      -- if no command is read, the words name none
      pub names_none : None ≡ line_at name rows → IsNoCommand words
      names_none read = (
        faultless,
        λ (line : Line) (n : Names words line).
            let same : (n.name, n.rows) ≡ (name, rows) = some_inj _ _ (sym n.entered ∙ enters_rows) in
            none_some line (read ∙ (sym (ap (λ (p : Text × List Row). line_at p.0 p.1) same) ∙ n.read)),
      )
