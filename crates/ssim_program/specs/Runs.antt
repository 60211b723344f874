-- What the program does with its words.
use Rattle.std.specs.Prelude.{◌≡◌, ◌⊎◌, ℕ, Bool, true, false, List, [], ◌∷◌, Ok, Err, codes}
use Rattle.std.specs.Prelude.{if◌then◌else◌}
use Rattle.std.specs.Str.{bytes_eq}
use Rattle.ssim_command_line.specs.Line.{Line, Text}
use Rattle.ssim_command_line.specs.Usage.{HasFault, IsNoCommand, Names}
use Rattle.ssim_program.specs.Acts.{status_of}
use Rattle.ssim_program.specs.Again.{PrintsItself}
use Rattle.ssim_program.specs.Answers.{answers}
use Rattle.ssim_program.specs.World.{Does, PrintsRefusal, World}
use Rattle.ssim_program.specs.print.Paper.{Breaks, Grows, Paper, PrintsOrFails}
use Rattle.ssim_program.specs.print.Refusal.{IsMemory}
use Rattle.ssim_program.specs.declared.refusal.Refusal.{Refusal}
use Rattle.ssim_program.specs.declared.refusal.Refusal.TheVariants as refused

-- ---- a command

-- The status is 0 if a command is done, or 3 if one of its acts says that something was found, and
-- `err` is as it was; what `tidy` and `export` print is read as itself. The status is 1 if it is
-- refused, and `err` has taken the line of the refusal.
abbrev pub Obeys : Line → World → World → Paper → Paper → ℕ → Type 0
Obeys line before after err err' status =
    ((done : Does (answers line before.files) before after (Ok tt)) × (status ≡ status_of done.0)
    × PrintsItself line before.out.taken after.out.taken × (err' ≡ err))
    ⊎ ((status ≡ 1) × (refusal : Refusal)
    × Does (answers line before.files) before after (Err refusal) × PrintsRefusal refusal err err')

-- ---- other words, for which `clap` makes a text: which text it is, is not specified

-- help was printed: `out` has taken a text, and was flushed after it; and `err` is as it was
abbrev pub PrintsHelp : Paper → Paper → Paper → Paper → Type 0
PrintsHelp out out' err err' =
    ((text : List ℕ) × Grows text out out') × (out'.flushed ≡ true) × (err' ≡ err)

-- Help was not printed. Either memory ran out (90), and `out` is as it was; or a call of `out`
-- failed (52), and it took a prefix of a text. `err` has taken the line of that refusal.
abbrev pub RefusesHelp : Paper → Paper → Paper → Paper → Type 0
RefusesHelp out out' err err' =
    (refusal : Refusal)
    × ((IsMemory refusal × Grows [] out out')
    ⊎ ((refusal ≡ refused.WriteFault) × (text : List ℕ) × Breaks text out out'))
    × PrintsRefusal refusal err err'

-- the words are wrong: `out` is as it was, and `err` has taken a text that says so, or a call of it
-- failed and it took a prefix
abbrev pub SaysWrong : Paper → Paper → Paper → Paper → Type 0
SaysWrong out out' err err' = Grows [] out out' × (text : List ℕ) × PrintsOrFails text err err'

-- The words ask for help, which is printed (0) or refused (1); or they are wrong, or name no command
-- (2); or memory ran out before they were read (1).
abbrev pub Replies : List Text → Paper → Paper → Paper → Paper → ℕ → Type 0
Replies words out out' err err' status =
    (HasFault words true × (((status ≡ 0) × PrintsHelp out out' err err')
    ⊎ ((status ≡ 1) × RefusesHelp out out' err err')))
    ⊎ ((HasFault words false ⊎ IsNoCommand words) × (status ≡ 2) × SaysWrong out out' err err')
    ⊎ ((status ≡ 1) × (out' ≡ out) × PrintsRefusal refused.Memory err err')

-- ---- all words

-- The words name a command, which is obeyed. Or they are answered, and no file changes.
abbrev pub RunsPlainly : List Text → World → World → Paper → Paper → ℕ → Type 0
RunsPlainly words before after err err' status =
    ((line : Line) × Names words line × Obeys line before after err err' status)
    ⊎ (Replies words before.out after.out err err' status
    × (after.files ≡ before.files) × (after.failures ≡ before.failures))

-- the word after the program's name is `--explain`
abbrev pub is_explained : List Text → Bool
is_explained (program ∷ word ∷ rest) = bytes_eq word (codes "--explain")
is_explained words = false

-- the words without `--explain` before the command
abbrev pub command_words : List Text → List Text
command_words (program ∷ word ∷ rest) =
    if bytes_eq word (codes "--explain") then program ∷ rest else program ∷ word ∷ rest
command_words words = words

-- `err` is as it was. Or, after a refusal that is to be explained, it has taken a text, or a prefix
-- of it if a call failed; which text it is, is not specified.
abbrev pub Explained : Bool → ℕ → Paper → Paper → Type 0
Explained asked status err err' =
    (err' ≡ err)
    ⊎ ((asked ≡ true) × (status ≡ 1) × (text : List ℕ) × PrintsOrFails text err err')

-- The words do what they do without `--explain`; then the refusal may be explained on `err`.
abbrev pub Runs : List Text → World → World → Paper → Paper → ℕ → Type 0
Runs words before after err err' status =
    (line : Paper) × RunsPlainly (command_words words) before after err line status
    × Explained (is_explained words) status line err'
