-- Texts that are taken one after another.
use Rattle.std.specs.Prelude.{Vec, ◌≡◌, ℕ, List, [], ◌∷◌, ◌++◌, Option, Result, Ok, Err}
use Rattle.ssim_held.specs.Entries.{DeskSeen}
use Rattle.ssim_command_line.specs.Line.{Text}
use Rattle.ssim_program.specs.Desks.{text_taken}
use Rattle.ssim_program.specs.Files.{Files}
use Rattle.ssim_program.specs.declared.refusal.Refusal.{Refusal}

-- a text is taken, and its line is made; or it is refused
abbrev pub TakesOrRefuses : {A : Type 0} → Option Files → Text → DeskSeen → DeskSeen
    → Result (Vec ℕ A) Refusal → Type 0
TakesOrRefuses files name before after (Ok line) =
    text_taken files name before (Ok (after, line.items))
TakesOrRefuses files name before after (Err why) = text_taken files name before (Err why)

-- the texts in the files of these names are taken one after another, and their lines are printed
abbrev pub TakesTexts : Option Files → List Text → DeskSeen → DeskSeen → List ℕ → Type 0
TakesTexts files [] before after printed = (after ≡ before) × (printed ≡ [])
TakesTexts files (name ∷ names) before after printed =
    (between : DeskSeen) × (first : List ℕ) × (later : List ℕ)
    × text_taken files name before (Ok (between, first)) × TakesTexts files names between after later
    × (printed ≡ first ++ later)
