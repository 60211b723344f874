-- Desk scripts: which bytes are a script, and its steps.
use Rattle.std.specs.Prelude.{◌≡◌, ◌⊎◌, ℕ, ◌+◌, ◌-◌, ◌&&◌, ◌==◌, not, nat_le, nat_lt, if◌then◌else◌, List, []}
use Rattle.std.specs.Prelude.{◌∷◌, ◌++◌, length, map, Option, Some, None, option_map, codes}
use Rattle.std.specs.List.{list_any}
use Rattle.std.specs.Str.{bytes_eq, is_utf8}
use Rattle.ssim_text.specs.Bytes.{◌>>=◌, word, after_word}
use Rattle.ssim_text.specs.Left.{lines_left}
use Rattle.ssim_program.specs.print.Refusal.{IsMemory}
use Rattle.ssim_program.specs.declared.refusal.Refusal.{Refusal}
use Rattle.ssim_program.specs.declared.refusal.Refusal.TheVariants as refused

-- a step as it is written, with desks counted from 0
pub data Written : Type 0 where
  Takes : ℕ → List ℕ → Written  -- the desk takes the text in the file of this name
  Merges : ℕ → ℕ → Written  -- the desk takes over what the other desk holds

-- the desk that a digit from 1 up to the number of desks names
abbrev pub desk_in : ℕ → List ℕ → Option ℕ
desk_in count [] = None
desk_in count (digit ∷ []) =
    if nat_le 49 digit && nat_lt digit (49 + count) then Some (digit - 49) else None
desk_in count (digit ∷ other ∷ rest) = None

-- the number of desks in a line DESKS n, with n from 1 to 9
abbrev pub count_in : List ℕ → Option ℕ
count_in line =
    if bytes_eq (word line) (codes "DESKS")
    then option_map (λ n. n + 1) (desk_in 9 (after_word line)) else None

-- the name of a file in a word: at least one byte, no blank, valid UTF-8
abbrev pub name_in : List ℕ → Option (List ℕ)
name_in text =
    if nat_lt 0 (length text) && (not (list_any (λ b. b == 32) text) && is_utf8 text) then Some text
    else None

-- the step of a line TAKE d NAME
abbrev pub take_in : ℕ → List ℕ → Option Written
take_in count rest = do
  desk ← desk_in count (word rest)
  name ← name_in (after_word rest)
  Some (Takes desk name)

-- the step of a line MERGE d e
abbrev pub merge_in : ℕ → List ℕ → Option Written
merge_in count rest = do
  into ← desk_in count (word rest)
  from ← desk_in count (after_word rest)
  Some (Merges into from)

-- the step that a line spells, for this number of desks
abbrev pub step_in : ℕ → List ℕ → Option Written
step_in count line =
    if bytes_eq (word line) (codes "TAKE") then take_in count (after_word line)
    else (if bytes_eq (word line) (codes "MERGE") then merge_in count (after_word line)
    else None)

-- each line spells a step, in order
abbrev pub AreSteps : ℕ → List (ℕ × List ℕ) → List Written → Type 0
AreSteps count lines steps = map (λ l. step_in count l.1) lines ≡ map Some steps

-- a script: the number of its desks, and its steps
pub record Script : Type 0 where
  pub count : ℕ
  pub steps : List Written

-- The bytes are the script. Blank lines are dropped as in messages; the first line left is DESKS n,
-- and each other line is a step.
pub record SpellsScript (script : Script) (text : List ℕ) : Type 0 where
  pub first : ℕ × List ℕ
  pub others : List (ℕ × List ℕ)
  pub lines : lines_left text ≡ first ∷ others
  pub count : count_in first.1 ≡ Some script.count
  pub steps : AreSteps script.count others script.steps

-- the first of these lines that spells no step has this number
pub record IsFirstOther (count : ℕ) (lines : List (ℕ × List ℕ)) (number : ℕ) : Type 0 where
  pub before : List (ℕ × List ℕ)
  pub line : ℕ × List ℕ
  pub after : List (ℕ × List ℕ)
  pub are : lines ≡ before ++ line ∷ after
  pub steps : List Written
  pub spelled : AreSteps count before steps
  pub no_step : step_in count line.1 ≡ None
  pub is : number ≡ line.0

-- the number of the line that makes a text no script: 1 if there are no lines; the first line if it
-- is not DESKS n; else the first line that spells no step
abbrev pub IsNoScriptAt : List ℕ → ℕ → Type 0
IsNoScriptAt text number =
    ((lines_left text ≡ []) × (number ≡ 1))
    ⊎ ((first : ℕ × List ℕ) × (others : List (ℕ × List ℕ)) × (lines_left text ≡ first ∷ others)
    × (((count_in first.1 ≡ None) × (number ≡ first.0))
    ⊎ ((count : ℕ) × (count_in first.1 ≡ Some count) × IsFirstOther count others number)))

-- the bytes are no script, and the refusal names the line; or memory ran out
abbrev pub RefusesScript : List ℕ → Refusal → Type 0
RefusesScript text refusal =
    IsMemory refusal ⊎ ((number : ℕ) × (refusal ≡ refused.Script number)
    × IsNoScriptAt text number)
