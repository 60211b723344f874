-- What commands print of equal files, and why they are refused.
use Rattle.std.specs.Prelude.{◌≡◌, ◌⊎◌, ℕ, false, List, Some, Ok, Err, codes}
use Rattle.ssim_held.specs.Entries.{DeskSeen}
use Rattle.ssim_held.specs.declared.fault.DeskFault.TheVariants as desk_fault
use Rattle.ssim_command_line.specs.Line.{Line, Text}
use Rattle.ssim_program.specs.Acts.{Act, kept_by, printed_by}
use Rattle.ssim_program.specs.Answer.{Answer}
use Rattle.ssim_program.specs.Answers.{answers, carry, merge}
use Rattle.ssim_program.specs.Desks.{desk_in}
use Rattle.ssim_program.specs.Files.{Files}
use Rattle.ssim_program.specs.Offices.{IsSameFile}
use Rattle.ssim_program.specs.Places.{MayReplace}
use Rattle.ssim_program.specs.print.Refusal.{IsMemory, IsOfFile}
use Rattle.ssim_program.specs.declared.content_kind.ContentKind.TheVariants as kind
use Rattle.ssim_program.specs.declared.refusal.Refusal.{Refusal}
use Rattle.ssim_program.specs.declared.refusal.Refusal.TheVariants as refused

-- the refusal of a file that is not loaded (91)
abbrev pub IsOfLoad : Refusal → Type 0
IsOfLoad why = (name : Text) × IsOfFile 91 (codes "File") name why

-- the refusal of bytes that are no desk file (62), whatever offset it names
abbrev pub IsOfDeskFile : Refusal → Type 0
IsOfDeskFile why = (offset : ℕ) × (why ≡ refused.Desk (desk_fault.File offset))

-- Two refusals are one: they are the same; or both are 91, and each names its own file; or both are
-- 62. Or memory ran out for one of them.
abbrev pub AreOneRefusal : Refusal → Refusal → Type 0
AreOneRefusal why that =
    IsMemory why ⊎ IsMemory that ⊎ (why ≡ that) ⊎ (IsOfLoad why × IsOfLoad that)
    ⊎ (IsOfDeskFile why × IsOfDeskFile that)

-- Two answers are alike. If both are values, they are the same in a sense. If both are refusals, they
-- are one. If one is a value, the other is a refusal only if memory ran out.
pub record AreAlike {A : Type 0} (same : A → A → Type 0) (one other : Answer A) : Type 0 where
  pub values : (a b : A) → one (Ok a) → other (Ok b) → same a b
  pub refusals : (why that : Refusal) → one (Err why) → other (Err that) → AreOneRefusal why that
  pub first : (a : A) (that : Refusal) → one (Ok a) → other (Err that) → IsMemory that
  pub second : (why : Refusal) (b : A) → one (Err why) → other (Ok b) → IsMemory why

-- the same bytes are printed
abbrev pub PrintTheSame : List Act → List Act → Type 0
PrintTheSame acts others = printed_by acts ≡ printed_by others

-- of equal files the command prints equal bytes, or is refused for the same
abbrev pub DoesTheSame : (Text → Line) → Type 0
DoesTheSame command =
    (files others : Files) (name another : Text) → IsSameFile files name others another
    → AreAlike PrintTheSame (answers (command name) (Some files))
    (answers (command another) (Some others))

-- of two pairs of equal files the command prints equal bytes, or is refused for the same
abbrev pub DoesTheSameOfPairs : (Text → Text → Line) → Type 0
DoesTheSameOfPairs command =
    (files others : Files) (from to here there : Text)
    → IsSameFile files from others here → IsSameFile files to others there
    → AreAlike PrintTheSame (answers (command from to) (Some files))
    (answers (command here there) (Some others))

-- of equal files the command prints equal bytes, if it prints of both
abbrev pub PrintsTheSame : (Text → Line) → Type 0
PrintsTheSame command =
    (files others : Files) (name another : Text) (acts again : List Act)
    → IsSameFile files name others another
    → answers (command name) (Some files) (Ok acts)
    → answers (command another) (Some others) (Ok again) → PrintTheSame acts again

-- of two pairs of equal files the command prints equal bytes, if it prints of both pairs
abbrev pub PrintsTheSameOfPairs : (Text → Text → Line) → Type 0
PrintsTheSameOfPairs command =
    (files others : Files) (from to here there : Text) (acts again : List Act)
    → IsSameFile files from others here → IsSameFile files to others there
    → answers (command from to) (Some files) (Ok acts)
    → answers (command here there) (Some others) (Ok again) → PrintTheSame acts again

-- of equal files the command keeps the same file and prints equal bytes, if it is done of both
abbrev pub MakesTheSame : (Text → Line) → Type 0
MakesTheSame command =
    (files others : Files) (name another : Text) (acts again : List Act)
    → IsSameFile files name others another
    → answers (command name) (Some files) (Ok acts)
    → answers (command another) (Some others) (Ok again) → again ≡ acts

-- the same files are kept
abbrev pub KeepTheSame : List Act → List Act → Type 0
KeepTheSame acts others = kept_by acts ≡ kept_by others

-- Of two desk files over one base, if OUT may be replaced: `carry` keeps what `merge` keeps, byte for
-- byte, or both are refused for the same.
abbrev pub CarriesAsMerges : Type 0
CarriesAsMerges =
    (files : Files) (mine theirs out : Text) (one other : DeskSeen)
    → MayReplace (Some files) out kind.DeskFile
    → desk_in (Some files) mine (Ok one) → desk_in (Some files) theirs (Ok other)
    → one.base ≡ other.base
    → AreAlike KeepTheSame (carry (Some files) false mine theirs out)
    (merge (Some files) false mine theirs out)
