-- Two commands that take texts into one desk file, computed.
use Rattle.std.specs.Prelude.{◌≡◌, ◌⊎◌, ◌==◌, ℕ, if◌then◌else◌, List, [], ◌∷◌, codes, Some, None, refl}
use Rattle.std.proofs.Common.{inl, inr}
use Rattle.ssim_text.specs.Message.{MessageValue}
use Rattle.ssim_text.specs.Reference.{SpellsReference}
use Rattle.ssim_text.specs.declared.reference.Reference.{Reference}
use Rattle.ssim_command_line.specs.Line.{Text}
use Rattle.ssim_program.specs.Files.{Files, file_of}
use Rattle.ssim_program.specs.Offices.{Began, Brought, Event, IsSaidTo, TakeKept, Withdrew}
use Rattle.ssim_program.specs.Turns.{AllLeaveMessage, AreAllowed, BroughtInTurn, Comes, Ends, Holds}
use Rattle.ssim_program.specs.Turns.{Keeps, LeavesMessage, MakesFile, Reads, Step, files_after}
use Rattle.ssim_program.specs.Turns.{holder_of, read_by}

abbrev desk : Text
desk = codes "fdh.desk"

abbrev holiday : Text
holiday = codes "holiday.ssm"

abbrev strike : Text
strike = codes "strike.asm"

-- command 1 is `take fdh.desk fdh.desk holiday.ssm`, command 2 is `take fdh.desk fdh.desk strike.asm`
abbrev takes : ℕ → Event
takes n = TakeKept desk desk ((if n == 1 then holiday else strike) ∷ [])

-- the desk file and the two texts, each of one byte here
abbrev before : Files
before = (desk, 1 ∷ []) ∷ (holiday, 2 ∷ []) ∷ (strike, 3 ∷ []) ∷ []

-- command 1 holds the desk file, reads it and its text, keeps what it made, and ends
abbrev first : List ℕ → List Step
first kept =
    Ends 1 ∷ Keeps 1 desk kept ∷ Reads 1 holiday ∷ Reads 1 desk ∷ Holds 1 desk ∷ []

-- command 2 does so after it
abbrev both : List ℕ → List ℕ → List Step
both kept again =
    Keeps 2 desk again ∷ Reads 2 strike ∷ Reads 2 desk ∷ Holds 2 desk ∷ first kept

-- command 2 reads what command 1 has kept
second_reads_the_first : (kept again : List ℕ)
    → read_by 2 before (both kept again) ≡ (strike, 3 ∷ []) ∷ (desk, kept) ∷ []
second_reads_the_first kept again = refl

-- the desk file at the end is the one that command 2 kept, and nobody holds it
second_is_last : (kept again : List ℕ) → file_of (files_after before (both kept again)) desk ≡ Some again
second_is_last kept again = refl

nobody_holds_it : (kept again : List ℕ) → holder_of desk (both kept again) ≡ None
nobody_holds_it kept again = refl

-- The two commands in turn are allowed, if each keeps what it makes of what it read.
in_turn_is_allowed : (kept again : List ℕ)
    → MakesFile (takes 1) ((holiday, 2 ∷ []) ∷ (desk, 1 ∷ []) ∷ []) desk kept
    → MakesFile (takes 2) ((strike, 3 ∷ []) ∷ (desk, kept) ∷ []) desk again
    → AreAllowed takes before (both kept again)
in_turn_is_allowed kept again one two =
    (((((((((tt, (refl, refl)), tt), tt), (inl refl, one)), tt), (refl, refl)), tt), tt), (inl refl, two))

-- to the desk file was brought what it held at the beginning, and what the two texts say
brought_by_both : (kept again : List ℕ) (reference : Reference) (message : MessageValue)
    → BroughtInTurn takes before (both kept again) desk reference message
    ≡ ((Brought (Began before) desk reference message
    ⊎ IsSaidTo ((holiday, 2 ∷ []) ∷ (desk, 1 ∷ []) ∷ []) desk (holiday ∷ []) reference message)
    ⊎ IsSaidTo ((strike, 3 ∷ []) ∷ (desk, kept) ∷ []) desk (strike ∷ []) reference message)
brought_by_both kept again reference message = refl

-- what command 1 has kept, command 2 leaves in the desk file
second_leaves_the_first : (again : List ℕ) (reference : Reference)
    → AllLeaveMessage takes desk reference
    (Keeps 2 desk again ∷ Reads 2 strike ∷ Reads 2 desk ∷ Holds 2 desk ∷ Ends 1 ∷ [])
second_leaves_the_first again reference = (λ same. refl, tt)

-- `withdraw` in place leaves each message but the one that it names
withdraw_leaves_others : (reference : Reference)
    → LeavesMessage desk reference (Withdrew desk (codes "SSM 15MAR27 00002 001" ∷ []))
    ≡ ((desk ≡ desk) × ((SpellsReference reference (codes "SSM 15MAR27 00002 001") ⊎ ⊥) → ⊥))
withdraw_leaves_others reference = refl

-- while command 1 holds the desk file, command 2 cannot hold it
both_at_once : AreAllowed takes before (Holds 2 desk ∷ Reads 1 desk ∷ Holds 1 desk ∷ []) → ⊥
both_at_once allowed = cc allowed.1.0

-- nor can it hold the file later, if it has read it before
read_before_hold : (kept : List ℕ)
    → AreAllowed takes before
    (Holds 2 desk ∷ Keeps 1 desk kept ∷ Reads 1 desk ∷ Reads 2 desk ∷ Holds 1 desk ∷ []) → ⊥
read_before_hold kept allowed = cc allowed.1.1

-- nor can command 1 keep the desk file, if another one came from elsewhere after it held this one
came_after_hold : (kept other : List ℕ)
    → AreAllowed takes before (Keeps 1 desk kept ∷ Comes desk other ∷ Reads 1 desk ∷ Holds 1 desk ∷ []) → ⊥
came_after_hold kept other allowed = elim allowed.1.0 [ inl held ↦ cc held | inr none ↦ cc ]
