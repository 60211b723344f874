-- What a command does to the world: it prints, keeps files, finds something, or stops.
use Rattle.std.specs.Prelude.{◌≡◌, ◌⊎◌, ℕ, Bool, true, false, ◌&&◌, List, [], ◌∷◌, ◌++◌, Ok, Err}
use Rattle.std.specs.Prelude.{if◌then◌else◌}
use Rattle.ssim_command_line.specs.Line.{Text}
use Rattle.ssim_program.specs.Answer.{Answer}
use Rattle.ssim_program.specs.Files.{Kept}
use Rattle.ssim_program.specs.declared.refusal.Refusal.{Refusal}

-- One act of a command. It prints bytes on `out`, and flushes it; it keeps the bytes in the file of
-- a name; it says by its status that something was found; or it stops with a refusal.
pub data Act : Type 0 where
  Print : List ℕ → Act
  Keep : Text → List ℕ → Act
  Find : Act
  Stop : Refusal → Act

-- all bytes that are printed
abbrev pub printed_by : List Act → List ℕ
printed_by [] = []
printed_by (Print bytes ∷ later) = bytes ++ printed_by later
printed_by (Keep name bytes ∷ later) = printed_by later
printed_by (Find ∷ later) = printed_by later
printed_by (Stop why ∷ later) = printed_by later

-- all files that are kept, in order
abbrev pub kept_by : List Act → Kept
kept_by [] = []
kept_by (Print bytes ∷ later) = kept_by later
kept_by (Keep name bytes ∷ later) = (name, bytes) ∷ kept_by later
kept_by (Find ∷ later) = kept_by later
kept_by (Stop why ∷ later) = kept_by later

-- whether a command does not stop
abbrev pub is_whole : List Act → Bool
is_whole [] = true
is_whole (Stop why ∷ later) = false
is_whole (act ∷ later) = is_whole later

-- whether the status is to say that something was found
abbrev pub finds : List Act → Bool
finds [] = false
finds (Print bytes ∷ later) = finds later
finds (Keep name bytes ∷ later) = finds later
finds (Find ∷ later) = true
finds (Stop why ∷ later) = finds later

-- the status of a command that has done these acts: 3 if it says that something was found, else 0
abbrev pub status_of : List Act → ℕ
status_of acts = if finds acts then 3 else 0

-- these acts, after one that says that something was found, if it is to be said
abbrev pub found_then : Bool → List Act → List Act
found_then true acts = Find ∷ acts
found_then false acts = acts

-- the acts of an answer; a refusal is to stop at once
abbrev pub Acts : Answer (List Act) → List Act → Type 0
Acts answer acts =
    answer (Ok acts) ⊎ ((why : Refusal) × answer (Err why) × (acts ≡ Stop why ∷ []))

-- the bytes are printed
abbrev pub prints : Answer (List ℕ) → Answer (List Act)
prints lines (Ok acts) = (bytes : List ℕ) × lines (Ok bytes) × (acts ≡ Print bytes ∷ [])
prints lines (Err why) = lines (Err why)

-- The bytes are printed, of which it is known whether they are of something found. If the words ask
-- for the status, it says so.
abbrev pub reports : Bool → Answer (List ℕ × Bool) → Answer (List Act)
reports asked report (Ok acts) = (made : List ℕ × Bool) × report (Ok made)
    × (acts ≡ found_then (asked && made.1) (Print made.0 ∷ []))
reports asked report (Err why) = report (Err why)

-- the bytes are printed, and then comes what is next, be it a refusal
abbrev pub prints_then : List ℕ → Answer (List Act) → Answer (List Act)
prints_then bytes next (Ok acts) = (later : List Act) × Acts next later × (acts ≡ Print bytes ∷ later)
prints_then bytes next (Err why) = ⊥
