-- What carrying one message of another desk after another leaves.
use Rattle.std.specs.Prelude.{◌≡◌, ◌≢◌, ◌⊎◌, ℕ, List, [], ◌∷◌, ◌++◌, None, length}
use Rattle.std.specs.FinMap.{get, insert}
use Rattle.ssim_base.specs.BaseSeen.{BaseSeen}
use Rattle.ssim_base.specs.Export.{line}
use Rattle.ssim_text.specs.Message.{MessageValue}
use Rattle.ssim_held.specs.Entries.{AreRising, DeskSeen, Entry, map_of, state_of}
use Rattle.ssim_held.specs.Held.{Holds}
use Rattle.ssim_held.specs.declared.fault.DeskFault.{DeskFault}
use Rattle.ssim_held.specs.declared.fault.DeskFault.TheVariants as fault
use Rattle.ssim_program.specs.Carrying.{IsCarryOf, MeansTheSame}
use Rattle.ssim_program.specs.Desks.{held_line}
use Rattle.ssim_program.specs.print.PrintedLine.{printed_text}
use Rattle.ssim_program.specs.declared.print.printed_line.PrintedLine.{PrintedLine}
use Rattle.ssim_program.specs.declared.print.printed_line.PrintedLine.TheVariants as printed

-- a message that is held over another base is carried to a desk, or left
abbrev pub Carries : BaseSeen → DeskSeen → Entry → PrintedLine → DeskSeen → Type 0
Carries theirs before e (printed.Left reference) after =
    (reference ≡ e.reference) × (MeansTheSame before.base theirs e.message → ⊥) × (after ≡ before)
Carries theirs before e (printed.Repeated reference) after =
    (reference ≡ e.reference) × MeansTheSame before.base theirs e.message
    × Holds (state_of before) e.reference e.message
    × (map_of after.held ≡ map_of before.held) × (after.base ≡ before.base)
Carries theirs before e (printed.Taken reference) after =
    (reference ≡ e.reference) × MeansTheSame before.base theirs e.message
    × (get (map_of before.held) e.reference ≡ None)
    × (map_of after.held ≡ insert (map_of before.held) e.reference e.message)
    × (after.base ≡ before.base)
Carries theirs before e _ after = ⊥

-- messages are carried one after another, and each has a line
abbrev pub CarriesEach : BaseSeen → DeskSeen → List Entry → DeskSeen → List ℕ → Type 0
CarriesEach theirs before [] after lines = (after ≡ before) × (lines ≡ [])
CarriesEach theirs before (e ∷ entries) after lines =
    (first : PrintedLine) × (between : DeskSeen) × (later : List ℕ)
    × Carries theirs before e first between × CarriesEach theirs between entries after later
    × (lines ≡ line (printed_text first) ++ later)

-- the message means the same, and another one is held under its reference; or memory ran out
abbrev pub RefusesOne : BaseSeen → DeskSeen → Entry → DeskFault → Type 0
RefusesOne theirs before e fault.Memory = Unit {0}
RefusesOne theirs before e (fault.Conflict reference) =
    (reference ≡ e.reference) × MeansTheSame before.base theirs e.message
    × (other : MessageValue) × Holds (state_of before) e.reference other × (other ≢ e.message)
RefusesOne theirs before e _ = ⊥

-- one of the messages is refused, after those before it were carried
abbrev pub RefusesAny : BaseSeen → DeskSeen → List Entry → DeskFault → Type 0
RefusesAny theirs before [] why = why ≡ fault.Memory
RefusesAny theirs before (e ∷ entries) why =
    (why ≡ fault.Memory) ⊎ RefusesOne theirs before e why
    ⊎ ((first : PrintedLine) × (between : DeskSeen) × Carries theirs before e first between
    × RefusesAny theirs between entries why)

-- the desk afterwards, its messages in order, and all that is printed
pub record HasCarried (mine theirs after : DeskSeen) (printed : List ℕ) : Type 0 where
  pub lines : List ℕ
  pub carry : IsCarryOf mine theirs after lines
  pub rising : AreRising after.held
  pub all : printed ≡ lines ++ held_line (length after.held)
