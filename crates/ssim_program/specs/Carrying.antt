-- Which messages of another desk `carry` brings to a desk, what it prints of each, and why it is
-- refused.
use Rattle.std.specs.Prelude.{◌≡◌, ◌≢◌, ◌⊎◌, ◌↔◌, ℕ, List, [], ◌∷◌, ◌++◌, None, Ok, Err}
use Rattle.std.specs.FinMap.{get}
use Rattle.std.specs.declared.cmp.Ordering.TheVariants.{Less}
use Rattle.ssim_records.specs.Carrier.{CarrierFields}
use Rattle.ssim_base.specs.BaseSeen.{BaseSeen}
use Rattle.ssim_base.specs.Export.{line}
use Rattle.ssim_base.specs.Resolve.{ResolvesIn}
use Rattle.ssim_base.specs.declared.resolution.ResolvedText.{ResolvedText}
use Rattle.ssim_text.specs.Message.{MessageValue}
use Rattle.ssim_text.specs.declared.reference.Reference.{Reference}
use Rattle.ssim_held.specs.Entries.{DeskSeen, Entry, map_of, state_of}
use Rattle.ssim_held.specs.Held.{Holds, reference_cmp}
use Rattle.ssim_held.specs.declared.fault.DeskFault.TheVariants as desk_fault
use Rattle.ssim_program.specs.Answer.{Answer}
use Rattle.ssim_program.specs.Timetables.{HasCarrier}
use Rattle.ssim_program.specs.print.PrintedLine.{printed_text}
use Rattle.ssim_program.specs.print.Refusal.{IsMemory}
use Rattle.ssim_program.specs.declared.print.printed_line.PrintedLine.{PrintedLine}
use Rattle.ssim_program.specs.declared.print.printed_line.PrintedLine.TheVariants as printed
use Rattle.ssim_program.specs.declared.refusal.Refusal.{Refusal}
use Rattle.ssim_program.specs.declared.refusal.Refusal.TheVariants as refused

-- ---- which messages

-- The message means the same over both bases: they resolve it to the same reference with its year,
-- and its sub-messages to the same flights, first and last days and days of operation.
abbrev pub MeansTheSame : BaseSeen → BaseSeen → MessageValue → Type 0
MeansTheSame base other message = (text : ResolvedText)
    × ResolvesIn base.records message text × ResolvesIn other.records message text

-- the other desk holds the message, which means the same over the bases of both
abbrev pub IsCarried : DeskSeen → DeskSeen → Reference → MessageValue → Type 0
IsCarried mine theirs reference message =
    Holds (state_of theirs) reference message × MeansTheSame mine.base theirs.base message

-- ---- what is printed

-- What becomes of a message of the other desk: it is left if it does not mean the same; and else it is
-- repeated if this desk holds it, or taken if this desk holds no message under its reference.
abbrev pub Becomes : DeskSeen → DeskSeen → Entry → PrintedLine → Type 0
Becomes mine theirs e (printed.Left reference) =
    (reference ≡ e.reference) × (MeansTheSame mine.base theirs.base e.message → ⊥)
Becomes mine theirs e (printed.Repeated reference) =
    (reference ≡ e.reference) × MeansTheSame mine.base theirs.base e.message
    × Holds (state_of mine) e.reference e.message
Becomes mine theirs e (printed.Taken reference) =
    (reference ≡ e.reference) × MeansTheSame mine.base theirs.base e.message
    × (get (map_of mine.held) e.reference ≡ None)
Becomes mine theirs e _ = ⊥

-- a line for each of these messages of the other desk, in order: what becomes of it
abbrev pub PrintsEach : DeskSeen → DeskSeen → List Entry → List ℕ → Type 0
PrintsEach mine theirs [] lines = lines ≡ []
PrintsEach mine theirs (e ∷ entries) lines =
    (first : PrintedLine) × (later : List ℕ) × Becomes mine theirs e first
    × PrintsEach mine theirs entries later × (lines ≡ line (printed_text first) ++ later)

-- ---- what is held

-- The desk afterwards holds what this desk held, and those messages of the other desk that mean the
-- same. The lines say what became of each message of the other desk, in order of reference.
pub record IsCarryOf (mine theirs after : DeskSeen) (lines : List ℕ) : Type 0 where
  pub base : after.base ≡ mine.base
  pub holds : (reference : Reference) (message : MessageValue)
      → Holds (state_of after) reference message
      ↔ (Holds (state_of mine) reference message ⊎ IsCarried mine theirs reference message)
  pub prints : PrintsEach mine theirs theirs.held lines

-- ---- why it is refused

-- the data sets of both desks are of one airline and one time mode
pub record AreOfOneAirline (mine theirs : DeskSeen) : Type 0 where
  pub here : CarrierFields
  pub there : CarrierFields
  pub carrier_here : HasCarrier mine.base.records here
  pub carrier_there : HasCarrier theirs.base.records there
  pub airline : there.airline ≡ here.airline
  pub time_mode : there.time_mode ≡ here.time_mode

-- this desk holds another message under the reference of one that is carried
pub record IsConflict (mine theirs : DeskSeen) (reference : Reference) : Type 0 where
  pub one : MessageValue
  pub other : MessageValue
  pub holds : Holds (state_of mine) reference one
  pub carried : IsCarried mine theirs reference other
  pub apart : one ≢ other

-- the least reference under which this is so
pub record IsFirstConflict (mine theirs : DeskSeen) (reference : Reference) : Type 0 where
  pub conflict : IsConflict mine theirs reference
  pub least : (other : Reference) → IsConflict mine theirs other → reference_cmp other reference ≢ Less

-- Why no messages are carried: memory ran out; or this desk holds another message under the reference
-- of one that is carried, and the refusal is 60 with the least such reference.
abbrev pub RefusesCarry : DeskSeen → DeskSeen → Refusal → Type 0
RefusesCarry mine theirs refusal =
    IsMemory refusal
    ⊎ ((reference : Reference) × IsFirstConflict mine theirs reference
    × (refusal ≡ refused.Desk (desk_fault.Conflict reference)))

-- the desk with the messages of the other desk that mean the same, and the lines
abbrev pub carried : DeskSeen → DeskSeen → Answer (DeskSeen × List ℕ)
carried mine theirs (Ok made) = IsCarryOf mine theirs made.0 made.1
carried mine theirs (Err why) = RefusesCarry mine theirs why
