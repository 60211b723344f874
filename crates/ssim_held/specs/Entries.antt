-- What a desk keeps of the messages that it holds, and what contracts see of a desk.
use Rattle.std.specs.{Prelude.{◌≡◌, ℕ, List, [], ◌∷◌, All, IsTrue}, FinMap.{from_sorted, is_sorted}}
use Rattle.ssim_records.specs.declared.record.Record.{Record}
use Rattle.ssim_base.specs.BaseSeen.{BaseSeen}
use Rattle.ssim_base.specs.Resolve.{ResolvesIn}
use Rattle.ssim_base.specs.declared.sub_message.ResolvedSub.{ResolvedSub}
use Rattle.ssim_base.specs.declared.resolution.ResolvedText.{ResolvedText}
use Rattle.ssim_text.specs.{Message.MessageValue, declared.reference.Reference.Reference}
use Rattle.ssim_held.specs.Held.{DeskState, HeldMessages, reference_cmp}

-- a message that is held, with its reference and the full dates of its sub-messages
pub record Entry : Type 0 where
  pub reference : Reference
  pub message : MessageValue
  pub dates : List ResolvedSub

-- what contracts see of a desk: its base, what it holds, and how many messages its latest change
-- applied to a schedule
pub record DeskSeen : Type 0 where
  pub base : BaseSeen
  pub held : List Entry
  pub applied : ℕ

-- each message under its reference
abbrev pub keyed : List Entry → List (Reference × MessageValue)
keyed [] = []
keyed (e ∷ entries) = (e.reference, e.message) ∷ keyed entries

-- the map that entries in order of reference make
abbrev pub map_of : List Entry → HeldMessages
map_of entries = from_sorted (keyed entries)

-- a desk, as steps and laws speak of it
abbrev pub state_of : DeskSeen → DeskState
state_of desk = record { base = desk.base; held = map_of desk.held }

-- the entry is a message as the base resolves it
pub record IsEntry (records : List Record) (e : Entry) : Type 0 where
  pub text : ResolvedText
  pub resolves : ResolvesIn records e.message text
  pub referred : text.reference ≡ e.reference
  pub dated : text.subs.items ≡ e.dates

-- the references strictly rise
abbrev pub AreRising : List Entry → Type 0
AreRising entries = IsTrue (is_sorted reference_cmp (keyed entries))

-- the entries of a desk over a base
pub record AreEntries (records : List Record) (entries : List Entry) : Type 0 where
  pub rising : AreRising entries
  pub each : All (IsEntry records) entries
