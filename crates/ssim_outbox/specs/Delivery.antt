-- What a desk holds after it takes messages that follow all that it holds.
use Rattle.std.specs.Prelude.{◌≡◌, ℕ, ◌+◌, List, [], ◌∷◌, ◌++◌, length, take, drop}
use Rattle.ssim_base.specs.Export.{Frame}
use Rattle.ssim_base.specs.ReadBack.{HasFrame}
use Rattle.ssim_base.specs.Resolve.{AreResolved, Resolves}
use Rattle.ssim_base.specs.declared.resolution.ResolvedText.{ResolvedText}
use Rattle.ssim_base.specs.declared.sub_message.ResolvedSub.{ResolvedSub}
use Rattle.ssim_records.specs.declared.record.Record.{Record}
use Rattle.ssim_text.specs.Message.{MessageValue}
use Rattle.ssim_text.specs.declared.action.Sub.{Sub}
use Rattle.ssim_text.specs.declared.reference.Reference.{Reference}
use Rattle.ssim_held.specs.Entries.{DeskSeen, Entry}
use Rattle.ssim_desk.specs.Desk.{timetable_of}
use Rattle.ssim_desk.specs.Meaning.{after_subs}
use Rattle.ssim_outbox.specs.Messages.{Send}
use Rattle.ssim_outbox.specs.Order.{Follows}

-- The base of these records resolves the message whose heading it is. The reference is this
-- message's, but with the group serial, and the sub-messages have these full dates.
pub record AreAddressed (records : List Record) (heading : MessageValue) (group : ℕ)
    (subs : List Sub)
    (reference : Reference) (dates : List ResolvedSub) : Type 0 where
  pub frame : Frame
  pub in_base : HasFrame frame records
  pub resolved : ResolvedText
  pub resolves : Resolves frame.carrier heading resolved
  pub reference_is : reference ≡ record resolved.reference { group = group }
  pub dated : AreResolved frame.carrier subs dates

-- the messages with their references, whose group serials rise by one from the first, and
-- with the full dates of their sub-messages
abbrev pub entries_of : Reference → List ResolvedSub → List MessageValue → List Entry
entries_of reference dates [] = []
entries_of reference dates (m ∷ messages) =
    record { reference = reference; message = m; dates = take (length m.subs) dates }
    ∷ entries_of (record reference { group = reference.group + 1 }) (drop (length m.subs) dates)
    messages

-- messages that can be delivered to a desk: they send these sub-messages, its base gives the first
-- message this reference and the sub-messages these dates, and the reference follows all that the
-- desk holds
pub record CanDeliver (desk : DeskSeen) (heading : MessageValue) (group : ℕ) (subs : List Sub)
    (reference : Reference) (dates : List ResolvedSub) (messages : List MessageValue) : Type 0 where
  pub send : Send heading group subs messages
  pub addressed : AreAddressed desk.base.records heading group subs reference dates
  pub follows : Follows reference desk.held

-- The messages were delivered: the desk holds what it held before and then each of them, and each
-- flight has on each date what the sub-messages make, one after another, of what it had.
pub record AreDelivered (old : DeskSeen) (subs : List Sub) (reference : Reference)
    (dates : List ResolvedSub) (messages : List MessageValue) (new : DeskSeen) : Type 0 where
  pub base : new.base ≡ old.base
  pub held : new.held ≡ old.held ++ entries_of reference dates messages
  pub timetable : timetable_of new ≡ after_subs old.base.rows subs dates (timetable_of old)
