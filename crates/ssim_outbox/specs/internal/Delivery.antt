-- Messages that are left to deliver.
use Rattle.std.specs.Prelude.{◌≡◌, ℕ, List, ◌++◌}
use Rattle.ssim_base.specs.declared.sub_message.ResolvedSub.{ResolvedSub}
use Rattle.ssim_text.specs.Message.{MessageValue}
use Rattle.ssim_text.specs.declared.action.Sub.{Sub}
use Rattle.ssim_text.specs.declared.reference.Reference.{Reference}
use Rattle.ssim_held.specs.Entries.{DeskSeen, Entry}
use Rattle.ssim_outbox.specs.Delivery.{CanDeliver, entries_of}

-- the messages that are left can be delivered, after which the desk holds these entries
pub record AreLeft (desk : DeskSeen) (heading : MessageValue) (messages : List MessageValue)
    (all : List Entry) : Type 0 where
  pub group : ℕ
  pub subs : List Sub
  pub reference : Reference
  pub dates : List ResolvedSub
  pub can : CanDeliver desk heading group subs reference dates messages
  pub all_is : desk.held ++ entries_of reference dates messages ≡ all
