-- What messages have that send sub-messages.
use Rattle.std.specs.Prelude.{◌≡◌, ℕ, ◌+◌, ◌≤◌, List, IfSome, slice_get}
use Rattle.std.specs.List.{flat_map}
use Rattle.ssim_values.specs.Period.{DayRange}
use Rattle.ssim_values.specs.declared.designator.Designator.{Designator}
use Rattle.ssim_records.specs.Carrier.{CarrierFields}
use Rattle.ssim_base.specs.Resolve.{IsResolved}
use Rattle.ssim_text.specs.Message.{MessageValue}
use Rattle.ssim_text.specs.declared.action.Action.{Action}
use Rattle.ssim_text.specs.declared.action.Sub.{Sub}
use Rattle.ssim_outbox.specs.DatedSub.{dated}
use Rattle.ssim_outbox.specs.Messages.{IsText, Send, headed}

-- the sub-messages of the messages, joined, are those that the messages send
abbrev pub SubsAreJoined : Type 0
SubsAreJoined =
    (heading : MessageValue) (group : ℕ) (subs : List Sub) (messages : List MessageValue)
    → Send heading group subs messages → flat_map (λ m. m.subs) messages ≡ subs

-- the message has this heading and this group serial, and a text can have it
pub record IsHeaded (heading : MessageValue) (group : ℕ) (m : MessageValue) : Type 0 where
  pub own : m ≡ headed heading group m.subs
  pub text : IsText m

-- message k, counted from 0, is one that a text can have, with the heading and the k-th group
-- serial after the first
abbrev pub SerialsRise : Type 0
SerialsRise =
    (heading : MessageValue) (group : ℕ) (subs : List Sub) (messages : List MessageValue)
    → Send heading group subs messages
    → (k : ℕ) → IfSome (slice_get messages k) (IsHeaded heading (group + k))

-- a sub-message with full dates for a flight of the carrier's airline resolves to its flight and
-- its period, whatever the validity of the carrier record
abbrev pub FullDatesResolve : Type 0
FullDatesResolve =
    (carrier : CarrierFields) (designator : Designator) (period : DayRange) (action : Action)
    → designator.airline ≡ carrier.airline → period.first ≤ period.last
    → IsResolved carrier (dated designator period action)
    (record { flight = designator.flight; period = period })
