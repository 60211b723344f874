-- The text of a message that sends sub-messages.
use Rattle.std.specs.Prelude.{◌≡◌, ℕ, ◌≤◌, List, [], ◌∷◌, ◌++◌, length, take, drop}
use Rattle.ssim_text.specs.Canonical.{canonical, originator_parts}
use Rattle.ssim_text.specs.Grammar.{KindPart, ModePart, Part, ReferencePart}
use Rattle.ssim_text.specs.Message.{MessageValue}
use Rattle.ssim_text.specs.declared.action.Sub.{Sub}
use Rattle.ssim_outbox.specs.Messages.{IsFull, Send, headed}

-- the parts of a heading, with this group serial
abbrev pub heading_parts : MessageValue → ℕ → List Part
heading_parts heading group =
    originator_parts heading.originator
    ++ (KindPart heading.kind
    ∷ ModePart heading.mode
    ∷ ReferencePart (record heading.reference { group = group })
    ∷ [])

-- a text can have the first sub-message and this many of the later ones, and no further one
pub record IsFullAt (heading : MessageValue) (group : ℕ) (first : Sub) (later : List Sub)
    (count : ℕ) : Type 0 where
  pub few : count ≤ 249
  pub within : count ≤ length later
  pub short : length (canonical (headed heading group (first ∷ take count later))) ≤ 65536
  pub full : IsFull (headed heading group (first ∷ take count later)) (drop count later)

-- The messages so far send the sub-messages but for those that are left: whatever messages send
-- these from the group serial on, the messages so far and they send all; and all messages that
-- send them begin so.
pub record AreSent (heading : MessageValue) (subs : List Sub) (messages : List MessageValue)
    (group : ℕ) (left : List Sub) : Type 0 where
  pub sends : (later : List MessageValue) → Send heading group left later
      → Send heading heading.reference.group subs (messages ++ later)
  pub only : (all : List MessageValue) → Send heading heading.reference.group subs all
      → (later : List MessageValue) × (all ≡ messages ++ later) × Send heading group left later
