-- The messages that send a list of sub-messages, under one heading and rising group serials.
use Rattle.std.specs.Prelude.{◌≡◌, ◌⊎◌, ℕ, ◌+◌, ◌<◌, List, [], ◌∷◌, length, take, drop}
use Rattle.ssim_text.specs.Canonical.{canonical}
use Rattle.ssim_text.specs.Message.{MessageValue, with_sub}
use Rattle.ssim_text.specs.Spelling.{SpellsMessage}
use Rattle.ssim_text.specs.declared.action.Sub.{Sub}

-- the message with this heading, this group serial and these sub-messages, and no free text
abbrev pub headed : MessageValue → ℕ → List Sub → MessageValue
headed heading group subs = record {
  originator = heading.originator;
  kind = heading.kind;
  mode = heading.mode;
  reference = record heading.reference { group = group };
  subs = subs;
  free = [];
}

-- a text can have the message: its canonical text spells it
abbrev pub IsText : MessageValue → Type 0
IsText m = SpellsMessage m (canonical m)

-- The message takes none of the sub-messages that are left: there are none, or it has 250, or with
-- the first of them its canonical text would have more than 65,536 bytes.
abbrev pub IsFull : MessageValue → List Sub → Type 0
IsFull m [] = Unit {0}
IsFull m (sub ∷ left) = (length m.subs ≡ 250) ⊎ (65536 < length (canonical (with_sub m sub)))

-- the message has the heading, the group serial, and as many of the sub-messages, from the first
-- on, as a text can have
pub record IsFirst (heading : MessageValue) (group : ℕ) (subs : List Sub)
    (m : MessageValue) : Type 0 where
  pub own : m ≡ headed heading group (take (length m.subs) subs)
  pub text : IsText m
  pub full : IsFull m (drop (length m.subs) subs)

-- The messages send the sub-messages: the first message has this group serial and as many of them
-- as a text can have, and the later messages, from the next group serial on, send those that are
-- left.
abbrev pub Send : MessageValue → ℕ → List Sub → List MessageValue → Type 0
Send heading group subs [] = subs ≡ []
Send heading group subs (m ∷ messages) =
    IsFirst heading group subs m × Send heading (group + 1) (drop (length m.subs) subs) messages
