-- What contracts see of a message.
use Rattle.std.specs.Prelude.{ℕ, List, [], ◌∷◌, ◌++◌}
use Rattle.ssim_text.specs.declared.kind.Kind.{Kind}
use Rattle.ssim_values.specs.declared.time_mode.TimeMode.{TimeMode}
use Rattle.ssim_text.specs.declared.reference.GivenReference.{GivenReference}
use Rattle.ssim_text.specs.declared.action.Sub.{Sub}

-- a message
pub record MessageValue : Type 0 where
  pub originator : List ℕ
  pub kind : Kind
  pub mode : TimeMode
  pub reference : GivenReference
  pub subs : List Sub
  pub free : List (List ℕ)

-- a message that has no sub-message yet
abbrev pub begun : List ℕ → Kind → TimeMode → GivenReference → MessageValue
begun o kind mode r =
    record { originator = o; kind = kind; mode = mode; reference = r; subs = []; free = [] }

-- the message with one more sub-message
abbrev pub with_sub : MessageValue → Sub → MessageValue
with_sub m sub = record m { subs = m.subs ++ sub ∷ [] }

-- the message with one more line of free text
abbrev pub with_free : MessageValue → List ℕ → MessageValue
with_free m line = record m { free = m.free ++ line ∷ [] }

-- a message without free text
abbrev pub message_of : List ℕ → Kind → TimeMode → GivenReference → List Sub → MessageValue
message_of o kind mode r subs =
    record { originator = o; kind = kind; mode = mode; reference = r; subs = subs; free = [] }
