-- Whether a message is among others.
use Rattle.std.specs.Prelude.{◌≡◌, List, Some}
use Rattle.std.specs.FinMap.{get}
use Rattle.ssim_held.specs.Entries.{Entry, map_of}

-- the message of an entry is held under its reference
abbrev pub IsAmong : List Entry → Entry → Type 0
IsAmong messages e = get (map_of messages) e.reference ≡ Some e.message
