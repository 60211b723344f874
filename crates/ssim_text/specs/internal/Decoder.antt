-- What the lines of a text decode to, and what the length of the canonical text decides at the end.
use Rattle.std.specs.Prelude.{◌≡◌, ℕ, ◌<◌, ◌≤◌, List, length}
use Rattle.ssim_text.specs.declared.fault.Fault.TheVariants as fault
use Rattle.ssim_text.specs.declared.fault.TextFault.{TextFault}
use Rattle.ssim_text.specs.declared.fault.TextFault.TheVariants as refusal
use Rattle.ssim_text.specs.declared.decoder.LineRefusal.{LineRefusal}
use Rattle.ssim_text.specs.declared.decoder.LineRefusal.TheVariants.{NoMemory, Misplaced}
use Rattle.ssim_text.specs.Message.{MessageValue}
use Rattle.ssim_text.specs.Grammar.{NamesPlace}
use Rattle.ssim_text.specs.Canonical.{canonical}
use Rattle.ssim_text.specs.Spelling.{SpellsMessage}
use Rattle.ssim_text.specs.Decoder.{IsFaultAt}

-- the refusal names the first line that is not valid; out of memory says nothing of the lines
abbrev pub IsPlace : List (List ℕ) → LineRefusal → Type 0
IsPlace lines NoMemory = Unit {0}
IsPlace lines (Misplaced f index) = NamesPlace lines index × IsFaultAt lines index f

-- the refusal, if it is not for memory, says that the canonical text of the message is too long:
-- TooMany at line 1
abbrev pub IsTooManyAtOne : MessageValue → TextFault → Type 0
IsTooManyAtOne m refusal.Memory = Unit {0}
IsTooManyAtOne m (refusal.Refused f n) =
    (f ≡ fault.TooMany) × (n ≡ 1) × (65536 < length (canonical m))

-- the canonical text of the message spells it, if it is not too long
abbrev pub IsSpelledWhereShort : MessageValue → Type 0
IsSpelledWhereShort m = length (canonical m) ≤ 65536 → SpellsMessage m (canonical m)
