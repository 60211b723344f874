-- What commands at one office bring to a desk file, computed.
use Rattle.std.specs.Prelude.{◌≡◌, ◌⊎◌, ℕ, List, [], ◌∷◌, codes, Some, refl}
use Rattle.ssim_text.specs.Message.{MessageValue}
use Rattle.ssim_text.specs.declared.reference.Reference.{Reference}
use Rattle.ssim_text.specs.Reference.{SpellsReference}
use Rattle.ssim_command_line.specs.Line.{Text}
use Rattle.ssim_program.specs.Files.{Files, file_of}
use Rattle.ssim_program.specs.Offices.{BeganFrom, Began, Brought, History, IsSaidTo, MergeKept}
use Rattle.ssim_program.specs.Offices.{StartKept, TakeKept, Then, WithdrawKept}

abbrev zurich : Text
zurich = codes "zurich.desk"

abbrev london : Text
london = codes "london.desk"

-- `start season.ssim stations.txt zurich.desk`, `take zurich.desk zurich.desk holiday.ssm` and
-- `merge zurich.desk london.desk zurich.desk`, with the files before and after each
abbrev three_commands : Files → Files → Files → Files → History
three_commands before started taken merged =
    Then (Then (Then (Began before)
    (StartKept (codes "season.ssim") (codes "stations.txt") zurich) started)
    (TakeKept zurich zurich (codes "holiday.ssm" ∷ [])) taken)
    (MergeKept zurich london zurich) merged

-- To Zurich's desk was brought what the text says to it, and what London's desk file held at the
-- beginning.
brought_to_zurich : (before started taken merged : Files) (reference : Reference) (message : MessageValue)
    → Brought (three_commands before started taken merged) zurich reference message
    ≡ ((⊥ ⊎ IsSaidTo started zurich (codes "holiday.ssm" ∷ []) reference message)
    ⊎ Brought (Began before) london reference message)
brought_to_zurich before started taken merged reference message = refl

-- to London's desk file nothing was brought
brought_to_london : (before started taken merged : Files) (reference : Reference) (message : MessageValue)
    → Brought (three_commands before started taken merged) london reference message
    ≡ Brought (Began before) london reference message
brought_to_london before started taken merged reference message = refl

-- Zurich's desk began from the bytes of the data set and the station table
zurich_began : (before started taken merged : Files) (dataset stations : List ℕ)
    → BeganFrom (three_commands before started taken merged) zurich dataset stations
    ≡ ((file_of before (codes "season.ssim") ≡ Some dataset)
    × (file_of before (codes "stations.txt") ≡ Some stations))
zurich_began before started taken merged dataset stations = refl

-- After `withdraw zurich.desk zurich.desk 'SSM 15MAR27 00002 001'` what was brought to Zurich's
-- desk is what was brought to it before, but for the message under this reference.
withdrawn_from_zurich : (before : History) (after : Files) (reference : Reference) (message : MessageValue)
    → Brought (Then before (WithdrawKept zurich zurich (codes "SSM 15MAR27 00002 001" ∷ [])) after) zurich
    reference message
    ≡ (Brought before zurich reference message
    × ((SpellsReference reference (codes "SSM 15MAR27 00002 001") ⊎ ⊥) → ⊥))
withdrawn_from_zurich before after reference message = refl
