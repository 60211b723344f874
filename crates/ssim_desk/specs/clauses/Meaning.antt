-- What the sub-messages of a desk find.
use Rattle.std.specs.Prelude.{◌≡◌, List}
use Rattle.ssim_schedule.specs.{declared.finding.Finding.Finding}
use Rattle.ssim_held.specs.Held.{DeskState}
use Rattle.ssim_held.specs.Entries.{Entry}
use Rattle.ssim_desk.specs.Meaning.{found_by, Lists}

-- what the messages of a desk find, in order of reference: one list for each message, in the order
-- of its sub-messages
abbrev pub Finds : DeskState → List (List Finding) → Type 0
Finds desk findings =
    (listed : List Entry) × Lists desk listed × (findings ≡ found_by desk.base listed)
