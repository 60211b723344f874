-- The blocks of a schedule: flights of nearby places are together, so that copies of a schedule may
-- share them.
use Rattle.std.specs.Prelude.{◌≡◌, ℕ, ◌+◌, ◌/◌, List, [], ◌∷◌, ◌++◌}
use Rattle.ssim_values.specs.Flight.{FlightNumber}
use Rattle.ssim_base.specs.ReadBack.{place_of}
use Rattle.ssim_schedule.specs.internal.Table.{AreRising, Table}

-- the block of a flight; flights that differ only in suffix are mostly in one block, as are those
-- of some 38 numbers
abbrev pub block_of : FlightNumber → ℕ
block_of flight = place_of flight / 1024

-- the entries of all blocks, in order
abbrev pub all_entries : List Table → Table
all_entries [] = []
all_entries (b ∷ blocks) = b ++ all_entries blocks

-- the entries are of flights of block k
abbrev pub AreOf : ℕ → Table → Type 0
AreOf k [] = Unit {0}
AreOf k (f ∷ table) = (block_of f.flight ≡ k) × AreOf k table

-- block k has entries of its own flights alone, and they rise
pub record IsBlock (k : ℕ) (table : Table) : Type 0 where
  pub its : AreOf k table
  pub rising : AreRising table

-- these are the blocks from number k on
abbrev pub AreBlocks : ℕ → List Table → Type 0
AreBlocks k [] = Unit {0}
AreBlocks k (b ∷ blocks) = IsBlock k b × AreBlocks (k + 1) blocks
