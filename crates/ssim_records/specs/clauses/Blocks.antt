-- What the steps of framing do with the bytes that are held and those that a reader has left.
use Rattle.std.specs.Prelude.{ℕ, ◌≡◌, ◌+◌, ◌-◌, ◌%◌, ◌^◌, Bool, true, List, [], ◌∷◌, ◌++◌, length, Option, Some, None}
use Rattle.ssim_records.specs.Device.{Reader}
use Rattle.ssim_records.specs.Frames.{trim}

-- No byte is lost or added: the held bytes followed by the reader's remaining bytes stay the same.
-- Nothing is said if the reader does not report its bytes.
abbrev pub SameAhead : List ℕ → Option (List ℕ) → List ℕ → Option (List ℕ) → Type 0
SameAhead held None held' left' = Unit {0}
SameAhead held (Some left) held' None = ⊥
SameAhead held (Some left) held' (Some left') = held' ++ left' ≡ held ++ left

-- the number of bytes after the limit, of those that came and those left
abbrev pub beyond : ℕ → ℕ → List ℕ → ℕ
beyond limit came left = (came + length left) - limit

-- The bytes are these blocks, line ends after each, and then the held bytes; line ends before the
-- held bytes do not count.
abbrev pub Takes : Bool → List ℕ → List (List ℕ) → List ℕ → Type 0
Takes after_block bytes [] held = trim after_block bytes ≡ trim after_block held
Takes after_block bytes (block ∷ blocks) held =
    (later : List ℕ) × (length block ≡ 200) × (trim after_block bytes ≡ block ++ later)
    × Takes true later blocks held

-- Some of the reader's bytes were fetched. Together with the bytes held before, they are the blocks
-- counted since, followed by the bytes held now.
abbrev pub Fetches : Bool → ℕ → List ℕ → Option (List ℕ) → ℕ → List ℕ → Option (List ℕ) → Type 0
Fetches after_block number held None number' held' left' = Unit {0}
Fetches after_block number held (Some left) number' held' None = ⊥
Fetches after_block number held (Some left) number' held' (Some left') =
    (fetched : List ℕ) × (blocks : List (List ℕ)) × (left ≡ fetched ++ left')
    × (number' ≡ number + length blocks) × Takes after_block (held ++ fetched) blocks held'

-- The bytes that are left are the last of those that were left before. Nothing is said if the
-- reader does not report its bytes.
abbrev pub StaysLeft : Option (List ℕ) → Option (List ℕ) → Type 0
StaysLeft None left' = Unit {0}
StaysLeft (Some left) None = ⊥
StaysLeft (Some left) (Some left') = (fetched : List ℕ) × (left ≡ fetched ++ left')

-- The number of the bytes that came goes from one to the other: by those that the reader no longer
-- has left or, if it does not report its bytes, by those that it counted.
abbrev pub CameFrom : Option (List ℕ) → Option (List ℕ) → ℕ → ℕ → ℕ → ℕ → Type 0
CameFrom None None old new came came' = (new + came) % 2 ^ 128 ≡ (old + came') % 2 ^ 128
CameFrom (Some left) (Some left') old new came came' = came' + length left' ≡ came + length left
CameFrom _ _ old new came came' = ⊥

-- These bytes came from a reader.
abbrev pub BytesCame : Reader → Reader → ℕ → ℕ → Type 0
BytesCame old new came came' = CameFrom old.left new.left old.came new.came came came'
