-- Reading the records of a stream: what is ahead, and what each call returns.
use Rattle.std.specs.Prelude.{ℕ, ◌≡◌, ◌+◌, ◌*◌, ◌%◌, ◌^◌, ◌<◌, ◌≤◌, List, [], ◌∷◌, ◌++◌, length, nat_lt, ⊤, Option, Some, None, IfErr, Result, Ok, Err}
use Rattle.ssim_records.specs.Device.{Reader}
use Rattle.ssim_records.specs.declared.fault.RecordFault.{RecordFault}
use Rattle.ssim_records.specs.declared.fault.RecordFault.TheVariants.{Short, BadType, BadColumn, ReadFault, ReaderNeverEnds}
use Rattle.ssim_records.specs.declared.record.Record.{Record}
use Rattle.ssim_records.specs.declared.records.Ending.{Ending}
use Rattle.ssim_records.specs.declared.records.Ending.TheVariants.{End, Refused}
use Rattle.ssim_records.specs.Frames.{Frames, others}
use Rattle.ssim_records.specs.clauses.Blocks.{BytesCame, Fetches, beyond}
use Rattle.ssim_records.specs.Record.{Spells, fault_of}

-- The state of reading: the most bytes that may come, how many came, how many records were counted,
-- which bytes are held, and how reading ended.
pub record Reading : Type 0 where
  pub limit : ℕ
  pub came : ℕ
  pub number : ℕ
  pub held : List ℕ
  pub ended : Option Ending

-- The held bytes, followed by the bytes that the reader has left, are these blocks and this rest.
-- No block extends past the limit.
abbrev pub IsAhead : Reading → List ℕ → List (List ℕ) → List ℕ → Type 0
IsAhead r left blocks rest =
    Frames (beyond r.limit r.came left) (nat_lt 0 r.number) (r.held ++ left) blocks rest

-- what a call for the next block returns: the block with its number, the end, or a fault
abbrev pub BlockAnswer : Type 0
BlockAnswer = Result (Option (ℕ × List ℕ)) RecordFault

-- what a call for the next record returns
abbrev pub Answer : Type 0
Answer = Result (Option (ℕ × Record)) RecordFault

-- ---- the next block

-- only fill is left, and all blocks are counted
abbrev pub IsLast : Reading → List (List ℕ) → Reading → Type 0
IsLast old blocks new = (others old.number blocks ≡ []) × (new.number ≡ old.number + length blocks)

-- this is the next block that is not fill, and it has the new number
abbrev pub IsNext : Reading → List (List ℕ) → Reading → List ℕ → List (List ℕ) → Type 0
IsNext old blocks new block later =
    (others old.number blocks ≡ (new.number, block) ∷ others new.number later)
    × (new.number + length later ≡ old.number + length blocks)

-- The result of reading the next block, if these blocks and this rest are ahead. A block: the next
-- one other than fill, and the blocks after it satisfy `After`. The end: only fill is left. A fault:
-- the bytes end within a record, more bytes came than the limit, or the reader failed after nothing
-- but fill.
abbrev pub Returns : Reading → List ℕ → List (List ℕ) → List ℕ → Reading → (List (List ℕ) → Type 0)
    → BlockAnswer → Type 0
Returns old left blocks rest new After (Ok None) =
    IsLast old blocks new × (rest ≡ []) × (beyond old.limit old.came left ≡ 0)
Returns old left blocks rest new After (Ok (Some found)) =
    (later : List (List ℕ)) × IsNext old blocks new found.1 later × After later
Returns old left blocks rest new After (Err (Short n)) =
    IsLast old blocks new × (0 < length rest) × (length rest < 200)
    × (beyond old.limit old.came left ≡ 0)
Returns old left blocks rest new After (Err (BadType n)) = ⊥
Returns old left blocks rest new After (Err (BadColumn n column)) = ⊥
Returns old left blocks rest new After (Err (ReadFault n)) =
    (later : List (List ℕ)) × (others old.number blocks ≡ others new.number later)
    × (new.number + length later ≡ old.number + length blocks)
Returns old left blocks rest new After (Err (ReaderNeverEnds n)) =
    IsLast old blocks new × (0 < beyond old.limit old.came left)

-- The result is right for whatever blocks and rest are ahead. Nothing is said if the reader does
-- not report its bytes.
abbrev pub GivesNext : Reading → Option (List ℕ) → Reading → Option (List ℕ) → BlockAnswer → Type 0
GivesNext old None new left' result = Unit {0}
GivesNext old (Some left) new None result = ⊥
GivesNext old (Some left) new (Some left') result =
    (new.came + length left' ≡ old.came + length left)
    × ((blocks : List (List ℕ)) → (rest : List ℕ) → IsAhead old left blocks rest
    → Returns old left blocks rest new (λ later. IsAhead new left' later rest) result)

-- Some of the reader's bytes were fetched. Together with the bytes held before, they are the
-- records counted since, fill included, followed by the bytes held now.
abbrev pub FetchesNext : Reading → Option (List ℕ) → Reading → Option (List ℕ) → Type 0
FetchesNext old left new left' =
    Fetches (nat_lt 0 old.number) old.number old.held left new.number new.held left'

-- A block or record has the number of the blocks counted, which is a new one, and its 200 bytes are
-- within the limit. An invalid record has this number, too. Any other fault has the number after it.
abbrev pub HasNumber : {A : Type 0} → Reading → Reading → Result (Option (ℕ × A)) RecordFault
    → Type 0
HasNumber old new (Ok None) = Unit {0}
HasNumber old new (Ok (Some found)) =
    (found.0 ≡ new.number) × (old.number < new.number) × (200 * new.number ≤ new.limit + 1)
HasNumber old new (Err (Short n)) = n ≡ new.number + 1
HasNumber old new (Err (BadType n)) = n ≡ new.number
HasNumber old new (Err (BadColumn n column)) = n ≡ new.number
HasNumber old new (Err (ReadFault n)) = n ≡ new.number + 1
HasNumber old new (Err (ReaderNeverEnds n)) = n ≡ new.number + 1

-- If the fault is 13, too few bytes are held for a record. If it is 14, one byte more came than the
-- limit, and no record within the limit is held.
abbrev pub HoldsFew : {A : Type 0} → Reading → Result A RecordFault → Type 0
HoldsFew new (Err (ReadFault n)) = length new.held < 200
HoldsFew new (Err (ReaderNeverEnds n)) = (new.came ≡ new.limit + 1) × (length new.held < 201)
HoldsFew new _ = Unit {0}

-- the reader's failures are counted: one more if the result is a read fault, else none
abbrev pub FailsAs : {A : Type 0} → ℕ → ℕ → Result A RecordFault → Type 0
FailsAs old new (Err (ReadFault n)) = new ≡ (old + 1) % 2 ^ 64
FailsAs old new _ = new ≡ old

-- the faults are 10, 13 and 14
abbrev pub IsNoBlockFault : RecordFault → Type 0
IsNoBlockFault (BadType n) = ⊥
IsNoBlockFault (BadColumn n column) = ⊥
IsNoBlockFault _ = Unit {0}

-- What a call for the next block other than fill does before the reading has ended.
pub record ReadsBlock (old : Reading) (before : Reader) (new : Reading) (after : Reader)
    (result : BlockAnswer) : Type 0 where
  -- the result is the next block of the bytes ahead
  pub next : GivesNext old before.left new after.left result
  pub number : HasNumber old new result
  pub stops : IfErr result IsNoBlockFault
  -- the bytes that were fetched are the counted blocks, and then those held
  pub fetched : FetchesNext old before.left new after.left
  pub held : HoldsFew new result
  pub failure : FailsAs before.failures after.failures result
  pub came : BytesCame before after old.came new.came

-- ---- the next record

-- The record that a block spells, with the number of the block, or the fault that the block has. If
-- there is no block, the end or the fault stays the same.
abbrev pub IsReadAs : BlockAnswer → Answer → Type 0
IsReadAs (Ok None) result = result ≡ Ok None
IsReadAs (Ok (Some block)) (Ok None) = ⊥
IsReadAs (Ok (Some block)) (Ok (Some found)) = (found.0 ≡ block.0) × Spells found.1 block.1
IsReadAs (Ok (Some block)) (Err fault) = fault_of block.0 block.1 ≡ Some fault
IsReadAs (Err fault) result = result ≡ Err fault

-- What a call for the next record does before the reading has ended: the next block is read.
pub record ReadsRecord (old : Reading) (before : Reader) (new : Reading) (after : Reader)
    (result : Answer) : Type 0 where
  pub block : BlockAnswer
  pub reads : ReadsBlock old before new after block
  pub is_read : IsReadAs block result

-- the record that was put in, with a number
abbrev pub with_number : ℕ → Option Record → Option (ℕ × Record)
with_number number None = None
with_number number (Some r) = Some (number, r)

-- the result of a call that puts the record into `into` and returns its number
abbrev pub given : Option Record → Result ℕ RecordFault → Answer
given into (Ok number) = Ok (with_number number into)
given into (Err fault) = Err fault

-- ---- the end

-- the end that a result means, if it is one
abbrev pub ending_of : {A : Type 0} → Result (Option A) RecordFault → Option Ending
ending_of (Ok None) = Some End
ending_of (Ok (Some found)) = None
ending_of (Err fault) = Some (Refused fault)

-- ---- the rest

-- The reader's failures are counted while the rest is skipped: one more if the fault is 13, else
-- none. If the fault is 14, one byte more came than the limit. There is no other fault, and it
-- names the record after those that were counted.
abbrev pub RestFails : Reading → Reader → Reader → Result ⊤ RecordFault → Type 0
RestFails r old new (Ok x) = new.failures ≡ old.failures
RestFails r old new (Err (ReadFault n)) =
    (n ≡ r.number + 1) × (new.failures ≡ (old.failures + 1) % 2 ^ 64)
RestFails r old new (Err (ReaderNeverEnds n)) =
    (n ≡ r.number + 1) × (new.failures ≡ old.failures) × (r.came ≡ r.limit + 1)
RestFails r old new _ = ⊥
