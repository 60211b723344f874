-- What the steps of framing do with the bytes that are held and those that a reader has left.
use Rattle.std.specs.Prelude.{ℕ, ◌≡◌, ◌+◌, ◌%◌, ◌^◌, ◌<◌, ◌≤◌, Bool, true, false, List, [], ◌∷◌, ◌++◌, length, take, drop, nat_lt, ⊤, Option, Some, None, Result, Ok, Err}
use Rattle.ssim_records.specs.declared.blocks.BlockStop.{BlockStop}
use Rattle.ssim_records.specs.declared.blocks.BlockStop.TheVariants.{Short, ReadFault, ReaderNeverEnds}
use Rattle.ssim_records.specs.declared.fault.RecordFault.{RecordFault}
use Rattle.ssim_records.specs.declared.fault.RecordFault.TheVariants as fault
use Rattle.ssim_records.specs.Frames.{trim, Frames, others}
use Rattle.ssim_records.specs.clauses.Blocks.{beyond}
use Rattle.ssim_records.specs.clauses.Reading.{BlockAnswer, Reading}

-- the refusal of the record of a number, of which no block came
abbrev pub refusal_of : BlockStop → ℕ → RecordFault
refusal_of Short number = fault.Short number
refusal_of ReadFault number = fault.ReadFault number
refusal_of ReaderNeverEnds number = fault.ReaderNeverEnds number

-- the result of looking for the next block in the bytes ahead: the end, a block, or why there is
-- none; `over` is the number of bytes after the limit
abbrev pub NextBlock : ℕ → List ℕ → List ℕ → Result (Option (List ℕ)) BlockStop → Type 0
NextBlock over ahead later (Ok None) = (ahead ≡ []) × (over ≡ 0)
NextBlock over ahead later (Ok (Some block)) =
    (length block ≡ 200) × (ahead ≡ block ++ later) × (over ≤ length later)
NextBlock over ahead later (Err Short) = (0 < length ahead) × (length ahead < 200) × (over ≡ 0)
NextBlock over ahead later (Err ReadFault) = Unit {0}
NextBlock over ahead later (Err ReaderNeverEnds) = (0 < over) × (length ahead < 200 + over)

-- the result of fetching the next block is right for the bytes that were held and left; nothing is
-- said if the reader does not report its bytes
abbrev pub GivesBlock : ℕ → Bool → ℕ → List ℕ → Option (List ℕ) → ℕ → List ℕ → Option (List ℕ)
    → Result (Option (List ℕ)) BlockStop → Type 0
GivesBlock limit after_block came held None came' held' left' result = Unit {0}
GivesBlock limit after_block came held (Some left) came' held' None result = ⊥
GivesBlock limit after_block came held (Some left) came' held' (Some left') result =
    (came' + length left' ≡ came + length left)
    × NextBlock (beyond limit came left) (trim after_block (held ++ left)) (held' ++ left') result

-- the blocks and the rest ahead of a reading that has counted this number of blocks
abbrev pub Ahead : ℕ → ℕ → ℕ → List ℕ → List ℕ → List (List ℕ) → List ℕ → Type 0
Ahead limit number came held left blocks rest =
    Frames (beyond limit came left) (nat_lt 0 number) (held ++ left) blocks rest

-- the next block as a result, if the call says whether the held bytes begin with it
abbrev pub with_front : List ℕ → Result Bool BlockStop → Result (Option (List ℕ)) BlockStop
with_front held (Ok false) = Ok None
with_front held (Ok true) = Ok (Some (take 200 held))
with_front held (Err stop) = Err stop

-- the bytes held after the block is taken; all of them if there is none
abbrev pub behind_front : Result Bool BlockStop → List ℕ → List ℕ
behind_front (Ok true) held = drop 200 held
behind_front _ held = held

-- the number of blocks counted, with the block that the held bytes begin with, if there is one
abbrev pub with_block : Result Bool BlockStop → ℕ → ℕ
with_block (Ok true) number = number + 1
with_block _ number = number

-- the number of blocks in a result
abbrev pub block_count : Result (Option (List ℕ)) BlockStop → ℕ
block_count (Ok (Some block)) = 1
block_count _ = 0

-- a reader that failed left too few bytes for a block
abbrev pub LeavesFew : List ℕ → Result (Option (List ℕ)) BlockStop → Type 0
LeavesFew held (Err ReadFault) = length held < 200
LeavesFew held _ = Unit {0}

-- The result for the blocks and the rest ahead: the next block that is not fill, with its number;
-- or the end; or the fault at the end. A failure of the reader leaves only fill counted.
abbrev pub NextOther : ℕ → ℕ → List (List ℕ) → List ℕ → ℕ → (List (List ℕ) → Type 0)
    → Result (Option (List ℕ)) BlockStop → Type 0
NextOther over number blocks rest number' After (Ok None) =
    (others number blocks ≡ []) × (number' ≡ number + length blocks) × (rest ≡ []) × (over ≡ 0)
NextOther over number blocks rest number' After (Ok (Some block)) =
    (later : List (List ℕ)) × (others number blocks ≡ (number', block) ∷ others number' later)
    × (number' + length later ≡ number + length blocks) × After later
NextOther over number blocks rest number' After (Err Short) =
    (others number blocks ≡ []) × (number' ≡ number + length blocks) × (0 < length rest)
    × (length rest < 200) × (over ≡ 0)
NextOther over number blocks rest number' After (Err ReadFault) =
    (later : List (List ℕ)) × (others number blocks ≡ others number' later)
    × (number' + length later ≡ number + length blocks)
NextOther over number blocks rest number' After (Err ReaderNeverEnds) =
    (others number blocks ≡ []) × (number' ≡ number + length blocks) × (0 < over)

-- the result of fetching the next block other than fill is right for the blocks and the rest that
-- were ahead; nothing is said if the reader does not report its bytes
abbrev pub GivesOther : ℕ → ℕ → ℕ → List ℕ → Option (List ℕ) → ℕ → ℕ → List ℕ → Option (List ℕ)
    → Result (Option (List ℕ)) BlockStop → Type 0
GivesOther limit number came held None number' came' held' left' result = Unit {0}
GivesOther limit number came held (Some left) number' came' held' None result = ⊥
GivesOther limit number came held (Some left) number' came' held' (Some left') result =
    (came' + length left' ≡ came + length left)
    × ((blocks : List (List ℕ)) → (rest : List ℕ) → Ahead limit number came held left blocks rest
    → NextOther (beyond limit came left) number blocks rest number'
    (λ later. Ahead limit number' came' held' left' later rest) result)

-- the reader's failures are counted: one more if the result is a read fault, else none
abbrev pub FailsOnce : ℕ → ℕ → Result (Option (List ℕ)) BlockStop → Type 0
FailsOnce old new (Err ReadFault) = new ≡ (old + 1) % 2 ^ 64
FailsOnce old new _ = new ≡ old

-- The reader's failures are counted while the rest is skipped: one more if the result is a read
-- fault, else none. After any other fault more bytes came than the limit.
abbrev pub FailsAtRest : ℕ → ℕ → ℕ → ℕ → Result ⊤ BlockStop → Type 0
FailsAtRest limit came old new (Ok x) = new ≡ old
FailsAtRest limit came old new (Err Short) = ⊥
FailsAtRest limit came old new (Err ReadFault) = new ≡ (old + 1) % 2 ^ 64
FailsAtRest limit came old new (Err ReaderNeverEnds) = (new ≡ old) × (limit < came)

-- the block that a call brought to the beginning of the held bytes, with the number after those
-- counted; the end; or a fault
abbrev pub front_of : Reading → Result Bool RecordFault → BlockAnswer
front_of r (Ok false) = Ok None
front_of r (Ok true) = Ok (Some (r.number + 1, take 200 r.held))
front_of r (Err fault) = Err fault

-- the reading after the block that a call brought to the beginning of the held bytes is counted
abbrev pub after_front : Result Bool RecordFault → Reading → Reading
after_front (Ok true) r = record r { number = r.number + 1; held = drop 200 r.held }
after_front _ r = r
