-- The records on a stream of bytes: blocks of 200, line ends after each, and a rest.
use Rattle.std.specs.Prelude.{ℕ, ◌≡◌, ◌+◌, ◌<◌, ◌≤◌, ◌==◌, ◌&&◌, Bool, true, false, if◌then◌else◌, List, [], ◌∷◌, ◌++◌, length, replicate}
use Rattle.std.specs.Str.{bytes_eq}

-- the bytes without the line ends that they begin with, each LF or CR LF
abbrev pub drop_line_ends : List ℕ → List ℕ
drop_line_ends [] = []
drop_line_ends (b ∷ []) = if b == 10 then [] else b ∷ []
drop_line_ends (b ∷ c ∷ bs) = if b == 10 then drop_line_ends (c ∷ bs) else if b == 13 && c == 10
    then drop_line_ends bs else b ∷ c ∷ bs

-- the bytes without the line ends that they begin with, if they come after a block; else all of
-- them
abbrev pub trim : Bool → List ℕ → List ℕ
trim true bytes = drop_line_ends bytes
trim false bytes = bytes

-- The bytes are these blocks of 200, line ends after each, and then this rest. `after_block` says
-- whether a block came just before them: only then may they begin with line ends. The last `over`
-- bytes came after the limit, and no block extends into them. The rest is too short for another
-- block within the limit.
abbrev pub Frames : ℕ → Bool → List ℕ → List (List ℕ) → List ℕ → Type 0
Frames over after_block bytes [] rest = (trim after_block bytes ≡ rest) × (length rest < 200 + over)
Frames over after_block bytes (block ∷ blocks) rest =
    (later : List ℕ) × (length block ≡ 200) × (trim after_block bytes ≡ block ++ later)
    × (over ≤ length later) × Frames over true later blocks rest

-- a record of 200 zero digits, which says nothing
abbrev pub fill : List ℕ
fill = replicate 200 48

-- whether a block is fill
unfoldable pub is_fill : List ℕ → Bool
is_fill block = bytes_eq block fill

-- the blocks that are not fill, with their numbers; `number` blocks came before them
abbrev pub others : ℕ → List (List ℕ) → List (ℕ × List ℕ)
others number [] = []
others number (block ∷ blocks) = if is_fill block then others (number + 1) blocks
    else (number + 1, block) ∷ others (number + 1) blocks

-- Any bytes have frames.
abbrev pub FramesExist : Type 0
FramesExist = (over : ℕ) (after_block : Bool) (bytes : List ℕ) → (blocks : List (List ℕ))
    × ((rest : List ℕ) × Frames over after_block bytes blocks rest)

-- Bytes have only one list of blocks and one rest.
abbrev pub FramesAreOne : Type 0
FramesAreOne =
    (over : ℕ) (after_block : Bool) (bytes : List ℕ) (blocks blocks' : List (List ℕ))
    (rest rest' : List ℕ)
    → Frames over after_block bytes blocks rest → Frames over after_block bytes blocks' rest'
    → (blocks ≡ blocks') × (rest ≡ rest')
