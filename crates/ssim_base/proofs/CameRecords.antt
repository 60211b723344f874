-- The complete records of the bytes that came are the first of all records, and those that were
-- counted are told from later ones by their numbers.
use Rattle.std.proofs.Common.{◌≡◌, ℕ, ◌+◌, ◌<◌, ◌≤◌, Bool, true, false, List, [], ◌∷◌, ◌++◌, length, refl, sym, ap, ◌∙◌, append_assoc, arith}
use Rattle.std.specs.Prelude.{if◌then◌else◌}
use Rattle.std.proofs.lemmas.List.{length-append}
use Rattle.ssim_records.specs.clauses.Blocks.{Takes}
use Rattle.ssim_records.specs.Frames.{Frames, is_fill, others, trim}
use Rattle.ssim_records.proofs.Framing.{first_frame}
use Rattle.ssim_records.proofs.LineEnds.{trim_front}

-- ---- numbered blocks

-- the numbers are at most n
abbrev pub UpTo : ℕ → List (ℕ × List ℕ) → Type 0
UpTo n [] = Unit {0}
UpTo n (x ∷ xs) = (x.0 ≤ n) × UpTo n xs

-- the numbers are above n
abbrev pub After : ℕ → List (ℕ × List ℕ) → Type 0
After n [] = Unit {0}
After n (x ∷ xs) = (n < x.0) × After n xs

pub up-to-more : (m n : ℕ) (xs : List (ℕ × List ℕ)) → m ≤ n → UpTo m xs → UpTo n xs
up-to-more m n [] less h = tt
up-to-more m n (x ∷ xs) less h = (omega (arith, less, h.0), up-to-more m n xs less h.1)

pub up-to-append : (n : ℕ) (xs ys : List (ℕ × List ℕ)) → UpTo n xs → UpTo n ys → UpTo n (xs ++ ys)
up-to-append n [] ys h k = k
up-to-append n (x ∷ xs) ys h k = (h.0, up-to-append n xs ys h.1 k)

after-less : (m n : ℕ) (xs : List (ℕ × List ℕ)) → m ≤ n → After n xs → After m xs
after-less m n [] less h = tt
after-less m n (x ∷ xs) less h = (omega (arith, less, h.0), after-less m n xs less h.1)

-- the blocks from number k + 1 on, of which the first may be fill
abbrev after-one : ℕ → List ℕ → Bool → List (ℕ × List ℕ) → List (ℕ × List ℕ)
after-one k block fill later = if fill then later else (k + 1, block) ∷ later

after-at : (k : ℕ) (block : List ℕ) (fill : Bool) (later : List (ℕ × List ℕ)) → After k later → After k (after-one k block fill later)
after-at k block true later h = h
after-at k block false later h = (omega arith, h)

-- the blocks after the first k have numbers above k
pub others-after : (k : ℕ) (blocks : List (List ℕ)) → After k (others k blocks)
others-after k [] = tt
others-after k (block ∷ blocks) =
    after-at k block (is_fill block) (others (k + 1) blocks)
    (after-less k (k + 1) (others (k + 1) blocks) (omega arith) (others-after (k + 1) blocks))

up-to-at : (k n : ℕ) (block : List ℕ) (fill : Bool) (later : List (ℕ × List ℕ)) → k + 1 ≤ n → UpTo n later → UpTo n (after-one k block fill later)
up-to-at k n block true later less h = h
up-to-at k n block false later less h = (less, h)

pub others-up-to : (k : ℕ) (blocks : List (List ℕ)) → UpTo (k + length blocks) (others k blocks)
others-up-to k [] = tt
others-up-to k (block ∷ blocks) =
    up-to-at k (k + length (block ∷ blocks)) block (is_fill block) (others (k + 1) blocks) (omega arith)
    (up-to-more (k + 1 + length blocks) (k + length (block ∷ blocks)) (others (k + 1) blocks) (omega arith) (others-up-to (k + 1) blocks))

append-at : (k : ℕ) (block : List ℕ) (fill : Bool) (all xs ys : List (ℕ × List ℕ)) → all ≡ xs ++ ys → after-one k block fill all ≡ after-one k block fill xs ++ ys
append-at k block true all xs ys same = same
append-at k block false all xs ys same = ap (λ (zs : List (ℕ × List ℕ)). (k + 1, block) ∷ zs) same

pub others-append : (k : ℕ) (blocks more : List (List ℕ)) → others k (blocks ++ more) ≡ others k blocks ++ others (k + length blocks) more
others-append k [] more = let same : k ≡ k + 0 = omega arith in ap (λ (n : ℕ). others n more) same
others-append k (block ∷ blocks) more =
    let count : k + 1 + length blocks ≡ k + length (block ∷ blocks) = omega arith in
    append-at k block (is_fill block) (others (k + 1) (blocks ++ more)) (others (k + 1) blocks) (others (k + length (block ∷ blocks)) more)
    (others-append (k + 1) blocks more ∙ ap (λ (n : ℕ). others (k + 1) blocks ++ others n more) count)

-- a list has one part with numbers up to n, if the numbers after it are above n
pub part-once : (n : ℕ) (xs ys us vs : List (ℕ × List ℕ)) → UpTo n xs → After n ys → UpTo n us → After n vs → xs ++ ys ≡ us ++ vs → xs ≡ us
part-once n [] ys [] vs a b c d same = refl
part-once n [] [] (u ∷ us) vs a b c d same = absurd cc
part-once n [] (y ∷ ys) (u ∷ us) vs a b c d same =
    let first : y ≡ u = cc in
    let number = ap (λ (x : ℕ × List ℕ). x.0) first in
    absurd (omega (arith, b.0, c.0, number))
part-once n (x ∷ xs) ys [] [] a b c d same = absurd cc
part-once n (x ∷ xs) ys [] (v ∷ vs) a b c d same =
    let first : x ≡ v = cc in
    let number = ap (λ (x : ℕ × List ℕ). x.0) first in
    absurd (omega (arith, a.0, d.0, number))
part-once n (x ∷ xs) ys (u ∷ us) vs a b c d same =
    let first : x ≡ u = cc in
    let later : xs ++ ys ≡ us ++ vs = cc in
    ap (λ (y : ℕ × List ℕ). y ∷ xs) first
    ∙ ap (λ (zs : List (ℕ × List ℕ)). u ∷ zs) (part-once n xs ys us vs a.1 b c.1 d later)

-- ---- the blocks of the bytes that came

-- all bytes begin with the block that those begin with that came
whole-front : (after_block : Bool) (came left block later : List ℕ) → length block ≡ 200 → trim after_block came ≡ block ++ later
    → trim after_block (came ++ left) ≡ block ++ (later ++ left)
whole-front after_block came left block later len is =
    let long : 2 ≤ length (trim after_block came) = omega (arith, ap length is, length-append block later, len) in
    trim_front after_block came left long ∙ ap (λ (t : List ℕ). t ++ left) is ∙ append_assoc block later left

-- the blocks that came are the first of all blocks, if they are no more than these
pub first-blocks : (over : ℕ) (after_block : Bool) (came left : List ℕ) (blocks : List (List ℕ)) (held : List ℕ) (all : List (List ℕ)) (rest : List ℕ) → Takes after_block came blocks held
    → Frames over after_block (came ++ left) all rest → length blocks ≤ length all → (more : List (List ℕ)) × (all ≡ blocks ++ more)
first-blocks over after_block came left [] held all rest t f few = (all, refl)
first-blocks over after_block came left (b ∷ bs) held [] rest t f few = absurd (omega (arith, few))
first-blocks over after_block came left (b ∷ bs) held (c ∷ cs) rest t f few =
    let parts = whole-front after_block came left b t.0 t.1 t.2 in
    let lens = ap length (sym f.2 ∙ parts) in
    let room : over ≤ length (t.0 ++ left) = omega (arith, lens, length-append c f.0, length-append b (t.0 ++ left), f.1, t.1, f.3) in
    let next = first_frame over after_block (came ++ left) b (t.0 ++ left) (c ∷ cs) rest t.1 parts room f in
    let count = ap length next.1 in
    let on = first-blocks over true t.0 left bs held next.0 rest t.3 next.2 (omega (arith, few, count)) in
    (on.0, next.1 ∙ ap (λ (xs : List (List ℕ)). b ∷ xs) on.1)

-- no more blocks were counted than came
pub counted-came : (after_block : Bool) (came left : List ℕ) (blocks : List (List ℕ)) (held : List ℕ) (all : List (List ℕ)) (rest : List ℕ) → Takes after_block came blocks held
    → Frames 0 after_block (came ++ left) all rest → length blocks ≤ length all
counted-came after_block came left [] held all rest t f = omega arith
counted-came after_block came left (b ∷ bs) held all rest t f =
    let parts = whole-front after_block came left b t.0 t.1 t.2 in
    let next = first_frame 0 after_block (came ++ left) b (t.0 ++ left) all rest t.1 parts (omega arith) f in
    let on = counted-came true t.0 left bs held next.0 rest t.3 next.2 in
    let count = ap length next.1 in
    omega (arith, on, count)
