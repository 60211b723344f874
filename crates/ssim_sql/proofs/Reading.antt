-- A text is read back: no byte of it but the last ends it.
use Rattle.std.proofs.Common.{◌≡◌, ◌∙◌, ◌==◌, ◌++◌, ◌/◌, ◌%◌, ◌+◌, Bool, true, false, nat_lt, cond, ℕ}
use Rattle.std.proofs.Common.{List, [], ◌∷◌, refl, sym, ap, append_assoc, arith}
use Rattle.std.specs.List.{flat_map}
use Rattle.ssim_sql.specs.Literal.{BeginsOtherwise, ReadsBack, character, characters, onto, quote}
use Rattle.ssim_sql.specs.Literal.{quoted_byte, read_from}

-- a byte that is no apostrophe is of the text
other_byte : (b : ℕ) (rest : List ℕ) → (b == 39) ≡ false
    → read_from false (b ∷ rest) ≡ onto b (read_from false rest)
other_byte b rest is =
    ap (λ (t : Bool). cond t (read_from true rest) (onto b (read_from false rest))) is

-- the character of another byte
other_read : (b : ℕ) (rest read left : List ℕ) → (b == 39) ≡ false
    → read_from false rest ≡ (read, left)
    → read_from false (character b ++ rest) ≡ (character b ++ read, left)
other_read b rest read left other is = by (nat_lt b 128)
  where
    high : (192 + b / 64 == 39) ≡ false
    high = grind arith

    low : (128 + b % 64 == 39) ≡ false
    low = grind arith

    by : (u : Bool)
        → read_from false (cond u (b ∷ []) ((192 + b / 64) ∷ (128 + b % 64) ∷ []) ++ rest)
        ≡ (cond u (b ∷ []) ((192 + b / 64) ∷ (128 + b % 64) ∷ []) ++ read, left)
    by true = other_byte b rest other ∙ ap (onto b) is
    by false =
        other_byte (192 + b / 64) ((128 + b % 64) ∷ rest) high
        ∙ ap (onto (192 + b / 64)) (other_byte (128 + b % 64) rest low ∙ ap (onto (128 + b % 64)) is)

-- a byte as it is quoted, before others, is read as its character
byte_read : (b : ℕ) (rest read left : List ℕ) → read_from false rest ≡ (read, left)
    → read_from false (quoted_byte b ++ rest) ≡ (character b ++ read, left)
byte_read b rest read left is = by (b == 39) refl
  where
    by : (t : Bool) → (b == 39) ≡ t
        → read_from false (cond t (39 ∷ 39 ∷ []) (character b) ++ rest) ≡ (character b ++ read, left)
    by true apostrophe =
        let b_is : b ≡ 39 = grind (arith, apostrophe) in
        ap (onto 39) is ∙ ap (λ (c : ℕ). (character c ++ read, left)) (sym b_is)
    by false other = other_read b rest read left other is

-- after an apostrophe, another byte, or none, is not of the text
ended : (rest : List ℕ) → BeginsOtherwise rest → read_from true rest ≡ ([], rest)
ended [] other = refl
ended (b ∷ rest) other =
    let is : (b == 39) ≡ false = grind (arith, other) in
    ap (λ (t : Bool). cond t (onto 39 (read_from false rest)) ([], b ∷ rest)) is

inner : (bytes rest : List ℕ) → BeginsOtherwise rest
    → read_from false (flat_map quoted_byte bytes ++ 39 ∷ rest) ≡ (characters bytes, rest)
inner [] rest other = ended rest other
inner (b ∷ bytes) rest other =
    let later = flat_map quoted_byte bytes in
    ap (read_from false) (append_assoc (quoted_byte b) later (39 ∷ rest))
    ∙ byte_read b (later ++ 39 ∷ rest) (characters bytes) rest (inner bytes rest other)

pub reads_back : ReadsBack
unfolding quote
reads_back bytes rest other =
    ap (read_from false) (append_assoc (flat_map quoted_byte bytes) (39 ∷ []) rest)
    ∙ inner bytes rest other
