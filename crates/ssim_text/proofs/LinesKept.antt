-- What is left of a line is a line; written lines, each followed by LF, are left as they are.
use Rattle.std.proofs.Common.{◌≡◌, ◌≤◌, ℕ, zero, suc, ◌+◌, Bool, true, false, cond, List, [], ◌∷◌, ◌++◌, length, map, refl, sym, ap, ◌∙◌, append_assoc, arith, None, Some, Option, drop, take, length-drop}
use Rattle.std.specs.Prelude.{◌==◌, if◌then◌else◌}
use Rattle.std.specs.List.{AllByRecursion, list_all, onto_first}
use Rattle.std.proofs.lemmas.Bool.{and_parts, and_from}
use Rattle.std.proofs.lemmas.Bool.Decides.{nat_tests}
use Rattle.ssim_text.specs.Bytes.{before, from, drop_blanks, is_printable}
use Rattle.ssim_text.specs.Left.{IsTextLine, is_dropped, onto, without_end, numbered, left_from, pieces, texts, first_unprintable}
use Rattle.ssim_text.specs.Grammar.{IsSpelled, Part, Spells}
use Rattle.ssim_text.specs.Canonical.{part_text, written}
use Rattle.ssim_text.proofs.LeftLemmas.{keep_last}
use Rattle.ssim_text.proofs.Runs.{none_some}

-- a line as it may be left
abbrev pub IsLine : List ℕ → Type 0
IsLine = IsTextLine

-- the written form of the part spells it, and is a line
pub record ReadsAgain (p : Part) : Type 0 where
  pub spelled : Spells p (part_text p)
  pub line : IsLine (part_text p)

pub spelled_by : (p : Part) → ReadsAgain p → IsSpelled p
spelled_by p h = record { line = part_text p; is_line = h.line; spells = h.spelled }

-- ---- tests of bytes

pub chosen : {A : Type 0} (b : Bool) (x y : A) → b ≡ true → (if b then x else y) ≡ x
chosen b x y h = rw h refl

pub other : {A : Type 0} (b : Bool) (x y : A) → b ≡ false → (if b then x else y) ≡ y
other b x y h = rw h refl

pub all_join : (f : ℕ → Bool) (xs ys : List ℕ) → list_all f xs ≡ true → list_all f ys ≡ true → list_all f (xs ++ ys) ≡ true
all_join f [] ys h k = k
all_join f (x ∷ xs) ys h k =
    let p = and_parts (f x) (list_all f xs) h in
    and_from (f x) (list_all f (xs ++ ys)) p.0 (all_join f xs ys p.1 k)

pub all_more : (f g : ℕ → Bool) → ((b : ℕ) → f b ≡ true → g b ≡ true) → (xs : List ℕ) → list_all f xs ≡ true → list_all g xs ≡ true
all_more f g m [] h = refl
all_more f g m (x ∷ xs) h =
    let p = and_parts (f x) (list_all f xs) h in
    and_from (g x) (list_all g xs) (m x p.0) (all_more f g m xs p.1)

all_before_at : (f : ℕ → Bool) (t : Bool) (x : ℕ) (ys : List ℕ) → f x ≡ true → list_all f ys ≡ true → list_all f (if t then [] else x ∷ ys) ≡ true
all_before_at f true x ys h k = refl
all_before_at f false x ys h k = and_from (f x) (list_all f ys) h k

-- what holds of all bytes holds of those before a mark
pub all_before : (f : ℕ → Bool) (mark : ℕ) (xs : List ℕ) → list_all f xs ≡ true → list_all f (before mark xs) ≡ true
all_before f mark [] h = refl
all_before f mark (x ∷ xs) h =
    let p = and_parts (f x) (list_all f xs) h in
    all_before_at f (x == mark) x (before mark xs) p.0 (all_before f mark xs p.1)

pub all_take : (f : ℕ → Bool) (n : ℕ) (xs : List ℕ) → list_all f xs ≡ true → list_all f (take n xs) ≡ true
all_take f zero xs h = refl
all_take f (suc n) [] h = refl
all_take f (suc n) (x ∷ xs) h =
    let p = and_parts (f x) (list_all f xs) h in
    and_from (f x) (list_all f (take n xs)) p.0 (all_take f n xs p.1)

pub all_drop : (f : ℕ → Bool) (n : ℕ) (xs : List ℕ) → list_all f xs ≡ true → list_all f (drop n xs) ≡ true
all_drop f zero xs h = h
all_drop f (suc n) [] h = refl
all_drop f (suc n) (x ∷ xs) h = all_drop f n xs (and_parts (f x) (list_all f xs) h).1

-- ---- the end of a line

none_or_one : (b : ℕ) (d : Bool) → is_dropped b ≡ d → without_end (if d then [] else b ∷ []) ≡ (if d then [] else b ∷ [])
none_or_one b true e = refl
none_or_one b false e = keep_last [] b e

onto_ended : (b : ℕ) (rest : List ℕ) → without_end rest ≡ rest → without_end (onto b rest) ≡ onto b rest
onto_ended b [] h = none_or_one b (is_dropped b) refl
onto_ended b (c ∷ rest) h = ap (onto b) h

without_end_twice : (line : List ℕ) → without_end (without_end line) ≡ without_end line
without_end_twice [] = refl
without_end_twice (b ∷ rest) = onto_ended b (without_end rest) (without_end_twice rest)

onto_some : (b : ℕ) (rest : List ℕ) → 1 ≤ length rest → onto b rest ≡ b ∷ rest
onto_some b [] h = absurd (omega (arith, h))
onto_some b (c ∷ rest) h = refl

nil_cons : (x : ℕ) (xs : List ℕ) → [] ≡ x ∷ xs → ⊥
nil_cons x xs h = cc

tails_same : (x y : ℕ) (xs ys : List ℕ) → x ∷ xs ≡ y ∷ ys → xs ≡ ys
tails_same x y xs ys h = cc

onto_none : (b c : ℕ) (rest : List ℕ) (d : Bool) → (if d then [] else b ∷ []) ≡ b ∷ c ∷ rest → [] ≡ c ∷ rest
onto_none b c rest true h = absurd (nil_cons b (c ∷ rest) h)
onto_none b c rest false h = tails_same b b [] (c ∷ rest) h

ended_after : (b c : ℕ) (rest kept : List ℕ) → onto b kept ≡ b ∷ c ∷ rest → kept ≡ c ∷ rest
ended_after b c rest [] h = onto_none b c rest (is_dropped b) h
ended_after b c rest (x ∷ kept) h = tails_same b b (x ∷ kept) (c ∷ rest) h

pub line_tail : (b : ℕ) (rest : List ℕ) → IsLine (b ∷ rest) → 1 ≤ length rest → IsLine rest
line_tail b [] h some = absurd (omega (arith, some))
line_tail b (c ∷ rest) h some = record {
  some = some;
  printable = (and_parts (is_printable b) (list_all is_printable (c ∷ rest)) h.printable).1;
  ended = ended_after b c rest (without_end (c ∷ rest)) h.ended;
}

-- printable bytes followed by a line are a line
pub line_behind : (xs ys : List ℕ) → list_all is_printable xs ≡ true → IsLine ys → IsLine (xs ++ ys)
line_behind [] ys h l = l
line_behind (x ∷ xs) ys h l =
    let p = and_parts (is_printable x) (list_all is_printable xs) h in
    let rest = line_behind xs ys p.1 l in
    record {
      some = omega arith;
      printable = and_from (is_printable x) (list_all is_printable (xs ++ ys)) p.0 rest.printable;
      ended = ap (onto x) rest.ended ∙ onto_some x (xs ++ ys) rest.some;
    }

from_at : (mark : ℕ) (t : Bool) (x : ℕ) (xs : List ℕ) → IsLine (x ∷ xs) → (1 ≤ length (from mark xs) → IsLine (from mark xs)) → 1 ≤ length (if t then x ∷ xs else from mark xs) → IsLine (if t then x ∷ xs else from mark xs)
from_at mark true x xs h k some = h
from_at mark false x xs h k some = k some

-- a part of a line that goes to its end is a line
pub line_from : (mark : ℕ) (xs : List ℕ) → IsLine xs → 1 ≤ length (from mark xs) → IsLine (from mark xs)
line_from mark [] h some = h
line_from mark (x ∷ []) h some = from_at mark (x == mark) x [] h (λ n. absurd (omega (arith, n))) some
line_from mark (x ∷ y ∷ xs) h some = from_at mark (x == mark) x (y ∷ xs) h (line_from mark (y ∷ xs) (line_tail x (y ∷ xs) h (omega arith))) some

blanks_at : (t : Bool) (x : ℕ) (xs : List ℕ) → IsLine (x ∷ xs) → (1 ≤ length (drop_blanks xs) → IsLine (drop_blanks xs)) → 1 ≤ length (if t then drop_blanks xs else x ∷ xs) → IsLine (if t then drop_blanks xs else x ∷ xs)
blanks_at true x xs h k some = k some
blanks_at false x xs h k some = h

pub line_blanks : (xs : List ℕ) → IsLine xs → 1 ≤ length (drop_blanks xs) → IsLine (drop_blanks xs)
line_blanks [] h some = h
line_blanks (x ∷ []) h some = blanks_at (x == 32) x [] h (λ n. absurd (omega (arith, n))) some
line_blanks (x ∷ y ∷ xs) h some = blanks_at (x == 32) x (y ∷ xs) h (line_blanks (y ∷ xs) (line_tail x (y ∷ xs) h (omega arith))) some

none_left : (n : ℕ) (xs : List ℕ) → length xs ≡ 0 → 1 ≤ length (drop n xs) → ⊥
none_left n xs e h = omega (arith, e, h, length-drop n xs)

pub line_drop : (n : ℕ) (xs : List ℕ) → IsLine xs → 1 ≤ length (drop n xs) → IsLine (drop n xs)
line_drop zero xs h some = h
line_drop (suc n) [] h some = h
line_drop (suc n) (x ∷ []) h some = absurd (none_left n [] refl some)
line_drop (suc n) (x ∷ y ∷ xs) h some = line_drop n (y ∷ xs) (line_tail x (y ∷ xs) h (omega arith)) some

-- ---- the lines left of a text are lines

some_if : (t : Bool) (o : Option ℕ) (n : ℕ) → (if t then o else Some n) ≡ None → (t ≡ true) × (o ≡ None)
some_if true o n h = (refl, h)
some_if false o n h = absurd (none_some n (sym h))

numbered_lines : (n : ℕ) (line : List ℕ) (later : List (ℕ × List ℕ)) → without_end line ≡ line → first_unprintable (numbered n line later) ≡ None
    → (first_unprintable later ≡ None → AllByRecursion IsLine (texts later)) → AllByRecursion IsLine (texts (numbered n line later))
numbered_lines n [] later e h k = k h
numbered_lines n (b ∷ line) later e h k =
    let p = some_if (list_all is_printable (b ∷ line)) (first_unprintable later) n h in
    (record { some = omega arith; printable = p.0; ended = e }, k p.1)

pub left_lines : (n : ℕ) (lines : List (List ℕ)) → first_unprintable (left_from n lines) ≡ None → AllByRecursion IsLine (texts (left_from n lines))
left_lines n [] h = tt
left_lines n (line ∷ lines) h = numbered_lines n (without_end line) (left_from (n + 1) lines) (without_end_twice line) h (left_lines (n + 1) lines)

-- ---- written lines are left

not_ended : (b : ℕ) → is_printable b ≡ true → (b == 10) ≡ false
not_ended b h = grind (arith, nat_tests)

piece_on : (t : Bool) (x : ℕ) (parts : List (List ℕ)) → t ≡ false → cond t ([] ∷ parts) (onto_first x parts) ≡ onto_first x parts
piece_on t x parts h = rw h refl

-- a line without LF, and LF, are the first piece
piece_cut : (line rest : List ℕ) → list_all is_printable line ≡ true → pieces (line ++ 10 ∷ rest) ≡ line ∷ pieces rest
piece_cut [] rest h = refl
piece_cut (x ∷ line) rest h =
    let p = and_parts (is_printable x) (list_all is_printable line) h in
    piece_on (x == 10) x (pieces (line ++ 10 ∷ rest)) (not_ended x p.0) ∙ ap (onto_first x) (piece_cut line rest p.1)

numbered_some : (n : ℕ) (line : List ℕ) (later : List (ℕ × List ℕ)) → 1 ≤ length line → numbered n line later ≡ (n, line) ∷ later
numbered_some n [] later h = absurd (omega (arith, h))
numbered_some n (b ∷ line) later h = refl

line_left : (n : ℕ) (line rest : List ℕ) → IsLine line → left_from n (pieces ((line ++ 10 ∷ []) ++ rest)) ≡ (n, line) ∷ left_from (n + 1) (pieces rest)
line_left n line rest h =
    ap (λ (x : List ℕ). left_from n (pieces x)) (append_assoc line (10 ∷ []) rest)
    ∙ ap (left_from n) (piece_cut line rest h.printable)
    ∙ ap (λ (x : List ℕ). numbered n x (left_from (n + 1) (pieces rest))) h.ended
    ∙ numbered_some n line (left_from (n + 1) (pieces rest)) h.some

pub written_left : (n : ℕ) (parts : List Part) → AllByRecursion (λ p. IsLine (part_text p)) parts → texts (left_from n (pieces (written parts))) ≡ map part_text parts
written_left n [] h = refl
written_left n (p ∷ parts) h = ap texts (line_left n (part_text p) (written parts) h.0) ∙ ap (λ (x : List (List ℕ)). part_text p ∷ x) (written_left (n + 1) parts h.1)

pub written_printable : (n : ℕ) (parts : List Part) → AllByRecursion (λ p. IsLine (part_text p)) parts → first_unprintable (left_from n (pieces (written parts))) ≡ None
written_printable n [] h = refl
written_printable n (p ∷ parts) h =
    ap first_unprintable (line_left n (part_text p) (written parts) h.0)
    ∙ chosen (list_all is_printable (part_text p)) (first_unprintable (left_from (n + 1) (pieces (written parts)))) (Some n) h.0.printable
    ∙ written_printable (n + 1) parts h.1
