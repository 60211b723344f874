-- How a line that was written is cut into the parts that were written.
use Rattle.std.proofs.Common.{◌≡◌, ◌≤◌, ◌<◌, ℕ, ◌+◌, ◌-◌, ◌*◌, Bool, true, false, not, ◌&&◌, List, [], ◌∷◌, ◌++◌, length, refl, ap, subst, ◌∙◌, arith, Option, Some, None, fold, leb-true, le-leb}
use Rattle.std.specs.Prelude.{◌==◌, nat_le, if◌then◌else◌}
use Rattle.std.specs.List.{list_all}
use Rattle.std.proofs.lemmas.Bool.{and_parts, and_from}
use Rattle.std.proofs.lemmas.Bool.Decides.{nat_tests}
use Rattle.ssim_values.specs.Characters.{is_digit}
use Rattle.ssim_values.specs.Flight.{number_of}
use Rattle.ssim_text.specs.Bytes.{◌>>=◌, before, from, drop_blanks, word, after_word, is_alphanumeric, is_printable, is_text_of}
use Rattle.ssim_text.specs.Lines.{digits_in}
use Rattle.ssim_text.specs.Left.{is_dropped}
use Rattle.ssim_text.proofs.LeftLemmas.{keep_last}
use Rattle.ssim_text.proofs.Runs.{none_some, some_same, false_true}
use Rattle.ssim_text.proofs.LinesKept.{chosen, other, IsLine, line_behind, line_from, line_blanks}

-- ---- steps that may say nothing

pub bound : {A B : Type 0} (o : Option A) (f : A → Option B) (y : B) → o >>= f ≡ Some y → (x : A) × (o ≡ Some x) × (f x ≡ Some y)
bound None f y h = absurd (none_some y h)
bound (Some x) f y h = (x, refl, h)

-- what holds of what was read holds of the value
pub carried : {A : Type 0} (P : A → Type 0) (x y : A) → Some x ≡ Some y → P x → P y
carried P x y h p = subst P (some_same x y h) p

pub only_if : {A : Type 0} (b : Bool) (o : Option A) (y : A) → (if b then o else None) ≡ Some y → (b ≡ true) × (o ≡ Some y)
only_if true o y h = (refl, h)
only_if false o y h = absurd (none_some y h)

pub only_else : {A : Type 0} (b : Bool) (o : Option A) (y : A) → (if b then None else o) ≡ Some y → (b ≡ false) × (o ≡ Some y)
only_else true o y h = absurd (none_some y h)
only_else false o y h = (refl, h)

-- ---- bytes without a mark

-- the mark is none of the bytes
abbrev pub lacks : ℕ → List ℕ → Bool
lacks mark = list_all (λ b. not (b == mark))

-- printable, and no blank
abbrev pub is_solid : ℕ → Bool
is_solid b = is_printable b && not (b == 32)

pub solid_printable : (b : ℕ) → is_solid b ≡ true → is_printable b ≡ true
solid_printable b h = (and_parts (is_printable b) (not (b == 32)) h).0

pub solid_no_blank : (b : ℕ) → is_solid b ≡ true → not (b == 32) ≡ true
solid_no_blank b h = (and_parts (is_printable b) (not (b == 32)) h).1

pub alphanumeric_solid : (b : ℕ) → is_alphanumeric b ≡ true → is_solid b ≡ true
alphanumeric_solid b h = grind (arith, nat_tests)

pub alphanumeric_no_dot : (b : ℕ) → is_alphanumeric b ≡ true → not (b == 46) ≡ true
alphanumeric_no_dot b h = grind (arith, nat_tests)

pub alphanumeric_no_solidus : (b : ℕ) → is_alphanumeric b ≡ true → not (b == 47) ≡ true
alphanumeric_no_solidus b h = grind (arith, nat_tests)

pub digit_alphanumeric : (b : ℕ) → is_digit b ≡ true → is_alphanumeric b ≡ true
digit_alphanumeric b h = grind (arith, nat_tests)

no_blank_no_end : (b : ℕ) → is_solid b ≡ true → is_dropped b ≡ false
no_blank_no_end b h = grind (arith, nat_tests)

-- bytes that are printable and no blanks are a line
pub solid_line : (xs : List ℕ) → 1 ≤ length xs → list_all is_solid xs ≡ true → IsLine xs
solid_line [] some h = absurd (omega (arith, some))
solid_line (x ∷ []) some h =
    let p = and_parts (is_solid x) (list_all is_solid []) h in
    record {
      some = some;
      printable = and_from (is_printable x) true (solid_printable x p.0) refl;
      ended = keep_last [] x (no_blank_no_end x p.0);
    }
solid_line (x ∷ y ∷ xs) some h =
    let p = and_parts (is_solid x) (list_all is_solid (y ∷ xs)) h in
    line_behind (x ∷ []) (y ∷ xs) (and_from (is_printable x) true (solid_printable x p.0) refl) (solid_line (y ∷ xs) (omega arith) p.1)

-- ---- the position of a mark

same_not : (b : Bool) → not b ≡ true → b ≡ false
same_not true h = absurd (false_true h)
same_not false h = refl

before_on : (mark x : ℕ) (xs : List ℕ) → (x == mark) ≡ false → before mark (x ∷ xs) ≡ x ∷ before mark xs
before_on mark x xs h = other (x == mark) [] (x ∷ before mark xs) h

from_on : (mark x : ℕ) (xs : List ℕ) → (x == mark) ≡ false → from mark (x ∷ xs) ≡ from mark xs
from_on mark x xs h = other (x == mark) (x ∷ xs) (from mark xs) h

mark_here : (mark : ℕ) → (mark == mark) ≡ true
mark_here mark = grind (arith, nat_tests)

pub before_mark : (mark : ℕ) (xs rest : List ℕ) → lacks mark xs ≡ true → before mark (xs ++ mark ∷ rest) ≡ xs
before_mark mark [] rest h = chosen (mark == mark) [] (mark ∷ before mark rest) (mark_here mark)
before_mark mark (x ∷ xs) rest h =
    let p = and_parts (not (x == mark)) (lacks mark xs) h in
    before_on mark x (xs ++ mark ∷ rest) (same_not (x == mark) p.0) ∙ ap (λ (y : List ℕ). x ∷ y) (before_mark mark xs rest p.1)

pub from_mark : (mark : ℕ) (xs rest : List ℕ) → lacks mark xs ≡ true → from mark (xs ++ mark ∷ rest) ≡ mark ∷ rest
from_mark mark [] rest h = chosen (mark == mark) (mark ∷ rest) (from mark rest) (mark_here mark)
from_mark mark (x ∷ xs) rest h =
    let p = and_parts (not (x == mark)) (lacks mark xs) h in
    from_on mark x (xs ++ mark ∷ rest) (same_not (x == mark) p.0) ∙ from_mark mark xs rest p.1

pub before_none : (mark : ℕ) (xs : List ℕ) → lacks mark xs ≡ true → before mark xs ≡ xs
before_none mark [] h = refl
before_none mark (x ∷ xs) h =
    let p = and_parts (not (x == mark)) (lacks mark xs) h in
    before_on mark x xs (same_not (x == mark) p.0) ∙ ap (λ (y : List ℕ). x ∷ y) (before_none mark xs p.1)

pub from_none : (mark : ℕ) (xs : List ℕ) → lacks mark xs ≡ true → from mark xs ≡ []
from_none mark [] h = refl
from_none mark (x ∷ xs) h =
    let p = and_parts (not (x == mark)) (lacks mark xs) h in
    from_on mark x xs (same_not (x == mark) p.0) ∙ from_none mark xs p.1

before_lacks_at : (mark x : ℕ) (t : Bool) (rest : List ℕ) → (x == mark) ≡ t → lacks mark rest ≡ true → lacks mark (if t then [] else x ∷ rest) ≡ true
before_lacks_at mark x true rest e h = refl
before_lacks_at mark x false rest e h = and_from (not (x == mark)) (lacks mark rest) (ap not e) h

-- the bytes before a mark lack it
pub before_lacks : (mark : ℕ) (xs : List ℕ) → lacks mark (before mark xs) ≡ true
before_lacks mark [] = refl
before_lacks mark (x ∷ xs) = before_lacks_at mark x (x == mark) (before mark xs) refl (before_lacks mark xs)

parts_at : (t : Bool) (x : ℕ) (xs a b : List ℕ) → a ++ b ≡ xs → (if t then [] else x ∷ a) ++ (if t then x ∷ xs else b) ≡ x ∷ xs
parts_at true x xs a b h = refl
parts_at false x xs a b h = ap (λ (y : List ℕ). x ∷ y) h

pub before_from : (mark : ℕ) (xs : List ℕ) → before mark xs ++ from mark xs ≡ xs
before_from mark [] = refl
before_from mark (x ∷ xs) = parts_at (x == mark) x xs (before mark xs) (from mark xs) (before_from mark xs)

-- ---- words

no_blank_first : (x : ℕ) (xs : List ℕ) → not (x == 32) ≡ true → drop_blanks (x ∷ xs) ≡ x ∷ xs
no_blank_first x xs h = other (x == 32) (drop_blanks xs) (x ∷ xs) (same_not (x == 32) h)

pub blanks_none : (xs : List ℕ) → lacks 32 xs ≡ true → drop_blanks xs ≡ xs
blanks_none [] h = refl
blanks_none (x ∷ xs) h = no_blank_first x xs (and_parts (not (x == 32)) (lacks 32 xs) h).0

-- a word with no blank before it is not cut
pub no_blanks : (xs rest : List ℕ) → 1 ≤ length xs → lacks 32 xs ≡ true → drop_blanks (xs ++ rest) ≡ xs ++ rest
no_blanks [] rest some h = absurd (omega (arith, some))
no_blanks (x ∷ xs) rest some h = no_blank_first x (xs ++ rest) (and_parts (not (x == 32)) (lacks 32 xs) h).0

blanks_twice_at : (x : ℕ) (t : Bool) (xs : List ℕ) → (x == 32) ≡ t → drop_blanks (drop_blanks xs) ≡ drop_blanks xs → drop_blanks (if t then drop_blanks xs else x ∷ xs) ≡ (if t then drop_blanks xs else x ∷ xs)
blanks_twice_at x true xs e h = h
blanks_twice_at x false xs e h = other (x == 32) (drop_blanks xs) (x ∷ xs) e

pub blanks_twice : (xs : List ℕ) → drop_blanks (drop_blanks xs) ≡ drop_blanks xs
blanks_twice [] = refl
blanks_twice (x ∷ xs) = blanks_twice_at x (x == 32) xs refl (blanks_twice xs)

-- the first word of two parts with a blank between them, and the second part
pub word_first : (xs rest : List ℕ) → lacks 32 xs ≡ true → word (xs ++ 32 ∷ rest) ≡ xs
word_first xs rest h = before_mark 32 xs rest h

pub behind_first : (xs rest : List ℕ) → lacks 32 xs ≡ true → drop_blanks rest ≡ rest → after_word (xs ++ 32 ∷ rest) ≡ rest
behind_first xs rest h k = ap drop_blanks (from_mark 32 xs rest h) ∙ k

pub behind_last : (xs : List ℕ) → lacks 32 xs ≡ true → after_word xs ≡ []
behind_last xs h = ap drop_blanks (from_none 32 xs h)

some_before : (xs : List ℕ) → 1 ≤ length (drop_blanks xs) → 1 ≤ length xs
some_before [] h = h
some_before (x ∷ xs) h = omega arith

rest_some : (text : List ℕ) → 1 ≤ length (after_word text) → 1 ≤ length (from 32 text)
rest_some text h = some_before (from 32 text) h

-- the bytes after the first word of a line are a line
pub line_after : (line : List ℕ) → IsLine line → 1 ≤ length (after_word line) → IsLine (after_word line)
line_after line l some = line_blanks (from 32 line) (line_from 32 line l (rest_some line some)) some

pub word_some : (text : List ℕ) → 1 ≤ length (word text) → 1 ≤ length text
word_some [] h = h
word_some (x ∷ text) h = omega arith

-- ---- numbers

-- what a number stays below that begins below a limit
abbrev grown : ℕ → List ℕ → ℕ
grown limit [] = limit
grown limit (b ∷ text) = grown (limit * 10) text

abbrev with_digit : ℕ → ℕ → ℕ
with_digit n b = n * 10 + (b - 48)

digit_small : (n limit b : ℕ) → is_digit b ≡ true → n < limit → with_digit n b < limit * 10
digit_small n limit b h lt = let most : b ≤ 57 = grind (arith, nat_tests) in omega (arith, most, lt)

below_grown : (n limit : ℕ) (text : List ℕ) → list_all is_digit text ≡ true → n < limit → fold with_digit n text < grown limit text
below_grown n limit [] h lt = lt
below_grown n limit (b ∷ text) h lt =
    let p = and_parts (is_digit b) (list_all is_digit text) h in
    below_grown (with_digit n b) (limit * 10) text p.1 (digit_small n limit b p.0 lt)

pub below_five : (text : List ℕ) → list_all is_digit text ≡ true → length text ≡ 5 → number_of text < 100000
below_five (a ∷ b ∷ c ∷ d ∷ e ∷ []) h l = below_grown 0 1 (a ∷ b ∷ c ∷ d ∷ e ∷ []) h (omega arith)
below_five [] h l = absurd (omega (arith, l))
below_five (a ∷ []) h l = absurd (omega (arith, l))
below_five (a ∷ b ∷ []) h l = absurd (omega (arith, l))
below_five (a ∷ b ∷ c ∷ []) h l = absurd (omega (arith, l))
below_five (a ∷ b ∷ c ∷ d ∷ []) h l = absurd (omega (arith, l))
below_five (a ∷ b ∷ c ∷ d ∷ e ∷ f ∷ text) h l = absurd (omega (arith, l))

pub below_three : (text : List ℕ) → list_all is_digit text ≡ true → length text ≤ 3 → number_of text < 1000
below_three [] h l = omega arith
below_three (a ∷ []) h l = omega (arith, below_grown 0 1 (a ∷ []) h (omega arith))
below_three (a ∷ b ∷ []) h l = omega (arith, below_grown 0 1 (a ∷ b ∷ []) h (omega arith))
below_three (a ∷ b ∷ c ∷ []) h l = below_grown 0 1 (a ∷ b ∷ c ∷ []) h (omega arith)
below_three (a ∷ b ∷ c ∷ d ∷ text) h l = absurd (omega (arith, l))

pub below_four : (text : List ℕ) → list_all is_digit text ≡ true → length text ≤ 4 → number_of text < 10000
below_four [] h l = omega arith
below_four (a ∷ []) h l = omega (arith, below_grown 0 1 (a ∷ []) h (omega arith))
below_four (a ∷ b ∷ []) h l = omega (arith, below_grown 0 1 (a ∷ b ∷ []) h (omega arith))
below_four (a ∷ b ∷ c ∷ []) h l = omega (arith, below_grown 0 1 (a ∷ b ∷ c ∷ []) h (omega arith))
below_four (a ∷ b ∷ c ∷ d ∷ []) h l = below_grown 0 1 (a ∷ b ∷ c ∷ d ∷ []) h (omega arith)
below_four (a ∷ b ∷ c ∷ d ∷ e ∷ text) h l = absurd (omega (arith, l))

-- a text within bounds passes the test
pub within_text : (test : ℕ → Bool) (low high : ℕ) (text : List ℕ) → low ≤ length text → length text ≤ high → list_all test text ≡ true → is_text_of test low high text ≡ true
within_text test low high text from to all =
    and_from (nat_le low (length text) && nat_le (length text) high) (list_all test text) (and_from (nat_le low (length text)) (nat_le (length text) high) (le-leb low (length text) from) (le-leb (length text) high to)) all

-- what digits between two lengths say
pub record AreDigits (low high n : ℕ) (text : List ℕ) : Type 0 where
  pub from : low ≤ length text
  pub to : length text ≤ high
  pub all : list_all is_digit text ≡ true
  pub number : number_of text ≡ n

pub digits_sound : (low high : ℕ) (text : List ℕ) (n : ℕ) → digits_in low high text ≡ Some n → AreDigits low high n text
digits_sound low high text n h =
    let p = only_if (is_text_of is_digit low high text) (Some (number_of text)) n h in
    let q = and_parts (nat_le low (length text) && nat_le (length text) high) (list_all is_digit text) p.0 in
    let r = and_parts (nat_le low (length text)) (nat_le (length text) high) q.0 in
    record { from = leb-true low (length text) r.0; to = leb-true (length text) high r.1; all = q.1; number = some_same (number_of text) n p.1 }

pub digits_complete : (low high : ℕ) (text : List ℕ) (n : ℕ) → AreDigits low high n text → digits_in low high text ≡ Some n
digits_complete low high text n h =
    chosen (is_text_of is_digit low high text) (Some (number_of text)) None
    (within_text is_digit low high text h.from h.to h.all)
    ∙ ap (λ (x : ℕ). Some x) h.number
