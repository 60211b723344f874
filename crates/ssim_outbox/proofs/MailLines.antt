-- A line of a text is a line of a mailbox as it is: it begins with no control character, and ends
-- with no byte that is dropped.
use Rattle.std.proofs.Common.{◌≡◌, ℕ, ◌+◌, Bool, true, false, cond, List, [], ◌∷◌, ◌++◌}
use Rattle.std.proofs.Common.{refl, sym, ap, ◌∙◌, append_assoc, arith}
use Rattle.std.proofs.lemmas.List.{reverse-append, reverse-reverse}
use Rattle.std.proofs.lemmas.Bool.{and_parts}
use Rattle.std.proofs.lemmas.Bool.Decides.{nat_tests}
use Rattle.std.specs.Prelude.{◌==◌, if◌then◌else◌, reverse}
use Rattle.std.specs.List.{list_all, onto_first}
use Rattle.ssim_text.specs.Bytes.{is_printable}
use Rattle.ssim_text.specs.Left.{is_dropped, pieces}
use Rattle.ssim_text.proofs.LinesKept.{IsLine, line_tail}
use Rattle.ssim_mailbox.specs.Lines.{MailLine, dot_after, drop_while, drop_while_at_end, is_control}
use Rattle.ssim_mailbox.specs.Lines.{is_dropped_at_end, lines_from, shown}

-- ---- nothing is dropped

-- a list ends with an element that does not pass the test
pub record KeepsEnd {X : Type 0} (test : X → Bool) (xs : List X) : Type 0 where
  pub init : List X
  pub last : X
  pub whole : xs ≡ init ++ last ∷ []
  pub kept : test last ≡ false

pub keep_front : {X : Type 0} (test : X → Bool) (x : X) (xs : List X) → test x ≡ false
    → drop_while test (x ∷ xs) ≡ x ∷ xs
keep_front test x xs h = rw h refl

keep_last : {X : Type 0} (test : X → Bool) (xs : List X) (x : X) → test x ≡ false
    → drop_while_at_end test (xs ++ x ∷ []) ≡ xs ++ x ∷ []
keep_last test xs x h =
    ap (λ ys. reverse (drop_while test ys)) (reverse-append xs (x ∷ []))
    ∙ ap reverse (keep_front test x (reverse xs) h)
    ∙ ap reverse (sym (reverse-append xs (x ∷ [])))
    ∙ reverse-reverse (xs ++ x ∷ [])

pub keep_end : {X : Type 0} (test : X → Bool) (xs : List X) → KeepsEnd test xs
    → drop_while_at_end test xs ≡ xs
keep_end test xs h =
    ap (drop_while_at_end test) h.whole ∙ keep_last test h.init h.last h.kept ∙ sym h.whole

-- an end that is kept, after one more element
pub one_before : {X : Type 0} (test : X → Bool) (x : X) (xs : List X) → KeepsEnd test xs
    → KeepsEnd test (x ∷ xs)
one_before test x xs h =
    record { init = x ∷ h.init; last = h.last; whole = ap (λ ys. x ∷ ys) h.whole; kept = h.kept }

-- ---- the end of a line

not_dropped : (b : ℕ) → is_printable b ≡ true → is_dropped b ≡ false → is_dropped_at_end b ≡ false
not_dropped b h k = grind (arith, nat_tests)

nil_cons : (x : ℕ) (xs : List ℕ) → [] ≡ x ∷ xs → ⊥
nil_cons x xs h = cc

kept_alone : (b : ℕ) (t : Bool) → is_dropped b ≡ t → (if t then [] else b ∷ []) ≡ b ∷ []
    → is_dropped b ≡ false
kept_alone b true e h = absurd (nil_cons b [] h)
kept_alone b false e h = e

line_end : (line : List ℕ) → IsLine line → KeepsEnd is_dropped_at_end line
line_end [] h = let some = h.some in absurd (omega (arith, some))
line_end (b ∷ []) h =
    let printable = (and_parts (is_printable b) true h.printable).0 in
    record {
      init = [];
      last = b;
      whole = refl;
      kept = not_dropped b printable (kept_alone b (is_dropped b) refl h.ended);
    }
line_end (b ∷ c ∷ line) h =
    one_before is_dropped_at_end b (c ∷ line)
    (line_end (c ∷ line) (line_tail b (c ∷ line) h (omega arith)))

not_control : (b : ℕ) → is_printable b ≡ true → is_control b ≡ false
not_control b h = grind (arith, nat_tests)

-- no byte of a line of a text is dropped
pub shown_whole : (line : List ℕ) → IsLine line → shown line ≡ line
shown_whole [] h = refl
shown_whole (b ∷ line) h =
    let printable = (and_parts (is_printable b) (list_all is_printable line) h.printable).0 in
    ap (drop_while_at_end is_dropped_at_end) (keep_front is_control b line (not_control b printable))
    ∙ keep_end is_dropped_at_end (b ∷ line) (line_end (b ∷ line) h)

-- ---- the first line

not_ended : (b : ℕ) → is_printable b ≡ true → (b == 10) ≡ false
not_ended b h = grind (arith, nat_tests)

piece_on : (t : Bool) (x : ℕ) (parts : List (List ℕ)) → t ≡ false
    → cond t ([] ∷ parts) (onto_first x parts) ≡ onto_first x parts
piece_on t x parts h = rw h refl

first_piece : (line rest : List ℕ) → list_all is_printable line ≡ true
    → pieces (line ++ 10 ∷ rest) ≡ line ∷ pieces rest
first_piece [] rest h = refl
first_piece (x ∷ line) rest h =
    let p = and_parts (is_printable x) (list_all is_printable line) h in
    piece_on (x == 10) x (pieces (line ++ 10 ∷ rest)) (not_ended x p.0)
    ∙ ap (onto_first x) (first_piece line rest p.1)

-- the line of a mailbox with this number and these bytes
abbrev pub mail_line : ℕ → Bool → List ℕ → MailLine
mail_line n under_dot line = record { number = n; bytes = line; under_dot = under_dot }

-- a line of a text, and LF, are the first line of a mailbox
pub first_line : (n : ℕ) (under_dot : Bool) (line rest : List ℕ) → IsLine line
    → lines_from n under_dot (pieces ((line ++ 10 ∷ []) ++ rest))
    ≡ mail_line n under_dot line ∷ lines_from (n + 1) (dot_after under_dot line) (pieces rest)
first_line n under_dot line rest h =
    ap (λ (x : List ℕ). lines_from n under_dot (pieces x)) (append_assoc line (10 ∷ []) rest)
    ∙ ap (lines_from n under_dot) (first_piece line rest h.printable)
    ∙ ap (λ (x : List ℕ). mail_line n under_dot x
    ∷ lines_from (n + 1) (dot_after under_dot x) (pieces rest)) (shown_whole line h)
