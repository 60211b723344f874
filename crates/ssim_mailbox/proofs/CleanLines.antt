-- The lines of a mailbox are as they are read: what is dropped at both ends of a line is dropped once,
-- and none has an LF. So lines that are written, each with LF after it, are these lines.
use Rattle.std.proofs.Common.{◌≡◌, ◌∙◌, ℕ, Bool, true, false, List, [], ◌∷◌, ◌++◌, codes, map, refl}
use Rattle.std.proofs.Common.{sym, ap, subst, append_assoc}
use Rattle.std.proofs.lemmas.List.{reverse-append, reverse-reverse}
use Rattle.std.proofs.lemmas.List.Elements.{All-from_recursion}
use Rattle.std.proofs.lemmas.List.Splits.{slice_split_at}
use Rattle.std.specs.Prelude.{◌==◌, if◌then◌else◌, reverse}
use Rattle.std.specs.List.{AllByRecursion, onto_first, slice_split}
use Rattle.ssim_mailbox.specs.Lines.{drop_while, drop_while_at_end, is_control, is_dropped_at_end}
use Rattle.ssim_mailbox.specs.Lines.{shown}
use Rattle.ssim_mailbox.proofs.Drafts.{dropped_first, kept_first, left_first}
use Rattle.ssim_mailbox.proofs.LineBytes.{ByteLines, flat, lines_of}

-- ---- what is dropped at both ends is dropped once

dropped_again : {X : Type 0} (test : X → Bool) (xs : List X)
    → drop_while test (drop_while test xs) ≡ drop_while test xs
dropped_again test [] = refl
dropped_again test (x ∷ xs) = by (test x) refl (dropped_again test xs)
  where
    by : (b : Bool) → test x ≡ b → drop_while test (drop_while test xs) ≡ drop_while test xs
        → drop_while test (drop_while test (x ∷ xs)) ≡ drop_while test (x ∷ xs)
    by true e h =
        ap (drop_while test) (dropped_first test x xs e) ∙ h ∙ sym (dropped_first test x xs e)
    by false e h = ap (drop_while test) (kept_first test x xs e)

end_again : {X : Type 0} (test : X → Bool) (xs : List X)
    → drop_while_at_end test (drop_while_at_end test xs) ≡ drop_while_at_end test xs
end_again test xs =
    ap (λ ys. reverse (drop_while test ys)) (reverse-reverse (drop_while test (reverse xs)))
    ∙ ap reverse (dropped_again test (reverse xs))

-- what is left, and what was dropped before it
dropped_before : {X : Type 0} (test : X → Bool) (xs : List X) → (ys : List X)
    × (xs ≡ ys ++ drop_while test xs)
dropped_before test [] = ([], refl)
dropped_before {X = X} test (x ∷ xs) = by (test x) refl (dropped_before test xs)
  where
    by : (b : Bool) → test x ≡ b → (ys : List X) × (xs ≡ ys ++ drop_while test xs) → (ys : List X)
        × (x ∷ xs ≡ ys ++ drop_while test (x ∷ xs))
    by true e h =
        (x ∷ h.0, ap (λ zs. x ∷ zs) h.1 ∙ ap (λ zs. (x ∷ h.0) ++ zs) (sym (dropped_first test x xs e)))
    by false e h = ([], sym (kept_first test x xs e))

pub dropped_below : {X : Type 0} (test : X → Bool) (xs : List X) → (ys : List X)
    × (xs ≡ drop_while_at_end test xs ++ ys)
dropped_below test xs =
    let h = dropped_before test (reverse xs) in (
      reverse h.0,
      sym (reverse-reverse xs) ∙ ap reverse h.1
          ∙ reverse-append h.0 (drop_while test (reverse xs)),
    )

pub both_again : {X : Type 0} (front back : X → Bool) (xs : List X)
    → drop_while_at_end back (drop_while front (drop_while_at_end back (drop_while front xs))) ≡
    drop_while_at_end back (drop_while front xs)
both_again {X = X} front back xs = by (drop_while_at_end back (drop_while front xs)) refl
  where
    by : (ys : List X) → drop_while_at_end back (drop_while front xs) ≡ ys
        → drop_while_at_end back (drop_while front (drop_while_at_end back (drop_while front xs))) ≡
        drop_while_at_end back (drop_while front xs)
    by [] e = ap (λ zs. drop_while_at_end back (drop_while front zs)) e ∙ sym e
    by (y ∷ ys) e =
        let rest = dropped_below back (drop_while front xs) in
        let first = left_first front xs y (ys ++ rest.0) (rest.1 ∙ ap (λ zs. zs ++ rest.0) e) in
        ap (λ zs. drop_while_at_end back (drop_while front zs)) e
        ∙ ap (drop_while_at_end back) (kept_first front y ys first ∙ sym e)
        ∙ end_again back (drop_while front xs)

-- ---- lines as they are read

pub record IsClean (line : List ℕ) : Type 0 where
  pub as_shown : shown line ≡ line
  pub without_end : AllByRecursion (λ b. (b == 10) ≡ false) line

all_in_front : {X : Type 0} (P : X → Type 0) (xs ys : List X) → AllByRecursion P (xs ++ ys)
    → AllByRecursion P xs
all_in_front P [] ys h = tt
all_in_front P (x ∷ xs) ys h = (h.0, all_in_front P xs ys h.1)

all_behind : {X : Type 0} (P : X → Type 0) (xs ys : List X) → AllByRecursion P (xs ++ ys)
    → AllByRecursion P ys
all_behind P [] ys h = h
all_behind P (x ∷ xs) ys h = all_behind P xs ys h.1

pub all_joined : {X : Type 0} (P : X → Type 0) (xs ys : List X) → AllByRecursion P xs
    → AllByRecursion P ys → AllByRecursion P (xs ++ ys)
all_joined P [] ys h k = k
all_joined P (x ∷ xs) ys h k = (h.0, all_joined P xs ys h.1 k)

clean : (piece : List ℕ) → AllByRecursion (λ b. (b == 10) ≡ false) piece → IsClean (shown piece)
clean piece h =
    let front = dropped_before is_control piece in
    let back = dropped_below is_dropped_at_end (drop_while is_control piece) in
    let none = λ (b : ℕ). (b == 10) ≡ false in
    record {
      as_shown = both_again is_control is_dropped_at_end piece;
      without_end =
          all_in_front none (shown piece) back.0
          (subst (AllByRecursion none) back.1
          (all_behind none front.0 (drop_while is_control piece)
          (subst (AllByRecursion none) front.1 h)));
    }

pub clean_lines : (bytes : List ℕ)
    → AllByRecursion (AllByRecursion (λ b. (b == 10) ≡ false)) (slice_split (λ b. b == 10) bytes)
clean_lines [] = (tt, tt)
clean_lines (b ∷ bytes) = by (b == 10) refl (slice_split (λ b. b == 10) bytes) (clean_lines bytes)
  where
    by : (t : Bool) → (b == 10) ≡ t → (ps : ByteLines)
        → AllByRecursion (AllByRecursion (λ b. (b == 10) ≡ false)) ps
        → AllByRecursion (AllByRecursion (λ b. (b == 10) ≡ false))
        (if t then [] ∷ ps else onto_first b ps)
    by true e ps h = (tt, h)
    by false e [] h = ((e, tt), tt)
    by false e (p ∷ ps) h = ((e, h.0), h.1)

pub all_clean : (pieces : ByteLines) → AllByRecursion (AllByRecursion (λ b. (b == 10) ≡ false)) pieces
    → AllByRecursion IsClean (map shown pieces)
all_clean [] h = tt
all_clean (piece ∷ pieces) h = (clean piece h.0, all_clean pieces h.1)

-- ---- the lines of written lines

-- the line that ends a text
abbrev pub end_line : List ℕ
end_line = codes "NNNN"

pub line_first : (line rest : List ℕ) → IsClean line
    → lines_of ((line ++ 10 ∷ []) ++ rest) ≡ line ∷ lines_of rest
line_first line rest h =
    ap lines_of (append_assoc line (10 ∷ []) rest)
    ∙ ap (map shown) (slice_split_at (λ b. b == 10) line 10 rest
    (All-from_recursion (λ b. (b == 10) ≡ false) line h.without_end) refl)
    ∙ ap (λ (x : List ℕ). x ∷ lines_of rest) h.as_shown

pub lines_first : (lines : ByteLines) (rest : List ℕ) → AllByRecursion IsClean lines
    → lines_of (flat lines ++ rest) ≡ lines ++ lines_of rest
lines_first [] rest h = refl
lines_first (line ∷ lines) rest h =
    ap lines_of (append_assoc (line ++ 10 ∷ []) (flat lines) rest)
    ∙ line_first line (flat lines ++ rest) h.0
    ∙ ap (λ (ls : ByteLines). line ∷ ls) (lines_first lines rest h.1)

pub end_clean : IsClean end_line
end_clean = record { as_shown = refl; without_end = (refl, (refl, (refl, (refl, tt)))) }
