-- The lines of a draft, one after another: where one more line puts the beginning and the end.
use Rattle.std.proofs.Common.{◌≡◌, ◌≤◌, ℕ, ◌+◌, Bool, true, false, List, [], ◌∷◌, ◌++◌, Option, Some, None, length, take, refl, sym, ap, subst, ◌∙◌, append_assoc, append-nil, arith, length-append}
use Rattle.std.specs.Prelude.{◌==◌, reverse}
use Rattle.std.specs.List.{cons_option, onto_first}
use Rattle.std.specs.Option.{option_to_list}
use Rattle.std.proofs.lemmas.Bool.Decides.{nat_tests}
use Rattle.std.proofs.lemmas.List.{reverse-append, reverse-reverse, take_all, take-append-le}
use Rattle.std.proofs.lemmas.Grind.{common_steps, flat_map-append}
use Rattle.ssim_mailbox.specs.Lines.{MailLine, drop_while, drop_while_at_end}
use Rattle.ssim_mailbox.specs.declared.free_text.FreeText.{FreeText}
use Rattle.ssim_mailbox.specs.declared.free_text.FreeText.TheVariants.{Ahead}
use Rattle.ssim_mailbox.specs.FreeTexts.{cut_parts, ended, ends_text, free_after}
use Rattle.ssim_mailbox.specs.Texts.{MailText, is_empty, text_from, texts_of, trimmed, written}
use Rattle.ssim_mailbox.specs.internal.Texts.{HasLines, IsFirstNumber, ended_from, number_from, onto_begun, texts_with}

-- ---- the ends of lists

pub kept_first : {X : Type 0} (test : X → Bool) (x : X) (xs : List X) → test x ≡ false
    → drop_while test (x ∷ xs) ≡ x ∷ xs
kept_first test x xs h = rw h refl

pub dropped_first : {X : Type 0} (test : X → Bool) (x : X) (xs : List X) → test x ≡ true
    → drop_while test (x ∷ xs) ≡ drop_while test xs
dropped_first test x xs h = rw h refl

kept_last : {X : Type 0} (test : X → Bool) (xs : List X) (x : X) → test x ≡ false → drop_while_at_end test (xs ++ x ∷ []) ≡ xs ++ x ∷ []
kept_last test xs x h =
    ap (λ ys. reverse (drop_while test ys)) (reverse-append xs (x ∷ [])) ∙ ap reverse (kept_first test x (reverse xs) h)
    ∙ ap reverse (sym (reverse-append xs (x ∷ []))) ∙ reverse-reverse (xs ++ x ∷ [])

dropped_last : {X : Type 0} (test : X → Bool) (xs : List X) (x : X) → test x ≡ true → drop_while_at_end test (xs ++ x ∷ []) ≡ drop_while_at_end test xs
dropped_last test xs x h = ap (λ ys. reverse (drop_while test ys)) (reverse-append xs (x ∷ [])) ∙ ap reverse (dropped_first test x (reverse xs) h)

-- a list that keeps its first element keeps it at the other end, too
abbrev KeepsFirst : {X : Type 0} → (X → Bool) → X → List X → Type 0
KeepsFirst {X} test x xs = (ys : List X) × (drop_while_at_end test (x ∷ xs) ≡ x ∷ ys)

ends_with : {X : Type 0} (test : X → Bool) (y : X) (xs : List X) (x : X) (b : Bool) → test y ≡ b → (ys : List X) × (drop_while test (xs ++ x ∷ []) ≡ ys ++ x ∷ []) → (ys : List X) × (drop_while test ((y ∷ xs) ++ x ∷ []) ≡ ys ++ x ∷ [])
ends_with test y xs x true e h = (h.0, dropped_first test y (xs ++ x ∷ []) e ∙ h.1)
ends_with test y xs x false e h = (y ∷ xs, kept_first test y (xs ++ x ∷ []) e)

dropped_before : {X : Type 0} (test : X → Bool) (xs : List X) (x : X) → test x ≡ false → (ys : List X) × (drop_while test (xs ++ x ∷ []) ≡ ys ++ x ∷ [])
dropped_before test [] x h = ([], kept_first test x [] h)
dropped_before test (y ∷ xs) x h = ends_with test y xs x (test y) refl (dropped_before test xs x h)

keeps_first : {X : Type 0} (test : X → Bool) (x : X) (xs : List X) → test x ≡ false → KeepsFirst test x xs
keeps_first test x xs h =
    let d = dropped_before test (reverse xs) x h in
    (reverse d.0, ap (λ ys. reverse (drop_while test ys)) (reverse-append (x ∷ []) xs) ∙ ap reverse d.1 ∙ reverse-append d.0 (x ∷ []))

pub nil_cons : {X : Type 0} (y : X) (ys : List X) → y ∷ ys ≡ [] → ⊥
nil_cons y ys h = cc

-- the first element that is left does not pass
same_first : {X : Type 0} (x y : X) (xs ys : List X) → x ∷ xs ≡ y ∷ ys → x ≡ y
same_first x y xs ys e = cc

left_at : {X : Type 0} (test : X → Bool) (x : X) (xs : List X) (y : X) (ys : List X) (b : Bool) → test x ≡ b → (drop_while test xs ≡ y ∷ ys → test y ≡ false) → drop_while test (x ∷ xs) ≡ y ∷ ys → test y ≡ false
left_at test x xs y ys true t h e = h (sym (dropped_first test x xs t) ∙ e)
left_at test x xs y ys false t h e = sym (ap test (same_first x y xs ys (sym (kept_first test x xs t) ∙ e))) ∙ t

pub left_first : {X : Type 0} (test : X → Bool) (xs : List X) (y : X) (ys : List X)
    → drop_while test xs ≡ y ∷ ys → test y ≡ false
left_first test [] y ys e = absurd (nil_cons y ys (sym e))
left_first test (x ∷ xs) y ys e = left_at test x xs y ys (test x) refl (left_first test xs y ys) e

-- ---- what is left after one more element

last_at : {X : Type 0} (test : X → Bool) (y : X) (xs : List X) (x : X) (b : Bool) → test y ≡ b → drop_while test (xs ++ x ∷ []) ≡ drop_while test xs ++ x ∷ [] → drop_while test ((y ∷ xs) ++ x ∷ []) ≡ drop_while test (y ∷ xs) ++ x ∷ []
last_at test y xs x true t h = dropped_first test y (xs ++ x ∷ []) t ∙ h ∙ ap (λ zs. zs ++ x ∷ []) (sym (dropped_first test y xs t))
last_at test y xs x false t h = kept_first test y (xs ++ x ∷ []) t ∙ ap (λ zs. zs ++ x ∷ []) (sym (kept_first test y xs t))

-- an element that does not pass is left
with_last : {X : Type 0} (test : X → Bool) (xs : List X) (x : X) → test x ≡ false → drop_while test (xs ++ x ∷ []) ≡ drop_while test xs ++ x ∷ []
with_last test [] x h = kept_first test x [] h
with_last test (y ∷ xs) x h = last_at test y xs x (test y) refl (with_last test xs x h)

none_at : {X : Type 0} (test : X → Bool) (y : X) (xs : List X) (x : X) (b : Bool) → test y ≡ b → (drop_while test xs ≡ [] → drop_while test (xs ++ x ∷ []) ≡ []) → drop_while test (y ∷ xs) ≡ [] → drop_while test ((y ∷ xs) ++ x ∷ []) ≡ []
none_at test y xs x true t h e = dropped_first test y (xs ++ x ∷ []) t ∙ h (sym (dropped_first test y xs t) ∙ e)
none_at test y xs x false t h e = absurd (nil_cons y xs (sym (kept_first test y xs t) ∙ e))

-- an element that passes is not left, if none before it is left
none_left : {X : Type 0} (test : X → Bool) (xs : List X) (x : X) → test x ≡ true → drop_while test xs ≡ [] → drop_while test (xs ++ x ∷ []) ≡ []
none_left test [] x h e = dropped_first test x [] h
none_left test (y ∷ xs) x h e = none_at test y xs x (test y) refl (none_left test xs x h) e

some_at : {X : Type 0} (test : X → Bool) (z : X) (xs : List X) (x y : X) (ys : List X) (b : Bool) → test z ≡ b → (drop_while test xs ≡ y ∷ ys → drop_while test (xs ++ x ∷ []) ≡ (y ∷ ys) ++ x ∷ []) → drop_while test (z ∷ xs) ≡ y ∷ ys
    → drop_while test ((z ∷ xs) ++ x ∷ []) ≡ (y ∷ ys) ++ x ∷ []
some_at test z xs x y ys true t h e = dropped_first test z (xs ++ x ∷ []) t ∙ h (sym (dropped_first test z xs t) ∙ e)
some_at test z xs x y ys false t h e = kept_first test z (xs ++ x ∷ []) t ∙ ap (λ zs. zs ++ x ∷ []) (sym (kept_first test z xs t) ∙ e)

-- after elements that are left each element is
some_left : {X : Type 0} (test : X → Bool) (xs : List X) (x y : X) (ys : List X) → drop_while test xs ≡ y ∷ ys → drop_while test (xs ++ x ∷ []) ≡ (y ∷ ys) ++ x ∷ []
some_left test [] x y ys e = absurd (nil_cons y ys (sym e))
some_left test (z ∷ xs) x y ys e = some_at test z xs x y ys (test z) refl (some_left test xs x y ys) e

-- ---- the bytes of lines

written_last : (lines : List MailLine) (line : MailLine) → written (lines ++ line ∷ []) ≡ written lines ++ (line.bytes ++ 10 ∷ [])
written_last lines line =
    flat_map-append (λ (l : MailLine). l.bytes ++ 10 ∷ []) lines (line ∷ []) ∙ ap (λ bytes. written lines ++ bytes) (append-nil (line.bytes ++ 10 ∷ []))

some_written : (line : MailLine) (lines : List MailLine) → 1 ≤ length (written (line ∷ lines))
some_written line lines = grind (arith, common_steps)

nothing_written : (lines : List MailLine) → [] ≡ written lines → lines ≡ []
nothing_written [] h = refl
nothing_written (line ∷ lines) h = let some = some_written line lines in let none = ap length h in absurd (omega (arith, some, none))

-- ---- one more line

-- the first line of kept ones is the first of all, if there is one
number_before : (n m : ℕ) (bytes : List ℕ) (kept : List MailLine) (line : MailLine) → bytes ≡ written kept → IsFirstNumber n kept → m ≡ number_from bytes n line.number → IsFirstNumber m (kept ++ line ∷ [])
number_before n m [] [] line b h is = is
number_before n m (x ∷ bytes) [] line b h is = absurd (nil_cons x bytes b)
number_before n m [] (first ∷ kept) line b h is = absurd (nil_cons first kept (nothing_written (first ∷ kept) b))
number_before n m (x ∷ bytes) (first ∷ kept) line b h is = is ∙ h

pub filled : (n m : ℕ) (bytes more : List ℕ) (end last : ℕ) (begun : List MailLine) (line : MailLine) → is_empty line ≡ false → m ≡ number_from bytes n line.number → more ≡ bytes ++ (line.bytes ++ 10 ∷ []) → last ≡ length more
    → HasLines n bytes end begun → HasLines m more last (begun ++ line ∷ [])
filled n m bytes more end last begun line full number is ends h =
    let kept = drop_while is_empty begun in
    let left : drop_while is_empty (begun ++ line ∷ []) ≡ kept ++ line ∷ [] = with_last is_empty begun line full in
    let all : more ≡ written (kept ++ line ∷ []) = is ∙ ap (λ bs. bs ++ (line.bytes ++ 10 ∷ [])) h.bytes_are ∙ sym (written_last kept line) in
    record {
      number = subst (IsFirstNumber m) (sym left) (number_before n m bytes kept line h.bytes_are h.number number);
      bytes_are = all ∙ ap written (sym left);
      within = omega (arith, ends);
      text = take_all last more (omega (arith, ends)) ∙ all ∙ ap written (sym (ap (drop_while_at_end is_empty) left ∙ kept_last is_empty kept line full));
    }

-- the same lines are kept
same_left : (n : ℕ) (bytes : List ℕ) (end : ℕ) (begun more : List MailLine) → drop_while is_empty more ≡ drop_while is_empty begun → HasLines n bytes end begun → HasLines n bytes end more
same_left n bytes end begun more e h = record {
  number = subst (IsFirstNumber n) (sym e) h.number;
  bytes_are = h.bytes_are ∙ ap written (sym e);
  within = h.within;
  text = h.text ∙ ap (λ lines. written (drop_while_at_end is_empty lines)) (sym e);
}

pub emptied_none : (n : ℕ) (bytes : List ℕ) (end : ℕ) (begun : List MailLine) (line : MailLine) → bytes ≡ [] → is_empty line ≡ true → HasLines n bytes end begun → HasLines n bytes end (begun ++ line ∷ [])
emptied_none n bytes end begun line is empty h =
    let none = nothing_written (drop_while is_empty begun) (sym is ∙ h.bytes_are) in
    same_left n bytes end begun (begun ++ line ∷ []) (none_left is_empty begun line empty none ∙ sym none) h

pub no_bytes : (bytes : List ℕ) → (length bytes == 0) ≡ true → bytes ≡ []
no_bytes [] h = refl
no_bytes (b ∷ bytes) h = absurd (grind (arith, nat_tests))

number_kept : (n : ℕ) (first : MailLine) (kept : List MailLine) (lines : List MailLine) → lines ≡ first ∷ kept → IsFirstNumber n lines → n ≡ first.number
number_kept n first kept lines e h = subst (IsFirstNumber n) e h

emptied_at : (n : ℕ) (bytes more : List ℕ) (end : ℕ) (begun kept : List MailLine) (line : MailLine) → is_empty line ≡ true → 1 ≤ length bytes → more ≡ bytes ++ 10 ∷ [] → drop_while is_empty begun ≡ kept → HasLines n bytes end begun
    → HasLines n more end (begun ++ line ∷ [])
emptied_at n bytes more end begun [] line empty some is e h =
    let none = ap length (h.bytes_are ∙ ap written e) in absurd (omega (arith, some, none))
emptied_at n bytes more end begun (first ∷ kept) line empty some is e h =
    let lines = first ∷ kept in
    let left = some_left is_empty begun line first kept e in
    let blank : 10 ∷ [] ≡ line.bytes ++ 10 ∷ [] = ap (λ bs. bs ++ 10 ∷ []) (sym (no_bytes line.bytes empty)) in
    let all : more ≡ written (lines ++ line ∷ []) = is ∙ ap (λ bs. bs ++ 10 ∷ []) (h.bytes_are ∙ ap written e) ∙ ap (λ bs. written lines ++ bs) blank ∙ sym (written_last lines line) in
    let longer : length more ≡ length bytes + 1 = ap length is ∙ length-append bytes (10 ∷ []) in
    record {
      number = subst (IsFirstNumber n) (sym left) (number_kept n first kept (drop_while is_empty begun) e h.number);
      bytes_are = all ∙ ap written (sym left);
      within = let within = h.within in omega (arith, within, longer);
      text = ap (take end) is ∙ take-append-le end bytes (10 ∷ []) h.within ∙ h.text ∙ ap written (ap (drop_while_at_end is_empty) e ∙ sym (ap (drop_while_at_end is_empty) left ∙ dropped_last is_empty lines line empty));
    }

pub emptied : (n : ℕ) (bytes more : List ℕ) (end : ℕ) (begun : List MailLine) (line : MailLine) → is_empty line ≡ true → 1 ≤ length bytes → more ≡ bytes ++ 10 ∷ [] → HasLines n bytes end begun
    → HasLines n more end (begun ++ line ∷ [])
emptied n bytes more end begun line empty some is h = emptied_at n bytes more end begun (drop_while is_empty begun) line empty some is refl h

-- ---- the text

text_at : (n : ℕ) (bytes : List ℕ) (end : ℕ) (begun kept : List MailLine) → 1 ≤ length bytes → drop_while is_empty begun ≡ kept → HasLines n bytes end begun
    → Some (record { line = n; bytes = take end bytes }) ≡ text_from (trimmed begun)
text_at n bytes end begun [] some e h = let none = ap length (h.bytes_are ∙ ap written e) in absurd (omega (arith, some, none))
text_at n bytes end begun (first ∷ kept) some e h =
    let keeps = keeps_first is_empty first kept (left_first is_empty begun first kept e) in
    let are : trimmed begun ≡ first ∷ keeps.0 = ap (drop_while_at_end is_empty) e ∙ keeps.1 in
    let number = number_kept n first kept (drop_while is_empty begun) e h.number in
    let bytes_are = h.text ∙ ap written are in
    ap (λ (m : ℕ). Some (a_text m (take end bytes))) number ∙ ap (λ (bs : List ℕ). Some (a_text first.number bs)) bytes_are ∙ sym (ap text_from are)
  where
    a_text : ℕ → List ℕ → MailText
    a_text line bytes = record { line = line; bytes = bytes }

-- a draft with bytes has this text
pub text_found : (n : ℕ) (bytes : List ℕ) (end : ℕ) (begun : List MailLine) → 1 ≤ length bytes → HasLines n bytes end begun
    → Some (record { line = n; bytes = take end bytes }) ≡ text_from (trimmed begun)
text_found n bytes end begun some h = text_at n bytes end begun (drop_while is_empty begun) some refl h

-- ---- the parts

pub ended_some : (free : FreeText) (lines : List MailLine) → (part : List MailLine) × (parts : List (List MailLine)) × (ended free lines ≡ part ∷ parts)
ended_some free [] = ([], [], refl)
ended_some free (line ∷ lines) = choose (ends_text free line.bytes) refl (ended_some (free_after free line.bytes) lines)
  where
    choose : (b : Bool) → ends_text free line.bytes ≡ b → (part : List MailLine) × (parts : List (List MailLine)) × (ended (free_after free line.bytes) lines ≡ part ∷ parts)
        → (part : List MailLine) × (parts : List (List MailLine)) × (ended free (line ∷ lines) ≡ part ∷ parts)
    choose true e h = ([], ended Ahead lines, rw e refl)
    choose false e (part, parts, is) = (line ∷ part, parts, rw (e, is) refl)

begun_parts : (begun : List MailLine) (free : FreeText) (line : MailLine) (parts : List (List MailLine)) → ends_text free line.bytes ≡ false
    → onto_begun begun (ended_from free (onto_first line parts)) ≡ onto_begun (begun ++ line ∷ []) (ended_from (free_after free line.bytes) parts)
begun_parts begun free line [] h = rw h refl
begun_parts begun free line (part ∷ parts) h =
    let (first, later, is) = ended_some (free_after free line.bytes) part in
    rw (h, is) (ap (λ (lines : List MailLine). lines ∷ (later ++ cut_parts parts)) (sym (append_assoc begun (line ∷ []) first)))

-- a line that ends no text is one more of those that have begun
pub one_more : (begun : List MailLine) (free : FreeText) (line : MailLine) (parts : List (List MailLine)) → ends_text free line.bytes ≡ false
    → texts_with begun free (onto_first line parts) ≡ texts_with (begun ++ line ∷ []) (free_after free line.bytes) parts
one_more begun free line parts h = ap texts_of (begun_parts begun free line parts h)

opened : (parts later : List (List MailLine)) → texts_of (parts ++ later) ≡ texts_of (onto_begun [] (parts ++ later))
opened [] [] = refl
opened [] (part ∷ later) = refl
opened (part ∷ parts) later = refl

-- the texts of parts, before any of which no line has begun
pub none_begun : (parts : List (List MailLine)) → texts_of (cut_parts parts) ≡ texts_with [] Ahead parts
none_begun [] = refl
none_begun (part ∷ parts) = opened (ended Ahead part) (cut_parts parts)

one_text : (text : Option MailText) (texts : List MailText) → cons_option text texts ≡ option_to_list text ++ texts
one_text None texts = refl
one_text (Some text) texts = refl

-- lines without bytes are no text
pub no_text : (n : ℕ) (bytes : List ℕ) (end : ℕ) (begun : List MailLine) → bytes ≡ [] → HasLines n bytes end begun → text_from (trimmed begun) ≡ None
no_text n bytes end begun is h = let none = nothing_written (drop_while is_empty begun) (sym is ∙ h.bytes_are) in ap (λ (lines : List MailLine). text_from (drop_while_at_end is_empty lines)) none

-- the lines that have begun are a text, and none has begun below them
pub ended_text : (begun : List MailLine) (free : FreeText) (parts : List (List MailLine)) → texts_with begun free ([] ∷ parts) ≡ option_to_list (text_from (trimmed begun)) ++ texts_of (cut_parts parts)
ended_text begun free parts = ap (λ (lines : List MailLine). texts_of (lines ∷ cut_parts parts)) (append-nil begun) ∙ one_text (text_from (trimmed begun)) (texts_of (cut_parts parts))

-- no line is left
pub last_text : (begun : List MailLine) (free : FreeText) → texts_with begun free ([] ∷ []) ≡ option_to_list (text_from (trimmed begun))
last_text begun free =
    ap (λ (lines : List MailLine). texts_of (lines ∷ [])) (append-nil begun) ∙ one_text (text_from (trimmed begun)) [] ∙ append-nil (option_to_list (text_from (trimmed begun)))
