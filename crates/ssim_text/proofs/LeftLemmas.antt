-- How a text is cut at LF, and a line at its end.
use Rattle.std.proofs.Common.{◌≡◌, ◌<◌, ◌≤◌, ℕ, ◌+◌, List, [], ◌∷◌, ◌++◌, length, refl, sym, ap, ◌∙◌, append_assoc, Bool, true, false, cond, map, Some, get_or, take, drop, arith, add-one, drop-cons}
use Rattle.std.specs.Prelude.{◌==◌, if◌then◌else◌, ◌-◌, nat_lt}
use Rattle.std.proofs.lemmas.List.{take_more, get_or-map, append-nil, take_all, length-map}
use Rattle.std.specs.List.{onto_first, list_all}
use Rattle.std.proofs.lemmas.Bool.{lt-ltb, le-ltb}
use Rattle.ssim_text.specs.Bytes.{before, from, is_printable}
use Rattle.ssim_text.specs.Left.{is_dropped, onto, without_end, numbered, left_from, pieces, first_unprintable, numbers, place_number}

drop_one : (xs : List ℕ) (b : ℕ) → is_dropped b ≡ true → without_end (xs ++ b ∷ []) ≡ without_end xs
drop_one [] b h = rw h refl
drop_one (x ∷ xs) b h = ap (onto x) (drop_one xs b h)

onto_more : (x : ℕ) (xs : List ℕ) (b : ℕ) → onto x (xs ++ b ∷ []) ≡ x ∷ (xs ++ b ∷ [])
onto_more x [] b = refl
onto_more x (y ∷ ys) b = refl

pub keep_last : (xs : List ℕ) (b : ℕ) → is_dropped b ≡ false → without_end (xs ++ b ∷ []) ≡ xs ++ b ∷ []
keep_last [] b h = rw h refl
keep_last (x ∷ xs) b h = ap (onto x) (keep_last xs b h) ∙ onto_more x xs b

-- what follows the first LF
abbrev pub after : List ℕ → List (List ℕ)
after [] = []
after (x ∷ xs) = pieces xs

one_cut : (b : Bool) (x : ℕ) (xs : List ℕ) → pieces xs ≡ before 10 xs ∷ after (from 10 xs)
    → cond b ([] ∷ pieces xs) (onto_first x (pieces xs)) ≡ (if b then [] else x ∷ before 10 xs) ∷ after (if b then x ∷ xs else from 10 xs)
one_cut true x xs h = refl
one_cut false x xs h = ap (onto_first x) h

pieces_cut : (xs : List ℕ) → pieces xs ≡ before 10 xs ∷ after (from 10 xs)
pieces_cut [] = refl
pieces_cut (x ∷ xs) = one_cut (x == 10) x xs (pieces_cut xs)

numbered_split : (n : ℕ) (line : List ℕ) (later : List (ℕ × List ℕ)) → numbered n line later ≡ numbered n line [] ++ later
numbered_split n [] later = refl
numbered_split n (b ∷ line) later = refl

pub first_piece : (n : ℕ) (rest tail : List ℕ) → from 10 rest ≡ tail → left_from n (pieces rest) ≡ numbered n (without_end (before 10 rest)) [] ++ left_from (n + 1) (after tail)
first_piece n rest tail h =
    ap (left_from n) (pieces_cut rest) ∙ numbered_split n (without_end (before 10 rest)) (left_from (n + 1) (after (from 10 rest)))
    ∙ ap (λ (t : List ℕ). numbered n (without_end (before 10 rest)) [] ++ left_from (n + 1) (after t)) h

-- a further line
pub line_on : (whole done new : List (ℕ × List ℕ)) (n x : ℕ) (rest next : List ℕ) → done ++ left_from n (pieces rest) ≡ whole → new ≡ done ++ numbered n (without_end (before 10 rest)) [] → from 10 rest ≡ x ∷ next → new ++ left_from (n + 1) (pieces next) ≡ whole
line_on whole done new n x rest next h e f =
    ap (λ (y : List (ℕ × List ℕ)). y ++ left_from (n + 1) (pieces next)) e
    ∙ append_assoc done (numbered n (without_end (before 10 rest)) []) (left_from (n + 1) (pieces next))
    ∙ ap (λ (y : List (ℕ × List ℕ)). done ++ y) (sym (first_piece n rest (x ∷ next) f)) ∙ h

none_after : (xs : List (ℕ × List ℕ)) → xs ++ [] ≡ xs
none_after xs = append-nil xs

-- the last line
pub last_line : (whole done new : List (ℕ × List ℕ)) (n : ℕ) (rest : List ℕ) → done ++ left_from n (pieces rest) ≡ whole → new ≡ done ++ numbered n (without_end (before 10 rest)) [] → from 10 rest ≡ [] → new ≡ whole
last_line whole done new n rest h e f =
    e ∙ ap (λ (y : List (ℕ × List ℕ)). done ++ y) (sym (first_piece n rest [] f ∙ none_after (numbered n (without_end (before 10 rest)) []))) ∙ h

one_byte : (t : Bool) (x : ℕ) (ys zs xs : List ℕ) → length ys + length zs ≡ length xs → length (if t then [] else x ∷ ys) + length (if t then x ∷ xs else zs) ≡ length (x ∷ xs)
one_byte true x ys zs xs h = omega arith
one_byte false x ys zs xs h = omega (arith, h)

length_before_from : (b : ℕ) (xs : List ℕ) → length (before b xs) + length (from b xs) ≡ length xs
length_before_from b [] = refl
length_before_from b (x ∷ xs) = one_byte (x == b) x (before b xs) (from b xs) xs (length_before_from b xs)

pub from_shorter : (b x : ℕ) (xs next : List ℕ) → from b xs ≡ x ∷ next → length next + 1 ≤ length xs
from_shorter b x xs next h = omega (arith, length_before_from b xs, ap length h)

-- ---- lines with a byte that is not allowed

pub first_bad : (xs : List (ℕ × List ℕ)) (i : ℕ) (d : ℕ × List ℕ) → i < length xs → first_unprintable (drop i xs) ≡ (if list_all is_printable (get_or xs i d).1 then first_unprintable (drop (i + 1) xs) else Some (get_or xs i d).0)
first_bad xs i d h = let e : drop i xs ≡ get_or xs i d ∷ drop (i + 1) xs = rw (add-one, drop-cons xs i d) refl in ap first_unprintable e

-- ---- the end of a line

last_of : (line : List ℕ) → 1 ≤ length line → line ≡ take (length line - 1) line ++ get_or line (length line - 1) 0 ∷ []
last_of line some =
    let whole : take (length line - 1 + 1) line ≡ line = take_all (length line - 1 + 1) line (omega (arith, some)) in
    sym whole ∙ take_more line (length line - 1) 0 (omega (arith, some))

pub trim_last : (line : List ℕ) → 1 ≤ length line → is_dropped (get_or line (length line - 1) 0) ≡ true → without_end (take (length line - 1) line) ≡ without_end line
trim_last line some h =
    sym (ap without_end (last_of line some) ∙ drop_one (take (length line - 1) line) (get_or line (length line - 1) 0) h)

pub trim_none : (line : List ℕ) → 1 ≤ length line → is_dropped (get_or line (length line - 1) 0) ≡ false → without_end line ≡ line
trim_none line some h =
    let e = last_of line some in
    ap without_end e ∙ keep_last (take (length line - 1) line) (get_or line (length line - 1) 0) h ∙ sym e

-- ---- the number at an index

length-numbers : {X : Type 0} (f : X → ℕ × List ℕ) (xs : List X) → length (numbers (map f xs)) ≡ length xs
length-numbers f xs = simp length-map

number_get : {X : Type 0} (f : X → ℕ × List ℕ) (xs : List X) (i : ℕ) (d : X) → i < length xs → get_or (numbers (map f xs)) i 0 ≡ (f (get_or xs i d)).0
number_get f xs i d lt =
    let long : i < length (map f xs) = omega (arith, lt, length-map xs f) in
    get_or-map (λ (l : ℕ × List ℕ). l.0) (map f xs) i (f d) 0 long ∙ ap (λ (l : ℕ × List ℕ). l.0) (get_or-map f xs i d (f d) lt)

place_below : (ns : List ℕ) (i : ℕ) → i < length ns → place_number ns i ≡ get_or ns i 0
place_below ns i lt = let t : nat_lt i (length ns) ≡ true = lt-ltb i (length ns) lt in rw t refl

place_past : (ns : List ℕ) (i : ℕ) → length ns ≤ i → place_number ns i ≡ get_or ns (length ns - 1) 0 + 1
place_past ns i le = let t : nat_lt i (length ns) ≡ false = le-ltb i (length ns) le in rw t refl

pub place_within : {X : Type 0} (f : X → ℕ × List ℕ) (xs : List X) (i : ℕ) (d : X) → i < length xs → (f (get_or xs i d)).0 ≡ place_number (numbers (map f xs)) i
place_within f xs i d lt = sym (place_below (numbers (map f xs)) i (omega (arith, lt, length-numbers f xs)) ∙ number_get f xs i d lt)

pub place_behind : {X : Type 0} (f : X → ℕ × List ℕ) (xs : List X) (i : ℕ) (d : X) → length xs ≤ i → 1 ≤ length xs → (f (get_or xs (length xs - 1) d)).0 + 1 ≡ place_number (numbers (map f xs)) i
place_behind f xs i d le some =
    let e = length-numbers f xs in
    let lt : length xs - 1 < length xs = omega (arith, some) in
    sym (place_past (numbers (map f xs)) i (omega (arith, le, e)) ∙ ap (λ (n : ℕ). get_or (numbers (map f xs)) (n - 1) 0 + 1) e ∙ ap (λ (n : ℕ). n + 1) (number_get f xs (length xs - 1) d lt))

-- ---- what follows a line

pub tail_cons : (tail : List ℕ) → 1 ≤ length tail → tail ≡ get_or tail 0 0 ∷ take (length tail - 1) (drop 1 tail)
tail_cons [] h = absurd (omega (arith, h))
tail_cons (x ∷ xs) h = let e : take (length (x ∷ xs) - 1) xs ≡ xs = take_all (length (x ∷ xs) - 1) xs (omega arith) in ap (λ (y : List ℕ). x ∷ y) (sym e)

pub tail_none : (tail : List ℕ) → length tail < 1 → tail ≡ []
tail_none [] h = refl
tail_none (x ∷ xs) h = absurd (omega (arith, h))
