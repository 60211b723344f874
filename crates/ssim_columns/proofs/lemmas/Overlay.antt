-- Texts written over parts of a list: each is at its position afterwards, and the other bytes are
-- as before.
use Rattle.std.proofs.Common.{◌≡◌, ℕ, ◌+◌, ◌-◌, ◌≤◌, Bool, true, ◌&&◌, ◌||◌, List, [], ◌∷◌, ◌++◌, length, take, drop, refl, sym, ap, ◌∙◌, append_assoc, IsTrue, arith, inl, inr}
use Rattle.std.specs.Prelude.{slice_range, nat_le}
use Rattle.std.specs.List.{concat}
use Rattle.std.proofs.lemmas.Bool.Decides.{nat_tests}
use Rattle.std.proofs.Math.Seq.{take-add, take-length}
use Rattle.std.proofs.lemmas.List.{drop_all, drop_at, drop-drop, length-append, length-drop, length-take-le, take-append-drop, take_at, append-nil}
use Rattle.ssim_columns.specs.clauses.Columns.{over}
use Rattle.ssim_columns.proofs.lemmas.Choices.{pick}
use Rattle.ssim_columns.proofs.lemmas.Places.{Placed, part_at, sum_of}
use Rattle.ssim_columns.proofs.lemmas.Rows.{both_true}
use Rattle.ssim_columns.proofs.lemmas.Slices.{slice_in}

pub length_over : (at : ℕ) (text d : List ℕ) → at + length text ≤ length d → length (over at text d) ≡ length d
length_over at text d le =
    omega (arith, length-append (take at d) (text ++ drop (at + length text) d), length-append text (drop (at + length text) d), length-take-le at d (omega (arith, le)), length-drop (at + length text) d)

over_same : (at w : ℕ) (text d : List ℕ) → length text ≡ w → at ≤ length d → slice_range (over at text d) at (at + w) ≡ text
over_same at w text d len le = part_at (take at d) text (drop (at + length text) d) at w (sym (length-take-le at d le)) len

take_over : (at : ℕ) (text d : List ℕ) → at ≤ length d → take at (over at text d) ≡ take at d
take_over at text d le = take_at (take at d) (text ++ drop (at + length text) d) at (length-take-le at d le)

-- the text ends the part up to its end
pub text_added : (at : ℕ) (text d rest : List ℕ) → at + length text ≤ length d → take (at + length text) (over at text d) ++ rest ≡ take at d ++ (text ++ rest)
text_added at text d rest le =
    let front : length (take at d ++ text) ≡ at + length text = omega (arith, length-append (take at d) text, length-take-le at d (omega (arith, le))) in
    let behind = drop (at + length text) d in
    ap (λ (t : List ℕ). take (at + length text) t ++ rest) (sym (append_assoc (take at d) text behind))
    ∙ ap (λ (t : List ℕ). t ++ rest) (take_at (take at d ++ text) behind (at + length text) front)
    ∙ append_assoc (take at d) text rest

-- the parts up to the end of a list are the list
pub all_added : (at : ℕ) (d : List ℕ) → at ≡ length d → d ≡ take at d ++ []
all_added at d is = sym (append-nil (take at d) ∙ ap (λ n. take n d) is ∙ take-length d)

drop_over : (at w : ℕ) (text d : List ℕ) → length text ≡ w → at + w ≤ length d → drop (at + w) (over at text d) ≡ drop (at + w) d
drop_over at w text d len le =
    let front : length (take at d ++ text) ≡ at + w = omega (arith, length-append (take at d) text, length-take-le at d (omega (arith, le)), len) in
    let joined : over at text d ≡ (take at d ++ text) ++ drop (at + length text) d = sym (append_assoc (take at d) text (drop (at + length text) d)) in
    ap (drop (at + w)) joined ∙ drop_at (take at d ++ text) (drop (at + length text) d) (at + w) front ∙ ap (λ n. drop (at + n) d) len

-- lists that agree up to an index agree on the slices before it
slice_before : (x y : List ℕ) (at i j : ℕ) → take at x ≡ take at y → i ≤ j → j ≤ at → slice_range x i j ≡ slice_range y i j
slice_before x y at i j e le within =
    let k : at - 0 ≡ at = omega arith in
    let front : slice_range x 0 at ≡ slice_range y 0 at = rw k e in
    let a = slice_in x 0 at i j le (omega (arith, within)) in
    let b = slice_in y 0 at i j le (omega (arith, within)) in
    let zi : 0 + i ≡ i = omega arith in
    let zj : 0 + j ≡ j = omega arith in
    let a' : slice_range (slice_range x 0 at) i j ≡ slice_range x i j = rw (zi, zj) at a in
    let b' : slice_range (slice_range y 0 at) i j ≡ slice_range y i j = rw (zi, zj) at b in
    sym a' ∙ ap (λ (z : List ℕ). slice_range z i j) front ∙ b'

-- lists that agree from an index on agree on the slices after it
slice_after : (x y : List ℕ) (at i j : ℕ) → drop at x ≡ drop at y → at ≤ i → slice_range x i j ≡ slice_range y i j
slice_after x y at i j e le =
    let k : at + (i - at) ≡ i = omega (arith, le) in
    let a : drop (i - at) (drop at x) ≡ drop i x = rw k at (drop-drop (i - at) at x) in
    let b : drop (i - at) (drop at y) ≡ drop i y = rw k at (drop-drop (i - at) at y) in
    ap (take (j - i)) (sym a ∙ ap (drop (i - at)) e ∙ b)

over_other : (at w : ℕ) (text d : List ℕ) (i j : ℕ) → length text ≡ w → at + w ≤ length d → i ≤ j → IsTrue (nat_le j at || nat_le (at + w) i) → slice_range (over at text d) i j ≡ slice_range d i j
over_other at w text d i j len le ij h =
    elim (pick (nat_le j at)) [
      | inl t ↦ (let within : j ≤ at = grind (arith, nat_tests) in slice_before (over at text d) d at i j (take_over at text d (omega (arith, le))) ij within)
      | inr f ↦
          (let g : nat_le (at + w) i ≡ true = simp f at h in
          let after : at + w ≤ i = grind (arith, nat_tests) in
          slice_after (over at text d) d (at + w) i j (drop_over at w text d len le) after)
    ]

-- ---- several texts, each by its place, its width and its bytes

abbrev pub Write : Type 0
Write = ℕ × ℕ × List ℕ

abbrev pub written : List Write → List ℕ → List ℕ
written [] d = d
written (w ∷ ws) d = written ws (over w.0 w.2 d)

-- each has its width and lies within n bytes
abbrev pub Fit : ℕ → List Write → Type 0
Fit n [] = Unit {0}
Fit n (w ∷ ws) = (length w.2 ≡ w.1) × (w.0 + w.1 ≤ n) × Fit n ws

-- none of the texts touches the bytes from i to j
abbrev pub apart : ℕ → ℕ → List Write → Bool
apart i j [] = true
apart i j (w ∷ ws) = (nat_le j w.0 || nat_le (w.0 + w.1) i) && apart i j ws

same_length : (n : ℕ) (w : Write) (d : List ℕ) → length d ≡ n → length w.2 ≡ w.1 → w.0 + w.1 ≤ n → length (over w.0 w.2 d) ≡ n
same_length n w d len wide le = length_over w.0 w.2 d (omega (arith, len, wide, le)) ∙ len

pub length_written : (n : ℕ) (ws : List Write) (d : List ℕ) → length d ≡ n → Fit n ws → length (written ws d) ≡ n
length_written n [] d len fit = len
length_written n (w ∷ ws) d len fit = length_written n ws (over w.0 w.2 d) (same_length n w d len fit.0 fit.1) fit.2

pub stays : (n : ℕ) (ws : List Write) (d : List ℕ) → length d ≡ n → Fit n ws → (i j : ℕ) → i ≤ j → IsTrue (apart i j ws) → slice_range (written ws d) i j ≡ slice_range d i j
stays n [] d len fit i j le h = refl
stays n (w ∷ ws) d len fit i j le h =
    let both = both_true (nat_le j w.0 || nat_le (w.0 + w.1) i) (apart i j ws) h in
    stays n ws (over w.0 w.2 d) (same_length n w d len fit.0 fit.1) fit.2 i j le both.1
    ∙ over_other w.0 w.1 w.2 d i j fit.0 (omega (arith, fit.1, len)) le both.0

-- the first of the texts is at its position, if the later ones do not touch it
lands : (n : ℕ) (w : Write) (ws : List Write) (d : List ℕ) → length d ≡ n → Fit n (w ∷ ws) → IsTrue (apart w.0 (w.0 + w.1) ws) → slice_range (written (w ∷ ws) d) w.0 (w.0 + w.1) ≡ w.2
lands n w ws d len fit h =
    stays n ws (over w.0 w.2 d) (same_length n w d len fit.0 fit.1) fit.2 w.0 (w.0 + w.1) (omega arith) h
    ∙ over_same w.0 w.1 w.2 d fit.0 (omega (arith, fit.1, len))

-- no two of the texts touch the same bytes
abbrev pub disjoint : List Write → Bool
disjoint [] = true
disjoint (w ∷ ws) = apart w.0 (w.0 + w.1) ws && disjoint ws

-- each of the texts is at its position
abbrev pub Lie : List Write → List ℕ → Type 0
Lie [] x = Unit {0}
Lie (w ∷ ws) x = (slice_range x w.0 (w.0 + w.1) ≡ w.2) × Lie ws x

pub all_lie : (n : ℕ) (ws : List Write) (d : List ℕ) → length d ≡ n → Fit n ws → IsTrue (disjoint ws) → Lie ws (written ws d)
all_lie n [] d len fit h = tt
all_lie n (w ∷ ws) d len fit h =
    let both = both_true (apart w.0 (w.0 + w.1) ws) (disjoint ws) h in
    (lands n w ws d len fit both.0, all_lie n ws (over w.0 w.2 d) (same_length n w d len fit.0 fit.1) fit.2 both.1)

-- ---- a list is the parts that follow one another in it

slice_then : (b : List ℕ) (n w : ℕ) → drop n b ≡ slice_range b n (n + w) ++ drop (n + w) b
slice_then b n w =
    let k : (n + w) - n ≡ w = omega arith in
    let e : take w (drop n b) ++ drop (n + w) b ≡ drop n b = ap (λ (z : List ℕ). take w (drop n b) ++ z) (sym (drop-drop w n b)) ∙ take-append-drop w (drop n b) in
    rw k (sym e)

glued_from : (n : ℕ) (ws : List ℕ) (ps : List (List ℕ)) (b : List ℕ) → Placed n ws ps b → length ws ≡ length ps → length b ≡ n + sum_of ws → drop n b ≡ concat ps
glued_from n [] [] b h e len = drop_all n b (omega (arith, len))
glued_from n [] (p ∷ ps) b h e len = absurd (omega (arith, e))
glued_from n (w ∷ ws) [] b h e len = absurd (omega (arith, e))
glued_from n (w ∷ ws) (p ∷ ps) b h e len =
    slice_then b n w
    ∙ ap (λ (z : List ℕ). z ++ drop (n + w) b) h.0
    ∙ ap (λ (z : List ℕ). p ++ z) (glued_from (n + w) ws ps b h.1 (omega (arith, e)) (omega (arith, len)))

pub glued : (ws : List ℕ) (ps : List (List ℕ)) (b : List ℕ) → Placed 0 ws ps b → length ws ≡ length ps → length b ≡ sum_of ws → b ≡ concat ps
glued ws ps b h e len = glued_from 0 ws ps b h e (omega (arith, len))

-- a slice is its two parts
pub slice_cut : (b : List ℕ) (i j k : ℕ) → i ≤ j → j ≤ k → slice_range b i k ≡ slice_range b i j ++ slice_range b j k
slice_cut b i j k ij jk =
    let m : k - i ≡ (j - i) + (k - j) = omega (arith, ij, jk) in
    let n : i + (j - i) ≡ j = omega (arith, ij) in
    let later : drop (j - i) (drop i b) ≡ drop j b = rw n at (drop-drop (j - i) i b) in
    rw (m, ← later) (take-add (j - i) (k - j) (drop i b))
