-- Bytes that are held: what a fetch, a block that is taken, and line ends that are passed over
-- leave of them.
use Rattle.std.proofs.Common.{◌≡◌, ℕ, suc, ◌+◌, ◌-◌, ◌≤◌, List, [], ◌∷◌, ◌++◌, length, take, drop, Option, Some, None, refl, sym, ap, ◌∙◌, append_assoc, arith}
use Rattle.std.specs.Prelude.{slice_range}
use Rattle.std.specs.List.{copy_within}
use Rattle.std.specs.Io.KnownBytes.{Consumes}
use Rattle.std.proofs.lemmas.List.{drop-take, drop-drop, take_at, drop_at, length-append, take-append-le}
use borrow.Rule.Slice.PartMut.{put_mid, post_of}
use Rattle.ssim_records.specs.Frames.{drop_line_ends}
use Rattle.ssim_records.specs.clauses.Blocks.{SameAhead}
use Rattle.ssim_columns.proofs.lemmas.Slices.{length_slice}
use Rattle.ssim_records.proofs.LineEnds.{is_end}

pub take_through : (F Y : List ℕ) (a n : ℕ) → length F ≡ a → take (a + n) (F ++ Y) ≡ F ++ take n Y
take_through [] Y a n h = let z : a + n ≡ n = omega (arith, h) in rw z refl
take_through (x ∷ F) Y a n h =
    let e : a + n ≡ suc (length F + n) = omega (arith, h) in
    rw e (ap (λ (t : List ℕ). x ∷ t) (take_through F Y (length F) n refl))

pub window_after : (xs copied got : List ℕ) (s e a n k : ℕ) → copied ≡ copy_within xs s e 0 → a ≡ e - s → s ≤ e → e ≤ length xs → n ≤ length got
    → slice_range (put_mid a k copied got) 0 (a + n) ≡ slice_range xs s e ++ take n got
window_after xs copied got s e a n k is a-is le within h =
    let len : length (slice_range xs s e) ≡ a = length_slice xs s e le within ∙ sym a-is in
    let front : take a copied ≡ slice_range xs s e = ap (take a) is ∙ take_at (slice_range xs s e) (drop (0 + (e - s)) xs) a len in
    let z : (a + n) - 0 ≡ a + n = omega arith in
    rw (z, front) (take_through (slice_range xs s e) (got ++ post_of a k copied) a n len ∙ ap (λ (t : List ℕ). slice_range xs s e ++ t) (take-append-le n got (post_of a k copied) h))

pub same_ahead : (held held' got : List ℕ) (old new : Option (List ℕ)) → held' ≡ held ++ got → Consumes old new got → SameAhead held old held' new
same_ahead held held' got None new e c = tt
same_ahead held held' got (Some xs) None e c = c
same_ahead held held' got (Some xs) (Some ys) e c = rw (e, c) (append_assoc held got ys)

pub window_rest : (x : List ℕ) (s e n : ℕ) → s + n ≤ e → drop n (slice_range x s e) ≡ slice_range x (s + n) e
window_rest x s e n h =
    let m : e - s ≡ n + (e - (s + n)) = omega arith in
    ap (λ (w : ℕ). drop n (take w (drop s x))) m ∙ drop-take n (e - (s + n)) (drop s x) ∙ ap (take (e - (s + n))) (drop-drop n s x)

pub window_drops : (x : List ℕ) (s e : ℕ) (rest : List ℕ) → s ≤ e → e ≤ length x → rest ≡ drop_line_ends (slice_range x s e) → slice_range x (e - length rest) e ≡ drop_line_ends (slice_range x s e)
window_drops x s e rest le within is =
    let r = is_end (slice_range x s e) in
    let n = length r.0 in
    let len : e - s ≡ n + length rest = sym (length_slice x s e le within) ∙ ap length r.1 ∙ length-append r.0 (drop_line_ends (slice_range x s e)) ∙ ap (λ (t : List ℕ). n + length t) (sym is) in
    let at : e - length rest ≡ s + n = omega (arith, len) in
    let room : s + n ≤ e = omega (arith, len) in
    let gone : drop n (slice_range x s e) ≡ drop_line_ends (slice_range x s e) = ap (drop n) r.1 ∙ drop_at r.0 (drop_line_ends (slice_range x s e)) n refl in
    rw at (sym (window_rest x s e n room) ∙ gone)
