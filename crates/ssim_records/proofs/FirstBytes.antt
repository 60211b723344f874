-- Bytes that were looked at: what a fetch adds to them, and what is given of them.
use Rattle.std.proofs.Common.{◌≡◌, ◌∙◌, ℕ, ◌+◌, ◌-◌, ◌≤◌, List, ◌++◌, length, take, drop, Option, Some, None, Ok, refl, sym, ap, append_assoc, length-drop, arith}
use Rattle.std.specs.List.{copy_within}
use Rattle.std.specs.Io.KnownBytes.{Consumes, prepend_known}
use Rattle.std.proofs.lemmas.List.{drop-take, length-take-le, take-append-drop, take-append-le, take-take, take_at}
use borrow.Rule.Slice.PartMut.{put_mid, post_of}
use Rattle.ssim_records.specs.clauses.Device.{CountChanges}
use Rattle.ssim_records.proofs.Windows.{take_through}

-- the bytes that are held after a fetch
pub held_more : (bytes got : List ℕ) (len n room : ℕ) → len ≤ length bytes → n ≤ length got
    → take (len + n) (put_mid len room bytes got) ≡ take len bytes ++ take n got
held_more bytes got len n room within few =
    take_through (take len bytes) (got ++ post_of len room bytes) len n (length-take-le len bytes within)
    ∙ ap (λ (t : List ℕ). take len bytes ++ t) (take-append-le n got (post_of len room bytes) few)

-- the bytes that are held, and then those that are left, stay the same
pub left_same : (held held' got : List ℕ) (old new : Option (List ℕ)) (came came' n : ℕ) → held' ≡ held ++ got
    → Consumes old new got → CountChanges old new came came' (Ok n) → prepend_known held' new ≡ prepend_known held old
left_same held held' got None None came came' n is consumes counts = refl
left_same held held' got None (Some ys) came came' n is consumes counts = absurd counts
left_same held held' got (Some xs) None came came' n is consumes counts = absurd consumes
left_same held held' got (Some xs) (Some ys) came came' n is consumes counts = rw (is, consumes) (ap (λ (t : List ℕ). Some t) (append_assoc held got ys))

-- the bytes that are given, and those that are still held
pub gives : (bytes copied moved into held : List ℕ) (len n : ℕ) → n ≤ len → len ≤ length bytes → copied ≡ take n bytes
    → moved ≡ copy_within bytes n len 0 → held ≡ take len bytes
    → held ≡ take n (copied ++ drop n into) ++ take (len - n) moved
gives bytes copied moved into held len n le within copied-is moved-is held-is =
    let m : len ≡ n + (len - n) = omega arith in
    let all : length copied ≡ n = ap length copied-is ∙ length-take-le n bytes (omega arith) in
    let rest : drop n (take len bytes) ≡ take (len - n) (drop n bytes) = ap (λ (w : ℕ). drop n (take w bytes)) m ∙ drop-take n (len - n) bytes in
    let after = length-drop n bytes in
    let few : length (take (len - n) (drop n bytes)) ≡ len - n = length-take-le (len - n) (drop n bytes) (omega (arith, after)) in
    let kept : take (len - n) moved ≡ take (len - n) (drop n bytes) = ap (take (len - n)) moved-is ∙ take_at (take (len - n) (drop n bytes)) (drop (0 + (len - n)) bytes) (len - n) few in
    rw (take_at copied (drop n into) n all, kept, copied-is)
    (held-is ∙ sym (take-append-drop n (take len bytes)) ∙ ap (λ (t : List ℕ). t ++ drop n (take len bytes)) (take-take n len bytes le) ∙ ap (λ (t : List ℕ). take n bytes ++ t) rest)
