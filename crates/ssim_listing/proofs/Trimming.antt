-- A field without white space at both ends, in the words of std and in those of the crate `csv`.
use Rattle.std.specs.Prelude.{◌==◌}
use Rattle.std.proofs.lemmas.Bool.{ne_eqb}
use Rattle.std.proofs.Common.{◌≡◌, ◌∙◌, ◌<◌, ◌≤◌, ◌-◌, ◌+◌, ℕ, zero, suc, List, [], ◌∷◌, true, false}
use Rattle.std.proofs.Common.{ap, arith, drop, length, refl, slice_index, subst, sym, take}
use Rattle.std.proofs.lemmas.List.{length-take}
use Rattle.std.specs.Char.{is_ascii_whitespace}
use Rattle.std.specs.Str.{IsAsciiWhitespaceBelow, IsAsciiWhitespaceFrom, IsTrimAscii}
use Rattle.csv.specs.Records.{trim_end, trim_start, trimmed}

-- the white space at the start is before the first other byte
front : (s : List ℕ) (m : ℕ) → IsAsciiWhitespaceBelow s m
    → (m < length s → is_ascii_whitespace (slice_index s m) ≡ false) → trim_start s ≡ drop m s
unfolding trim_start
front [] zero below stop = refl
front [] (suc m) below stop = refl
front (b ∷ s) zero below stop = rw (stop (omega arith)) refl
front (b ∷ s) (suc m) below stop =
    rw (below 0 (omega arith))
    (front s m (λ i lt. below (suc i) (omega (arith, lt))) (λ lt. stop (omega (arith, lt))))

-- the white space at the end is after the last other byte
back : (s : List ℕ) (n : ℕ) → n ≤ length s → IsAsciiWhitespaceFrom s n
    → (0 < n → is_ascii_whitespace (slice_index s (n - 1)) ≡ false) → trim_end s ≡ n
unfolding trim_end
back [] n le from stop = omega (arith, le)
back (b ∷ s) zero le from stop =
    let none = back s zero (omega arith) (λ i le lt. from (suc i) (omega arith) (omega (arith, lt)))
    (λ lt. absurd (omega (arith, lt))) in
    rw (none, from 0 (omega arith) (omega arith)) refl
back (b ∷ s) (suc zero) le from stop =
    let none = back s zero (omega arith) (λ i le lt. from (suc i) (omega arith) (omega (arith, lt)))
    (λ lt. absurd (omega (arith, lt))) in
    rw (none, stop (omega arith)) refl
back (b ∷ s) (suc (suc k)) le from stop =
    let here : suc (suc k) - 1 ≡ suc k = omega arith in
    let there : suc k - 1 ≡ k = omega arith in
    let last : is_ascii_whitespace (slice_index (b ∷ s) (suc k)) ≡ false =
    subst (λ i. is_ascii_whitespace (slice_index (b ∷ s) i) ≡ false) here (stop (omega arith)) in
    let some = back s (suc k) (omega (arith, le))
    (λ i more lt. from (suc i) (omega (arith, more)) (omega (arith, lt)))
    (λ lt. subst (λ i. is_ascii_whitespace (slice_index s i) ≡ false) (sym there) last) in
    let more : (suc k == 0) ≡ false = ne_eqb (suc k) 0 (λ none. absurd (omega (arith, none))) in
    rw (some, more) (omega arith)

-- both say the same
pub same_trim : (s r : List ℕ) → IsTrimAscii s r → r ≡ trimmed s
same_trim s r (m, cut, below, stop, from, last) =
    let here = drop m s in
    let fits : length r ≤ length here =
    let e = ap length cut in let l = length-take (length r) here in omega (arith, e, l) in
    let start = front s m below stop in
    let end = back here (length r) fits from last in
    cut ∙ ap (λ n. take n here) (sym end) ∙ ap (λ xs. take (trim_end xs) xs) (sym start)
