-- A serial is read in two parts: its first four digits, and its last two.
use Rattle.std.proofs.Common.{◌≡◌, ℕ, ◌+◌, ◌-◌, ◌*◌, List, [], ◌∷◌, ◌++◌, length, take, drop, Some, ap, ◌∙◌, arith, inl, inr}
use Rattle.std.specs.Prelude.{slice_range}
use Rattle.std.proofs.lemmas.List.{drop-drop}
use Rattle.std.proofs.Math.Seq.{take-add}
use Rattle.ssim_values.specs.Characters.{is_digit}
use Rattle.ssim_columns.specs.Numbers.{digits_after, digits_of}
use Rattle.ssim_columns.proofs.lemmas.Choices.{pick}

-- digits after digits
after_more : (k : ℕ) (x y : List ℕ) (n : ℕ) → digits_after k x ≡ Some n → digits_after k (x ++ y) ≡ digits_after n y
after_more k [] y n h = let e : k ≡ n = cc in ap (λ (i : ℕ). digits_after i y) e
after_more k (b ∷ bs) y n h =
    elim (pick (is_digit b)) [ inl t ↦ (let g = simp t at h in simp t (after_more (k * 10 + (b - 48)) bs y n g)) | inr f ↦ (let g = simp f at h in absurd cc) ]

two_after : (n m p q : ℕ) → digits_after 0 (p ∷ q ∷ []) ≡ Some m → digits_after n (p ∷ q ∷ []) ≡ Some (n * 100 + m)
two_after n m p q h =
    elim (pick (is_digit p)) [
      | inl t ↦
          elim (pick (is_digit q)) [
            | inl u ↦ (let g = simp (t, u) at h in let e : (0 * 10 + (p - 48)) * 10 + (q - 48) ≡ m = cc in simp (t, u) (ap Some (omega (arith, e))))
            | inr f ↦ (let g = simp (t, f) at h in absurd cc)
          ]
      | inr f ↦ (let g = simp f at h in absurd cc)
    ]

joined : (x y : List ℕ) (n m : ℕ) → length y ≡ 2 → digits_of x ≡ Some n → digits_of y ≡ Some m → digits_of (x ++ y) ≡ Some (n * 100 + m)
unfolding digits_of
joined [] y n m len h k = absurd cc
joined (b ∷ bs) (p ∷ q ∷ []) n m len h k = after_more 0 (b ∷ bs) (p ∷ q ∷ []) n h ∙ two_after n m p q k
joined (b ∷ bs) [] n m len h k = absurd (omega (arith, len))
joined (b ∷ bs) (p ∷ []) n m len h k = absurd (omega (arith, len))
joined (b ∷ bs) (p ∷ q ∷ r ∷ xs) n m len h k = absurd (omega (arith, len))

pub serial_of_parts : (b : List ℕ) (n m : ℕ) → length (slice_range b 198 200) ≡ 2 → digits_of (slice_range b 194 198) ≡ Some n → digits_of (slice_range b 198 200) ≡ Some m → digits_of (slice_range b 194 200) ≡ Some (n * 100 + m)
serial_of_parts b n m len h k =
    let whole : slice_range b 194 200 ≡ slice_range b 194 198 ++ slice_range b 198 200 = take-add 4 2 (drop 194 b) ∙ ap (λ (t : List ℕ). take 4 (drop 194 b) ++ take 2 t) (drop-drop 4 194 b) in
    ap digits_of whole ∙ joined (slice_range b 194 198) (slice_range b 198 200) n m len h k
