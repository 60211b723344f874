-- The order of two lists of which one has ended.
use Rattle.std.proofs.Common.{◌≡◌, ◌∙◌, ℕ, zero, suc, ◌<◌, ◌≤◌, List, [], ◌∷◌, drop, length, ap, refl, arith}
use Rattle.std.specs.declared.cmp.Ordering.TheVariants.{Less, Greater}
use Rattle.ssim_schedule.specs.clauses.ItineraryOrder.{tails_cmp}

none-left : (xs : List (List ℕ)) (k : ℕ) → length xs ≤ k → drop k xs ≡ []
none-left [] zero h = refl
none-left [] (suc k) h = refl
none-left (x ∷ xs) zero h = absurd (omega arith)
none-left (x ∷ xs) (suc k) h = none-left xs k (omega arith)

some-left : (xs : List (List ℕ)) (k : ℕ) → k < length xs → (tails_cmp (drop k xs) [] ≡ Greater) × (tails_cmp [] (drop k xs) ≡ Less)
some-left [] k h = absurd (omega arith)
some-left (x ∷ xs) zero h = (refl, refl)
some-left (x ∷ xs) (suc k) h = some-left xs k (omega arith)

pub longer : (xs ys : List (List ℕ)) (k : ℕ) → k < length xs → length ys ≤ k → tails_cmp (drop k xs) (drop k ys) ≡ Greater
longer xs ys k more ended = ap (tails_cmp (drop k xs)) (none-left ys k ended) ∙ (some-left xs k more).0

pub shorter : (xs ys : List (List ℕ)) (k : ℕ) → length xs ≤ k → k < length ys → tails_cmp (drop k xs) (drop k ys) ≡ Less
shorter xs ys k ended more = ap (λ tails. tails_cmp tails (drop k ys)) (none-left xs k ended) ∙ (some-left ys k more).1
