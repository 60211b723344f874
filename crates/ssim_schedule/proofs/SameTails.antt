-- Lists of tails of other lengths differ.
use Rattle.std.proofs.Common.{◌≡◌, ◌≢◌, ℕ, suc, Bool, true, false, List, [], ◌∷◌, length, refl, ap, ◌∙◌}
use Rattle.std.specs.Prelude.{◌&&◌}
use Rattle.std.specs.Str.{bytes_eq}
use Rattle.ssim_base.specs.Export.{same_tails}

and_false : (b : Bool) → (b && false) ≡ false
and_false true = refl
and_false false = refl

pub other_count : (xs ys : List (List ℕ)) → length xs ≢ length ys → same_tails xs ys ≡ false
other_count [] [] apart = absurd (apart refl)
other_count [] (y ∷ ys) apart = refl
other_count (x ∷ xs) [] apart = refl
other_count (x ∷ xs) (y ∷ ys) apart = ap (λ (b : Bool). bytes_eq x y && b) (other_count xs ys (λ same. apart (ap suc same))) ∙ and_false (bytes_eq x y)
