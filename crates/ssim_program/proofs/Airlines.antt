-- Airlines are compared by their bytes.
use Rattle.std.specs.Str.{bytes_eq}
use Rattle.std.proofs.lemmas.Slice.Eq.{bytes_eq-Decides}
use Rattle.std.proofs.Common.{Bool, true, false, not, refl, true≢false, ◌≡◌, ◌∙◌, ℕ, List, sym}

flipped : (b c : Bool) → c ≡ not b → c ≡ false → b ≡ true
flipped true c e h = refl
flipped false c e h = absurd (true≢false (sym e ∙ h))

differ : (b c : Bool) → c ≡ not b → c ≡ true → b ≡ true → ⊥
differ true c e h t = true≢false (sym h ∙ e)
differ false c e h t = true≢false (sym t)

pub equal_bytes : (x y : List ℕ) (apart : Bool) → apart ≡ not (bytes_eq x y) → apart ≡ false → x ≡ y
equal_bytes x y apart is h = (bytes_eq-Decides x y).0 (flipped (bytes_eq x y) apart is h)

pub other_bytes : (x y : List ℕ) (apart : Bool) → apart ≡ not (bytes_eq x y) → apart ≡ true → x ≡ y → ⊥
other_bytes x y apart is h same = differ (bytes_eq x y) apart is h ((bytes_eq-Decides x y).1 same)
