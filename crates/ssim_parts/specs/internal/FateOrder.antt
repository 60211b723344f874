-- Fates are equal exactly if their numbers are, so an order of the numbers is one of fates.
use Rattle.std.proofs.Common.{◌≡◌, ◌↔◌, ◌∙◌, zero, suc, ℕ, List, [], ◌∷◌, refl, sym, ap, IsTrue}
use Rattle.std.specs.Cmp.{IsTotalOrder, on_total}
use Rattle.std.specs.Cmp.Lexicographic.{nat_list_cmp_total}
use Rattle.std.specs.Ordering.{is_eq}
use Rattle.std.proofs.lemmas.Map.Text.{is_eq-slice_cmp}
use Rattle.std.proofs.lemmas.Slice.Eq.{bytes_eq-Decides}
use Rattle.ssim_parts.specs.Fates.{fate_cmp, fate_code, same_fate}
use Rattle.ssim_parts.specs.declared.fate.Fate.{Fate}
use Rattle.ssim_parts.specs.declared.fate.Fate.TheVariants.{Absent, Kept, Left}
use Rattle.ssim_parts.specs.declared.fate.LeftReason.TheVariants.{Station, Letter, Calendar, Days}
use Rattle.ssim_parts.specs.declared.fate.LeftReason.TheVariants.{Date}

-- the fate of a kind, with a shift or a leg sequence
fate_of : ℕ → ℕ → Fate
fate_of zero n = Absent
fate_of (suc zero) n = Kept n
fate_of (suc (suc zero)) n = Left (Station n)
fate_of (suc (suc (suc zero))) n = Left (Letter n)
fate_of (suc (suc (suc (suc zero)))) n = Left (Days n)
fate_of (suc (suc (suc (suc (suc zero))))) n = Left Calendar
fate_of (suc (suc (suc (suc (suc (suc kind)))))) n = Left Date

-- the fate of two numbers
fate_in : List ℕ → Fate
fate_in (kind ∷ n ∷ []) = fate_of kind n
fate_in _ = Absent

read_back : (x : Fate) → fate_in (fate_code x) ≡ x
unfolding fate_in fate_of
read_back Absent = refl
read_back (Kept shift) = refl
read_back (Left (Station sequence)) = refl
read_back (Left (Letter sequence)) = refl
read_back (Left (Days sequence)) = refl
read_back (Left Calendar) = refl
read_back (Left Date) = refl

pub fate_cmp_total : IsTotalOrder fate_cmp
fate_cmp_total = on_total fate_code nat_list_cmp_total

pub fates_told_apart : (x y : Fate) → same_fate x y ≡ is_eq (fate_cmp x y)
fates_told_apart x y = sym (is_eq-slice_cmp (fate_code x) (fate_code y))

pub same_fate_exact : (x y : Fate) → IsTrue (same_fate x y) ↔ (x ≡ y)
same_fate_exact x y = (
  λ same. sym (read_back x)
      ∙ ap fate_in ((bytes_eq-Decides (fate_code x) (fate_code y)).0 same) ∙ read_back y,
  λ equal. (bytes_eq-Decides (fate_code x) (fate_code y)).1 (ap fate_code equal),
)
