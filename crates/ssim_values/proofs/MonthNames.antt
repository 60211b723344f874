-- The names of the months one after another.
use Rattle.std.proofs.Common.{◌≡◌, ℕ, zero, suc, ◌+◌, ◌-◌, ◌*◌, ◌≤◌, List, [], ◌∷◌, get_or, refl, arith}
use Rattle.std.specs.Prelude.{codes}
use Rattle.ssim_values.specs.Day.{month_name}

abbrev names : List ℕ
names = codes "JANFEBMARAPRMAYJUNJULAUGSEPOCTNOVDEC"

pub name_at : (m : ℕ) → 1 ≤ m → m ≤ 12 → get_or names (3 * (m - 1)) 0 ∷ get_or names (3 * (m - 1) + 1) 0 ∷ get_or names (3 * (m - 1) + 2) 0 ∷ [] ≡ month_name m
name_at zero from to = absurd (omega (arith, from))
name_at (suc zero) from to = refl
name_at (suc (suc zero)) from to = refl
name_at (suc (suc (suc zero))) from to = refl
name_at (suc (suc (suc (suc zero)))) from to = refl
name_at (suc (suc (suc (suc (suc zero))))) from to = refl
name_at (suc (suc (suc (suc (suc (suc zero)))))) from to = refl
name_at (suc (suc (suc (suc (suc (suc (suc zero))))))) from to = refl
name_at (suc (suc (suc (suc (suc (suc (suc (suc zero)))))))) from to = refl
name_at (suc (suc (suc (suc (suc (suc (suc (suc (suc zero))))))))) from to = refl
name_at (suc (suc (suc (suc (suc (suc (suc (suc (suc (suc zero)))))))))) from to = refl
name_at (suc (suc (suc (suc (suc (suc (suc (suc (suc (suc (suc zero))))))))))) from to = refl
name_at (suc (suc (suc (suc (suc (suc (suc (suc (suc (suc (suc (suc zero)))))))))))) from to = refl
name_at (suc (suc (suc (suc (suc (suc (suc (suc (suc (suc (suc (suc (suc k))))))))))))) from to = absurd (omega (arith, to))
