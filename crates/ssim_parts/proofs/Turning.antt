-- Days of operation that are turned have on each weekday what they had some weekdays before.
use Rattle.std.proofs.Common.{◌≡◌, ◌<◌, ◌≤◌, ◌+◌, ◌-◌, ℕ, zero, suc, Bool, false, List, [], ◌∷◌, refl}
use Rattle.std.proofs.Common.{ap, ◌∙◌, arith}
use Rattle.std.specs.Prelude.{◌%◌, slice_index_or}
use Rattle.ssim_values.specs.Calendar.{slot}

module _ (d : List Bool) where
  abbrev at : ℕ → Bool
  at k = slice_index_or d k false

  -- to the day before
  abbrev pub turned_back : List Bool
  turned_back = at 1 ∷ at 2 ∷ at 3 ∷ at 4 ∷ at 5 ∷ at 6 ∷ at 0 ∷ []

  by_six : (k : ℕ) → k < 7 → slice_index_or turned_back k false ≡ at ((k + 1) % 7)
  by_six zero less = refl
  by_six (suc zero) less = refl
  by_six (suc (suc zero)) less = refl
  by_six (suc (suc (suc zero))) less = refl
  by_six (suc (suc (suc (suc zero)))) less = refl
  by_six (suc (suc (suc (suc (suc zero))))) less = refl
  by_six (suc (suc (suc (suc (suc (suc zero)))))) less = refl
  by_six (suc (suc (suc (suc (suc (suc (suc k))))))) less = absurd (omega (arith, less))

  pub on_back : (m : ℕ) → 0 ≤ m + 1
      → slice_index_or turned_back (slot m) false ≡ at (slot (m + 1 - 0))
  on_back m from =
      let less : slot m < 7 = omega arith in
      let same : (slot m + 1) % 7 ≡ slot (m + 1 - 0) = omega arith in
      by_six (slot m) less ∙ ap at same

  -- to the day after
  abbrev pub turned_by_one_day : List Bool
  turned_by_one_day = at 6 ∷ at 0 ∷ at 1 ∷ at 2 ∷ at 3 ∷ at 4 ∷ at 5 ∷ []

  by_one : (k : ℕ) → k < 7 → slice_index_or turned_by_one_day k false ≡ at ((k + 6) % 7)
  by_one zero less = refl
  by_one (suc zero) less = refl
  by_one (suc (suc zero)) less = refl
  by_one (suc (suc (suc zero))) less = refl
  by_one (suc (suc (suc (suc zero)))) less = refl
  by_one (suc (suc (suc (suc (suc zero))))) less = refl
  by_one (suc (suc (suc (suc (suc (suc zero)))))) less = refl
  by_one (suc (suc (suc (suc (suc (suc (suc k))))))) less = absurd (omega (arith, less))

  pub on_by_one_day : (m : ℕ) → 2 ≤ m + 1
      → slice_index_or turned_by_one_day (slot m) false ≡ at (slot (m + 1 - 2))
  on_by_one_day m from =
      let less : slot m < 7 = omega arith in
      let same : (slot m + 6) % 7 ≡ slot (m + 1 - 2) = omega arith in
      by_one (slot m) less ∙ ap at same

  -- to the second day after
  abbrev pub turned_by_two_days : List Bool
  turned_by_two_days = at 5 ∷ at 6 ∷ at 0 ∷ at 1 ∷ at 2 ∷ at 3 ∷ at 4 ∷ []

  by_two : (k : ℕ) → k < 7 → slice_index_or turned_by_two_days k false ≡ at ((k + 5) % 7)
  by_two zero less = refl
  by_two (suc zero) less = refl
  by_two (suc (suc zero)) less = refl
  by_two (suc (suc (suc zero))) less = refl
  by_two (suc (suc (suc (suc zero)))) less = refl
  by_two (suc (suc (suc (suc (suc zero))))) less = refl
  by_two (suc (suc (suc (suc (suc (suc zero)))))) less = refl
  by_two (suc (suc (suc (suc (suc (suc (suc k))))))) less = absurd (omega (arith, less))

  pub on_by_two_days : (m : ℕ) → 3 ≤ m + 1
      → slice_index_or turned_by_two_days (slot m) false ≡ at (slot (m + 1 - 3))
  on_by_two_days m from =
      let less : slot m < 7 = omega arith in
      let same : (slot m + 5) % 7 ≡ slot (m + 1 - 3) = omega arith in
      by_two (slot m) less ∙ ap at same

  -- to the same day
  pub on_same_day : (m : ℕ) → 1 ≤ m + 1 → at (slot m) ≡ at (slot (m + 1 - 1))
  on_same_day m from =
      let same : slot m ≡ slot (m + 1 - 1) = omega arith in ap at same
