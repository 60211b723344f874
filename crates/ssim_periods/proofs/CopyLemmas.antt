-- Copies made one after another.
use Rattle.std.proofs.Common.{◌≡◌, ℕ, ◌+◌, ◌<◌, List, [], ◌∷◌, ◌++◌, length, take, slice_index_or, refl, ap, sym, ◌∙◌}
use Rattle.std.proofs.lemmas.List.{take_more}
use Rattle.ssim_values.specs.Period.{DayRange}
use Rattle.ssim_periods.specs.internal.Apart.{list_seen}

-- the copies of one element more
pub copied-next : {A : Type 0} (xs ys zs : List A) (i : ℕ) (x y : A) → i < length xs → x ≡ slice_index_or xs i x → ys ≡ take i xs → zs ≡ ys ++ y ∷ [] → y ≡ x → zs ≡ take (i + 1) xs
copied-next xs ys zs i x y lt is done pushed same =
    pushed ∙ ap (λ s. s ++ y ∷ []) done ∙ ap (λ z. take i xs ++ z ∷ []) (same ∙ is) ∙ sym (take_more xs i x lt)

-- copies of periods with values, with copies of their cuts, are the same values
pub same_seen : {V : Type 0} (nothing : V) (copies entries : List (DayRange × V)) (new old : List ℕ)
    → copies ≡ entries → new ≡ old → list_seen nothing copies new ≡ list_seen nothing entries old
same_seen nothing copies entries new old same cuts = rw (same, cuts) refl
