-- Equal letters are those of equal values: the place of a value among the different ones is that of a
-- value equal to it.
use Rattle.std.proofs.Common.{◌≡◌, ◌∙◌, ℕ, suc, ◌+◌, ◌<◌, ◌≤◌, Bool, true, false, not, ◌||◌, if◌then◌else◌, List, [], ◌∷◌, take, length, get_or, slice_index_or, refl, sym, ap, subst, arith}
use Rattle.std.specs.Prelude.{◌≢◌, ◌↔◌, IsTrue}
use Rattle.std.specs.List.{list_any, position_or_len}
use Rattle.std.proofs.lemmas.Bool.Decides.{nat_tests}
use Rattle.std.proofs.lemmas.List.{get_or-take, length-take-le}
use Rattle.std.proofs.lemmas.List.Folds.{list_any_at}
use Rattle.std.proofs.lemmas.List.Sums.{passes_at_first}
use Rattle.ssim_periods.specs.Calendar.{day_count}
use Rattle.ssim_periods.proofs.PieceLaw.{alike-self}
use Rattle.ssim_calendar.specs.Letters.{LettersTellValues, cell, different, letter_at, place_of}
use Rattle.ssim_calendar.proofs.NewValues.{known}

-- if one passes, the first that passes is there
any_before : {X : Type 0} (p : X → Bool) (xs : List X) → list_any p xs ≡ true → position_or_len p xs < length xs
any_before p [] h = absurd cc
any_before p (x ∷ xs) h =
    elim (p x) as (λ (b : Bool). (b || list_any p xs) ≡ true → (if not b then 1 + position_or_len p xs else 0) < suc (length xs)) [
      | true ↦ λ e. omega arith
      | false ↦ λ e. let ih = any_before p xs e in omega arith
    ] h

-- a letter other than # tells its place
same_place : (j k : ℕ) → letter_at j ≢ 35 → letter_at j ≡ letter_at k → j ≡ k
same_place j k apart e = grind (arith, nat_tests)

module _ {V : Type 0} (alike : V → V → Bool) (nothing : V) (exact : (x y : V) → IsTrue (alike x y) ↔ (x ≡ y)) where
  -- the value of a day is at its place among the different ones
  at_place : (days : List V) (n : ℕ) → length days ≡ day_count → n < day_count → (v : V) → slice_index_or days n nothing ≡ v → alike v nothing ≡ false
      → get_or (different alike nothing days) (place_of alike (different alike nothing days) v) nothing ≡ v
  at_place days n size h v is full =
      let p = λ (other : V). alike other v in
      let values = different alike nothing days in
      let all : day_count ≤ length days = omega arith in
      let within : n < length (take day_count days) = subst (λ (k : ℕ). n < k) (sym (length-take-le day_count days all)) h in
      let here : p (get_or (take day_count days) n nothing) ≡ true = ap p (get_or-take day_count days n nothing h ∙ is) ∙ alike-self alike exact v in
      let among : list_any p values ≡ true = sym (known alike nothing exact days v full day_count all) ∙ list_any_at p (take day_count days) n nothing within here in
      (exact (get_or values (place_of alike values v) nothing) v).0 (passes_at_first p values nothing (any_before p values among))

  pub tells : LettersTellValues alike nothing
  tells days m n size hm hn fv fw other =
      let values = different alike nothing days in
      let v = slice_index_or days m nothing in let w = slice_index_or days n nothing in
      let letter = cell alike nothing values in
      let lv : letter v ≡ letter_at (place_of alike values v) = ap (λ (b : Bool). if b then 46 else letter_at (place_of alike values v)) fv in
      let lw : letter w ≡ letter_at (place_of alike values w) = ap (λ (b : Bool). if b then 46 else letter_at (place_of alike values w)) fw in
      let apart : letter_at (place_of alike values v) ≢ 35 = λ e. other (lv ∙ e) in (
        (λ e.
            let place = same_place (place_of alike values v) (place_of alike values w) apart (sym lv ∙ e ∙ lw) in
            sym (at_place days m size hm v refl fv) ∙ ap (λ (k : ℕ). get_or values k nothing) place ∙ at_place days n size hn w refl fw),
        (λ e. ap letter e),
      )
