-- The line of a row, byte by byte: its parts have 3, 7, 7 and 5 bytes.
use Rattle.std.proofs.Common.{◌≡◌, ℕ, List, [], ◌∷◌, ◌++◌, length, append_assoc, refl, sym, ap, ◌∙◌, arith}
use Rattle.std.specs.Prelude.{slice_index_or}
use Rattle.ssim_values.specs.Day.{SpellsDay, day_text}
use Rattle.ssim_values.specs.Variation.{Offset, variation_text}
use Rattle.ssim_values.proofs.DayLaws.{day_of-bound}
use Rattle.ssim_records.proofs.Days.{length_day}
use Rattle.ssim_base.specs.Stations.{Row}
use Rattle.ssim_held.specs.File.{row_line}

-- the first bytes of a list
abbrev pub three : List ℕ → List ℕ
three xs = slice_index_or xs 0 0 ∷ slice_index_or xs 1 0 ∷ slice_index_or xs 2 0 ∷ []

abbrev pub five : List ℕ → List ℕ
five xs = slice_index_or xs 0 0 ∷ slice_index_or xs 1 0 ∷ slice_index_or xs 2 0 ∷ slice_index_or xs 3 0 ∷ slice_index_or xs 4 0 ∷ []

abbrev pub seven : List ℕ → List ℕ
seven xs = slice_index_or xs 0 0 ∷ slice_index_or xs 1 0 ∷ slice_index_or xs 2 0 ∷ slice_index_or xs 3 0 ∷ slice_index_or xs 4 0 ∷ slice_index_or xs 5 0 ∷ slice_index_or xs 6 0 ∷ []

-- the first bytes of a list are all of it, if it has as many
three_are : (xs : List ℕ) → length xs ≡ 3 → three xs ≡ xs
three_are [] n = absurd (omega (arith, n))
three_are (a ∷ []) n = absurd (omega (arith, n))
three_are (a ∷ b ∷ []) n = absurd (omega (arith, n))
three_are (a ∷ b ∷ c ∷ []) n = refl
three_are (a ∷ b ∷ c ∷ d ∷ xs) n = absurd (omega (arith, n))

five_are : (v : Offset) → five (variation_text v) ≡ variation_text v
five_are v = refl

seven_are : (xs : List ℕ) → length xs ≡ 7 → seven xs ≡ xs
seven_are [] n = absurd (omega (arith, n))
seven_are (a ∷ []) n = absurd (omega (arith, n))
seven_are (a ∷ b ∷ []) n = absurd (omega (arith, n))
seven_are (a ∷ b ∷ c ∷ []) n = absurd (omega (arith, n))
seven_are (a ∷ b ∷ c ∷ d ∷ []) n = absurd (omega (arith, n))
seven_are (a ∷ b ∷ c ∷ d ∷ e ∷ []) n = absurd (omega (arith, n))
seven_are (a ∷ b ∷ c ∷ d ∷ e ∷ f ∷ []) n = absurd (omega (arith, n))
seven_are (a ∷ b ∷ c ∷ d ∷ e ∷ f ∷ g ∷ []) n = refl
seven_are (a ∷ b ∷ c ∷ d ∷ e ∷ f ∷ g ∷ h ∷ xs) n = absurd (omega (arith, n))

pub length_written_day : (n : ℕ) (text : List ℕ) → text ≡ day_text n → SpellsDay n text → length text ≡ 7
length_written_day n text is spells = ap length is ∙ length_day n (day_of-bound n text spells)

-- the line, its parts nested to the right
pub row_split : (r : Row) → row_line r ≡ r.station ++ 32 ∷ (day_text r.first ++ 32 ∷ (day_text r.last ++ 32 ∷ (variation_text r.variation ++ 10 ∷ [])))
row_split r =
    append_assoc r.station (32 ∷ (day_text r.first ++ 32 ∷ (day_text r.last ++ 32 ∷ variation_text r.variation))) (10 ∷ [])
    ∙ ap (λ (bs : List ℕ). r.station ++ 32 ∷ bs) (append_assoc (day_text r.first) (32 ∷ (day_text r.last ++ 32 ∷ variation_text r.variation)) (10 ∷ []))
    ∙ ap (λ (bs : List ℕ). r.station ++ 32 ∷ (day_text r.first ++ 32 ∷ bs)) (append_assoc (day_text r.last) (32 ∷ variation_text r.variation) (10 ∷ []))

pub row_written : (s a b v : List ℕ) (r : Row) → length s ≡ 3 → length a ≡ 7 → length b ≡ 7 → {first last : ℕ} {variation : Offset}
    → s ≡ r.station → first ≡ r.first → a ≡ day_text first → last ≡ r.last → b ≡ day_text last → variation ≡ r.variation → v ≡ variation_text variation
    → three s ++ 32 ∷ (seven a ++ 32 ∷ (seven b ++ 32 ∷ (five v ++ 10 ∷ []))) ≡ row_line r
row_written s a b v r n m k is first_is a_is last_is b_is variation_is v_is =
    let a_row : seven a ≡ day_text r.first = seven_are a m ∙ a_is ∙ ap day_text first_is in
    let b_row : seven b ≡ day_text r.last = seven_are b k ∙ b_is ∙ ap day_text last_is in
    let v_row : five v ≡ variation_text r.variation = ap five (v_is ∙ ap variation_text variation_is) ∙ five_are r.variation in
    ap (λ (bs : List ℕ). bs ++ 32 ∷ (seven a ++ 32 ∷ (seven b ++ 32 ∷ (five v ++ 10 ∷ [])))) (three_are s n ∙ is)
    ∙ ap (λ (bs : List ℕ). r.station ++ 32 ∷ (bs ++ 32 ∷ (seven b ++ 32 ∷ (five v ++ 10 ∷ [])))) a_row
    ∙ ap (λ (bs : List ℕ). r.station ++ 32 ∷ (day_text r.first ++ 32 ∷ (bs ++ 32 ∷ (five v ++ 10 ∷ [])))) b_row
    ∙ ap (λ (bs : List ℕ). r.station ++ 32 ∷ (day_text r.first ++ 32 ∷ (day_text r.last ++ 32 ∷ (bs ++ 10 ∷ [])))) v_row
    ∙ sym (row_split r)
