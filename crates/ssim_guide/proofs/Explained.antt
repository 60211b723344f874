-- A row of the table has a number exactly if it is one of the numbers of refusals.
use Rattle.std.proofs.Common.{◌≡◌, ◌∙◌, ◌<◌, ◌≤◌, ℕ, Bool, true, false, ◌||◌, List, [], ◌∷◌, length}
use Rattle.std.proofs.Common.{map, get_or, take, sym, ap, refl, eq-eqb}
use Rattle.std.specs.Prelude.{◌==◌}
use Rattle.std.specs.List.{list_any}
use Rattle.std.proofs.lemmas.List.{take_all}
use Rattle.std.proofs.lemmas.List.Recursion.{or_at}
use Rattle.ssim_guide.specs.Words.{is_refusal, refusal_numbers}
use Rattle.ssim_guide.specs.declared.explanation.Explanation.{Explanation}

any_map : {X Y : Type 0} (p : Y → Bool) (f : X → Y) (xs : List X)
    → list_any p (map f xs) ≡ list_any (λ x. p (f x)) xs
any_map p f [] = refl
any_map p f (x ∷ xs) = ap (λ t. p (f x) || t) (any_map p f xs)

rows_have : (rows : List Explanation) (number : ℕ) → map (λ e. e.number) rows ≡ refusal_numbers
    → list_any (λ e. e.number == number) rows ≡ is_refusal number
rows_have rows number are =
    sym (any_map (λ n. n == number) (λ e. e.number) rows) ∙ ap (list_any (λ n. n == number)) are

pub row_found : (rows : List Explanation) (i number : ℕ) (d : Explanation)
    → map (λ e. e.number) rows ≡ refusal_numbers → i < length rows → (get_or rows i d).number ≡ number
    → true ≡ is_refusal number
row_found rows i number d are within is =
    sym (or_at (list_any (λ e. e.number == number)) (λ e. e.number == number) refl (λ _ _. refl) rows i
    d within (eq-eqb (get_or rows i d).number number is)) ∙ rows_have rows number are

pub none_found : (rows : List Explanation) (i number : ℕ) → map (λ e. e.number) rows ≡ refusal_numbers
    → length rows ≤ i → list_any (λ e. e.number == number) (take i rows) ≡ false
    → false ≡ is_refusal number
none_found rows i number are all none =
    sym (ap (list_any (λ e. e.number == number)) (sym (take_all i rows all)) ∙ none)
    ∙ rows_have rows number are
