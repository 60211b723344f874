-- The words of flights are read one after another.
use Rattle.std.specs.List.{slice_get}
use Rattle.std.proofs.Common.{zero, suc, Some, is_some, true≢false, ◌≡◌, ◌∙◌, ◌+◌, ◌<◌, ◌≤◌, ℕ, List}
use Rattle.std.proofs.Common.{[], ◌∷◌, ◌++◌, length, drop, map, get_or, sym, ap, subst, append_assoc}
use Rattle.std.proofs.lemmas.List.{append-nil, drop-map, drop_all, drop_more}
use Rattle.ssim_values.specs.declared.designator.Designator.{Designator}
use Rattle.ssim_words.specs.Flight.{NameEach, NamesFlight}

-- the flights so far, and those of the words that are left, are those of all words
abbrev pub AreSoFar : List ℕ → List (List ℕ) → ℕ → List Designator → Type 0
AreSoFar airline words i so_far =
    (later : List Designator) → NameEach airline (drop i words) later
    → NameEach airline words (so_far ++ later)

-- one more word names a flight
pub one_more_flight : (airline : List ℕ) (words : List (List ℕ)) (i : ℕ) (word : List ℕ)
    (so_far next : List Designator) (flight : Designator) → drop i words ≡ word ∷ drop (i + 1) words
    → AreSoFar airline words i so_far → NamesFlight airline word flight → next ≡ so_far ++ flight ∷ []
    → AreSoFar airline words (i + 1) next
one_more_flight airline words i word so_far next flight more before spelled is = λ later left.
    subst (NameEach airline words)
    (sym (ap (λ (xs : List Designator). xs ++ later) is ∙ append_assoc so_far (flight ∷ []) later))
    (before (flight ∷ later)
    (subst (λ (ws : List (List ℕ)). NameEach airline ws (flight ∷ later)) (sym more)
    (spelled, left)))

-- no word is left
pub all_flights : (airline : List ℕ) (words : List (List ℕ)) (i : ℕ) (so_far : List Designator)
    → drop i words ≡ [] → AreSoFar airline words i so_far → NameEach airline words so_far
all_flights airline words i so_far none before =
    subst (NameEach airline words) (append-nil so_far)
    (before [] (subst (λ (ws : List (List ℕ)). NameEach airline ws []) (sym none) tt))

-- the next word of those that are left
pub next_word : {A B : Type 0} (f : A → B) (xs : List A) (i : ℕ) (d : A) → i < length xs
    → drop i (map f xs) ≡ f (get_or xs i d) ∷ drop (i + 1) (map f xs)
next_word f xs i d within =
    drop-map f i xs ∙ ap (map f) (drop_more xs i d within)
    ∙ ap (λ ws. f (get_or xs i d) ∷ ws) (sym (drop-map f (i + 1) xs))

pub no_word : {A B : Type 0} (f : A → B) (xs : List A) (i : ℕ) → length xs ≤ i → drop i (map f xs) ≡ []
no_word f xs i past = drop-map f i xs ∙ ap (map f) (drop_all i xs past)

-- a word that names no flight is one of no flights
pub none_named : (airline : List ℕ) (words : List (List ℕ)) (i : ℕ) (word : List ℕ)
    → slice_get words i ≡ Some word → ((flight : Designator) → NamesFlight airline word flight → ⊥)
    → (flights : List Designator) → NameEach airline words flights → ⊥
none_named airline [] i word at none flights spelled = true≢false (sym (ap is_some at))
none_named airline (w ∷ words) i word at none [] spelled = spelled
none_named airline (w ∷ words) zero word at none (flight ∷ flights) spelled =
    none flight (subst (λ (x : List ℕ). NamesFlight airline x flight) (some_one w word at) spelled.0)
  where
    some_one : (a b : List ℕ) → Some a ≡ Some b → a ≡ b
    some_one a b e = cc
none_named airline (w ∷ words) (suc i) word at none (flight ∷ flights) spelled =
    none_named airline words i word at none flights spelled.1
