-- The lines that say what a refusal means, and what to do about it.
use Rattle.std.specs.Prelude.{◌≡◌, ℕ, Bool, ◌==◌, List, [], ◌∷◌, ◌++◌, codes}
use Rattle.std.specs.List.{list_any}

-- the numbers of the refusals that a command may have
abbrev pub refusal_numbers : List ℕ
refusal_numbers = 1 ∷ 3 ∷ 6 ∷ 10 ∷ 11 ∷ 12
    ∷ 20 ∷ 21 ∷ 22 ∷ 23 ∷ 24 ∷ 25 ∷ 26 ∷ 27 ∷ 28 ∷ 29
    ∷ 30 ∷ 31 ∷ 32 ∷ 33 ∷ 34 ∷ 35 ∷ 36 ∷ 37 ∷ 38 ∷ 39
    ∷ 40 ∷ 41 ∷ 42 ∷ 43 ∷ 50 ∷ 51 ∷ 52 ∷ 60 ∷ 61 ∷ 62 ∷ 63 ∷ 64 ∷ 65
    ∷ 90 ∷ 91 ∷ 92 ∷ 93 ∷ []

-- whether a command may have a refusal of this number
abbrev pub is_refusal : ℕ → Bool
is_refusal number = list_any (λ n. n == number) refusal_numbers

-- a line of a label and a text
abbrev pub labelled : List ℕ → List ℕ → List ℕ
labelled label text = label ++ 58 ∷ 32 ∷ text ++ 10 ∷ []

-- the name of a refusal with its meaning, then these lines on its place, and what to do
abbrev pub Explains : List ℕ → List ℕ → List ℕ → Type 0
Explains name place lines = (meaning : List ℕ) × (remedy : List ℕ)
    × (lines ≡ labelled name meaning ++ place ++ labelled (codes "what to do") remedy)
