-- Parts of lists, inside other parts and one after another.
use Rattle.std.proofs.Common.{◌≡◌, ℕ, ◌+◌, ◌-◌, ◌≤◌, List, [], ◌∷◌, ◌++◌, get_or, length, take, drop, refl, sym, ap, ◌∙◌, arith}
use Rattle.std.specs.Prelude.{slice_range}
use Rattle.std.proofs.lemmas.List.{take-take, drop-take, drop-drop, take_at, length-take, length-drop, append_cancel_left}

pub length_slice : (d : List ℕ) (i j : ℕ) → i ≤ j → j ≤ length d → length (slice_range d i j) ≡ j - i
length_slice d i j le h = omega (arith, length-take (j - i) (drop i d), length-drop i d)

pub slice_in : (x : List ℕ) (from to i j : ℕ) → i ≤ j → from + j ≤ to → slice_range (slice_range x from to) i j ≡ slice_range x (from + i) (from + j)
slice_in x from to i j le h =
    let m : to - from ≡ i + (to - from - i) = omega arith in
    let w : (from + j) - (from + i) ≡ j - i = omega arith in
    let s : j - i ≤ to - from - i = omega arith in
    rw (w, m, drop-take i (to - from - i) (drop from x), drop-drop i from x) (take-take (j - i) (to - from - i) (drop (from + i) x) s)

-- a list has one prefix of each length
pub same_front : (a b x y : List ℕ) → length a ≡ length b → a ++ x ≡ b ++ y → a ≡ b
same_front a b x y len e = sym (take_at a x (length b) len) ∙ ap (take (length b)) e ∙ take_at b y (length b) refl

pub same_back : (a b x y : List ℕ) → length a ≡ length b → a ++ x ≡ b ++ y → x ≡ y
same_back a b x y len e =
    let front : a ≡ b = same_front a b x y len e in
    append_cancel_left b x y (ap (λ (t : List ℕ). t ++ x) (sym front) ∙ e)

-- a block is as long as it is
pub front_length : (x : List ℕ) → 200 ≤ length x → length (take 200 x) ≡ 200
front_length x h = omega (arith, length-take 200 x, h)

-- seven letters, one by one
abbrev letters : List ℕ → List ℕ
letters t = get_or t 0 0 ∷ get_or t 1 0 ∷ get_or t 2 0 ∷ get_or t 3 0 ∷ get_or t 4 0 ∷ get_or t 5 0 ∷ get_or t 6 0 ∷ []

seven : (t : List ℕ) → length t ≡ 7 → letters t ≡ t
seven (a ∷ b ∷ c ∷ d ∷ e ∷ f ∷ g ∷ []) h = refl
seven [] h = absurd (omega (arith, h))
seven (a ∷ []) h = absurd (omega (arith, h))
seven (a ∷ b ∷ []) h = absurd (omega (arith, h))
seven (a ∷ b ∷ c ∷ []) h = absurd (omega (arith, h))
seven (a ∷ b ∷ c ∷ d ∷ []) h = absurd (omega (arith, h))
seven (a ∷ b ∷ c ∷ d ∷ e ∷ []) h = absurd (omega (arith, h))
seven (a ∷ b ∷ c ∷ d ∷ e ∷ f ∷ []) h = absurd (omega (arith, h))
seven (a ∷ b ∷ c ∷ d ∷ e ∷ f ∷ g ∷ x ∷ xs) h = absurd (omega (arith, h))

pub three_sevens : (x y z : List ℕ) → length x ≡ 7 → length y ≡ 7 → length z ≡ 7 → letters x ++ (letters y ++ (letters z ++ [])) ≡ x ++ (y ++ (z ++ []))
three_sevens x y z first second third =
    ap (λ (t : List ℕ). t ++ (letters y ++ (letters z ++ []))) (seven x first)
    ∙ ap (λ (t : List ℕ). x ++ (t ++ (letters z ++ []))) (seven y second)
    ∙ ap (λ (t : List ℕ). x ++ (y ++ (t ++ []))) (seven z third)
