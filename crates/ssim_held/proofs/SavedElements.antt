-- Elements that were written one after another, read one by one.
use Rattle.std.proofs.Common.{◌≡◌, ℕ, ◌+◌, ◌<◌, ◌≤◌, true, List, [], ◌∷◌, ◌++◌, length, take, drop, get_or, append_assoc, length-append, refl, sym, ap, subst, ◌∙◌, arith, nat_eq, ◌*◌}
use Rattle.std.specs.List.{AllByRecursion as Each, flat_map}
use Rattle.std.specs.Prelude.{IfSome, IsSomeAnd, Option, Some, None}
use Rattle.std.proofs.lemmas.Bool.Decides.{nat_tests}
use Rattle.std.proofs.lemmas.List.{append_cancel_left, drop_all, drop_more, take_all, take_more}
use Rattle.ssim_held.specs.File.{counted}

no_bytes : (rest : List ℕ) → nat_eq (length rest) 0 ≡ true → rest ≡ []
no_bytes [] h = refl
no_bytes (b ∷ rest) h = let none : length (b ∷ rest) ≡ 0 = grind (arith, nat_tests) in absurd (omega (arith, none))

-- the bytes are all elements exactly if the rest is those from a position on
pub record Meets {X : Type 0} (f : X → List ℕ) (xs : List X) (bytes : List ℕ) (i : ℕ) (rest : List ℕ) : Type 0 where
  pub to : bytes ≡ flat_map f xs → rest ≡ flat_map f (drop i xs)
  pub from : rest ≡ flat_map f (drop i xs) → bytes ≡ flat_map f xs

pub meets_first : {X : Type 0} (f : X → List ℕ) (xs : List X) (bytes : List ℕ) → Meets f xs bytes 0 bytes
meets_first f xs bytes = record { to = λ e. e; from = λ e. e }

element_at : {X : Type 0} (f : X → List ℕ) (xs : List X) (i : ℕ) (x : X) → i < length xs → x ≡ get_or xs i x → flat_map f (drop i xs) ≡ f x ++ flat_map f (drop (i + 1) xs)
element_at f xs i x lt is = ap (flat_map f) (drop_more xs i x lt) ∙ ap (λ y. f y ++ flat_map f (drop (i + 1) xs)) (sym is)

pub meets_more : {X : Type 0} (f : X → List ℕ) (xs : List X) (bytes : List ℕ) (i : ℕ) (x : X) (rest after : List ℕ) → i < length xs → x ≡ get_or xs i x → Meets f xs bytes i rest → rest ≡ f x ++ after
    → Meets f xs bytes (i + 1) after
meets_more f xs bytes i x rest after lt is h e = record {
  to = λ all. append_cancel_left (f x) after (flat_map f (drop (i + 1) xs)) (sym e ∙ h.to all ∙ element_at f xs i x lt is);
  from = λ later. h.from (e ∙ ap (λ ys. f x ++ ys) later ∙ sym (element_at f xs i x lt is));
}

pub meets_none : {X : Type 0} (f : X → List ℕ) (xs : List X) (bytes : List ℕ) (i : ℕ) (x : X) (rest : List ℕ) → i < length xs → x ≡ get_or xs i x → Meets f xs bytes i rest
    → ((later : List ℕ) → rest ≡ f x ++ later → ⊥) → bytes ≡ flat_map f xs → ⊥
meets_none f xs bytes i x rest lt is h none all = none (flat_map f (drop (i + 1) xs)) (h.to all ∙ element_at f xs i x lt is)

-- the bytes are all elements exactly if nothing is left after the last
pub meets_end : {X : Type 0} (f : X → List ℕ) (xs : List X) (bytes : List ℕ) (i : ℕ) (rest : List ℕ) → length xs ≤ i → Meets f xs bytes i rest
    → (nat_eq (length rest) 0 ≡ true → bytes ≡ flat_map f xs) × (bytes ≡ flat_map f xs → nat_eq (length rest) 0 ≡ true)
meets_end f xs bytes i rest le h = (
  λ none. h.from (no_bytes rest none ∙ sym (ap (flat_map f) (drop_all i xs le))),
  λ all. ap (λ ys. nat_eq (length ys) 0) (h.to all ∙ ap (flat_map f) (drop_all i xs le)),
)

-- ---- what holds of each

pub each_push : {X : Type 0} (P : X → Type 0) (xs : List X) (y : X) → Each P xs → P y → Each P (xs ++ y ∷ [])
each_push P [] y each p = (p, tt)
each_push P (x ∷ xs) y each p = (each.0, each_push P xs y each.1 p)

pub each_front : {X : Type 0} (P : X → Type 0) (xs ys : List X) → Each P (xs ++ ys) → Each P xs
each_front P [] ys each = tt
each_front P (x ∷ xs) ys each = (each.0, each_front P xs ys each.1)

pub each_more : {X : Type 0} (P : X → Type 0) (xs : List X) (i : ℕ) (x : X) → i < length xs → x ≡ get_or xs i x → Each P (take i xs) → P x → Each P (take (i + 1) xs)
each_more P xs i x lt is each p = subst (Each P) (sym (take_more xs i x lt ∙ ap (λ y. take i xs ++ y ∷ []) (sym is))) (each_push P (take i xs) x each p)

pub each_all : {X : Type 0} (P : X → Type 0) (xs : List X) (i : ℕ) → length xs ≤ i → Each P (take i xs) → Each P xs
each_all P xs i le each = subst (Each P) (take_all i xs le) each

-- ---- elements of one length

add-mul : (n k : ℕ) → (n + 1) * k ≡ n * k + k
add-mul n k = grind arith

pub length_all : {X : Type 0} (f : X → List ℕ) (k : ℕ) (xs : List X) → Each (λ x. length (f x) ≡ k) xs → length (flat_map f xs) ≡ length xs * k
length_all f k [] each = omega arith
length_all f k (x ∷ xs) each =
    let later = length_all f k xs each.1 in
    let here : length (f x) ≡ k = each.0 in
    let whole = length-append (f x) (flat_map f xs) in
    let more : (length xs + 1) * k ≡ length xs * k + k = add-mul (length xs) k in
    omega (arith, later, here, whole, more)

pub flat_map-append : {X : Type 0} (f : X → List ℕ) (xs ys : List X) → flat_map f (xs ++ ys) ≡ flat_map f xs ++ flat_map f ys
flat_map-append f [] ys = refl
flat_map-append f (x ∷ xs) ys = ap (λ bs. f x ++ bs) (flat_map-append f xs ys) ∙ sym (append_assoc (f x) (flat_map f xs) (flat_map f ys))

-- ---- a number of elements and the elements

module _ {X : Type 0} (f : X → List ℕ) (word bytes rest lines after : List ℕ) (xs : List X) where
  pub part_is : (k : ℕ) (count : Option ℕ) → ((n : ℕ) → length (flat_map f xs) ≡ n * k → n ≡ length xs) → IfSome count (λ n. bytes ≡ counted word n ++ rest) → IsSomeAnd count (λ n. length lines ≡ n * k) → rest ≡ lines ++ after
      → lines ≡ flat_map f xs → bytes ≡ (counted word (length xs) ++ flat_map f xs) ++ after
  part_is k None size a b c d = absurd b
  part_is k (Some n) size a b c d =
      a ∙ ap (λ m. counted word m ++ rest) (size n (sym (ap length d) ∙ b)) ∙ ap (λ bs. counted word (length xs) ++ bs) (c ∙ ap (λ bs. bs ++ after) d)
      ∙ sym (append_assoc (counted word (length xs)) (flat_map f xs) after)
