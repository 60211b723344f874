-- A fact of each element of lists that are joined, mapped, flattened, and gone over one by one.
use Rattle.std.proofs.Common.{◌≡◌, ◌≤◌, ◌<◌, ℕ, ◌+◌, List, [], ◌∷◌, ◌++◌, map, length, take, drop, get_or, refl, sym, ap, subst, ◌∙◌, arith}
use Rattle.std.specs.List.{flat_map, All, AllByRecursion as Each}
use Rattle.std.proofs.lemmas.List.{drop_more, take_all}
use Rattle.std.proofs.lemmas.List.Elements.{All-from_recursion, All-more, recursion_from_All}

pub each-any : {X : Type 0} (P : X → Type 0) (xs : List X) → ((x : X) → P x) → Each P xs
each-any P [] h = tt
each-any P (x ∷ xs) h = (h x, each-any P xs h)

pub each-append : {X : Type 0} (P : X → Type 0) (xs ys : List X) → Each P xs → Each P ys → Each P (xs ++ ys)
each-append P [] ys a b = b
each-append P (x ∷ xs) ys a b = (a.0, each-append P xs ys a.1 b)

pub each-map : {X Y : Type 0} (P : Y → Type 0) (f : X → Y) (xs : List X) → ((x : X) → P (f x)) → Each P (map f xs)
each-map P f [] h = tt
each-map P f (x ∷ xs) h = (h x, each-map P f xs h)

pub each-flat_map : {X Y : Type 0} (P : Y → Type 0) (f : X → List Y) (xs : List X) → Each (λ x. Each P (f x)) xs → Each P (flat_map f xs)
each-flat_map P f [] h = tt
each-flat_map P f (x ∷ xs) h = each-append P (f x) (flat_map f xs) h.0 (each-flat_map P f xs h.1)

pub each-both : {X : Type 0} (P Q : X → Type 0) (xs : List X) → Each P xs → Each Q xs → Each (λ x. P x × Q x) xs
each-both P Q [] a b = tt
each-both P Q (x ∷ xs) a b = ((a.0, b.0), each-both P Q xs a.1 b.1)

-- the current element, after those before it
pub all_more : {X : Type 0} (P : X → Type 0) (xs : List X) (i : ℕ) (x : X) → i < length xs → x ≡ get_or xs i x → All P (take i xs) → P x → All P (take (i + 1) xs)
all_more P xs i x less is before one = All-more P xs i x less before (subst P is one)

-- what follows from a fact of all elements that are left follows from that fact of all but the
-- first, if the first is known to have it
pub all_left : {X : Type 0} (P : X → Type 0) (G : Type 0) (left rest : List X) (x : X) → left ≡ x ∷ rest → P x → (All P left → G) → All P rest → G
all_left P G left rest x is one all others = all (subst (λ xs. All P xs) (sym is) (All-from_recursion P (x ∷ rest) (one, recursion_from_All P rest others)))

-- nothing is left
pub none_left : {X : Type 0} (left : List X) → length left ≡ 0 → left ≡ []
none_left [] h = refl
none_left (x ∷ left) h = absurd (omega arith)

-- at the end these are all
pub all_done : {X : Type 0} (P : X → Type 0) (xs : List X) (i : ℕ) → length xs ≤ i → All P (take i xs) → All P xs
all_done P xs i done each = subst (λ ys. All P ys) (take_all i xs done) each

-- the item at an index, and those after it
pub item : {X : Type 0} (xs : List X) (i : ℕ) (x : X) → i < length xs → x ≡ get_or xs i x → drop i xs ≡ x ∷ drop (i + 1) xs
item xs i x less is = drop_more xs i x less ∙ ap (λ y. y ∷ drop (i + 1) xs) (sym is)
