-- Lists in which no two values are equal.
use Rattle.std.proofs.Common.{◌≡◌, ◌≢◌, ◌∙◌, List, [], ◌∷◌, ◌++◌, map, sym, ap}
use Rattle.std.specs.List.{AllByRecursion as Each, flat_map}
use Rattle.ssim_base.proofs.Each.{each-append}
use Rattle.ssim_sql.specs.Keys.{AreDistinct}

-- no value of one list is one of another
abbrev pub Apart : {K : Type 0} → List K → List K → Type 0
Apart xs ys = Each (λ x. Each (λ y. x ≢ y) ys) xs

pub distinct-append : {K : Type 0} (xs ys : List K) → AreDistinct xs → AreDistinct ys → Apart xs ys
    → AreDistinct (xs ++ ys)
distinct-append [] ys own others apart = others
distinct-append (x ∷ xs) ys own others apart = (
  each-append (λ y. x ≢ y) xs ys own.0 apart.0,
  distinct-append xs ys own.1 others apart.1,
)

-- ---- values that a tag tells apart

one_apart : {K T : Type 0} (tag : K → T) (a : T) (x : K) (ys : List K) → tag x ≡ a
    → Each (λ y. a ≢ tag y) ys → Each (λ y. x ≢ y) ys
one_apart tag a x [] same others = tt
one_apart tag a x (y ∷ ys) same others =
    (λ e. others.0 (sym same ∙ ap tag e), one_apart tag a x ys same others.1)

-- the tags of one list are one, and those of the other are others
pub apart_by : {K T : Type 0} (tag : K → T) (a : T) (xs ys : List K) → Each (λ x. tag x ≡ a) xs
    → Each (λ y. a ≢ tag y) ys → Apart xs ys
apart_by tag a [] ys same others = tt
apart_by tag a (x ∷ xs) ys same others =
    (one_apart tag a x ys same.0 others, apart_by tag a xs ys same.1 others)

others_by : {K T : Type 0} (tag : K → T) (a b : T) (ks : List K) → Each (λ k. tag k ≡ b) ks → a ≢ b
    → Each (λ k. a ≢ tag k) ks
others_by tag a b [] same other = tt
others_by tag a b (k ∷ ks) same other =
    (λ e. other (e ∙ same.0), others_by tag a b ks same.1 other)

-- the values of each group have the tag of its name
abbrev pub AreNamed : {G K T : Type 0} → (G → List K) → (K → T) → (G → T) → List G → Type 0
AreNamed keys tag name gs = Each (λ g. Each (λ k. tag k ≡ name g) (keys g)) gs

others_in : {G K T : Type 0} (keys : G → List K) (tag : K → T) (name : G → T) (a : T) (gs : List G)
    → AreNamed keys tag name gs → Each (λ b. a ≢ b) (map name gs)
    → Each (λ k. a ≢ tag k) (flat_map keys gs)
others_in keys tag name a [] named others = tt
others_in keys tag name a (g ∷ gs) named others =
    each-append (λ k. a ≢ tag k) (keys g) (flat_map keys gs)
    (others_by tag a (name g) (keys g) named.0 others.0)
    (others_in keys tag name a gs named.1 others.1)

-- the values of groups with different names are distinct if those of each group are
pub distinct-groups : {G K T : Type 0} (keys : G → List K) (tag : K → T) (name : G → T) (gs : List G)
    → Each (λ g. AreDistinct (keys g)) gs → AreNamed keys tag name gs → AreDistinct (map name gs)
    → AreDistinct (flat_map keys gs)
distinct-groups keys tag name [] own named different = tt
distinct-groups keys tag name (g ∷ gs) own named different =
    distinct-append (keys g) (flat_map keys gs) own.0
    (distinct-groups keys tag name gs own.1 named.1 different.1)
    (apart_by tag (name g) (keys g) (flat_map keys gs) named.0
    (others_in keys tag name (name g) gs named.1 different.0))

-- ---- other names

other_names : {K L : Type 0} (f : K → L) (back : L → K) → ((k : K) → back (f k) ≡ k) → (x : K)
    (ks : List K) → Each (λ y. x ≢ y) ks → Each (λ y. f x ≢ y) (map f ks)
other_names f back turns x [] others = tt
other_names f back turns x (k ∷ ks) others = (
  λ e. others.0 (sym (turns x) ∙ ap back e ∙ turns k),
  other_names f back turns x ks others.1,
)

-- distinct values have distinct names, if a name says the value
pub distinct-map : {K L : Type 0} (f : K → L) (back : L → K) → ((k : K) → back (f k) ≡ k)
    → (ks : List K) → AreDistinct ks → AreDistinct (map f ks)
distinct-map f back turns [] different = tt
distinct-map f back turns (k ∷ ks) different =
    (other_names f back turns k ks different.0, distinct-map f back turns ks different.1)
