-- How `apply` changes cuts and rows.
use Rattle.std.proofs.Common.{◌≡◌, ℕ, zero, suc, ◌+◌, ◌<◌, ◌≤◌, Bool, true, false, if◌then◌else◌, List, [], ◌∷◌, ◌++◌, length, slice_index_or, slice_set, Option, Some, None, unwrap_or, drop, map, get_or, subst, length-append, length-drop, append-nil, add-one, append_assoc, refl, ap, ◌∙◌, sym, arith}
use Rattle.std.specs.List.{All}
use Rattle.ssim_periods.specs.internal.Splits.{patch_of, patched, patched_from}

-- the last value of a patch, put in
pub patched-last : {V : Type 0} (row : List V) (patch : List (Option V)) (v : V) → length patch < length row → patched (slice_set row (length patch) v) patch ≡ patched row (patch ++ Some v ∷ [])
patched-last [] patch v h = absurd (omega arith)
patched-last (x ∷ row) [] v h = elim row as (λ r. v ∷ r ≡ v ∷ patched r []) [ [] ↦ refl | y ∷ ys ↦ refl ]
patched-last (x ∷ row) (new ∷ patch) v h = ap (λ r. unwrap_or new x ∷ r) (patched-last row patch v (omega arith))

pub patched-nil : {V : Type 0} (row : List V) → patched row [] ≡ row
patched-nil [] = refl
patched-nil (x ∷ row) = refl

-- nothing, put in at the end
pub patched-none : {V : Type 0} (row : List V) (patch : List (Option V)) → patched row patch ≡ patched row (patch ++ None ∷ [])
patched-none [] patch = refl
patched-none (x ∷ row) [] = ap (λ r. x ∷ r) (sym (patched-nil row))
patched-none (x ∷ row) (new ∷ patch) = ap (λ r. unwrap_or new x ∷ r) (patched-none row patch)

pub patched_from-nil : {V : Type 0} (from : ℕ) (rows : List (List V)) → patched_from from [] rows ≡ rows
patched_from-nil from [] = refl
patched_from-nil zero (row ∷ rows) = refl
patched_from-nil (suc from) (row ∷ rows) = ap (λ r. row ∷ r) (patched_from-nil from rows)

-- the last patch, put in
pub patched_from-last : {V : Type 0} (from : ℕ) (patches : List (List (Option V))) (patch : List (Option V)) (rows : List (List V)) (k : ℕ) (row : List V) → from + length patches ≡ k → k < length rows → row ≡ slice_index_or rows k row → patched_from from patches (slice_set rows k (patched row patch)) ≡ patched_from from (patches ++ patch ∷ []) rows
patched_from-last from patches patch [] k row e h is = absurd (omega arith)
patched_from-last zero [] patch (r ∷ rows) zero row e h is = ap (λ p. p ∷ rows) (ap (λ x. patched x patch) is) ∙ ap (λ x. patched r patch ∷ x) (sym (patched_from-nil 0 rows))
patched_from-last zero [] patch (r ∷ rows) (suc k) row e h is = absurd (omega arith)
patched_from-last zero (p ∷ patches) patch (r ∷ rows) zero row e h is = absurd (omega arith)
patched_from-last zero (p ∷ patches) patch (r ∷ rows) (suc k) row e h is = ap (λ x. patched r p ∷ x) (patched_from-last 0 patches patch rows k row (omega arith) (omega arith) is)
patched_from-last (suc from) patches patch (r ∷ rows) zero row e h is = absurd (omega arith)
patched_from-last (suc from) patches patch (r ∷ rows) (suc k) row e h is = ap (λ x. r ∷ x) (patched_from-last from patches patch rows k row (omega arith) (omega arith) is)

-- one more weekday of a patch
pub patch_of-more : {V : Type 0} (mask : List Bool) (after : V → V) (row : List V) (w : ℕ) (old : V) → w < length mask → w < length row → patch_of (drop w mask) after (drop w row) ≡ (if slice_index_or mask w false then Some (after (slice_index_or row w old)) else None) ∷ patch_of (drop (w + 1) mask) after (drop (w + 1) row)
patch_of-more [] after row w old h l = absurd (omega arith)
patch_of-more (on ∷ mask) after [] w old h l = absurd (omega arith)
patch_of-more (on ∷ mask) after (v ∷ row) zero old h l = refl
patch_of-more (on ∷ mask) after (v ∷ row) (suc w) old h l = let ih = rw add-one at (patch_of-more mask after row w old (omega arith) (omega arith)) in rw add-one ih

-- a patch that has one more weekday
pub patch_of-told : {V : Type 0} (mask : List Bool) (after : V → V) (row : List V) (w : ℕ) (old : V) (items more : List (Option V)) (new : Option V) (ok : Bool) → w < length mask → w < length row → ok ≡ true → more ≡ (if ok then items ++ new ∷ [] else items) → new ≡ (if slice_index_or mask w false then Some (after (slice_index_or row w old)) else None) → items ++ patch_of (drop w mask) after (drop w row) ≡ patch_of mask after row → more ++ patch_of (drop (w + 1) mask) after (drop (w + 1) row) ≡ patch_of mask after row
patch_of-told mask after row w old items more new ok m r good pushed is told =
    let rest = patch_of (drop (w + 1) mask) after (drop (w + 1) row) in
    ap (λ l. l ++ rest) (pushed ∙ ap (λ b. if b then items ++ new ∷ [] else items) good) ∙ append_assoc items (new ∷ []) rest
    ∙ ap (λ n. items ++ n ∷ rest) is ∙ ap (λ l. items ++ l) (sym (patch_of-more mask after row w old m r)) ∙ told

pub nil-from-length : {X : Type 0} (xs : List X) → length xs ≡ 0 → xs ≡ []
nil-from-length [] h = refl
nil-from-length (x ∷ xs) h = absurd (omega arith)

-- a patch that has all weekdays
pub patch_of-done : {V : Type 0} (mask : List Bool) (after : V → V) (row : List V) (items : List (Option V)) (w : ℕ) → w ≡ 7 → length mask ≡ 7 → items ++ patch_of (drop w mask) after (drop w row) ≡ patch_of mask after row → items ≡ patch_of mask after row
patch_of-done mask after row items w done seven told =
    sym (append-nil items) ∙ ap (λ m. items ++ patch_of m after (drop w row)) (sym none) ∙ told
  where
    none : drop w mask ≡ []
    none = nil-from-length (drop w mask) (simp length-drop (omega arith))

pub length-map-one : {X Y : Type 0} (f : X → Y) (xs : List X) → length (map f xs) ≡ length xs
length-map-one f [] = refl
length-map-one f (x ∷ xs) = ap suc (length-map-one f xs)

pub map-push : {X Y : Type 0} (f : X → Y) (xs : List X) (x : X) → map f (xs ++ x ∷ []) ≡ map f xs ++ f x ∷ []
map-push f [] x = refl
map-push f (y ∷ xs) x = ap (λ l. f y ∷ l) (map-push f xs x)

pub get_or-front : {X : Type 0} (xs : List X) (x : X) (k : ℕ) (d : X) → k < length xs → get_or (xs ++ x ∷ []) k d ≡ get_or xs k d
get_or-front [] x k d h = absurd (omega arith)
get_or-front (y ∷ xs) x zero d h = refl
get_or-front (y ∷ xs) x (suc k) d h = get_or-front xs x k d (omega arith)

pub get_or-last : {X : Type 0} (xs : List X) (x d : X) → get_or (xs ++ x ∷ []) (length xs) d ≡ x
get_or-last [] x d = refl
get_or-last (y ∷ xs) x d = get_or-last xs x d

-- all but the last
pub All-front : {X : Type 0} (P : X → Type 0) (xs ys : List X) (x : X) → ys ≡ xs ++ x ∷ [] → All P ys → All P xs
All-front P xs ys x e all k d h = subst P (ap (λ l. get_or l k d) e ∙ get_or-front xs x k d h) (all k d (rw e (simp length-append (omega arith))))

pub All-last : {X : Type 0} (P : X → Type 0) (xs ys : List X) (x : X) → ys ≡ xs ++ x ∷ [] → All P ys → P x
All-last P xs ys x e all = subst P (ap (λ l. get_or l (length xs) x) e ∙ get_or-last xs x x) (all (length xs) x (rw e (simp length-append (omega arith))))

-- a row by its seven values
pub row-of_seven : {V : Type 0} (row : List V) (a b c d e f g a' b' c' d' e' f' g' : V) → length row ≡ 7 → a ≡ get_or row 0 a' → b ≡ get_or row 1 b' → c ≡ get_or row 2 c' → d ≡ get_or row 3 d' → e ≡ get_or row 4 e' → f ≡ get_or row 5 f' → g ≡ get_or row 6 g' → a ∷ b ∷ c ∷ d ∷ e ∷ f ∷ g ∷ [] ≡ row
row-of_seven (p ∷ q ∷ r ∷ s ∷ t ∷ u ∷ v ∷ []) a b c d e f g a' b' c' d' e' f' g' l h1 h2 h3 h4 h5 h6 h7 = cc
row-of_seven _ a b c d e f g a' b' c' d' e' f' g' l h1 h2 h3 h4 h5 h6 h7 = absurd (omega arith)

pub patch_of-length : {V : Type 0} (mask : List Bool) (after : V → V) (row : List V) → length (patch_of mask after row) ≤ length mask
patch_of-length [] after row = omega arith
patch_of-length (on ∷ mask) after [] = omega arith
patch_of-length (on ∷ mask) after (v ∷ row) = omega (arith, patch_of-length mask after row)

pub All-push : {X : Type 0} (P : X → Type 0) (xs : List X) (x : X) → All P xs → P x → All P (xs ++ x ∷ [])
All-push P [] x all p zero d h = p
All-push P [] x all p (suc k) d h = absurd (omega arith)
All-push P (y ∷ xs) x all p zero d h = all 0 d (omega arith)
All-push P (y ∷ xs) x all p (suc k) d h = All-push P xs x (λ i e l. all (suc i) e (omega arith)) p k d (omega arith)

-- rows outside the patches stay
pub patched_from-below : {V : Type 0} (from : ℕ) (patches : List (List (Option V))) (rows : List (List V)) (m : ℕ) (d : List V) → m < from → get_or (patched_from from patches rows) m d ≡ get_or rows m d
patched_from-below from patches [] m d h = refl
patched_from-below zero patches (row ∷ rows) m d h = absurd (omega arith)
patched_from-below (suc from) patches (row ∷ rows) zero d h = refl
patched_from-below (suc from) patches (row ∷ rows) (suc m) d h = patched_from-below from patches rows m d (omega arith)

pub patched_from-above : {V : Type 0} (from : ℕ) (patches : List (List (Option V))) (rows : List (List V)) (m : ℕ) (d : List V) → from + length patches ≤ m → get_or (patched_from from patches rows) m d ≡ get_or rows m d
patched_from-above from patches [] m d h = refl
patched_from-above zero [] (row ∷ rows) m d h = refl
patched_from-above zero (patch ∷ patches) (row ∷ rows) zero d h = absurd (omega arith)
patched_from-above zero (patch ∷ patches) (row ∷ rows) (suc m) d h = patched_from-above 0 patches rows m d (omega arith)
patched_from-above (suc from) patches (row ∷ rows) zero d h = absurd (omega arith)
patched_from-above (suc from) patches (row ∷ rows) (suc m) d h = patched_from-above from patches rows m d (omega arith)

-- a row within the patches has its own put in
pub patched_from-at : {V : Type 0} (from : ℕ) (patches : List (List (Option V))) (rows : List (List V)) (m i : ℕ) (d : List V) → from + i ≡ m → i < length patches → m < length rows → get_or (patched_from from patches rows) m d ≡ patched (get_or rows m d) (get_or patches i [])
patched_from-at from patches [] m i d e h l = absurd (omega arith)
patched_from-at zero [] (row ∷ rows) m i d e h l = absurd (omega arith)
patched_from-at zero (patch ∷ patches) (row ∷ rows) zero zero d e h l = refl
patched_from-at zero (patch ∷ patches) (row ∷ rows) zero (suc i) d e h l = absurd (omega arith)
patched_from-at zero (patch ∷ patches) (row ∷ rows) (suc m) zero d e h l = absurd (omega arith)
patched_from-at zero (patch ∷ patches) (row ∷ rows) (suc m) (suc i) d e h l = patched_from-at 0 patches rows m i d (omega arith) (omega arith) (omega arith)
patched_from-at (suc from) patches (row ∷ rows) zero i d e h l = absurd (omega arith)
patched_from-at (suc from) patches (row ∷ rows) (suc m) i d e h l = patched_from-at from patches rows m i d (omega arith) h (omega arith)

pub length-patched_from : {V : Type 0} (from : ℕ) (patches : List (List (Option V))) (rows : List (List V)) → length (patched_from from patches rows) ≡ length rows
length-patched_from from patches [] = refl
length-patched_from zero [] (row ∷ rows) = refl
length-patched_from zero (patch ∷ patches) (row ∷ rows) = ap suc (length-patched_from 0 patches rows)
length-patched_from (suc from) patches (row ∷ rows) = ap suc (length-patched_from from patches rows)

-- a value of a patched row
pub patched-at : {V : Type 0} (row : List V) (patch : List (Option V)) (s : ℕ) (e : V) → s < length row → get_or (patched row patch) s e ≡ unwrap_or (slice_index_or patch s None) (get_or row s e)
patched-at [] patch s e l = absurd (omega arith)
patched-at (v ∷ row) [] s e l = refl
patched-at (v ∷ row) (new ∷ patch) zero e l = refl
patched-at (v ∷ row) (new ∷ patch) (suc s) e l = patched-at row patch s e (omega arith)

-- a new value of a row
pub patch_of-at : {V : Type 0} (mask : List Bool) (after : V → V) (row : List V) (s : ℕ) (e : V) → s < length row → slice_index_or (patch_of mask after row) s None ≡ (if slice_index_or mask s false then Some (after (get_or row s e)) else None)
patch_of-at [] after row s e l = refl
patch_of-at (on ∷ mask) after [] s e l = absurd (omega arith)
patch_of-at (on ∷ mask) after (v ∷ row) zero e l = refl
patch_of-at (on ∷ mask) after (v ∷ row) (suc s) e l = patch_of-at mask after row s e (omega arith)

pub length-patched : {V : Type 0} (row : List V) (patch : List (Option V)) → length (patched row patch) ≡ length row
length-patched [] patch = refl
length-patched (v ∷ row) [] = refl
length-patched (v ∷ row) (new ∷ patch) = ap suc (length-patched row patch)
