-- A list of messages in order of reference without the message at one position, as a map.
use Rattle.std.proofs.Common.{◌≡◌, ℕ, zero, suc, Bool, true, false, cond, List, [], ◌∷◌, Option, Some, None, Ordering, slice_get, refl, sym, ap, ◌∙◌}
use Rattle.std.specs.Prelude.{T}
use Rattle.std.specs.List.{remove}
use Rattle.std.specs.Ordering.{eq_by_cmp, is_eq}
use Rattle.std.specs.declared.cmp.Ordering.TheVariants.{Less, Equal, Greater}
use Rattle.std.specs.FinMap.{find, get, get-remove, is_sorted, same_map}
use Rattle.std.specs.FinMap as map
use Rattle.std.specs.FinMap.Entries.{below_all}
use Rattle.ssim_text.specs.Message.{MessageValue}
use Rattle.ssim_text.specs.declared.reference.Reference.{Reference}
use Rattle.ssim_held.specs.Held.{HeldMessages, reference_cmp}
use Rattle.ssim_held.specs.Entries.{AreRising, Entry, keyed, map_of}
use Rattle.ssim_held.proofs.Entries.{Pair, T-from_true, and_left, and_right, below_later, both, get-map_of, less-from_T, self_equal, true-from_T}
use Rattle.ssim_held.proofs.References.{reference_apart, reference_total}

below_without : (y : Reference) (es : List Entry) (i : ℕ) → T (below_all reference_cmp y (keyed es)) → T (below_all reference_cmp y (keyed (remove es i)))
below_without y [] zero below = below
below_without y [] (suc i) below = below
below_without y (x ∷ es) zero below = and_right _ _ below
below_without y (x ∷ es) (suc i) below = both _ _ (and_left _ _ below) (below_without y es i (and_right _ _ below))

sorted_without : (es : List Entry) (i : ℕ) → T (is_sorted reference_cmp (keyed es)) → T (is_sorted reference_cmp (keyed (remove es i)))
sorted_without [] zero sorted = sorted
sorted_without [] (suc i) sorted = sorted
sorted_without (x ∷ es) zero sorted = and_right _ _ sorted
sorted_without (x ∷ es) (suc i) sorted = both _ _ (below_without x.reference es i (and_left _ _ sorted)) (sorted_without es i (and_right _ _ sorted))

-- the references of the other messages rise
pub rising_without : (es : List Entry) (i : ℕ) → AreRising es → AreRising (remove es i)
rising_without es i rising = true-from_T _ (sorted_without es i (T-from_true _ rising))

-- a reference that is before all is not found among them
find_first : (y : Reference) (ps : List Pair) → T (below_all reference_cmp y ps) → find reference_cmp y ps ≡ None
find_first y [] below = refl
find_first y (p ∷ ps) below =
    ap (λ r. cond (is_eq r) (Some p.1) (find reference_cmp y ps)) (less-from_T _ (and_left _ _ below)) ∙ find_first y ps (and_right _ _ below)

pub equal_at : (q y : Reference) → eq_by_cmp reference_cmp q y ≡ true → q ≡ y
equal_at q y e = reference_apart q y (by (reference_cmp q y) e)
  where
    by : (o : Ordering) → is_eq o ≡ true → o ≡ Equal
    by Less e = cc
    by Equal e = refl
    by Greater e = cc

find_at_first : (q : Reference) (x : Entry) (ps : List Pair) (b : Bool) → eq_by_cmp reference_cmp q x.reference ≡ b → T (below_all reference_cmp x.reference ps)
    → find reference_cmp q ps ≡ cond b None (cond b (Some x.message) (find reference_cmp q ps))
find_at_first q x ps true e below = ap (λ (r : Reference). find reference_cmp r ps) (equal_at q x.reference e) ∙ find_first x.reference ps below
find_at_first q x ps false e below = refl

not_less : (a b : Reference) → reference_cmp a b ≡ Less → a ≡ b → ⊥
not_less a b less same = let equal = ap (reference_cmp a) (sym same) ∙ self_equal a in cc

found_before : (q : Reference) (x e : Entry) (rest : Option MessageValue) (here there : Bool) → eq_by_cmp reference_cmp q x.reference ≡ here → eq_by_cmp reference_cmp q e.reference ≡ there
    → reference_cmp x.reference e.reference ≡ Less → cond here (Some x.message) (cond there None rest) ≡ cond there None (cond here (Some x.message) rest)
found_before q x e rest true true h t less = absurd (not_less x.reference e.reference less (sym (equal_at q x.reference h) ∙ equal_at q e.reference t))
found_before q x e rest true false h t less = refl
found_before q x e rest false there h t less = refl

-- what is found without the message at a position
find_without : (q : Reference) (es : List Entry) (i : ℕ) (e : Entry) → T (is_sorted reference_cmp (keyed es)) → slice_get es i ≡ Some e
    → find reference_cmp q (keyed (remove es i)) ≡ cond (eq_by_cmp reference_cmp q e.reference) None (find reference_cmp q (keyed es))
find_without q [] i e sorted there = cc
find_without q (x ∷ es) zero e sorted there =
    let same : x ≡ e = cc in
    find_at_first q x (keyed es) (eq_by_cmp reference_cmp q x.reference) refl (and_left _ _ sorted)
    ∙ ap (λ (z : Entry). cond (eq_by_cmp reference_cmp q z.reference) None (find reference_cmp q (keyed (x ∷ es)))) same
find_without q (x ∷ es) (suc i) e sorted there =
    ap (cond (eq_by_cmp reference_cmp q x.reference) (Some x.message)) (find_without q es i e (and_right _ _ sorted) there)
    ∙ found_before q x e (find reference_cmp q (keyed es)) (eq_by_cmp reference_cmp q x.reference) (eq_by_cmp reference_cmp q e.reference) refl refl (below_later x.reference es i e (and_left _ _ sorted) there)

-- the list without a message is the map without it
pub map_of_without : (es : List Entry) (i : ℕ) (e : Entry) → AreRising es → slice_get es i ≡ Some e → map_of (remove es i) ≡ map.remove (map_of es) e.reference
map_of_without es i e rising there =
    same_map reference_total reference_apart _ _ (λ q.
    get-map_of (remove es i) q (rising_without es i rising) ∙ find_without q es i e (T-from_true _ rising) there
    ∙ ap (cond (eq_by_cmp reference_cmp q e.reference) None) (sym (get-map_of es q rising)) ∙ sym (get-remove reference_total (map_of es) e.reference q))

cond_at : (q r : Reference) (got : Reference → Option MessageValue) (b : Bool) → eq_by_cmp reference_cmp q r ≡ b → got r ≡ None → cond b None (got q) ≡ got q
cond_at q r got true e none = sym (ap got (equal_at q r e) ∙ none)
cond_at q r got false e none = refl

-- a map in which nothing is held under a reference is the map without it
pub without_absent : (m : HeldMessages) (r : Reference) → get m r ≡ None → map.remove m r ≡ m
without_absent m r none =
    same_map reference_total reference_apart _ _ (λ q. get-remove reference_total m r q ∙ cond_at q r (get m) (eq_by_cmp reference_cmp q r) refl none)
