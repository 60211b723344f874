-- A list of messages in order of reference as a map, and the map after one more message at its
-- position.
use Rattle.std.proofs.Common.{◌≡◌, ℕ, zero, suc, ◌<◌, ◌≤◌, Bool, true, false, cond, ◌&&◌, List, [], ◌∷◌, length, Some, None, IfSome, slice_get, refl, sym, ap, subst, ◌∙◌, arith}
use Rattle.std.specs.Prelude.{T}
use Rattle.std.specs.declared.cmp.Ordering.{Ordering}
use Rattle.std.specs.declared.cmp.Ordering.TheVariants.{Less, Equal, Greater}
use Rattle.std.specs.Ordering.{is_lt, is_eq, ordering_reverse}
use Rattle.std.specs.List.{insert}
use Rattle.std.specs.FinMap.{get, entries, is_sorted, entries-from_sorted, entries-insert, entries_sorted, get-entries, same_entries_map, find, put}
use Rattle.std.specs.FinMap as map
use Rattle.std.specs.FinMap.Entries.{by_order, below_all}
use Rattle.ssim_text.specs.Message.{MessageValue}
use Rattle.ssim_text.specs.declared.reference.Reference.{Reference}
use Rattle.ssim_held.specs.Held.{reference_cmp}
use Rattle.ssim_held.specs.Entries.{AreRising, Entry, keyed, map_of}
use Rattle.ssim_held.specs.clauses.Ordered.{Belongs}
use Rattle.ssim_held.proofs.References.{reference_total}

abbrev pub Pair : Type 0
Pair = Reference × MessageValue

pub T-from_true : (b : Bool) → b ≡ true → T b
T-from_true b h = subst T (sym h) tt

pub true-from_T : (b : Bool) → T b → b ≡ true
true-from_T true h = refl
true-from_T false h = absurd h

pub and_left : (a b : Bool) → T (a && b) → T a
and_left true b h = tt
and_left false b h = absurd h

pub and_right : (a b : Bool) → T (a && b) → T b
and_right true b h = h
and_right false b h = absurd h

pub both : (a b : Bool) → T a → T b → T (a && b)
both true b ha hb = hb
both false b ha hb = absurd ha

pub less-from_T : (r : Ordering) → T (is_lt r) → r ≡ Less
less-from_T Less h = refl
less-from_T Equal h = absurd h
less-from_T Greater h = absurd h

pub less-to_T : (r : Ordering) → r ≡ Less → T (is_lt r)
less-to_T r h = subst (λ o. T (is_lt o)) (sym h) tt

pub self_equal : (r : Reference) → reference_cmp r r ≡ Equal
self_equal r = by (reference_cmp r r) (reference_total.antisymm r r)
  where
    by : (o : Ordering) → o ≡ ordering_reverse o → o ≡ Equal
    by Less e = cc
    by Equal e = refl
    by Greater e = cc

pub flips : (a b : Reference) (o : Ordering) → reference_cmp a b ≡ o → reference_cmp b a ≡ ordering_reverse o
flips a b o e = reference_total.antisymm b a ∙ ap ordering_reverse e

-- all entries before a position come before a reference
abbrev pub AllBefore : List Entry → ℕ → Reference → Type 0
AllBefore es i r = (j : ℕ) → j < i → IfSome (slice_get es j) (λ e. reference_cmp r e.reference ≡ Greater)

-- a message goes to the position before which all are less and at which none is
pub put_at : (new : Entry) (es : List Entry) (i : ℕ) → i ≤ length es → AllBefore es i new.reference
    → IfSome (slice_get es i) (λ e. reference_cmp new.reference e.reference ≡ Less)
    → put reference_cmp new.reference new.message (keyed es) ≡ keyed (insert es i new)
put_at new [] zero within before here = refl
put_at new [] (suc i) within before here = absurd (omega arith)
put_at new (e ∷ es) zero within before here =
    ap (λ r. by_order r ((new.reference, new.message) ∷ (e.reference, e.message) ∷ keyed es) ((e.reference, new.message) ∷ keyed es) ((e.reference, e.message) ∷ put reference_cmp new.reference new.message (keyed es))) here
put_at new (e ∷ es) (suc i) within before here =
    ap (λ r. by_order r ((new.reference, new.message) ∷ (e.reference, e.message) ∷ keyed es) ((e.reference, new.message) ∷ keyed es) ((e.reference, e.message) ∷ put reference_cmp new.reference new.message (keyed es))) (before 0 (omega arith))
    ∙ ap (λ ps. (e.reference, e.message) ∷ ps) (put_at new es i (omega arith) (λ j lt. before (suc j) (omega arith)) here)

-- a reference that is before all is not found
pub find_below : (q y : Reference) (ps : List Pair) → reference_cmp q y ≡ Less → T (below_all reference_cmp y ps) → find reference_cmp q ps ≡ None
find_below q y [] less below = refl
find_below q y (p ∷ ps) less below =
    ap (λ r. cond (is_eq r) (Some p.1) (find reference_cmp q ps)) (reference_total.trans q y p.0 less (less-from_T _ (and_left _ _ below)))
    ∙ find_below q y ps less (and_right _ _ below)

-- nothing is found under a reference that has a gap
pub find_gap : (q : Reference) (es : List Entry) (i : ℕ) → T (is_sorted reference_cmp (keyed es)) → i ≤ length es → AllBefore es i q
    → IfSome (slice_get es i) (λ e. reference_cmp q e.reference ≡ Less) → find reference_cmp q (keyed es) ≡ None
find_gap q [] i sorted within before here = refl
find_gap q (e ∷ es) zero sorted within before here =
    ap (λ r. cond (is_eq r) (Some e.message) (find reference_cmp q (keyed es))) here
    ∙ find_below q e.reference (keyed es) here (and_left _ _ sorted)
find_gap q (e ∷ es) (suc i) sorted within before here =
    ap (λ r. cond (is_eq r) (Some e.message) (find reference_cmp q (keyed es))) (before 0 (omega arith))
    ∙ find_gap q es i (and_right _ _ sorted) (omega arith) (λ j lt. before (suc j) (omega arith)) here

pub entries-map_of : (es : List Entry) → AreRising es → entries (map_of es) ≡ keyed es
entries-map_of es h = entries-from_sorted reference_cmp (keyed es) (T-from_true _ h)

-- what is held under a reference
pub get-map_of : (es : List Entry) (q : Reference) → AreRising es → get (map_of es) q ≡ find reference_cmp q (keyed es)
get-map_of es q rising = get-entries (map_of es) q ∙ ap (find reference_cmp q) (entries-map_of es rising)

module _ (es : List Entry) (i : ℕ) (new : Entry) (rising : AreRising es) (gap : Belongs es new.reference i i) where
  entries_with : entries (map.insert (map_of es) new.reference new.message) ≡ keyed (insert es i new)
  entries_with =
      entries-insert reference_total (map_of es) new.reference new.message
      ∙ ap (put reference_cmp new.reference new.message) (entries-map_of es rising) ∙ put_at new es i gap.within gap.before (gap.after i (omega arith))

  pub rising_with : AreRising (insert es i new)
  rising_with = true-from_T _ (subst (λ (ps : List (Reference × MessageValue)). T (is_sorted reference_cmp ps)) entries_with (entries_sorted (map.insert (map_of es) new.reference new.message)))

  -- the list with one more message is the map with the message
  pub map_of_with : map_of (insert es i new) ≡ map.insert (map_of es) new.reference new.message
  map_of_with = same_entries_map _ _ (entries-map_of (insert es i new) rising_with ∙ sym entries_with)

-- nothing is held under a reference that has a gap
pub not_held : (es : List Entry) (i : ℕ) (r : Reference) → AreRising es → Belongs es r i i → get (map_of es) r ≡ None
not_held es i r rising gap = get-map_of es r rising ∙ find_gap r es i (T-from_true _ rising) gap.within gap.before (gap.after i (omega arith))

-- an entry that is not the first comes after the first
pub below_later : (y : Reference) (es : List Entry) (i : ℕ) (e : Entry) → T (below_all reference_cmp y (keyed es)) → slice_get es i ≡ Some e → reference_cmp y e.reference ≡ Less
below_later y [] i e below there = cc
below_later y (x ∷ es) zero e below there = let same : x ≡ e = cc in subst (λ (z : Entry). reference_cmp y z.reference ≡ Less) same (less-from_T _ (and_left _ _ below))
below_later y (x ∷ es) (suc i) e below there = below_later y es i e (and_right _ _ below) there

-- what is found under the reference of an entry is its message
pub find_held : (es : List Entry) (i : ℕ) (e : Entry) → T (is_sorted reference_cmp (keyed es)) → slice_get es i ≡ Some e → find reference_cmp e.reference (keyed es) ≡ Some e.message
find_held [] i e sorted there = cc
find_held (x ∷ es) zero e sorted there =
    let same : x ≡ e = cc in
    ap (λ r. cond (is_eq r) (Some x.message) (find reference_cmp e.reference (keyed es))) (ap (λ (z : Entry). reference_cmp e.reference z.reference) same ∙ self_equal e.reference) ∙ ap (λ (z : Entry). Some z.message) same
find_held (x ∷ es) (suc i) e sorted there =
    ap (λ r. cond (is_eq r) (Some x.message) (find reference_cmp e.reference (keyed es)))
    (flips x.reference e.reference Less (below_later x.reference es i e (and_left _ _ sorted) there))
    ∙ find_held es i e (and_right _ _ sorted) there

pub held_at : (es : List Entry) (i : ℕ) (e : Entry) → AreRising es → slice_get es i ≡ Some e → get (map_of es) e.reference ≡ Some e.message
held_at es i e rising there = get-map_of es e.reference rising ∙ find_held es i e (T-from_true _ rising) there
