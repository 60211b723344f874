-- A search by reference, by halves.
use Rattle.std.proofs.Common.{◌≡◌, ◌⊎◌, inl, inr, ℕ, zero, suc, ◌+◌, ◌<◌, ◌≤◌, List, [], ◌∷◌, length, Some, IfSome, slice_get, slice_index_or, refl, sym, ap, subst, ◌∙◌, arith}
use Rattle.std.specs.Prelude.{T}
use Rattle.std.specs.declared.cmp.Ordering.TheVariants.{Less, Equal, Greater}
use Rattle.std.specs.FinMap.{is_sorted}
use Rattle.std.specs.FinMap.{get}
use Rattle.std.proofs.lemmas.Bool.{cases_lt}
use Rattle.ssim_text.specs.declared.reference.Reference.{Reference}
use Rattle.ssim_held.specs.Held.{reference_cmp}
use Rattle.ssim_held.specs.Entries.{AreRising, Entry, keyed, map_of}
use Rattle.ssim_held.specs.clauses.Ordered.{Belongs}
use Rattle.ssim_held.proofs.Entries.{T-from_true, and_left, and_right, below_later, flips, held_at}
use Rattle.ssim_held.proofs.References.{reference_apart, reference_total}

-- the element at a position of a list
pub at_index : {X : Type 0} (xs : List X) (k : ℕ) (d : X) → k < length xs → slice_get xs k ≡ Some (slice_index_or xs k d)
at_index [] k d lt = absurd (omega arith)
at_index (x ∷ xs) zero d lt = refl
at_index (x ∷ xs) (suc k) d lt = at_index xs k d (omega arith)

pub index_of_get : {X : Type 0} (xs : List X) (k : ℕ) (x d : X) → slice_get xs k ≡ Some x → slice_index_or xs k d ≡ x
index_of_get [] k x d h = cc
index_of_get (y ∷ xs) zero x d h = cc
index_of_get (y ∷ xs) (suc k) x d h = index_of_get xs k x d h

if_some_index : {X : Type 0} (xs : List X) (k : ℕ) (P : X → Type 0) → (k < length xs → (d : X) → P (slice_index_or xs k d)) → IfSome (slice_get xs k) P
if_some_index [] k P h = tt
if_some_index (x ∷ xs) zero P h = h (omega arith) x
if_some_index (x ∷ xs) (suc k) P h = if_some_index xs k P (λ lt. h (omega arith))

-- of two messages the one that is later in the list has the greater reference
pub rise : (es : List Entry) (i j : ℕ) (a b : Entry) → T (is_sorted reference_cmp (keyed es)) → i < j → slice_get es i ≡ Some a → slice_get es j ≡ Some b → reference_cmp a.reference b.reference ≡ Less
rise [] i j a b sorted lt at bt = cc
rise (x ∷ es) i zero a b sorted lt at bt = absurd (omega arith)
rise (x ∷ es) zero (suc j) a b sorted lt at bt =
    let same : x ≡ a = cc in
    subst (λ (z : Entry). reference_cmp z.reference b.reference ≡ Less) same (below_later x.reference es j b (and_left _ _ sorted) bt)
rise (x ∷ es) (suc i) (suc j) a b sorted lt at bt = rise es i j a b (and_right _ _ sorted) (omega arith) at bt

-- a message with the reference is there
abbrev pub IsHeldAt : List Entry → Reference → ℕ → Type 0
IsHeldAt es r at = (e : Entry) × (slice_get es at ≡ Some e) × (e.reference ≡ r)

-- ---- a search by halves

module _ (es : List Entry) (rising : AreRising es) (r : Reference) (low high mid : ℕ) (n : Belongs es r low high) (from : low ≤ mid) (to : mid < high) (e : Entry) (is : e ≡ slice_index_or es mid e) where
  in_list : mid < length es
  in_list = omega (arith, to, n.within)

  there : slice_get es mid ≡ Some e
  there = at_index es mid e in_list ∙ ap Some (sym is)

  -- if the middle is less, all below it are less
  pub narrow_up : Less ≡ reference_cmp e.reference r → Belongs es r (mid + 1) high
  narrow_up less = record {
    order = omega (arith, to);
    within = n.within;
    before = λ j lt. if_some_index es j _ (λ lj d. by j d lj (cases_lt j mid) lt);
    after = n.after;
  }
    where
      by : (j : ℕ) (d : Entry) → j < length es → ((j < mid) ⊎ (mid ≤ j)) → j < mid + 1 → reference_cmp r (slice_index_or es j d).reference ≡ Greater
      by j d lj (inl below) lt = flips _ r Less (reference_total.trans _ e.reference r (rise es j mid _ e (T-from_true _ rising) below (at_index es j d lj) there) (sym less))
      by j d lj (inr above) lt =
          let same : j ≡ mid = omega (arith, lt, above) in
          flips _ r Less (ap (λ (x : Entry). reference_cmp x.reference r) (ap (λ k. slice_index_or es k d) same ∙ index_of_get es mid e d there) ∙ sym less)

  -- if the middle is greater, all above it are greater
  pub narrow_down : Greater ≡ reference_cmp e.reference r → Belongs es r low mid
  narrow_down greater = record {
    order = from;
    within = omega (arith, in_list);
    before = n.before;
    after = λ j le. if_some_index es j _ (λ lj d. by j d lj (cases_lt mid j) le);
  }
    where
      under : reference_cmp r e.reference ≡ Less
      under = flips e.reference r Greater (sym greater)

      by : (j : ℕ) (d : Entry) → j < length es → ((mid < j) ⊎ (j ≤ mid)) → mid ≤ j → reference_cmp r (slice_index_or es j d).reference ≡ Less
      by j d lj (inl above) le = reference_total.trans r e.reference _ under (rise es mid j e _ (T-from_true _ rising) above there (at_index es j d lj))
      by j d lj (inr below) le =
          let same : j ≡ mid = omega (arith, le, below) in
          ap (λ (x : Entry). reference_cmp r x.reference) (ap (λ k. slice_index_or es k d) same ∙ index_of_get es mid e d there) ∙ under

  pub at_middle : Equal ≡ reference_cmp e.reference r → IsHeldAt es r mid
  at_middle equal = (e, there, reference_apart e.reference r (sym equal))

-- what is held under a reference that is there
pub found_there : (es : List Entry) → AreRising es → (r : Reference) (at : ℕ) → IsHeldAt es r at → (x : Entry) → x ≡ slice_index_or es at x → get (map_of es) r ≡ Some x.message
found_there es rising r at (e, there, its) x is =
    ap (get (map_of es)) (sym its) ∙ held_at es at e rising there ∙ ap (λ (z : Entry). Some z.message) (sym (is ∙ index_of_get es at e x there))

pub no_more : {X : Type 0} (xs : List X) (j : ℕ) (P : X → Type 0) → length xs ≤ j → IfSome (slice_get xs j) P
no_more xs j P le = if_some_index xs j P (λ lt d. absurd (omega (arith, lt, le)))
