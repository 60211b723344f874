-- Two lists of messages merged: what is found in them, and that references rise.
use Rattle.std.proofs.Common.{◌≡◌, ◌<◌, ℕ, zero, suc, Bool, true, false, cond, List, [], ◌∷◌, ◌++◌, take, drop, Option, Some, None, IfSome, slice_get, All, refl, sym, ap, subst, ◌∙◌, arith}
use Rattle.std.specs.Prelude.{T}
use Rattle.std.specs.declared.cmp.Ordering.{Ordering}
use Rattle.std.specs.declared.cmp.Ordering.TheVariants.{Less, Equal, Greater}
use Rattle.std.specs.Ordering.{eq_by_cmp, is_eq}
use Rattle.std.specs.FinMap.{find, is_sorted}
use Rattle.std.specs.FinMap.Entries.{below_all}
use Rattle.std.proofs.lemmas.List.Elements.{All-cons, All-head, All-nil, All-tail}
use Rattle.ssim_text.specs.Message.{MessageValue}
use Rattle.ssim_text.specs.declared.reference.Reference.{Reference}
use Rattle.ssim_held.specs.Held.{reference_cmp}
use Rattle.ssim_held.specs.Entries.{Entry, keyed}
use Rattle.ssim_held.specs.clauses.Ordered.{IsLesser, IsMerged}
use Rattle.ssim_held.proofs.Entries.{and_left, and_right, both, find_below, flips, less-from_T, less-to_T}
use Rattle.ssim_held.proofs.MapLemmas.{or_else}
use Rattle.ssim_held.proofs.References.{reference_apart, reference_total}

-- ---- what holds of every list that is put together

module _ (Q : List Entry → List Entry → List Entry → Type 0) (none : Q [] [] [])
    (theirs_alone : (t : Entry) (theirs all : List Entry) → Q [] theirs all → Q [] (t ∷ theirs) (t ∷ all))
    (mine_alone : (m : Entry) (mine all : List Entry) → Q mine [] all → Q (m ∷ mine) [] (m ∷ all))
    (less : (m t : Entry) (mine theirs all : List Entry) → reference_cmp m.reference t.reference ≡ Less → Q mine (t ∷ theirs) all → Q (m ∷ mine) (t ∷ theirs) (m ∷ all))
    (equal : (m t : Entry) (mine theirs all : List Entry) → reference_cmp m.reference t.reference ≡ Equal → Q mine theirs all → Q (m ∷ mine) (t ∷ theirs) (m ∷ all))
    (greater : (m t : Entry) (mine theirs all : List Entry) → reference_cmp m.reference t.reference ≡ Greater → Q (m ∷ mine) theirs all → Q (m ∷ mine) (t ∷ theirs) (t ∷ all)) where
  moved : (all : List Entry) (a b x y : List Entry) → a ≡ x → b ≡ y → Q a b all → Q x y all
  moved all a b x y ea eb q = subst (λ z. Q z y all) ea (subst (λ z. Q a z all) eb q)

  headed : (mine theirs : List Entry) (e f : Entry) (all : List Entry) → e ≡ f → Q mine theirs (f ∷ all) → Q mine theirs (e ∷ all)
  headed mine theirs e f all same q = subst (λ (z : Entry). Q mine theirs (z ∷ all)) (sym same) q

  lesser : (o : Ordering) (m t e : Entry) (mine theirs mine_left theirs_left all : List Entry) → reference_cmp m.reference t.reference ≡ o
      → IsLesser o m mine t theirs e mine_left theirs_left → Q mine_left theirs_left all → Q (m ∷ mine) (t ∷ theirs) (e ∷ all)
  lesser Less m t e mine theirs mine_left theirs_left all o (is, is_mine, is_theirs) q =
      headed (m ∷ mine) (t ∷ theirs) e m all is (less m t mine theirs all o (moved all mine_left theirs_left mine (t ∷ theirs) is_mine is_theirs q))
  lesser Equal m t e mine theirs mine_left theirs_left all o (is, is_mine, is_theirs) q =
      headed (m ∷ mine) (t ∷ theirs) e m all is (equal m t mine theirs all o (moved all mine_left theirs_left mine theirs is_mine is_theirs q))
  lesser Greater m t e mine theirs mine_left theirs_left all o (is, is_mine, is_theirs) q =
      headed (m ∷ mine) (t ∷ theirs) e t all is (greater m t mine theirs all o (moved all mine_left theirs_left (m ∷ mine) theirs is_mine is_theirs q))

  pub of_merged : (all mine theirs : List Entry) → IsMerged mine theirs all → Q mine theirs all
  of_merged [] mine theirs (is_mine, is_theirs) = moved [] [] [] mine theirs (sym is_mine) (sym is_theirs) none
  of_merged (e ∷ all) [] [] (mine_left, theirs_left, next, rest) = absurd next
  of_merged (e ∷ all) [] (t ∷ theirs) (mine_left, theirs_left, next, rest) =
      headed [] (t ∷ theirs) e t all next.0 (theirs_alone t theirs all (moved all mine_left theirs_left [] theirs next.1 next.2 (of_merged all mine_left theirs_left rest)))
  of_merged (e ∷ all) (m ∷ mine) [] (mine_left, theirs_left, next, rest) =
      headed (m ∷ mine) [] e m all next.0 (mine_alone m mine all (moved all mine_left theirs_left mine [] next.1 next.2 (of_merged all mine_left theirs_left rest)))
  of_merged (e ∷ all) (m ∷ mine) (t ∷ theirs) (mine_left, theirs_left, next, rest) =
      lesser (reference_cmp m.reference t.reference) m t e mine theirs mine_left theirs_left all refl next (of_merged all mine_left theirs_left rest)

-- ---- all are above what both are above, and references rise

below_less : (x y : Reference) (es : List Entry) → reference_cmp x y ≡ Less → T (below_all reference_cmp y (keyed es)) → T (below_all reference_cmp x (keyed es))
below_less x y [] p h = tt
below_less x y (e ∷ es) p h = both _ _ (less-to_T _ (reference_total.trans x y e.reference p (less-from_T _ (and_left _ _ h)))) (below_less x y es p (and_right _ _ h))

below_same : (x y : Reference) (es : List Entry) → reference_cmp x y ≡ Equal → T (below_all reference_cmp y (keyed es)) → T (below_all reference_cmp x (keyed es))
below_same x y es p h = subst (λ r. T (below_all reference_cmp r (keyed es))) (sym (reference_apart x y p)) h

abbrev pub Below : Reference → List Entry → Type 0
Below y es = T (below_all reference_cmp y (keyed es))

abbrev pub Sorted : List Entry → Type 0
Sorted es = T (is_sorted reference_cmp (keyed es))

record Rises (mine theirs all : List Entry) : Type 0 where
  above : (y : Reference) → Below y mine → Below y theirs → Below y all
  sorted : Sorted mine → Sorted theirs → Sorted all

rises : (all mine theirs : List Entry) → IsMerged mine theirs all → Rises mine theirs all
rises = of_merged Rises
    (record { above = λ y a b. tt; sorted = λ a b. tt })
    (λ t theirs all q. record {
      above = λ y a b. both _ _ (and_left _ _ b) (q.above y tt (and_right _ _ b));
      sorted = λ a b. both _ _ (q.above t.reference tt (and_left _ _ b)) (q.sorted tt (and_right _ _ b));
    })
    (λ m mine all q. record {
      above = λ y a b. both _ _ (and_left _ _ a) (q.above y (and_right _ _ a) tt);
      sorted = λ a b. both _ _ (q.above m.reference (and_left _ _ a) tt) (q.sorted (and_right _ _ a) tt);
    })
    (λ m t mine theirs all o q. record {
      above = λ y a b. both _ _ (and_left _ _ a) (q.above y (and_right _ _ a) b);
      sorted = λ a b. both _ _ (q.above m.reference (and_left _ _ a) (both _ _ (less-to_T _ o) (below_less m.reference t.reference theirs o (and_left _ _ b)))) (q.sorted (and_right _ _ a) b);
    })
    (λ m t mine theirs all o q. record {
      above = λ y a b. both _ _ (and_left _ _ a) (q.above y (and_right _ _ a) (and_right _ _ b));
      sorted = λ a b. both _ _ (q.above m.reference (and_left _ _ a) (below_same m.reference t.reference theirs o (and_left _ _ b))) (q.sorted (and_right _ _ a) (and_right _ _ b));
    })
    (λ m t mine theirs all o q. record {
      above = λ y a b. both _ _ (and_left _ _ b) (q.above y a (and_right _ _ b));
      sorted = λ a b.
          let less : reference_cmp t.reference m.reference ≡ Less = flips m.reference t.reference Greater o in
          both _ _ (q.above t.reference (both _ _ (less-to_T _ less) (below_less t.reference m.reference mine less (and_left _ _ a))) (and_left _ _ b)) (q.sorted a (and_right _ _ b));
    })

pub above_merged : (y : Reference) (all mine theirs : List Entry) → IsMerged mine theirs all → Below y mine → Below y theirs → Below y all
above_merged y all mine theirs m = (rises all mine theirs m).above y

pub rising_merged : (all mine theirs : List Entry) → IsMerged mine theirs all → Sorted mine → Sorted theirs → Sorted all
rising_merged all mine theirs m = (rises all mine theirs m).sorted

below_append : (y : Reference) (xs ys : List Entry) → Below y xs → Below y ys → Below y (xs ++ ys)
below_append y [] ys a b = b
below_append y (x ∷ xs) ys a b = both _ _ (and_left _ _ a) (below_append y xs ys (and_right _ _ a) b)

pub sorted_append : (xs ys : List Entry) → Sorted xs → Sorted ys → ((j : ℕ) → IfSome (slice_get xs j) (λ x. Below x.reference ys)) → Sorted (xs ++ ys)
sorted_append [] ys a b h = b
sorted_append (x ∷ xs) ys a b h = both _ _ (below_append x.reference xs ys (and_left _ _ a) (h 0)) (sorted_append xs ys (and_right _ _ a) b (λ j. h (suc j)))

pub sorted_drop : (es : List Entry) (n : ℕ) → Sorted es → Sorted (drop n es)
sorted_drop es zero h = h
sorted_drop [] (suc n) h = tt
sorted_drop (e ∷ es) (suc n) h = sorted_drop es n (and_right _ _ h)

below_take : (y : Reference) (es : List Entry) (n : ℕ) → Below y es → Below y (take n es)
below_take y es zero h = tt
below_take y [] (suc n) h = tt
below_take y (e ∷ es) (suc n) h = both _ _ (and_left _ _ h) (below_take y es n (and_right _ _ h))

pub sorted_take : (es : List Entry) (n : ℕ) → Sorted es → Sorted (take n es)
sorted_take es zero h = tt
sorted_take [] (suc n) h = tt
sorted_take (e ∷ es) (suc n) h = both _ _ (below_take e.reference es n (and_left _ _ h)) (sorted_take es n (and_right _ _ h))

below_drop : (y : Reference) (es : List Entry) (n : ℕ) → Below y es → Below y (drop n es)
below_drop y es zero h = h
below_drop y [] (suc n) h = tt
below_drop y (e ∷ es) (suc n) h = below_drop y es n (and_right _ _ h)

-- each message before a position comes before those from there on
pub before_drop : (es : List Entry) (at j : ℕ) → Sorted es → IfSome (slice_get (take at es) j) (λ x. Below x.reference (drop at es))
before_drop es zero j h = tt
before_drop [] (suc at) j h = tt
before_drop (e ∷ es) (suc at) zero h = below_drop e.reference es at (and_left _ _ h)
before_drop (e ∷ es) (suc at) (suc j) h = before_drop es at j (and_right _ _ h)

-- those before the position of a gap come before all from the new message on
pub before_gap : (es : List Entry) (at j : ℕ) (r : Reference) (later : List Entry) → ((k : ℕ) → k < at → IfSome (slice_get es k) (λ e. reference_cmp r e.reference ≡ Greater))
    → Below r later → (f : Entry) → f.reference ≡ r → IfSome (slice_get (take at es) j) (λ x. Below x.reference (f ∷ later))
before_gap es zero j r later h b f is = tt
before_gap [] (suc at) j r later h b f is = tt
before_gap (e ∷ es) (suc at) zero r later h b f is =
    let less : reference_cmp e.reference r ≡ Less = flips r e.reference Greater (h 0 (omega arith)) in
    both _ _ (less-to_T _ (ap (reference_cmp e.reference) is ∙ less)) (below_less e.reference r later less b)
before_gap (e ∷ es) (suc at) (suc j) r later h b f is = before_gap es at j r later (λ k lt. h (suc k) (omega arith)) b f is

-- ---- each is of one of the two

pub all_merged : (P : Entry → Type 0) (all mine theirs : List Entry) → IsMerged mine theirs all → All P mine → All P theirs → All P all
all_merged P = of_merged (λ mine theirs all. All P mine → All P theirs → All P all)
    (λ a b. All-nil P)
    (λ t theirs all q a b. All-cons P t all (All-head P t theirs b) (q (All-nil P) (All-tail P t theirs b)))
    (λ m mine all q a b. All-cons P m all (All-head P m mine a) (q (All-tail P m mine a) (All-nil P)))
    (λ m t mine theirs all o q a b. All-cons P m all (All-head P m mine a) (q (All-tail P m mine a) b))
    (λ m t mine theirs all o q a b. All-cons P m all (All-head P m mine a) (q (All-tail P m mine a) (All-tail P t theirs b)))
    (λ m t mine theirs all o q a b. All-cons P t all (All-head P t theirs b) (q a (All-tail P t theirs b)))

-- ---- what is found

abbrev pub at_ref : Reference → List Entry → Option MessageValue
at_ref q es = find reference_cmp q (keyed es)

-- a head that is found first
head_first : (b : Bool) (x : MessageValue) (a c : Option MessageValue) → cond b (Some x) (or_else a c) ≡ or_else (cond b (Some x) a) c
head_first true x a c = refl
head_first false x a c = refl

pub find_merged : (q : Reference) (all mine theirs : List Entry) → IsMerged mine theirs all → Sorted mine → Sorted theirs → at_ref q all ≡ or_else (at_ref q mine) (at_ref q theirs)
find_merged q = of_merged (λ mine theirs all. Sorted mine → Sorted theirs → at_ref q all ≡ or_else (at_ref q mine) (at_ref q theirs))
    (λ a b. refl)
    (λ t theirs all h a b. ap (λ o. cond (eq_by_cmp reference_cmp q t.reference) (Some t.message) o) (h tt (and_right _ _ b)))
    (λ m mine all h a b. ap (λ o. cond (eq_by_cmp reference_cmp q m.reference) (Some m.message) o) (h (and_right _ _ a) tt) ∙ head_first (eq_by_cmp reference_cmp q m.reference) m.message (at_ref q mine) None)
    (λ m t mine theirs all o h a b. ap (λ o. cond (eq_by_cmp reference_cmp q m.reference) (Some m.message) o) (h (and_right _ _ a) b) ∙ head_first (eq_by_cmp reference_cmp q m.reference) m.message (at_ref q mine) (at_ref q (t ∷ theirs)))
    (λ m t mine theirs all o h a b.
    ap (λ o. cond (eq_by_cmp reference_cmp q m.reference) (Some m.message) o) (h (and_right _ _ a) (and_right _ _ b))
    ∙ same_head (eq_by_cmp reference_cmp q m.reference) (eq_by_cmp reference_cmp q t.reference) m.message t.message (at_ref q mine) (at_ref q theirs) (ap (eq_by_cmp reference_cmp q) (reference_apart m.reference t.reference o)))
    (λ m t mine theirs all o h a b.
    ap (λ o. cond (eq_by_cmp reference_cmp q t.reference) (Some t.message) o) (h a (and_right _ _ b))
    ∙ later_head (reference_cmp q t.reference) t refl mine m (at_ref q theirs) (flips m.reference t.reference Greater o) (and_left _ _ a))
  where
    same_head : (b c : Bool) (x y : MessageValue) (u v : Option MessageValue) → b ≡ c → cond b (Some x) (or_else u v) ≡ or_else (cond b (Some x) u) (cond c (Some y) v)
    same_head true c x y u v e = refl
    same_head false c x y u v e = subst (λ d. or_else u v ≡ or_else u (cond d (Some y) v)) e refl

    later_head : (o : Ordering) (t : Entry) → reference_cmp q t.reference ≡ o → (mine : List Entry) (m : Entry) (v : Option MessageValue) → reference_cmp t.reference m.reference ≡ Less → Below m.reference mine
        → cond (is_eq o) (Some t.message) (or_else (at_ref q (m ∷ mine)) v) ≡ or_else (at_ref q (m ∷ mine)) (cond (is_eq o) (Some t.message) v)
    later_head Less t e mine m v less below = refl
    later_head Equal t e mine m v less below =
        let under : reference_cmp q m.reference ≡ Less = ap (λ r. reference_cmp r m.reference) (reference_apart q t.reference e) ∙ less in
        let none : at_ref q (m ∷ mine) ≡ None = ap (λ r. cond (is_eq r) (Some m.message) (at_ref q mine)) under ∙ find_below q m.reference (keyed mine) under below in
        sym (ap (λ u. or_else u (Some t.message)) none)
    later_head Greater t e mine m v less below = refl
