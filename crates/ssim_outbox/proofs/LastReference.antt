-- The last of messages in order of reference has the greatest reference.
use Rattle.std.proofs.Common.{◌≡◌, ◌≢◌, ◌≤◌, ◌<◌, ◌+◌, ◌-◌, ℕ, zero, suc, List, [], ◌∷◌, length}
use Rattle.std.proofs.Common.{Some, get_or, refl, sym, ap, subst, ◌∙◌, arith}
use Rattle.std.specs.Prelude.{T}
use Rattle.std.specs.FinMap.{is_sorted}
use Rattle.std.specs.declared.cmp.Ordering.TheVariants.{Less}
use Rattle.ssim_text.specs.declared.reference.Reference.{Reference}
use Rattle.ssim_held.specs.Entries.{AreRising, Entry, keyed}
use Rattle.ssim_held.specs.Held.{reference_cmp}
use Rattle.ssim_held.proofs.Entries.{T-from_true, and_right}
use Rattle.ssim_held.proofs.References.{reference_total}
use Rattle.ssim_held.proofs.Searching.{rise}
use Rattle.ssim_outbox.specs.Order.{Follows, last_reference}

-- what comes after the last comes after all
below : (r : Reference) (es : List Entry) (k : ℕ) (e : Entry) → T (is_sorted reference_cmp (keyed es))
    → length es ≡ k + 1 → e ≡ get_or es k e → reference_cmp e.reference r ≡ Less → Follows r es
below r [] k e sorted l is less = absurd (omega (arith, l))
below r (x ∷ []) zero e sorted l is less =
    (subst (λ (y : Entry). reference_cmp y.reference r ≡ Less) is less, tt)
below r (x ∷ []) (suc k) e sorted l is less = absurd (omega (arith, l))
below r (x ∷ y ∷ es) zero e sorted l is less = absurd (omega (arith, l))
below r (x ∷ y ∷ es) (suc k) e sorted l is less =
    let one : 0 < 1 = omega arith in
    let first = rise (x ∷ y ∷ es) 0 1 x y sorted one refl refl in
    let shorter : length (y ∷ es) ≡ k + 1 = omega (arith, l) in
    let later : Follows r (y ∷ es) = below r (y ∷ es) k e (and_right _ _ sorted) shorter is less in
    (reference_total.trans x.reference y.reference r first later.0, later)

last_below : (r : Reference) (es : List Entry) (k : ℕ) (e : Entry) → length es ≡ k + 1
    → e ≡ get_or es k e → Follows r es → reference_cmp e.reference r ≡ Less
last_below r [] k e l is all = absurd (omega (arith, l))
last_below r (x ∷ es) zero e l is all =
    subst (λ (y : Entry). reference_cmp y.reference r ≡ Less) (sym is) all.0
last_below r (x ∷ es) (suc k) e l is all = last_below r es k e (omega (arith, l)) is all.1

last_is : (es : List Entry) (k : ℕ) (e : Entry) → length es ≡ k + 1 → e ≡ get_or es k e
    → last_reference es ≡ Some e.reference
last_is [] k e l is = absurd (omega (arith, l))
last_is (x ∷ []) zero e l is = ap (λ (y : Entry). Some y.reference) (sym is)
last_is (x ∷ []) (suc k) e l is = absurd (omega (arith, l))
last_is (x ∷ y ∷ es) zero e l is = absurd (omega (arith, l))
last_is (x ∷ y ∷ es) (suc k) e l is = last_is (y ∷ es) k e (omega (arith, l)) is

module _ (r last : Reference) (es : List Entry) (e : Entry) (some : 1 ≤ length es)
    (is : e ≡ get_or es (length es - 1) e) (last_of : last ≡ e.reference) where
  pub follows_last : AreRising es → reference_cmp last r ≡ Less → Follows r es
  follows_last rising less =
      below r es (length es - 1) e (T-from_true _ rising) (omega (arith, some)) is
      (ap (λ (q : Reference). reference_cmp q r) (sym last_of) ∙ less)

  pub not_after : reference_cmp last r ≢ Less → Follows r es → ⊥
  not_after apart all =
      apart (ap (λ (q : Reference). reference_cmp q r) last_of
      ∙ last_below r es (length es - 1) e (omega (arith, some)) is all)

  pub names_last : last_reference es ≡ Some last
  names_last = last_is es (length es - 1) e (omega (arith, some)) is ∙ ap Some (sym last_of)
