-- Each desk holds what it held and what reached it, step by step.
use Rattle.std.proofs.Common.{◌≡◌, ◌≢◌, ◌⊎◌, inl, inr, ℕ, ◌<◌, ◌↔◌, ◌==◌, Bool, true, false, List, length, Some, refl, sym, ap, subst, ◌∙◌}
use Rattle.std.proofs.lemmas.Bool.{cases_eq}
use Rattle.std.proofs.lemmas.Bool.Decides.{Decides-eqb}
use Rattle.std.proofs.lemmas.List.{get_or-set_same, get_or-set_other, length-set}
use Rattle.std.specs.FinMap.{get}
use Rattle.ssim_text.specs.Grammar.{OneMessage}
use Rattle.ssim_text.specs.Message.{MessageValue}
use Rattle.ssim_text.specs.declared.reference.Reference.{Reference}
use Rattle.ssim_held.specs.Held.{DeskState, HeldMessages, Holds, Says, no_desk}
use Rattle.ssim_desk.specs.Deliveries.{is_accepted}
use Rattle.ssim_desk.specs.Steps.{Acts, IsInRange, MergesOne, TakesAt, desk_at, with_held}
use Rattle.ssim_desk.specs.declared.steps.Answer.{Answer}
use Rattle.ssim_desk.specs.declared.steps.Answer.TheVariants.{Merged}
use Rattle.ssim_desk.specs.declared.steps.Step.{Step}
use Rattle.ssim_desk.specs.declared.steps.Step.TheVariants.{Take, Merge}
use Rattle.ssim_desk.proofs.Taking.{merge_holds, take_holds}

-- which messages, each under its reference, have reached which desks
abbrev pub Reaching : Type 1
Reaching = ℕ → Reference → MessageValue → Type 0

-- what a step with this result adds to what has reached the desks
abbrev pub Adds : List DeskState → Reaching → Step → Answer → Reaching
Adds start so_far (Take i text) answer d reference message =
    let desk = desk_at start i in
    (d ≡ i) × ((is_accepted answer ≡ true) × Says desk.base text.items reference message)
Adds start so_far (Merge into from) answer d reference message =
    (d ≡ into) × ((answer ≡ Merged) × (Holds (desk_at start from) reference message ⊎ so_far from reference message))

-- so far, each desk has its base, and holds what it held at the start and what reached it
pub record SoFar (start now : List DeskState) (reached : Reaching) : Type 0 where
  pub count : length now ≡ length start
  pub base : (d : ℕ) → (let x = desk_at now d in let y = desk_at start d in x.base ≡ y.base)
  pub holds : (d : ℕ) (r : Reference) (m : MessageValue) → d < length start → Holds (desk_at now d) r m ↔ (Holds (desk_at start d) r m ⊎ reached d r m)

-- ---- one desk is written

at_same : (now : List DeskState) (i : ℕ) (held : HeldMessages) → i < length now → (let x = desk_at (with_held now i held) i in x.held ≡ held)
at_same now i held within = ap (λ (x : DeskState). x.held) (get_or-set_same now i _ no_desk within)

base_same : (now : List DeskState) (i : ℕ) (held : HeldMessages) → i < length now → (d : ℕ) → (let x = desk_at (with_held now i held) d in let y = desk_at now d in x.base ≡ y.base)
base_same now i held within d = by (cases_eq d i)
  where
    by : ((d ≡ i) ⊎ (d ≢ i)) → (let x = desk_at (with_held now i held) d in let y = desk_at now d in x.base ≡ y.base)
    by (inl same) = subst (λ k. let x = desk_at (with_held now i held) k in let y = desk_at now k in x.base ≡ y.base) (sym same) (ap (λ (x : DeskState). x.base) (get_or-set_same now i _ no_desk within))
    by (inr apart) = ap (λ (x : DeskState). x.base) (get_or-set_other now i d _ no_desk apart)

-- a desk that holds what it held and what was brought
put_holds : (start now : List DeskState) (reached : Reaching) (i : ℕ) (held : HeldMessages) (Q : Reference → MessageValue → Type 0) → i < length start → SoFar start now reached
    → ((r : Reference) (m : MessageValue) → (get held r ≡ Some m) ↔ (Holds (desk_at now i) r m ⊎ Q r m))
    → SoFar start (with_held now i held) (λ d r m. reached d r m ⊎ ((d ≡ i) × Q r m))
put_holds start now reached i held Q within far brought =
    record {
      count = length-set now i _ ∙ far.count;
      base = λ d. base_same now i held inside d ∙ far.base d;
      holds = λ d r m lt. by d r m lt (cases_eq d i);
    }
  where
    inside : i < length now
    inside = subst (λ n. i < n) (sym far.count) within

    regroup : {A B C : Type 0} → A ⊎ B → A ⊎ (B ⊎ C)
    regroup (inl a) = inl a
    regroup (inr b) = inr (inl b)

    by : (d : ℕ) (r : Reference) (m : MessageValue) → d < length start → ((d ≡ i) ⊎ (d ≢ i)) → Holds (desk_at (with_held now i held) d) r m ↔ (Holds (desk_at start d) r m ⊎ (reached d r m ⊎ ((d ≡ i) × Q r m)))
    by d r m lt (inl same) = (λ h. there ((brought r m).0 (sym written ∙ h)), λ s. written ∙ (brought r m).1 (back s))
      where
        written : get (let x = desk_at (with_held now i held) d in x.held) r ≡ get held r
        written = ap (λ k. get (let x = desk_at (with_held now i held) k in x.held) r) same ∙ ap (λ x. get x r) (at_same now i held inside)

        here : desk_at now d ≡ desk_at now i
        here = ap (desk_at now) same

        there : (Holds (desk_at now i) r m ⊎ Q r m) → Holds (desk_at start d) r m ⊎ (reached d r m ⊎ ((d ≡ i) × Q r m))
        there (inl h) = regroup ((far.holds d r m lt).0 (ap (λ (x : DeskState). get x.held r) here ∙ h))
        there (inr q) = inr (inr (same, q))

        back : (Holds (desk_at start d) r m ⊎ (reached d r m ⊎ ((d ≡ i) × Q r m))) → Holds (desk_at now i) r m ⊎ Q r m
        back (inl h) = inl (ap (λ (x : DeskState). get x.held r) (sym here) ∙ (far.holds d r m lt).1 (inl h))
        back (inr (inl h)) = inl (ap (λ (x : DeskState). get x.held r) (sym here) ∙ (far.holds d r m lt).1 (inr h))
        back (inr (inr p)) = inr p.1
    by d r m lt (inr apart) = (λ h. regroup ((far.holds d r m lt).0 (ap (λ (x : DeskState). get x.held r) (sym kept) ∙ h)), λ s. ap (λ (x : DeskState). get x.held r) kept ∙ (far.holds d r m lt).1 (back s))
      where
        kept : desk_at (with_held now i held) d ≡ desk_at now d
        kept = get_or-set_other now i d _ no_desk apart

        back : (Holds (desk_at start d) r m ⊎ (reached d r m ⊎ ((d ≡ i) × Q r m))) → Holds (desk_at start d) r m ⊎ reached d r m
        back (inl h) = inl h
        back (inr (inl h)) = inr h
        back (inr (inr p)) = absurd (apart p.0)

-- ---- steps

take_keeps : OneMessage → (start now after : List DeskState) (reached : Reaching) (i : ℕ) (text : List ℕ) (answer : Answer) → i < length start
    → TakesAt now i text answer after → SoFar start now reached
    → SoFar start after (λ d r m. reached d r m ⊎ ((d ≡ i) × ((is_accepted answer ≡ true) × (let desk = desk_at start i in Says desk.base text r m))))
take_keeps one start now after reached i text answer within is far =
    subst (λ x. SoFar start x (λ d r m. reached d r m ⊎ ((d ≡ i) × ((is_accepted answer ≡ true) × (let desk = desk_at start i in Says desk.base text r m))))) (sym is.put)
    (put_holds start now reached i is.held (λ r m. (is_accepted answer ≡ true) × (let desk = desk_at start i in Says desk.base text r m)) within far
    (λ r m. subst (λ base. (get is.held r ≡ Some m) ↔ (Holds (desk_at now i) r m ⊎ ((is_accepted answer ≡ true) × Says base text r m))) (far.base i) (take_holds one (desk_at now i) text answer is.held is.takes r m)))

merge_keeps : (start now after : List DeskState) (reached : Reaching) (into from : ℕ) (answer : Answer) → into < length start → from < length start
    → (same : Bool) → (into == from) ≡ same → MergesOne same now into from answer after → SoFar start now reached
    → SoFar start after (λ d r m. reached d r m ⊎ ((d ≡ into) × ((answer ≡ Merged) × (Holds (desk_at start from) r m ⊎ reached from r m))))
merge_keeps start now after reached into from answer to of true e is far =
    subst (λ x. SoFar start x (λ d r m. reached d r m ⊎ ((d ≡ into) × ((answer ≡ Merged) × (Holds (desk_at start from) r m ⊎ reached from r m))))) (sym is.1) (record { count = far.count; base = far.base; holds = λ d r m lt. (λ h. there d r m ((far.holds d r m lt).0 h), λ s. (far.holds d r m lt).1 (back d r m s)) })
  where
    there : (d : ℕ) (r : Reference) (m : MessageValue) → (Holds (desk_at start d) r m ⊎ reached d r m) → Holds (desk_at start d) r m ⊎ (reached d r m ⊎ ((d ≡ into) × ((answer ≡ Merged) × (Holds (desk_at start from) r m ⊎ reached from r m))))
    there d r m (inl h) = inl h
    there d r m (inr h) = inr (inl h)

    back : (d : ℕ) (r : Reference) (m : MessageValue) → (Holds (desk_at start d) r m ⊎ (reached d r m ⊎ ((d ≡ into) × ((answer ≡ Merged) × (Holds (desk_at start from) r m ⊎ reached from r m))))) → Holds (desk_at start d) r m ⊎ reached d r m
    back d r m (inl h) = inl h
    back d r m (inr (inl h)) = inr h
    back d r m (inr (inr p)) = subst (λ k. Holds (desk_at start k) r m ⊎ reached k r m) (sym (p.0 ∙ (Decides-eqb into from).0 e)) p.1.1
merge_keeps start now after reached into from answer to of false e is far =
    subst (λ x. SoFar start x (λ d r m. reached d r m ⊎ ((d ≡ into) × ((answer ≡ Merged) × (Holds (desk_at start from) r m ⊎ reached from r m))))) (sym is.put)
    (put_holds start now reached into is.held (λ r m. (answer ≡ Merged) × (Holds (desk_at start from) r m ⊎ reached from r m)) to far
    (λ r m. (λ h. there r m ((merge_holds (desk_at now into) (desk_at now from) answer is.held is.merges r m).0 h), λ s. (merge_holds (desk_at now into) (desk_at now from) answer is.held is.merges r m).1 (back r m s))))
  where
    there : (r : Reference) (m : MessageValue) → (Holds (desk_at now into) r m ⊎ ((answer ≡ Merged) × Holds (desk_at now from) r m)) → Holds (desk_at now into) r m ⊎ ((answer ≡ Merged) × (Holds (desk_at start from) r m ⊎ reached from r m))
    there r m (inl h) = inl h
    there r m (inr p) = inr (p.0, (far.holds from r m of).0 p.1)

    back : (r : Reference) (m : MessageValue) → (Holds (desk_at now into) r m ⊎ ((answer ≡ Merged) × (Holds (desk_at start from) r m ⊎ reached from r m))) → Holds (desk_at now into) r m ⊎ ((answer ≡ Merged) × Holds (desk_at now from) r m)
    back r m (inl h) = inl h
    back r m (inr p) = inr (p.0, (far.holds from r m of).1 p.1)

pub step_keeps : OneMessage → (start now after : List DeskState) (reached : Reaching) (step : Step) (answer : Answer) → IsInRange (length start) step → Acts now step answer after
    → SoFar start now reached → SoFar start after (λ d r m. reached d r m ⊎ Adds start reached step answer d r m)
step_keeps one start now after reached (Take i text) answer within is far = take_keeps one start now after reached i text.items answer within is far
step_keeps one start now after reached (Merge into from) answer within is far = merge_keeps start now after reached into from answer within.0 within.1 (into == from) refl is far

-- at the start nothing has reached a desk
pub at_start : (start : List DeskState) (reached : Reaching) → ((d : ℕ) (r : Reference) (m : MessageValue) → reached d r m → ⊥) → SoFar start start reached
at_start start reached none = record { count = refl; base = λ d. refl; holds = λ d r m lt. (inl, λ s. only d r m s) }
  where
    only : (d : ℕ) (r : Reference) (m : MessageValue) → Holds (desk_at start d) r m ⊎ reached d r m → Holds (desk_at start d) r m
    only d r m (inl a) = a
    only d r m (inr h) = absurd (none d r m h)

one_side : {A B C : Type 0} → (B → C) → A ⊎ B → A ⊎ C
one_side f (inl a) = inl a
one_side f (inr b) = inr (f b)

-- the facts so far, stated of an equal account of what has reached the desks
pub so_far_too : (start now : List DeskState) (reached others : Reaching) → ((d : ℕ) (r : Reference) (m : MessageValue) → reached d r m → others d r m)
    → ((d : ℕ) (r : Reference) (m : MessageValue) → others d r m → reached d r m) → SoFar start now reached → SoFar start now others
so_far_too start now reached others to of far = record {
  count = far.count;
  base = far.base;
  holds = λ d r m lt. (λ h. one_side (to d r m) ((far.holds d r m lt).0 h), λ s. (far.holds d r m lt).1 (one_side (of d r m) s));
}
