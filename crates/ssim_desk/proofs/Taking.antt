-- What a desk holds after a text, and after a merge.
use Rattle.std.proofs.Common.{◌≡◌, ◌⊎◌, inl, inr, ℕ, ◌↔◌, Bool, true, false, cond, List, Option, Some, None, refl, sym, ap, subst, ◌∙◌}
use Rattle.std.specs.Cmp.{eq_by_cmp_equiv}
use Rattle.std.specs.Ordering.{eq_by_cmp, is_eq}
use Rattle.std.specs.declared.cmp.Ordering.{Ordering}
use Rattle.std.specs.declared.cmp.Ordering.TheVariants.{Less, Equal, Greater}
use Rattle.std.specs.FinMap.{get, get-insert}
use Rattle.ssim_base.specs.BaseSeen.{BaseSeen}
use Rattle.ssim_base.specs.Resolve.{ResolvesIn}
use Rattle.ssim_text.specs.Grammar.{OneMessage}
use Rattle.ssim_text.specs.Message.{MessageValue}
use Rattle.ssim_text.specs.declared.reference.Reference.{Reference}
use Rattle.ssim_held.specs.Held.{DeskState, HeldMessages, Says, reference_cmp}
use Rattle.ssim_held.proofs.MapLemmas.{get-union, or_else}
use Rattle.ssim_held.proofs.References.{reference_apart, reference_total}
use Rattle.ssim_held.proofs.Resolving.{one_reference}
use Rattle.ssim_desk.specs.Deliveries.{is_accepted}
use Rattle.ssim_desk.specs.Steps.{Merges, Takes}
use Rattle.ssim_desk.specs.declared.steps.Answer.{Answer}
use Rattle.ssim_desk.specs.declared.steps.Answer.TheVariants.{Taken, Repeated, Merged, Refused}

-- a text says one message, under one reference
pub says_message : OneMessage → (base : BaseSeen) (text : List ℕ) (r q : Reference) (m n : MessageValue) → Says base text r m → Says base text q n → m ≡ n
says_message one base text r q m n says_m says_n = one m n _ says_m.spelt.spelled says_n.spelt.spelled

pub says_reference : OneMessage → (base : BaseSeen) (text : List ℕ) (r q : Reference) (m n : MessageValue) → Says base text r m → Says base text q n → r ≡ q
says_reference one base text r q m n says_m says_n =
    sym says_m.referred
    ∙ one_reference base.records n says_m.resolved says_n.resolved (subst (λ x. ResolvesIn base.records x says_m.resolved) (says_message one base text r q m n says_m says_n) says_m.resolves) says_n.resolves
    ∙ says_n.referred

-- ---- a text

abbrev Ties : Reference → Reference → Bool → Type 0
Ties q r true = q ≡ r
Ties q r false = Unit {0}

ties : (q r : Reference) → Ties q r (eq_by_cmp reference_cmp q r)
ties q r = by (reference_cmp q r) refl
  where
    by : (o : Ordering) → reference_cmp q r ≡ o → Ties q r (is_eq o)
    by Less e = tt
    by Equal e = reference_apart q r e
    by Greater e = tt

tied : (q r : Reference) → eq_by_cmp reference_cmp q r ≡ true → q ≡ r
tied q r e = subst (Ties q r) e (ties q r)

tied_self : (q r : Reference) → q ≡ r → eq_by_cmp reference_cmp q r ≡ true
tied_self q r e = ap (eq_by_cmp reference_cmp q) (sym e) ∙ (eq_by_cmp_equiv reference_total).refl q

-- what a text adds
pub take_holds : OneMessage → (desk : DeskState) (text : List ℕ) (answer : Answer) (held : HeldMessages) → Takes desk text answer held
    → (r : Reference) (m : MessageValue) → (get held r ≡ Some m) ↔ ((get desk.held r ≡ Some m) ⊎ ((is_accepted answer ≡ true) × Says desk.base text r m))
take_holds one desk text (Taken reference) held is r m =
    (λ h. there (eq_by_cmp reference_cmp r reference) refl (sym found ∙ h), λ s. found ∙ back (eq_by_cmp reference_cmp r reference) refl s)
  where
    found : get held r ≡ cond (eq_by_cmp reference_cmp r reference) (Some is.message) (get desk.held r)
    found = ap (λ x. get x r) is.added ∙ get-insert reference_total desk.held reference is.message r

    there : (t : Bool) → eq_by_cmp reference_cmp r reference ≡ t → cond t (Some is.message) (get desk.held r) ≡ Some m → (get desk.held r ≡ Some m) ⊎ ((true ≡ true) × Says desk.base text r m)
    there true e h =
        let here : reference ≡ r = sym (tied r reference e) in
        let same : is.message ≡ m = cc in
        inr (refl, subst (λ q. Says desk.base text q m) here (subst (Says desk.base text reference) same is.says))
    there false e h = inl h

    back : (t : Bool) → eq_by_cmp reference_cmp r reference ≡ t → ((get desk.held r ≡ Some m) ⊎ ((true ≡ true) × Says desk.base text r m)) → cond t (Some is.message) (get desk.held r) ≡ Some m
    back true e (inl h) = let none : get desk.held r ≡ None = ap (get desk.held) (tied r reference e) ∙ is.absent in cc
    back true e (inr p) = ap Some (says_message one desk.base text reference r is.message m is.says p.1)
    back false e (inl h) = h
    back false e (inr p) = let on : eq_by_cmp reference_cmp r reference ≡ true = tied_self r reference (says_reference one desk.base text r reference m is.message p.1 is.says) in cc
take_holds one desk text (Repeated reference) held is r m =
    (λ h. inl (ap (λ x. get x r) (sym is.1) ∙ h), λ s. ap (λ x. get x r) is.1 ∙ back s)
  where
    back : ((get desk.held r ≡ Some m) ⊎ ((true ≡ true) × Says desk.base text r m)) → get desk.held r ≡ Some m
    back (inl h) = h
    back (inr p) =
        let known = is.0 in
        ap (get desk.held) (says_reference one desk.base text r reference m known.message p.1 known.says) ∙ known.holds
        ∙ ap Some (sym (says_message one desk.base text r reference m known.message p.1 known.says))
take_holds one desk text Merged held is r m = absurd is
take_holds one desk text (Refused fault) held is r m =
    (λ h. inl (ap (λ x. get x r) (sym is.1) ∙ h), λ s. elim s [ inl h ↦ ap (λ x. get x r) is.1 ∙ h | inr p ↦ let e : false ≡ true = p.0 in cc ])

-- ---- another desk

-- what a merge adds
pub merge_holds : (mine theirs : DeskState) (answer : Answer) (held : HeldMessages) → Merges mine theirs answer held
    → (r : Reference) (m : MessageValue) → (get held r ≡ Some m) ↔ ((get mine.held r ≡ Some m) ⊎ ((answer ≡ Merged) × (get theirs.held r ≡ Some m)))
merge_holds mine theirs (Taken reference) held is r m = absurd is
merge_holds mine theirs (Repeated reference) held is r m = absurd is
merge_holds mine theirs Merged held is r m =
    (λ h. there (get mine.held r) (get theirs.held r) (sym all ∙ h), λ s. all ∙ back (get mine.held r) (get theirs.held r) refl refl s)
  where
    all : get held r ≡ or_else (get mine.held r) (get theirs.held r)
    all = ap (λ x. get x r) is.all ∙ get-union reference_total mine.held theirs.held r

    there : (a b : Option MessageValue) → or_else a b ≡ Some m → (a ≡ Some m) ⊎ ((Merged ≡ Merged) × (b ≡ Some m))
    there None b h = inr (refl, h)
    there (Some x) b h = inl h

    back : (a b : Option MessageValue) → get mine.held r ≡ a → get theirs.held r ≡ b → ((a ≡ Some m) ⊎ ((Merged ≡ Merged) × (b ≡ Some m))) → or_else a b ≡ Some m
    back None b ae be (inl h) = cc
    back None b ae be (inr p) = p.1
    back (Some x) b ae be (inl h) = h
    back (Some x) b ae be (inr p) = ap Some (is.agree r x m ae (be ∙ p.1))
merge_holds mine theirs (Refused fault) held is r m =
    (λ h. inl (ap (λ x. get x r) (sym is.1) ∙ h), λ s. elim s [ inl h ↦ ap (λ x. get x r) is.1 ∙ h | inr p ↦ let no : Refused fault ≡ Merged = p.0 in cc ])
