-- A word that names one refusal of a number names all of them.
use Rattle.std.proofs.Common.{◌≡◌, ◌∙◌, ℕ, true, sym, subst, IfNone, IfOk, IfSome, Option, Some, None}
use Rattle.std.proofs.Common.{Result, Ok, Err}
use Rattle.ssim_guide.specs.Words.{is_refusal}
use Rattle.ssim_program.specs.internal.Explain.{IsExample}
use Rattle.ssim_program.proofs.RefusalNames.{names_both}
use Rattle.ssim_program.proofs.explain.name.on_number.Goals as goal

module _ {A E : Type 0} where
  some_of : {P Q : A → Type 0} (r : Result (Option A) E) → ((x : A) → P x → Q x)
      → IfOk r (λ o. IfSome o P) → IfOk r (λ o. IfSome o Q)
  some_of (Ok (Some x)) f h = f x h
  some_of (Ok None) f h = tt
  some_of (Err e) f h = tt

  none_of : {P Q : Type 0} (r : Result (Option A) E) → (P → Q)
      → IfOk r (λ o. IfNone o P) → IfOk r (λ o. IfNone o Q)
  none_of (Ok (Some x)) f h = tt
  none_of (Ok None) f h = f h
  none_of (Err e) f h = tt

pub returns-in-Some-clause-found : goal.returns-in-Some-clause-found
returns-in-Some-clause-found c =
    let (known, number) = subst (IsExample c.args.number) c.in-Some.is c.in_ok-refusal.ensures in
    some_of c.on_named.result
    (λ text explains. (c.in-Some.refusal, subst (λ (n : ℕ). is_refusal n ≡ true) (sym number) known, explains))
    c.on_named.ensures.found

pub returns-in-Some-clause-none : goal.returns-in-Some-clause-none
returns-in-Some-clause-none c =
    let (known, number) = subst (IsExample c.args.number) c.in-Some.is c.in_ok-refusal.ensures in
    none_of c.on_named.result
    (λ none known other is names. none (names_both other c.in-Some.refusal (is ∙ sym number)
    c.args.word.now names))
    c.on_named.ensures.none
