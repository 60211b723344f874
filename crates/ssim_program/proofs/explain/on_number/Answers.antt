-- The example has the number.
use Rattle.std.proofs.Common.{Result, Ok, Err, IfOk, inl, subst}
use Rattle.ssim_program.specs.internal.Explain.{IsExample}
use Rattle.ssim_program.proofs.explain.on_number.Goals as goal

weaker : {A B : Type 0} {P Q : A → Type 0} (r : Result A B) → ((x : A) → P x → Q x) → IfOk r P
    → IfOk r Q
weaker (Ok x) f h = f x h
weaker (Err e) f h = tt

pub returns-in-Some : goal.returns-in-Some
returns-in-Some c =
    let (known, number) = subst (IsExample c.args.number) c.in-Some.is c.in_ok-refusal.ensures in
    weaker c.on_refusal.result (λ text begins. inl (known, c.in-Some.refusal, number, begins))
    c.on_refusal.ensures
