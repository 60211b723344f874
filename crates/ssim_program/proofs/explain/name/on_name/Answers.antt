-- No number is left out.
use Rattle.std.proofs.Common.{◌≡◌, ℕ, IfNone, Option, ⊎_elim, refl, subst, arith}
use Rattle.std.proofs.lemmas.Bool.{cases_lt}
use Rattle.ssim_program.specs.internal.Explain.{NamesNoneOf}
use Rattle.ssim_program.specs.print.Refusal.{refusal_number}
use Rattle.ssim_program.proofs.RefusalNames.{at_most_93}
use Rattle.ssim_program.proofs.explain.name.on_name.Goals as goal

pub loop-number-preserved : goal.loop-number-preserved
loop-number-preserved c =
    let number = c.loop-number.number in
    let none : NamesNoneOf number c.args.word.now =
    subst (λ (found : Option _). IfNone found (NamesNoneOf number c.args.word.now))
    c.in_default.is c.in_ok-text.ensures.none in
    λ n before. ⊎_elim (λ less. c.loop-number.invariant n less)
    (λ not_less. let is : number ≡ n = omega arith in
    subst (λ (m : ℕ). NamesNoneOf m c.args.word.now) is none) (cases_lt n number)

pub returns-clause-none : goal.returns-clause-none
returns-clause-none c = λ refusal known names.
    c.loop-number.invariant (refusal_number refusal)
    (omega (arith, at_most_93 (refusal_number refusal) known)) known refusal refl names
