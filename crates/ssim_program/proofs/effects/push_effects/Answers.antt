-- Nothing is kept of the desk before, and nothing is added; or the effects are.
use Rattle.std.proofs.Common.{◌∙◌, ◌++◌, ℕ, List, ap, subst}
use Rattle.ssim_program.specs.internal.Effects.{IsAsked}
use Rattle.ssim_program.proofs.EffectLines.{asked_for, not_asked}
use Rattle.ssim_program.proofs.effects.push_effects.Goals as goal

pub returns-in-None : goal.returns-in-None
returns-in-None c = λ asked first is base.
    not_asked asked first c.args.after.now c.args.lines.now.items (subst (IsAsked asked first) c.in-None.is is)

pub returns-in_ok-extend_from_slice-in-Some : goal.returns-in_ok-extend_from_slice-in-Some
returns-in_ok-extend_from_slice-in-Some c = λ asked first is base.
    asked_for asked first c.args.after.now c.in-Some.before c.args.lines.now.items _
    (subst (IsAsked asked first) c.in-Some.is is)
    (λ before. c.in_ok-extend_from_slice-in-Some.ensures.items ∙ ap (λ (more : List ℕ). c.args.lines.now.items ++ more)
    (c.deref.ensures.value ∙ c.in_ok-effects-in-Some.ensures first before base))
