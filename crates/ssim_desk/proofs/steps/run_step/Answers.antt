use Rattle.std.proofs.Common.{◌≡◌, false, length, map, get_or, set, refl, sym, subst}
use Rattle.ssim_held.specs.Entries.{map_of}
use Rattle.ssim_desk.specs.Steps.{Acts, IsInRange, Takes}
use Rattle.ssim_desk.specs.clauses.Steps.{is_change}
use Rattle.ssim_desk.proofs.StepLemmas.{idle_take, state, take_at}
use Rattle.ssim_desk.proofs.steps.run_step.Goals as goal

pub returns-in-Take-clause-acts : goal.returns-in-Take-clause-acts
returns-in-Take-clause-acts g c =
    let seen = g.D.Holder.seen in
    let desks = c.args.desks.now in
    let i = c.in-Take.desk in
    let old = get_or desks i c.index-desks-desk.result in
    let after = map (state seen) (set desks i c.take_step.new.desk) in
    subst (λ s. Acts (map (state seen) desks) s c.take_step.result after) (sym c.in-Take.is)
    (take_at seen desks i c.in-Take.text.items c.take_step.result old c.take_step.new.desk c.index-desks-desk.result
    (subst (λ s. IsInRange (length desks) s) c.in-Take.is c.requires) refl c.take_step.ensures.base
    (subst (λ text. Takes (state seen old) text c.take_step.result (map_of (seen c.take_step.new.desk).held)) c.deref.ensures.value c.take_step.ensures.takes))

pub returns-in-Take-clause-idle : goal.returns-in-Take-clause-idle
returns-in-Take-clause-idle g c d idle =
    let desks = c.args.desks.now in
    let i = c.in-Take.desk in
    let old = get_or desks i c.index-desks-desk.result in
    idle_take desks i d c.in-Take.text c.take_step.result old c.take_step.new.desk c.index-desks-desk.result refl c.take_step.ensures.same
    (subst (λ s. is_change d s c.take_step.result ≡ false) c.in-Take.is idle)
