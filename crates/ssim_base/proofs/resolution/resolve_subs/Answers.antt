-- After the last sub-message none is left.
use Rattle.std.proofs.Common.{◌≡◌, List, [], drop, sym, subst}
use Rattle.std.proofs.lemmas.List.{append-nil, drop_all}
use Rattle.ssim_text.specs.declared.action.Sub.{Sub}
use Rattle.ssim_base.specs.Resolve.{AreResolved}
use Rattle.ssim_base.specs.declared.sub_message.ResolvedSub.{ResolvedSub}
use Rattle.ssim_base.proofs.resolution.resolve_subs.Goals as goal

pub returns-clause-ok : goal.returns-clause-ok
returns-clause-ok c =
    let past = c.loop-place-test.false in
    let none : drop c.loop-place.place c.args.subs.now ≡ [] = drop_all c.loop-place.place c.args.subs.now past in
    subst (λ (rs : List ResolvedSub). AreResolved c.args.carrier.now c.args.subs.now rs) (append-nil c.loop-place.resolved.items)
    (c.loop-place.invariant.done [] (subst (λ (left : List Sub). AreResolved c.args.carrier.now left []) (sym none) tt))
