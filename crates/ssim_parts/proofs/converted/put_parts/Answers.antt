-- One part more.
use Rattle.std.proofs.Common.{◌≡◌, ◌∙◌, ◌+◌, ◌++◌, [], ◌∷◌, List, take, sym, ap, subst}
use Rattle.std.proofs.lemmas.List.{take_all, take_more}
use Rattle.ssim_parts.specs.internal.Changes.{ChangesFlight}
use Rattle.ssim_parts.specs.internal.Placed.{IsFit, MovedPiece, legs_put}
use Rattle.ssim_parts.proofs.Changing.{changed_twice, unchanged}
use Rattle.ssim_parts.proofs.Held.{legs_put-more, legs_put-none}
use Rattle.ssim_parts.proofs.Parting.{all_at}
use Rattle.ssim_parts.proofs.converted.put_parts.Goals as goal

pub loop-part-init : goal.loop-part-init
loop-part-init c =
    unchanged c.args.flight (legs_put c.args.shift []) c.args.schedule.now
    (λ n within legs. legs_put-none c.args.shift n legs)

pub put_part-requires-clause-fit : goal.put_part-requires-clause-fit
put_part-requires-clause-fit c =
    subst IsFit (sym c.part-item.is)
    (all_at IsFit c.args.parts.now c.loop-part.part-index c.part-item.result
    c.loop-part-test.true c.requires.fit)

pub loop-part-preserved : goal.loop-part-preserved
loop-part-preserved c =
    let s = c.args.shift in
    let flight = c.args.flight in
    let parts = c.args.parts.now in
    let i = c.loop-part.part-index in
    let part = c.part-item.result in
    let more : take (i + 1) parts ≡ take i parts ++ part ∷ [] =
    take_more parts i part c.loop-part-test.true
    ∙ ap (λ (p : MovedPiece). take i parts ++ p ∷ []) (sym c.part-item.is) in
    subst (λ (ps : List MovedPiece).
    ChangesFlight flight (legs_put s ps) c.args.schedule.now c.put_part.new.schedule) (sym more)
    (changed_twice flight (legs_put s (take i parts)) (legs_put s (part ∷ []))
    (legs_put s (take i parts ++ part ∷ [])) c.args.schedule.now c.loop-part.schedule
    c.put_part.new.schedule (λ n within legs. legs_put-more s (take i parts) part n legs)
    c.loop-part.invariant c.in_ok-put_part.ensures)

pub returns : goal.returns
returns c =
    subst (λ (ps : List MovedPiece).
    ChangesFlight c.args.flight (legs_put c.args.shift ps) c.args.schedule.now c.loop-part.schedule)
    (take_all c.loop-part.part-index c.args.parts.now c.loop-part-test.false) c.loop-part.invariant
