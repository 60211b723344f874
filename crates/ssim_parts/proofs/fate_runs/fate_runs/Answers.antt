-- One part more.
use Rattle.std.proofs.Common.{◌≡◌, ◌∙◌, ◌+◌, ◌++◌, [], ◌∷◌, List, take, sym, ap, if◌then◌else◌}
use Rattle.std.proofs.lemmas.List.{take_all, take_more}
use Rattle.ssim_periods.specs.Calendar.{holds}
use Rattle.ssim_periods.specs.Pieces.{held_on}
use Rattle.ssim_parts.specs.declared.fate.Fate.{Fate}
use Rattle.ssim_parts.specs.declared.fate.Fate.TheVariants.{Absent}
use Rattle.ssim_parts.specs.internal.Placed.{MovedPiece, last_fate}
use Rattle.ssim_parts.proofs.Held.{fate_put}
use Rattle.ssim_parts.proofs.fate_runs.fate_runs.Goals as goal

pub loop-part-preserved : goal.loop-part-preserved
loop-part-preserved c n =
    let parts = c.args.parts.now in
    let i = c.loop-part.part-index in
    let part = c.part-item.result in
    let more : take (i + 1) parts ≡ take i parts ++ part ∷ [] =
    take_more parts i part c.loop-part-test.true
    ∙ ap (λ (p : MovedPiece). take i parts ++ p ∷ []) (sym c.part-item.is) in
    c.in_ok-add_run.ensures Absent n
    ∙ ap (λ (f : Fate). if holds part.0 n then part.1.fate else f) (c.loop-part.invariant n)
    ∙ fate_put (take i parts) part n
    ∙ ap (λ (ps : List MovedPiece). last_fate Absent (held_on ps n)) (sym more)

pub returns : goal.returns
returns c n =
    c.loop-part.invariant n
    ∙ ap (λ (ps : List MovedPiece). last_fate Absent (held_on ps n))
    (take_all c.loop-part.part-index c.args.parts.now c.loop-part-test.false)
