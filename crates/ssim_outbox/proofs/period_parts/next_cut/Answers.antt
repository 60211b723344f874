-- One row more.
use Rattle.std.proofs.Common.{◌≡◌, ◌∙◌, ◌+◌, ◌∷◌, [], ◌++◌, take, ap, sym, subst, arith}
use Rattle.std.specs.List.{AllByRecursion}
use Rattle.std.proofs.lemmas.List.{take_all, take_more}
use Rattle.ssim_text.proofs.ReadsBack.{all_both}
use Rattle.ssim_base.specs.Stations.{Row}
use Rattle.ssim_outbox.specs.internal.ReasonPieces.{IsSteady}
use Rattle.ssim_outbox.proofs.Steady.{one_variation, still_steady}
use Rattle.ssim_outbox.proofs.period_parts.next_cut.Goals as goal

pub loop-row-preserved : goal.loop-row-preserved
loop-row-preserved c =
    let rows = c.args.rows.now in let legs = c.args.legs.now in
    let l = c.loop-row in let i = l.row-index in let row = c.row-item.result in
    let next = c.cut_of-next.result in
    let more : take (i + 1) rows ≡ take i rows ++ row ∷ [] =
    take_more rows i row c.loop-row-test.true
    ∙ ap (λ (r : Row). take i rows ++ r ∷ []) (sym c.row-item.is) in
    record {
      from = c.cut_of-next.ensures.from;
      to = omega arith;
      steady = subst (AllByRecursion (IsSteady legs c.args.first next)) (sym more)
          (all_both (IsSteady legs c.args.first next) (take i rows) (row ∷ [])
          (still_steady legs c.args.first l.next next (take i rows) c.cut_of-next.ensures.to l.invariant.steady)
          (c.cut_of-next.ensures.steady, tt));
    }

pub returns-clause-one : goal.returns-clause-one
returns-clause-one c =
    let l = c.loop-row in let legs = c.args.legs.now in
    one_variation legs c.args.first l.next c.args.rows.now
    (subst (AllByRecursion (IsSteady legs c.args.first l.next))
    (take_all l.row-index c.args.rows.now c.loop-row-test.false) l.invariant.steady)
