-- One row more.
use Rattle.std.proofs.Common.{◌≡◌, ◌∙◌, ◌+◌, ◌≤◌, ◌∷◌, [], ◌++◌, take, ap, sym, subst, arith}
use Rattle.std.specs.List.{AllByRecursion}
use Rattle.std.proofs.lemmas.List.{take_all, take_more}
use Rattle.ssim_base.specs.Stations.{Row}
use Rattle.ssim_parts.proofs.EvenDays.{IsSteadyRow, one_variation, still_steady}
use Rattle.ssim_parts.proofs.Parting.{all_both}
use Rattle.ssim_parts.proofs.moved_parts.row_cut.Goals as goal

pub loop-row-preserved : goal.loop-row-preserved
loop-row-preserved c =
    let rows = c.args.rows.now in
    let l = c.loop-row in
    let i = l.row-index in
    let row = c.row-item.result in
    let first = c.args.first in
    let next = c.nearer-next.result in
    let more : take (i + 1) rows ≡ take i rows ++ row ∷ [] =
    take_more rows i row c.loop-row-test.true
    ∙ ap (λ (r : Row). take i rows ++ r ∷ []) (sym c.row-item.is) in
    let begins : c.number.result ≡ row.first = c.number.ensures.value ∙ c.first.ensures.value in
    let ends : c.number-in-loop-row.result ≡ row.last =
    c.number-in-loop-row.ensures.value ∙ c.last.ensures.value in
    let cut = c.nearer-cut.ensures.cut in
    let cut_next = c.nearer-next.ensures.cut in
    record {
      from = c.nearer-next.ensures.from;
      to = omega arith;
      steady = subst (AllByRecursion (IsSteadyRow first next)) (sym more)
          (all_both (IsSteadyRow first next) (take i rows) (row ∷ [])
          (still_steady first l.next next (take i rows) (omega arith) l.invariant.steady) (
            record {
              first_is = λ k. let at : c.nearer-cut.result ≤ c.number.result =
                  cut (omega (arith, k, begins)) in omega (arith, at, begins);
              last_is = λ k. let at : next ≤ c.number-in-loop-row.result + 1 =
                  cut_next (omega (arith, k, ends)) in omega (arith, at, ends);
            },
            tt,
          ));
    }

pub returns-clause-steady : goal.returns-clause-steady
returns-clause-steady c =
    let l = c.loop-row in
    λ station n from to.
    one_variation c.args.rows.now c.args.first l.next n station
    (subst (AllByRecursion (IsSteadyRow c.args.first l.next))
    (take_all l.row-index c.args.rows.now c.loop-row-test.false) l.invariant.steady) from to
