-- One leg more.
use Rattle.std.proofs.Common.{◌≡◌, ◌∙◌, ◌≤◌, ◌+◌, ◌++◌, ◌∷◌, [], take, sym, ap, subst, arith}
use Rattle.std.specs.List.{AllByRecursion}
use Rattle.std.proofs.lemmas.List.{take_all, take_more}
use Rattle.ssim_base.specs.Timetable.{LegValue, Legs}
use Rattle.ssim_board.specs.internal.DaysThere.{IsWithin, days_of_leg}
use Rattle.ssim_board.proofs.DaysThere.{more_legs}
use Rattle.ssim_board.proofs.Lists.{every_append}
use Rattle.ssim_board.proofs.board.Board.days_of_legs.Goals as goal

pub loop-leg-preserved : goal.loop-leg-preserved
loop-leg-preserved c =
    let board = c.args.self.now in
    let legs = c.args.legs.now in
    let i = c.loop-leg.leg-index in
    let leg = c.leg-item.result in
    let days = c.max-days.result in
    let more : take (i + 1) legs ≡ take i legs ++ leg ∷ [] =
    take_more legs i leg c.loop-leg-test.true
    ∙ ap (λ (one : LegValue). take i legs ++ one ∷ []) (sym c.leg-item.is) in
    let is = c.days_of_leg.ensures.value ∙ ap (days_of_leg board) c.columns.ensures in
    let own : days_of_leg board leg.columns ≤ days = omega (arith, c.max-days.ensures, is) in
    let old : c.loop-leg.days ≤ days = omega (arith, c.max-days.ensures) in
    record {
      bound = omega (arith, c.max-days.ensures, c.days_of_leg.ensures.bound, c.loop-leg.invariant.bound);
      within = subst (λ (xs : Legs). AllByRecursion (IsWithin board days) xs) (sym more)
          (every_append (IsWithin board days) (take i legs) (leg ∷ [])
          (more_legs board c.loop-leg.days days (take i legs) old c.loop-leg.invariant.within) (own, tt));
    }

pub returns-clause-within : goal.returns-clause-within
returns-clause-within c =
    subst (λ (xs : Legs). AllByRecursion (IsWithin c.args.self.now c.loop-leg.days) xs)
    (take_all c.loop-leg.leg-index c.args.legs.now c.loop-leg-test.false) c.loop-leg.invariant.within
