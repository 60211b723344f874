-- The cuts before the place are not after the first day, and the others are not before its cut.
use Rattle.std.proofs.Common.{arith}
use Rattle.ssim_outbox.proofs.Weeks.{cut_from}
use Rattle.ssim_outbox.proofs.made_dates.cut_after.Goals as goal

pub returns-then-place-cuts-clause-none : goal.returns-then-place-cuts-clause-none
returns-then-place-cuts-clause-none c cut has after =
    let from = cut_from c.args.cuts.now c.args.first c.place_after-place.result cut c.requires.rising
    c.place_after-place.ensures.before has after in
    let room = from.0 in let none = c.if-place-cuts.true in
    absurd (omega arith)

pub returns-then-cuts-place-clause-none : goal.returns-then-cuts-place-clause-none
returns-then-cuts-place-clause-none c cut has after =
    let from = cut_from c.args.cuts.now c.args.first c.place_after-place.result cut c.requires.rising
    c.place_after-place.ensures.before has after in
    from.1

pub returns-else-cuts-place-clause-none : goal.returns-else-cuts-place-clause-none
returns-else-cuts-place-clause-none c cut has after =
    let from = cut_from c.args.cuts.now c.args.first c.place_after-place.result cut c.requires.rising
    c.place_after-place.ensures.before has after in
    let late = c.if-cuts-place.false in let up = from.1 in
    omega arith
