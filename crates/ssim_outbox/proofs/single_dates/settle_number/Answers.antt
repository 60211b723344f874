-- The number is a day that the period holds, or nothing is to be done.
use Rattle.std.proofs.Common.{◌≡◌, false, true, ◌<◌, sym, subst, ℕ}
use Rattle.std.proofs.lemmas.Result.{on_ok_weaker}
use Rattle.ssim_periods.proofs.DayLemmas.{day_count-is}
use Rattle.ssim_outbox.proofs.Settling.{none_at, settled_at}
use Rattle.ssim_outbox.proofs.single_dates.settle_number.Goals as goal

pub returns-in_default : goal.returns-in_default
returns-in_default c from to change_is is =
    none_at c.args.rows.now from to c.args.draft.now c.args.change.now.flight c.args.period
    c.args.number
    (λ n within same _.
    let bad : false ≡ true = c.in_default.ensures.some.1
    (subst (λ (m : ℕ). m < 36525) (sym same) (rw day_count-is at within)) in absurd cc) is

pub returns : goal.returns
returns c =
    on_ok_weaker c.settle_date.result
    (λ h from to change_is is. settled_at c.args.rows.now from to c.args.draft.now
    c.settle_date.new.draft c.args.change.now.flight c.args.period c.args.number c.in-Some.day
    c.in-Some.ensures.value
    (h from to change_is is))
    c.settle_date.ensures
