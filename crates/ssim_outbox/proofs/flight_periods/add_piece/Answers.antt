-- A date that is settled leaves a draft.
use Rattle.std.proofs.lemmas.Result.{on_ok_weaker}
use Rattle.ssim_outbox.proofs.flight_periods.add_piece.Goals as goal

pub returns-then-eq-clause-draft : goal.returns-then-eq-clause-draft
returns-then-eq-clause-draft c = on_ok_weaker c.settle_date.result (λ settles from to change_is is. (settles from to change_is is).draft) c.settle_date.ensures
