-- The covers of periods that lie apart make up the cover of their days, and the marked days of the
-- rows are the days of the periods.
use Rattle.std.proofs.Common.{◌++◌, ap, ◌∙◌}
use Rattle.std.proofs.lemmas.Result.{on_ok_weaker}
use Rattle.ssim_periods.proofs.ListPieces.{cover-marked}
use Rattle.ssim_periods.proofs.SeparateLemmas.{cover-separate}
use Rattle.ssim_periods.proofs.apart_periods.entry_pieces.push_days.Goals as goal

pub returns-then-are_separate : goal.returns-then-are_separate
returns-then-are_separate g c =
    let pieces = c.args.pieces.now.items in
    on_ok_weaker c.push_each.result (λ d. d ∙ ap (λ l. pieces ++ l) (cover-separate c.args.periods.now c.args.value.now (c.are_separate.ensures c.if-are_separate.true))) c.push_each.ensures

pub returns : goal.returns
returns g c =
    let pieces = c.args.pieces.now.items in
    on_ok_weaker c.push_cover.result (λ d. d ∙ ap (λ l. pieces ++ l) (cover-marked c.args.periods.now c.args.value.now c.in_ok-rows.rows.days c.requires.in_calendar c.in_ok-rows.ensures)) c.push_cover.ensures
