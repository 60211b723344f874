-- After a divider comes an action, while there is room, or free text.
use Rattle.std.proofs.Common.{arith, sym, ◌∙◌}
use Rattle.ssim_text.proofs.Arms.{take_next, take_first_free, no_next}
use Rattle.ssim_text.proofs.decoder_state.State.after_divider.Goals as goal

pub returns-then-sub_count-lt250-clause-ok : goal.returns-then-sub_count-lt250-clause-ok
returns-then-sub_count-lt250-clause-ok c =
    rw c.flight_expected.ensures (take_next c.args.message c.in-Some.action c.args.line.now c.in-Some.ensures.some (omega (arith, c.sub_count.ensures, c.if-sub_count-lt250.true)))

pub returns-in_ok-longer-in-None-clause-ok : goal.returns-in_ok-longer-in-None-clause-ok
returns-in_ok-longer-in-None-clause-ok c =
    rw c.in_ok-longer-in-None.ensures (take_first_free c.args.message c.args.line.now (sym c.begins_free.ensures ∙ c.if-begins_free.true))

pub returns-else-begins_free-clause-err : goal.returns-else-begins_free-clause-err
returns-else-begins_free-clause-err c =
    no_next c.args.message c.args.line.now c.in-None.ensures.none (sym c.begins_free.ensures ∙ c.if-begins_free.false)
