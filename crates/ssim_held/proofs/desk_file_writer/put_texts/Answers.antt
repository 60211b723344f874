-- The line with the number, and then each message.
use Rattle.std.proofs.Common.{refl}
use Rattle.ssim_base.proofs.SinkLemmas.{next_fails, none_put}
use Rattle.ssim_held.proofs.FileParts.{each_put, element_fails, element_put, elements_first}
use Rattle.ssim_held.proofs.FileParts.{elements_put}
use Rattle.ssim_held.proofs.desk_file_writer.put_texts.Goals as goal

pub returns-in_err-put_counted-clause-puts : goal.returns-in_err-put_counted-clause-puts
returns-in_err-put_counted-clause-puts g c =
    next_fails c.args.block.now _ _ refl (none_put _ _) _ _ c.from_residual.ensures.0
    c.in_err-put_counted.ensures

pub loop-message-init : goal.loop-message-init
loop-message-init g c = elements_first _ _ c.in_ok-put_counted.ensures

pub returns-in_err-put_text-clause-puts : goal.returns-in_err-put_text-clause-puts
returns-in_err-put_text-clause-puts g c =
    element_fails c.loop-message.invariant c.loop-message-test.true c.message-item.is refl
    _ _ c.from_residual-in_err-put_text.ensures.0 c.in_err-put_text.ensures.puts

pub loop-message-preserved : goal.loop-message-preserved
loop-message-preserved g c =
    element_put c.loop-message.invariant c.loop-message-test.true c.message-item.is refl
    c.in_ok-put_text.ensures.spelled c.in_ok-put_text.ensures.puts

pub returns-clause-puts : goal.returns-clause-puts
returns-clause-puts g c = elements_put c.loop-message.invariant c.loop-message-test.false

pub returns-clause-spelled : goal.returns-clause-spelled
returns-clause-spelled g c = each_put c.loop-message.invariant c.loop-message-test.false
