-- One more receipt is printed, kept and counted.
use Rattle.std.proofs.Common.{◌∙◌, ◌+◌, ap, cond}
use Rattle.ssim_program.specs.internal.Receive.{receipt_of}
use Rattle.ssim_program.proofs.Received.{then_too, with_one}
use Rattle.ssim_program.proofs.command.receive.receipt.Receipts.push.Goals as goal

pub returns : goal.returns
returns c =
    let counts = c.args.self.now.counts in
    then_too c.push_refused.result
    (λ kept csv before h. with_one csv c.args.self.now _ before (receipt_of c.args.receipt)
    c.push.ensures.form c.in_ok-push.ensures.text kept
    (c.in_ok-counted.ensures ∙ ap (λ b. counts.taken + cond b 1 0) c.is_taken.ensures)
    (c.in_ok-counted-2.ensures ∙ ap (λ b. counts.repeated + cond b 1 0) c.is_repeated.ensures)
    (c.in_ok-counted-3.ensures ∙ ap (λ b. counts.refused + cond b 1 0) c.is_refused.ensures) h)
    c.push_refused.ensures
