-- A file that cannot be read has a receipt.
use Rattle.std.proofs.Common.{rules, ◌∷◌, [], inr, refl}
use Rattle.ssim_program.specs.Made.{IsMissing}
use Rattle.ssim_program.specs.Receiving.{Unread}
use Rattle.ssim_program.proofs.Received.{then_too}
use Rattle.ssim_program.proofs.command.receive.mailboxes.receive_file.Goals as goal

pub returns-in-None-clause-received : goal.returns-in-None-clause-received
returns-in-None-clause-received g c =
    let missing : IsMissing (g.S.Store.files c.args.store.now) c.args.file.now = search rules in
    then_too c.push.result (λ added. (Unread c.args.file.now ∷ [], inr (missing, refl, refl), added)) c.push.ensures
