-- The files that are left go on from those that were received.
use Rattle.std.proofs.Common.{◌≡◌, drop, map}
use Rattle.ssim_program.specs.Receiving.{ReceivesEach}
use Rattle.ssim_program.proofs.Received.{Through}
use Rattle.ssim_program.proofs.command.receive.mailboxes.receive_files.Given as goal

abbrev pub invariant-loop-name : goal.invariant-loop-name
invariant-loop-name g l = record {
  through : Through (ReceivesEach (g.S.Store.files l.fn.store) (map (λ t. t.now) l.names)) (ReceivesEach (g.S.Store.files l.fn.store) (map (λ t. t.now) (drop l.name-index l.names)))
      l.fn.desk l.desk l.initial.receipts l.receipts;
  files : g.S.Store.files l.store ≡ g.S.Store.files l.fn.store;
  counted : g.S.Store.failures l.store ≡ g.S.Store.failures l.fn.store;
}
