-- The store is as it was.
use Rattle.std.proofs.Common.{◌≡◌}
use Rattle.ssim_program.proofs.explain.reason.refused_file.refused_text.Given as goal

abbrev pub invariant-loop-text : goal.invariant-loop-text
invariant-loop-text g l = record {
  same : g.S.Store.files l.store ≡ g.S.Store.files l.fn.store;
  counted : g.S.Store.failures l.store ≡ g.S.Store.failures l.fn.store;
}
