-- The steps so far have their texts, and the store is as it was.
use Rattle.std.proofs.Common.{◌≡◌, map, take}
use Rattle.ssim_program.specs.rehearse.Rehearsal.{AreLoaded}
use Rattle.ssim_program.specs.internal.Rehearse.{as_written}
use Rattle.ssim_program.proofs.rehearse.texts.load_texts.Given as goal

abbrev pub invariant-loop-next : goal.invariant-loop-next
invariant-loop-next g l = record {
  loaded : AreLoaded (g.S.Store.files l.fn.store) (map as_written (take l.next-index l.written))
      l.steps.items;
  same : g.S.Store.files l.store ≡ g.S.Store.files l.fn.store;
  counted : g.S.Store.failures l.store ≡ g.S.Store.failures l.fn.store;
}
