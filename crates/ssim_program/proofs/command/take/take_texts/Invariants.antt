-- What the texts that are left do makes the whole of what is done.
use Rattle.std.proofs.Common.{◌≡◌, Result, drop, map}
use Rattle.ssim_program.specs.Answers.{take_each}
use Rattle.ssim_program.specs.internal.Effects.{IsAsked}
use Rattle.ssim_program.specs.World.{Does, World, world}
use Rattle.ssim_program.specs.declared.refusal.Refusal.{Refusal}
use Rattle.ssim_program.proofs.command.take.take_texts.Given as goal

abbrev pub invariant-loop-name : goal.invariant-loop-name
invariant-loop-name g l = record {
  asked : IsAsked l.taking.effects l.fn.desk l.before;
  base : l.fn.desk.base ≡ l.intake.base;
  files : g.S.Store.files l.store ≡ g.S.Store.files l.fn.store;
  through : (after : World) (r : Result (Unit {0}) Refusal)
      → Does (take_each (g.S.Store.files l.fn.store) l.taking.effects l.fn.desk (g.S.Hold.Hold.file l.taking.place.now) (drop l.name-index (map (λ t. t.now) l.taking.names.now)) l.intake) (world (g.S.Store.files l.store) (g.S.Store.failures l.store) l.out) after r
      → Does (take_each (g.S.Store.files l.fn.store) l.taking.effects l.fn.desk (g.S.Hold.Hold.file l.taking.place.now) (map (λ t. t.now) l.taking.names.now) l.fn.desk) (world (g.S.Store.files l.fn.store) (g.S.Store.failures l.fn.store) l.fn.out) after r;
}
