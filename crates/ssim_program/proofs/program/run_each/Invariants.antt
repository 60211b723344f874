-- What the calls that are left do makes the whole of what is done.
use Rattle.std.proofs.Common.{drop, map}
use Rattle.ssim_program.proofs.Events.{Through}
use Rattle.ssim_program.proofs.program.run_each.Given as goal

abbrev pub invariant-loop-words : goal.invariant-loop-words
invariant-loop-words g l =
    Through (map (λ words. map (λ w. w.now) words.now) l.commands)
    (drop l.words-index (map (λ words. map (λ w. w.now) words.now) l.commands)) (g.S.Store.files l.fn.store) (g.S.Store.files l.store)
