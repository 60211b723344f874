-- What the printers have is what their writers hold.
use Rattle.std.proofs.Common.{◌≡◌, ℕ, List, Option, map, rules, subst}
use Rattle.ssim_command_line.specs.Line.{Text}
use Rattle.ssim_program.specs.Files.{Files}
use Rattle.ssim_program.specs.Runs.{Runs}
use Rattle.ssim_program.specs.World.{World, world}
use Rattle.ssim_program.specs.print.Paper.{Paper}
use Rattle.ssim_program.proofs.program.run.Goals as goal

over : (words : List Text) (files : Option Files) (n : ℕ) (after : World) (err' : Paper) (status : ℕ) (p q x y : Paper) → p ≡ x → q ≡ y → Runs words (world files n p) after q err' status → Runs words (world files n x) after y err' status
over words files n after err' status p q x y is are runs =
    subst (λ (e : Paper). Runs words (world files n x) after e err' status) are (subst (λ (o : Paper). Runs words (world files n o) after q err' status) is runs)

pub returns-clause-runs : goal.returns-clause-runs
returns-clause-runs g c = (
  c.run_on-status.new.out,
  c.run_on-status.new.err,
  _,
  _,
  search rules,
  search rules,
  over (map (λ w. w.now) c.args.words.now) (g.S.Store.files c.args.store.now)
      (g.S.Store.failures c.args.store.now)
      (world (g.S.Store.files c.run_on-status.new.store) (g.S.Store.failures c.run_on-status.new.store)
      c.run_on-status.new.out)
      c.run_on-status.new.err c.run_on-status.result _ _ _ _
      c.new-printed.ensures c.new-reasons.ensures c.run_on-status.ensures.runs,
)
