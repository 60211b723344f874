-- What the sections that are left do makes the whole of what is done.
use Rattle.ssim_parts.specs.clauses.Sections.{most_left}
use Rattle.ssim_program.specs.World.{world}
use Rattle.ssim_program.proofs.Splitting.{IsAt, seen}
use Rattle.ssim_program.proofs.command.split.split_file.Given as goal

abbrev pub invariant-loop-section : goal.invariant-loop-section
invariant-loop-section g l =
    let files = g.S.Store.files l.fn.store in
    IsAt files l.fn.dataset l.fn.prefix
    (world files (g.S.Store.failures l.fn.store) l.fn.out)
    (world (g.S.Store.files l.store) (g.S.Store.failures l.store) l.out) l.done.items l.sections
    (seen files (g.S.File.Source.state l.file).left)

abbrev pub decreases-loop-section : goal.decreases-loop-section
decreases-loop-section g l = most_left l.sections
