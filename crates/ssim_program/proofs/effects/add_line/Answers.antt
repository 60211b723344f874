-- The keys of the set are those of before and the line.
use Rattle.std.proofs.Common.{◌≡◌, ◌∙◌, ℕ, List, Vec, ap}
use Rattle.std.specs.List.{list_any}
use Rattle.ssim_program.proofs.LineSets.{at, put_in}
use Rattle.ssim_program.proofs.effects.add_line.Goals as goal

pub returns : goal.returns
returns c = λ text.
    ap (list_any (at text c.args.line)) c.in_ok-insert.ensures.keys
    ∙ put_in text c.args.line c.args.set.now.keys
