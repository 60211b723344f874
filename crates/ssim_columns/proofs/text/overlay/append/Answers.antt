-- The part is written over the bytes after the parts before it.
use Rattle.std.proofs.Common.{List, ℕ, ◌+◌, ◌++◌, take, length, ap, ◌∙◌}
use Rattle.ssim_columns.proofs.lemmas.Overlay.{text_added}
use Rattle.ssim_columns.proofs.text.overlay.append.Goals as goal

pub returns-clause-value : goal.returns-clause-value
returns-clause-value c = λ rest.
    ap (λ (t : List ℕ). take (c.args.at + length c.args.part.now) t ++ rest) c.put.ensures
    ∙ text_added c.args.at c.args.part.now c.args.out.now rest c.requires
