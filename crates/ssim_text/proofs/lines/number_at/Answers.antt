-- The number at the index, or one more than the last.
use Rattle.ssim_text.specs.declared.lines.Line.{Line}
use Rattle.ssim_text.proofs.LeftLemmas.{place_within, place_behind}
use Rattle.ssim_text.proofs.lines.number_at.Goals as goal

pub returns-then-index-lines : goal.returns-then-index-lines
returns-then-index-lines c = place_within (λ (l : Line). (l.number, l.bytes.now)) c.args.lines.now c.args.index _ c.if-index-lines.true

pub returns-in-len1-up : goal.returns-in-len1-up
returns-in-len1-up c = place_behind (λ (l : Line). (l.number, l.bytes.now)) c.args.lines.now c.args.index _ c.if-index-lines.false c.in-len1-up.len_at_least
