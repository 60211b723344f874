-- A line can spell the segment line exactly if its parts are within their bounds.
use Rattle.std.proofs.Common.{ℕ, List, subst, sym, ◌∙◌}
use Rattle.ssim_text.specs.Grammar.{IsSegmentLine}
use Rattle.ssim_text.proofs.MadeLines.{segment_line, segment_line_within}
use Rattle.ssim_text.proofs.Runs.{false_true}
use Rattle.ssim_text.proofs.segment.SegmentLine.new.Goals as goal

pub returns-then-not-can_stand-clause-none : goal.returns-then-not-can_stand-clause-none
returns-then-not-can_stand-clause-none c = λ is.
    false_true (sym c.if-not-can_stand.true ∙ c.can_stand.ensures.only (segment_line_within _ is))

pub returns-clause-some : goal.returns-clause-some
returns-clause-some c =
    subst (λ (text : List ℕ). IsSegmentLine (record {
      board = c.args.board;
      off = c.args.off;
      identifier = c.args.identifier;
      text = text;
    })) (sym c.in_ok-bytes.ensures.items)
    (segment_line _ (c.can_stand.ensures.yes c.if-not-can_stand.false))
