-- The line of the tail is the one that the tail has.
use Rattle.std.proofs.Common.{◌++◌, ◌∙◌, [], ◌∷◌, ap, sym}
use Rattle.ssim_text.specs.declared.segment.SegmentLine.{SegmentLine}
use Rattle.ssim_text.proofs.Runs.{none_some, some_same}
use Rattle.ssim_outbox.proofs.new_lines.push_segment_line.Goals as goal

pub returns-in-None-clause-found : goal.returns-in-None-clause-found
returns-in-None-clause-found c = λ segment h.
    absurd (none_some segment
    (sym c.in-None.is ∙ c.in_ok-segment_line_of.ensures.found segment h))

pub returns-in_ok-push-in-Some-clause-found : goal.returns-in_ok-push-in-Some-clause-found
returns-in_ok-push-in-Some-clause-found c = λ segment h.
    let same = some_same c.in-Some.segment segment
    (sym c.in-Some.is ∙ c.in_ok-segment_line_of.ensures.found segment h) in
    c.in_ok-push-in-Some.ensures.items
    ∙ ap (λ (s : SegmentLine). c.args.segments.now.items ++ s ∷ []) same
