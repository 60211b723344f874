-- A sub-message that acts, or whose line is known, adds nothing; any other one adds its line.
use Rattle.std.proofs.Common.{◌≡◌, ◌∙◌, ◌++◌, ℕ, List, ap, sym}
use Rattle.ssim_program.specs.internal.Effects.{is_in, line_unless}
use Rattle.ssim_program.specs.print.Effects.{finding_line}
use Rattle.ssim_program.proofs.EffectLines.{none_acting, none_known, nothing_more, one_new}
use Rattle.ssim_program.proofs.effects.FindingLinePrintedKnownLines.print.Goals as goal

pub returns-then-not-fails : goal.returns-then-not-fails
returns-then-not-fails c =
    let set = c.args.known.now.failing.now in let found = c.args.self.now in
    nothing_more c.args.lines.now.items (line_unless set found)
    (none_acting set found (sym c.fails.ensures ∙ c.if-not-fails.true))

pub returns-then-contains : goal.returns-then-contains
returns-then-contains c =
    let set = c.args.known.now.failing.now in let found = c.args.self.now in
    let there = c.contains.ensures ∙ ap (is_in set) (c.as_slice.ensures.value ∙ c.in_ok-line.ensures) in
    nothing_more c.args.lines.now.items (line_unless set found) (none_known set found (sym there ∙ c.if-contains.true))

pub returns : goal.returns
returns c =
    let set = c.args.known.now.failing.now in let found = c.args.self.now in
    let there = c.contains.ensures ∙ ap (is_in set) (c.as_slice.ensures.value ∙ c.in_ok-line.ensures) in
    c.in_ok-extend_from_slice.ensures.items
    ∙ ap (λ (more : List ℕ). c.args.lines.now.items ++ more) (c.deref.ensures.value ∙ c.in_ok-line.ensures
    ∙ sym (one_new set found (sym c.fails.ensures ∙ c.if-not-fails.false) (sym there ∙ c.if-contains.false)))
