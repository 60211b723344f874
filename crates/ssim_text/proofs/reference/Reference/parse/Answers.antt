-- A text is read as exactly the reference that it spells.
use Rattle.std.proofs.Common.{◌∙◌, Ok, sym, ap}
use Rattle.ssim_text.specs.declared.reference.Reference.{Reference}
use Rattle.ssim_text.proofs.PrintedReferences.{reference_complete, reference_sound}
use Rattle.ssim_text.proofs.Runs.{none_some, some_same}
use Rattle.ssim_text.proofs.reference.Reference.parse.Goals as goal

pub returns-in-Some-clause-ok : goal.returns-in-Some-clause-ok
returns-in-Some-clause-ok c = reference_sound c.args.text.now c.in-Some.reference c.in-Some.ensures.some

pub returns-in-Some-clause-only : goal.returns-in-Some-clause-only
returns-in-Some-clause-only c = λ reference spelled.
    let same = some_same c.in-Some.reference reference (sym c.in-Some.ensures.some ∙ reference_complete c.args.text.now reference spelled) in
    ap (λ (r : Reference). Ok r) same

pub returns-in-None-clause-only : goal.returns-in-None-clause-only
returns-in-None-clause-only c = λ reference spelled.
    absurd (none_some reference (sym c.in-None.ensures.none ∙ reference_complete c.args.text.now reference spelled))
