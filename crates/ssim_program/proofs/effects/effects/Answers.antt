-- The lines that are in no set are in no list of lines that fail. Then comes the last line, since the
-- timetables of the flights that are made differ as those of the desks do.
use Rattle.std.proofs.Common.{◌≡◌, ◌∙◌, ◌++◌, ℕ, List, ap, subst, sym}
use Rattle.std.specs.List.{flat_map}
use Rattle.ssim_values.specs.Flight.{FlightNumber, IsFlight}
use Rattle.ssim_base.specs.BaseSeen.{BaseSeen}
use Rattle.ssim_base.proofs.Results.{if_ok}
use Rattle.ssim_held.specs.Entries.{Entry}
use Rattle.ssim_desk.specs.Desk.{days_of_desk, entry_lines, finding_lines}
use Rattle.ssim_desk.specs.Meaning.{found_by}
use Rattle.ssim_desk.specs.clauses.Outcomes.{AreOutcomes, DifferAs}
use Rattle.ssim_desk.specs.declared.finding_line.FindingLine.{FindingLine}
use Rattle.ssim_program.specs.internal.Effects.{HasFailing, line_unless}
use Rattle.ssim_program.specs.print.Effects.{last_difference, new_line}
use Rattle.ssim_program.proofs.EffectFlights.{last_alike}
use Rattle.ssim_program.proofs.EffectLines.{same_lines}
use Rattle.ssim_program.proofs.effects.effects.Goals as goal

pub returns : goal.returns
returns c = λ first before base.
    let after = c.args.after.now in
    let old = days_of_desk first in let new = days_of_desk after in
    let outcomes = c.in_ok-outcomes.outcomes in
    let failing = c.in_ok-failing.failing in
    let made : AreOutcomes first.base first.held after.held outcomes =
    subst (λ (b : BaseSeen). AreOutcomes b first.held after.held outcomes) (sym base)
    (subst (λ (es : List Entry). AreOutcomes after.base es after.held outcomes)
    (c.deref.ensures.value ∙ before) c.in_ok-outcomes.ensures) in
    let differ : (g : FlightNumber) → IsFlight g → DifferAs (made.old g) (made.new g) (old g)
    (new g) =
    subst (λ (b : BaseSeen). (g : FlightNumber) → IsFlight g
    → DifferAs (made.old g) (made.new g) (old g) (days_of_desk (record after { base = b }) g)) base
    made.differ in
    let has : HasFailing failing (finding_lines first) =
    subst (HasFailing failing) (c.deref-2.ensures.value ∙ made.old_lines) c.in_ok-failing.ensures in
    let lines = c.deref-3.ensures.value ∙ made.new_lines
    ∙ (λ i. entry_lines after.held (found_by (base i) after.held)) in
    c.in_ok-push_last.ensures made.old made.new (c.deref-4.ensures.value ∙ made.old_flights)
    (c.deref-5.ensures.value ∙ made.new_flights)
    ∙ ap (λ (lines : List ℕ). lines ++ last_difference made.old made.new)
    (c.in_ok-push_each.ensures
    ∙ ap (λ (begin : List ℕ). begin ++ flat_map (line_unless failing) c.deref-3.result.now)
    c.new-lines.ensures.items
    ∙ ap (λ (found : List FindingLine). flat_map (line_unless failing) found) lines
    ∙ same_lines failing (finding_lines first) (finding_lines after) has)
    ∙ ap (λ (last : List ℕ). flat_map (new_line (finding_lines first)) (finding_lines after) ++ last)
    (last_alike made.old made.new old new differ)
