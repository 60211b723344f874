-- The wider run takes the place of the one that was found.
use Rattle.std.proofs.Common.{◌≡◌, List, Some, slice_get, sym, ap, subst, ◌∙◌}
use Rattle.ssim_values.specs.Period.{DayRange}
use Rattle.ssim_periods.proofs.DayLemmas.{get-index}
use Rattle.ssim_schedule.specs.internal.Runs.{IsWider, Run}
use Rattle.ssim_schedule.proofs.RunLemmas.{ends-wider, runs-wider}
use Rattle.ssim_schedule.proofs.builder.run.widen.Goals as goal

pub returns-in-Some-clause-days : goal.returns-in-Some-clause-days
returns-in-Some-clause-days c = λ t days.
    let runs : List Run = c.args.runs.now.items in let p : DayRange = c.args.period.now in let legs = c.args.group.now.legs in
    let place = c.in-Some.found.0 in let both : DayRange = c.in-Some.found.1 in let run : Run = c.index_mut.result.now in
    let found : IsWider runs p legs place both = subst (λ (rs : List Run). IsWider rs p legs place both) c.deref.ensures.value c.in-Some.ensures in
    let at : slice_get runs place ≡ Some run = get-index runs place run found.in_range ∙ ap Some (sym c.index_mut.ensures.value) in
    runs-wider runs place run _ p legs at (found.same_legs run at) (found.same_legs run at) (found.days run at) found.free days

pub returns-in-Some-clause-ends : goal.returns-in-Some-clause-ends
returns-in-Some-clause-ends c = λ t.
    let runs : List Run = c.args.runs.now.items in let p : DayRange = c.args.period.now in let legs = c.args.group.now.legs in
    let place = c.in-Some.found.0 in let both : DayRange = c.in-Some.found.1 in let run : Run = c.index_mut.result.now in
    let found : IsWider runs p legs place both = subst (λ (rs : List Run). IsWider rs p legs place both) c.deref.ensures.value c.in-Some.ensures in
    let at : slice_get runs place ≡ Some run = get-index runs place run found.in_range ∙ ap Some (sym c.index_mut.ensures.value) in
    ends-wider runs place run _ p at (found.first run at) (found.last run at)
