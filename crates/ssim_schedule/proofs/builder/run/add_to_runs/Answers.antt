-- A run is wider, or there is one more run, after the others were put if they were many.
use Rattle.std.proofs.Common.{◌≡◌, ℕ, ◌+◌, List, Contains, ap, subst, ◌∙◌}
use Rattle.std.specs.declared.alloc.Global.{Global}
use Rattle.std.specs.declared.vec.Vec.{Vec}
use Rattle.ssim_values.specs.Period.{DayRange}
use Rattle.ssim_periods.specs.Calendar.{holds}
use Rattle.ssim_periods.specs.clauses.Days.{Seen, ends_of}
use Rattle.ssim_periods.specs.Days.{changed_on}
use Rattle.ssim_periods.proofs.EachLemmas.{changed-last}
use Rattle.ssim_base.specs.Timetable.{Days, Legs}
use Rattle.ssim_schedule.specs.clauses.PlacedLegs.{placed_each}
use Rattle.ssim_schedule.specs.internal.Runs.{Run, with_runs}
use Rattle.ssim_schedule.proofs.RunLemmas.{adds-before, adds-more}
use Rattle.ssim_schedule.proofs.builder.run.add_to_runs.Goals as goal

pub returns-then-widen-clause-cuts : goal.returns-then-widen-clause-cuts
returns-then-widen-clause-cuts c =
    let p = c.args.period.now in
    adds-before (ends_of c.args.runs.now.items) (ends_of c.widen.new.runs.items)
    c.args.periods.now.cuts p.first (p.last + 1) (c.widen.ensures.ends c.if-widen.true)

pub returns-clause-days : goal.returns-clause-days
returns-clause-days c =
    let p : DayRange = c.args.period.now in
    let old : Seen Legs = c.args.periods.now in
    let runs : List Run = c.make_room.new.runs.items in
    let periods : Seen Legs = c.make_room.new.periods in
    let run : Run = (p, c.in_ok-legs.legs) in
    let whole : Days = (with_runs c.args.runs.now.items old).days in
    let same = c.widen.ensures.none c.if-widen.false in
    let kept : (with_runs runs periods).days ≡ whole =
    c.in_ok-make_room.ensures.days
    ∙ ap (λ (rs : Vec Run Global). (with_runs rs.items old).days) same in
    ap (λ (rs : List Run). (with_runs rs periods).days) c.in_ok-push.ensures.items
    ∙ changed-last placed_each runs run periods.days
    ∙ ap (changed_on (holds p) (placed_each run.1) 0) kept
    ∙ ap (λ (legs : Legs). changed_on (holds p) (placed_each legs) 0 whole) c.in_ok-legs.ensures

pub returns-clause-cuts : goal.returns-clause-cuts
returns-clause-cuts c =
    let old : Seen Legs = c.args.periods.now in
    let runs : List Run = c.make_room.new.runs.items in
    let periods : Seen Legs = c.make_room.new.periods in
    let run : Run = (c.args.period.now, c.in_ok-legs.legs) in
    let whole : List ℕ = (with_runs c.args.runs.now.items old).cuts in
    let same = c.widen.ensures.none c.if-widen.false in
    let items : List Run = c.push.new.self.items in
    adds-more whole periods.cuts runs items run c.in_ok-push.ensures.items (λ cut has.
    subst (λ (rs : Vec Run Global). Contains (with_runs rs.items old).cuts cut) same
    (c.in_ok-make_room.ensures.cuts cut has))
