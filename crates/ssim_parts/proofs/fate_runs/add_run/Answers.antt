-- The last run is another one, or there is one run more.
use Rattle.std.proofs.Common.{◌≡◌, ◌∙◌, ◌++◌, [], ◌∷◌, List, sym, ap, if◌then◌else◌, Option}
use Rattle.std.specs.Option.{option_to_list}
use Rattle.ssim_periods.specs.Calendar.{holds}
use Rattle.ssim_parts.specs.FlightFates.{FatePiece}
use Rattle.ssim_parts.specs.internal.Placed.{fate_by}
use Rattle.ssim_parts.proofs.FateRuns.{fate_by-both, fate_by-more}
use Rattle.ssim_parts.proofs.fate_runs.add_run.Goals as goal

pub returns-in_ok-push-in-Some-joined : goal.returns-in_ok-push-in-Some-joined
returns-in_ok-push-in-Some-joined c = λ before n.
    let old = c.args.runs.now.items in
    let rest = c.pop.new.self.items in
    let last = c.in-Some.last in
    let period = c.args.period.now in
    let fate = c.args.fate in
    let was : old ≡ rest ++ last ∷ [] =
    c.pop.ensures.items ∙ ap (λ (o : Option FatePiece). rest ++ option_to_list o) c.in-Some.is in
    ap (λ (rs : List FatePiece). fate_by before rs n) c.in_ok-push-in-Some-joined.ensures.items
    ∙ fate_by-both before rest last period c.in-Some-joined.both fate n
    c.in-Some-joined.ensures.fate (c.in-Some-joined.ensures.days n)
    ∙ ap (λ (rs : List FatePiece). if holds period n then fate else fate_by before rs n) (sym was)

pub returns-in_ok-push-in-None-2 : goal.returns-in_ok-push-in-None-2
returns-in_ok-push-in-None-2 c = λ before n.
    let old = c.args.runs.now.items in
    let rest = c.pop.new.self.items in
    let last = c.in-Some.last in
    let period = c.args.period.now in
    let fate = c.args.fate in
    let was : old ≡ rest ++ last ∷ [] =
    c.pop.ensures.items ∙ ap (λ (o : Option FatePiece). rest ++ option_to_list o) c.in-Some.is in
    ap (λ (rs : List FatePiece). fate_by before rs n) (c.in_ok-push-in-None-2.ensures.items
    ∙ ap (λ (rs : List FatePiece). rs ++ (period, fate) ∷ [])
    (c.in_ok-push-in-None.ensures.items ∙ sym was))
    ∙ fate_by-more before old (period, fate) n
