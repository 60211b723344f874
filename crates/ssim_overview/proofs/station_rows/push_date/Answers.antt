-- The last row goes on, or a row begins after it.
use Rattle.std.proofs.Common.{◌∙◌, ◌++◌, ◌∷◌, [], ap, sym}
use Rattle.ssim_base.specs.Stations.{Row}
use Rattle.ssim_overview.proofs.SaidCut.{begins_last, goes_on_last}
use Rattle.ssim_overview.proofs.station_rows.push_date.Goals as goal

pub returns-then-goes_on : goal.returns-then-goes_on
returns-then-goes_on c =
    goes_on_last c.args.station c.pop.new.self.items c.in-Some.row (c.args.date, c.args.variation)
    c.args.rows.now.items c.push-then-goes_on.new.self.items c.in-Some.ensures.items
    (sym c.goes_on.ensures ∙ c.if-goes_on.true)
    (c.in_ok-push-2.ensures.items
    ∙ ap (λ (r : Row). c.pop.new.self.items ++ record r { last = c.args.date } ∷ []) c.row.view_is)

pub returns : goal.returns
returns c =
    begins_last c.args.station c.pop.new.self.items c.in-Some.row (c.args.date, c.args.variation)
    c.args.rows.now.items c.push-2.new.self.items c.push-3.new.self.items c.in-Some.ensures.items
    (sym c.goes_on.ensures ∙ c.if-goes_on.false) c.in_ok-push-3.ensures.items c.in_ok-push-4.ensures.items
