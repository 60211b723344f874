-- Field by field.
use Rattle.std.proofs.Common.{◌∙◌, List, ℕ, ap}
use Rattle.ssim_columns.specs.Leg.{leg_columns}
use Rattle.ssim_base.specs.Stations.{variation_at}
use Rattle.ssim_outbox.proofs.leg_change.LegChange.wanted.Goals as goal

pub returns : goal.returns
returns c =
    let rows = c.args.self.now.rows.now in let day = c.args.self.now.day in
    let at = λ (station : List ℕ). variation_at rows station day in
    let departure = c.variation_at.ensures
    ∙ ap at (c.departure_station.ensures ∙ ap (leg_columns 37 39) c.columns-columns.ensures) in
    let arrival = c.variation_at-2.ensures
    ∙ ap at (c.arrival_station.ensures ∙ ap (leg_columns 55 57) c.columns-columns.ensures) in
    λ i. record {
      leg = c.columns-columns.ensures i;
      old = c.old_columns.ensures i;
      first = c.args.self.now.first;
      has_other_equipment = c.requires.equipment i;
      departure = departure i;
      arrival = arrival i;
    }
