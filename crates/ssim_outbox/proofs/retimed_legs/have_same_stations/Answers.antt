-- The leg sequence and two fields.
use Rattle.std.proofs.Common.{◌∙◌, ◌&&◌, nat_eq, bytes_eq}
use Rattle.ssim_columns.specs.Leg.{leg_columns}
use Rattle.ssim_outbox.proofs.retimed_legs.have_same_stations.Goals as goal

pub returns : goal.returns
returns c =
    let departure = c.have_same.ensures
    ∙ (λ i. bytes_eq (leg_columns 37 39 (c.columns.ensures i))
    (leg_columns 37 39 (c.columns-2.ensures i))) in
    let arrival = c.have_same-2.ensures
    ∙ (λ i. bytes_eq (leg_columns 55 57 (c.columns-3.ensures i))
    (leg_columns 55 57 (c.columns-4.ensures i))) in
    λ i. (nat_eq (c.sequence.ensures.value i) (c.sequence-2.ensures.value i) && departure i)
    && arrival i
