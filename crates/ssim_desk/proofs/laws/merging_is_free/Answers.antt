use Rattle.ssim_held.proofs.MapLemmas.{union-assoc, union-comm, union-idem}
use Rattle.ssim_held.proofs.References.{reference_total, reference_apart}
use Rattle.ssim_desk.proofs.Merging.{three_desks_merge}
use Rattle.ssim_desk.proofs.laws.merging_is_free.Goals as goal

pub returns : goal.returns
returns c = record {
  associative = union-assoc reference_total reference_apart;
  commutative = union-comm reference_total reference_apart;
  idempotent = union-idem reference_total reference_apart;
  three = three_desks_merge;
}
