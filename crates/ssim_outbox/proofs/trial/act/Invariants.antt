-- The actions so far that act leave what all the actions so far leave.
use Rattle.std.proofs.Common.{◌≡◌, length}
use Rattle.std.specs.List.{AllByRecursion}
use Rattle.std.specs.Vec.Iter.{into_iter_items, into_iter_len}
use Rattle.ssim_outbox.specs.clauses.Acting.{ActEach}
use Rattle.ssim_outbox.specs.Reach.{IsSaid, after_all}
use Rattle.ssim_outbox.proofs.trial.act.Given as goal

abbrev pub invariant-loop-action : goal.invariant-loop-action
invariant-loop-action l =
    let old = l.initial.date in
    record {
      day : l.date.day ≡ old.day;
      legs : after_all l.rows old.day (into_iter_items l.action-iterator) l.date.legs
          ≡ after_all l.rows old.day l.fn.actions.items old.legs;
      same : l.date.legs ≡ after_all l.rows old.day l.acting.items old.legs;
      acts : ActEach l.rows old.day l.acting.items old.legs;
      said : AllByRecursion IsSaid l.acting.items;
      to_come : AllByRecursion IsSaid (into_iter_items l.action-iterator);
      left : into_iter_len l.action-iterator ≡ length (into_iter_items l.action-iterator);
    }
