-- The days of the list's periods, in whatever order, are those of the value.
use Rattle.std.proofs.Common.{◌<◌, ◌++◌, ◌∷◌, [], ap, ◌∙◌}
use Rattle.std.proofs.lemmas.Result.{on_ok_weaker}
use Rattle.ssim_periods.proofs.JoinLemmas.{held-moved}
use Rattle.ssim_periods.proofs.ListPieces.{none-past, cover-given}
use Rattle.ssim_periods.proofs.SplitLemmas.{All-push}
use Rattle.ssim_periods.proofs.apart_periods.entry_pieces.push_value.Goals as goal

pub push_days-requires : goal.push_days-requires
push_days-requires g c =
    let xs = c.args.earlier.now ++ c.args.entry.now ∷ [] in let v = c.args.entry.now.1 in
    let ends = All-push (λ given. given.0.last < 36525) c.args.earlier.now c.args.entry.now c.requires.earlier c.requires.own in
    record {
      in_calendar = λ n past.
          let is = held-moved c.take_days_of_value.new.periods.items c.sort_by_key.new.self.items c.deref.result.now n c.sort_by_key.ensures.permutation c.deref.ensures.value ∙ c.in_ok-take_days_of_value.ensures.days n in
          none-past g.V.Value.alike xs v c.deref.result.now n ends is past;
    }

pub returns-clause-pieces : goal.returns-clause-pieces
returns-clause-pieces g c =
    let pieces = c.args.pieces.now.items in let xs = c.args.earlier.now ++ c.args.entry.now ∷ [] in let v = c.args.entry.now.1 in
    on_ok_weaker c.push_days.result (λ d. d ∙ ap (λ l. pieces ++ l) (cover-given g.V.Value.alike xs v c.deref.result.now (λ n.
    held-moved c.take_days_of_value.new.periods.items c.sort_by_key.new.self.items c.deref.result.now n c.sort_by_key.ensures.permutation c.deref.ensures.value ∙ c.in_ok-take_days_of_value.ensures.days n))) c.push_days.ensures
