-- One more message is carried, or refused.
use Rattle.std.proofs.Common.{◌≡◌, ◌∙◌, ◌+◌, ◌∷◌, drop, sym, ap, subst}
use Rattle.std.proofs.lemmas.List.{drop_all, drop_more}
use Rattle.std.specs.Prelude.{All}
use Rattle.ssim_base.specs.BaseSeen.{BaseSeen}
use Rattle.ssim_base.specs.ReadBack.{HasFrame}
use Rattle.ssim_held.specs.Entries.{Entry, IsEntry}
use Rattle.ssim_program.proofs.CarriedLines.{all_carried, none_carried, one_carried, one_passed}
use Rattle.ssim_program.proofs.command.carry.carry_each.Goals as goal

pub loop-held-init : goal.loop-held-init
loop-held-init c = record {
  carried =
      λ theirs each. none_carried theirs c.args.desk.now c.args.messages.now c.new-lines.result.items
      c.new-lines.ensures.items;
  stops = λ theirs each why left. left;
  framed = c.requires;
}

pub loop-held-preserved : goal.loop-held-preserved
loop-held-preserved c =
    let es = c.args.messages.now in let i = c.loop-held.held-index in let e = c.held-item.result in
    let rest = drop (i + 1) es in
    let next : drop i es ≡ e ∷ rest =
    drop_more es i e c.loop-held-test.true ∙ ap (λ (x : Entry). x ∷ rest) (sym c.held-item.is) in
    let entry : (theirs : BaseSeen) → All (IsEntry theirs.records) es → IsEntry theirs.records e =
    λ theirs each. subst (IsEntry theirs.records) (sym c.held-item.is) (each i e c.loop-held-test.true)
    in
    record {
      carried =
          λ theirs each. one_carried theirs c.args.desk.now c.loop-held.desk c.carry_one.new.desk es i
          e c.in_ok-line.line c.loop-held.lines.items c.add_line.new.lines.items next
          (c.in_ok-line.ensures.done theirs (entry theirs each)) c.in_ok-add_line.ensures
          (c.loop-held.invariant.carried theirs each);
      stops = λ theirs each. one_passed theirs c.args.desk.now c.loop-held.desk c.carry_one.new.desk es
          i e c.in_ok-line.line next
          (c.in_ok-line.ensures.done theirs (entry theirs each))
          (c.loop-held.invariant.stops theirs each);
      framed = subst (λ (b : BaseSeen). HasFrame c.args.frame.now b.records)
          (sym c.carry_one.ensures.base) c.loop-held.invariant.framed;
    }

pub returns-clause-done : goal.returns-clause-done
returns-clause-done c = λ theirs each.
    all_carried theirs c.args.desk.now c.loop-held.desk c.args.messages.now c.loop-held.held-index
    c.loop-held.lines.items
    (drop_all c.loop-held.held-index c.args.messages.now c.loop-held-test.false)
    (c.loop-held.invariant.carried theirs each)
