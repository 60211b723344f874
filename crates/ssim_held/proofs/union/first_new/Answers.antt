use Rattle.std.proofs.Common.{◌∙◌, Some, ap, sym, subst}
use Rattle.std.proofs.lemmas.List.Elements.{All-more, All-same}
use Rattle.std.proofs.lemmas.List.{take_all}
use Rattle.ssim_held.proofs.Searching.{at_index}
use Rattle.ssim_held.proofs.Unions.{IsHeldIn, held_in}
use Rattle.ssim_held.proofs.union.first_new.Goals as goal

pub returns-in-Absent-clause-some : goal.returns-in-Absent-clause-some
returns-in-Absent-clause-some c =
    let theirs = c.args.theirs.now in
    record {
      first = c.index-theirs-place.result;
      there = at_index theirs c.loop-place.place c.index-theirs-place.result c.loop-place-test.true ∙ ap Some (sym c.index-theirs-place.is);
      gap = c.in-Absent.ensures;
      before = c.loop-place.invariant;
    }

pub loop-place-preserved : goal.loop-place-preserved
loop-place-preserved c =
    let mine = c.args.mine.now in
    All-more (IsHeldIn mine) c.args.theirs.now c.loop-place.place c.index-theirs-place.result c.loop-place-test.true c.loop-place.invariant
    (subst (IsHeldIn mine) c.index-theirs-place.is (held_in mine c.index-theirs-place.result c.look_up.result c.look_up.ensures c.in_default.not-Absent))

pub returns-clause-none : goal.returns-clause-none
returns-clause-none c = All-same (IsHeldIn c.args.mine.now) c.args.theirs.now _ (sym (take_all c.loop-place.place c.args.theirs.now c.loop-place-test.false)) c.loop-place.invariant
