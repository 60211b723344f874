use Rattle.std.proofs.Common.{◌≡◌, ◌∙◌, Some, slice_get, ap, sym, subst}
use Rattle.std.proofs.lemmas.List.Elements.{All-more, All-same}
use Rattle.std.proofs.lemmas.List.{take_all}
use Rattle.ssim_held.specs.Entries.{map_of}
use Rattle.ssim_held.specs.Held.{IsLeastConflict}
use Rattle.ssim_held.proofs.Searching.{at_index}
use Rattle.ssim_held.proofs.Unions.{IsAlike, agree, alike, least_conflict}
use Rattle.ssim_held.proofs.union.first_conflict.Goals as goal

pub returns-in-Other-clause-some : goal.returns-in-Other-clause-some
returns-in-Other-clause-some c =
    let mine = c.args.mine.now in let theirs = c.args.theirs.now in
    let at : slice_get theirs c.loop-held.held-index ≡ Some c.held-item.result = at_index theirs c.loop-held.held-index c.held-item.result c.loop-held-test.true ∙ ap Some (sym c.held-item.is) in
    subst (IsLeastConflict (map_of mine) (map_of theirs)) (sym c.reference.ensures)
    (least_conflict mine theirs c.loop-held.held-index c.held-item.result c.requires.theirs at c.loop-held.invariant c.in-Other.ensures)

pub loop-held-preserved : goal.loop-held-preserved
loop-held-preserved c =
    let mine = c.args.mine.now in
    All-more (IsAlike mine) c.args.theirs.now c.loop-held.held-index c.held-item.result c.loop-held-test.true c.loop-held.invariant
    (subst (IsAlike mine) c.held-item.is (alike mine c.held-item.result c.look_up.result c.requires.mine c.look_up.ensures c.in_default.not-Other))

pub returns-clause-none : goal.returns-clause-none
returns-clause-none c =
    let theirs = c.args.theirs.now in
    agree c.args.mine.now theirs c.requires.theirs (All-same (IsAlike c.args.mine.now) theirs _ (sym (take_all c.loop-held.held-index theirs c.loop-held-test.false)) c.loop-held.invariant)
