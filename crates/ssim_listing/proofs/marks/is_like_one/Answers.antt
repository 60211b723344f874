-- One more leg is not like the leg, or it is.
use Rattle.std.proofs.Common.{◌∙◌, ◌||◌, Bool, sym, ap, ap₂}
use Rattle.std.proofs.lemmas.List.Folds.{list_any_at, list_any_more}
use Rattle.ssim_base.specs.Timetable.{LegValue}
use Rattle.ssim_listing.specs.Marks.{is_like}
use Rattle.ssim_listing.proofs.marks.is_like_one.Goals as goal

pub loop-other-preserved : goal.loop-other-preserved
loop-other-preserved c =
    let p = λ (other : LegValue). is_like other c.args.leg.now in
    list_any_more p c.args.legs.now c.loop-other.other-index c.other-item.result c.loop-other-test.true
    ∙ ap₂ (λ (a b : Bool). a || b) c.loop-other.invariant (ap p (sym c.other-item.is) ∙ sym c.in_ok-is_like.ensures ∙ c.if-branch.false)

pub returns-then-branch : goal.returns-then-branch
returns-then-branch c =
    let p = λ (other : LegValue). is_like other c.args.leg.now in
    sym (list_any_at p c.args.legs.now c.loop-other.other-index c.other-item.result c.loop-other-test.true (ap p (sym c.other-item.is) ∙ sym c.in_ok-is_like.ensures ∙ c.if-branch.true))
