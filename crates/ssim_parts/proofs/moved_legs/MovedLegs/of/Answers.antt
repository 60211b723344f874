-- One leg more.
use Rattle.std.proofs.Common.{◌≡◌, ◌∙◌, ◌+◌, ◌++◌, ◌∷◌, [], map, take, sym, ap}
use Rattle.std.specs.Prelude.{Option}
use Rattle.std.proofs.lemmas.List.{map_more, take_all, take_more}
use Rattle.ssim_base.specs.Timetable.{LegValue, Legs}
use Rattle.ssim_parts.specs.MovedLegs.{beyond_in, moved_leg, or_reason, unknown_in}
use Rattle.ssim_parts.specs.declared.fate.LeftReason.{LeftReason}
use Rattle.ssim_parts.proofs.FirstReasons.{beyond_in-more, leg_beyond, leg_unknown, unknown_in-more}
use Rattle.ssim_parts.proofs.moved_legs.MovedLegs.of.Goals as goal

pub loop-leg-preserved : goal.loop-leg-preserved
loop-leg-preserved c =
    let rows = c.args.rows.now in
    let wanted = c.args.wanted in
    let n = c.args.day in
    let shift = c.args.shift in
    let moved = moved_leg rows wanted n shift in
    let legs = c.args.legs.now in
    let i = c.loop-leg.leg-index in
    let leg = c.leg-item.result in
    let one = c.in_ok-one.one in
    let is = c.in_ok-one.ensures in
    let so_far = c.loop-leg.invariant in
    let more : take (i + 1) legs ≡ take i legs ++ leg ∷ [] =
    take_more legs i leg c.loop-leg-test.true
    ∙ ap (λ (l : LegValue). take i legs ++ l ∷ []) (sym c.leg-item.is) in
    record {
      legs_are = c.in_ok-push.ensures.items
          ∙ ap (λ (xs : Legs). xs ++ one.leg ∷ []) so_far.legs_are
          ∙ ap (λ (l : LegValue). map moved (take i legs) ++ l ∷ [])
          (is.leg_is ∙ ap moved c.leg-item.is)
          ∙ sym (map_more moved legs i leg c.loop-leg-test.true);
      unknown_is = c.or_reason-unknown.ensures
          ∙ ap (λ (u : Option LeftReason). or_reason u one.unknown) so_far.unknown_is
          ∙ ap (or_reason (unknown_in rows n (take i legs))) is.unknown_is
          ∙ sym (unknown_in-more rows n (take i legs) leg)
          ∙ ap (unknown_in rows n) (sym more);
      beyond_is = c.or_reason-beyond.ensures
          ∙ ap (λ (b : Option LeftReason). or_reason b one.beyond) so_far.beyond_is
          ∙ ap (or_reason (beyond_in rows wanted n shift (take i legs))) is.beyond_is
          ∙ sym (beyond_in-more rows wanted n shift (take i legs) leg)
          ∙ ap (beyond_in rows wanted n shift) (sym more);
    }

pub returns : goal.returns
returns c =
    let rows = c.args.rows.now in
    let wanted = c.args.wanted in
    let n = c.args.day in
    let shift = c.args.shift in
    let legs = c.args.legs.now in
    let done = take_all c.loop-leg.leg-index legs c.loop-leg-test.false in
    let so_far = c.loop-leg.invariant in
    record {
      legs_are = so_far.legs_are ∙ ap (map (moved_leg rows wanted n shift)) done;
      unknown_is = so_far.unknown_is ∙ ap (unknown_in rows n) done;
      beyond_is = so_far.beyond_is ∙ ap (beyond_in rows wanted n shift) done;
    }
