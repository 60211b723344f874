-- The tests are those of the grammar.
use Rattle.std.proofs.Common.{◌≤◌, List, length, subst, sym, ◌∙◌}
use Rattle.ssim_text.specs.Grammar.{IsNewLegs}
use Rattle.ssim_text.specs.declared.segment.SegmentLine.{SegmentLine}
use Rattle.ssim_text.proofs.Runs.{false_true}
use Rattle.ssim_text.proofs.action.NewLegs.new.Goals as goal

pub returns-then-not-are_allowed-clause-none : goal.returns-then-not-are_allowed-clause-none
returns-then-not-are_allowed-clause-none c = λ allowed.
    false_true (sym c.if-not-are_allowed.true
    ∙ c.are_allowed.ensures.only c.args.equipment
    (subst (λ (segments : List SegmentLine). IsNewLegs (record {
      equipment = c.args.equipment;
      legs = c.args.legs.now;
      segments = segments;
    })) (sym c.deref.ensures.value) allowed))

pub of-requires-clause-some : goal.of-requires-clause-some
of-requires-clause-some c =
    (c.are_allowed.ensures.yes c.if-not-are_allowed.false c.args.equipment).some

pub of-requires-clause-few : goal.of-requires-clause-few
of-requires-clause-few c =
    (c.are_allowed.ensures.yes c.if-not-are_allowed.false c.args.equipment).legs

pub of-requires-2 : goal.of-requires-2
of-requires-2 c =
    subst (λ (segments : List SegmentLine). length segments ≤ 99) c.deref.ensures.value
    (c.are_allowed.ensures.yes c.if-not-are_allowed.false c.args.equipment).segments

pub returns-clause-some : goal.returns-clause-some
returns-clause-some c =
    let legs = c.in_ok-legs.ensures in
    let segments = c.deref.ensures.value ∙ sym c.of-2.ensures in
    subst IsNewLegs (λ i. record {
      equipment = c.args.equipment;
      legs = sym legs i;
      segments = segments i;
    }) (c.are_allowed.ensures.yes c.if-not-are_allowed.false c.args.equipment)
