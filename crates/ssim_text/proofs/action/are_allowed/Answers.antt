-- The tests are those of the grammar.
use Rattle.std.proofs.Common.{length, sym, ◌∙◌}
use Rattle.ssim_text.proofs.MadeLines.{all_flown, each_flown, some_lines}
use Rattle.ssim_text.proofs.action.are_allowed.Goals as goal

pub returns-then-segments-le99-clause-yes : goal.returns-then-segments-le99-clause-yes
returns-then-segments-le99-clause-yes c = λ h equipment.
    let legs = c.args.legs.now in
    let tests = c.if-segments-le99.true in
    record {
      some = some_lines (length legs) (sym c.is_empty.ensures ∙ tests.0);
      legs = tests.1;
      segments = tests.2;
      flown = each_flown legs c.args.segments.now (sym c.fly_all.ensures ∙ h);
    }

pub returns-then-segments-le99-clause-only : goal.returns-then-segments-le99-clause-only
returns-then-segments-le99-clause-only c = λ equipment allowed.
    c.fly_all.ensures ∙ all_flown c.args.legs.now c.args.segments.now allowed.flown
