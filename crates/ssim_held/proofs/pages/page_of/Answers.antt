-- The first message of the page in the middle says in which half the reference belongs.
use Rattle.std.proofs.Common.{◌≡◌, ◌∙◌, ◌+◌, ◌-◌, ◌/◌, ◌<◌, Some, slice_get, length, arith, sym, ap}
use Rattle.std.proofs.lemmas.Bool.{false≢true}
use Rattle.ssim_held.specs.clauses.Pages.{all_of}
use Rattle.ssim_held.proofs.OnPages.{before_page, from_page, position_end, position_zero}
use Rattle.ssim_held.proofs.Searching.{at_index, no_more}
use Rattle.ssim_held.proofs.pages.page_of.Goals as goal

pub loop-high-init : goal.loop-high-init
loop-high-init c =
    let ps = c.args.pages.now in
    record {
      some = c.requires.some;
      within = omega arith;
      belongs = record {
        order = omega (arith, position_zero ps);
        within = omega (arith, position_end ps);
        before = λ j lt. absurd (omega (arith, lt, position_zero ps));
        after = λ j le. no_more (all_of ps) j _ (omega (arith, le, position_end ps));
      };
    }

pub loop-high-preserved-then-begins_after : goal.loop-high-preserved-then-begins_after
loop-high-preserved-then-begins_after c =
    let ps = c.args.pages.now in
    let at = c.loop-high in
    let mid = at.low + (at.high - at.low) / 2 in
    let test = c.loop-high-test.true in
    let within = at.invariant.within in
    let page = c.index-pages-middle.result in
    let lt : mid < length ps = omega (arith, test, within) in
    let is : slice_get ps mid ≡ Some page = at_index ps mid page lt ∙ ap Some (sym c.index-pages-middle.is) in
    let (e, first, greater) = c.begins_after.ensures in
    record {
      some = omega (arith, test);
      within = omega (arith, lt);
      belongs = before_page ps c.requires.rising c.args.reference.now at.low at.high mid (omega arith) (omega (arith, test)) at.invariant.belongs page is e first (greater.0 c.if-begins_after.true);
    }

pub loop-high-preserved : goal.loop-high-preserved
loop-high-preserved c =
    let ps = c.args.pages.now in
    let at = c.loop-high in
    let mid = at.low + (at.high - at.low) / 2 in
    let test = c.loop-high-test.true in
    let within = at.invariant.within in
    let page = c.index-pages-middle.result in
    let lt : mid < length ps = omega (arith, test, within) in
    let is : slice_get ps mid ≡ Some page = at_index ps mid page lt ∙ ap Some (sym c.index-pages-middle.is) in
    let (e, first, greater) = c.begins_after.ensures in
    record {
      some = omega (arith, test);
      within = within;
      belongs = from_page ps c.requires.rising c.args.reference.now at.low at.high mid (omega arith) (omega (arith, test)) at.invariant.belongs page is e first
          (λ is_greater. false≢true (sym c.if-begins_after.false ∙ greater.1 is_greater));
    }
