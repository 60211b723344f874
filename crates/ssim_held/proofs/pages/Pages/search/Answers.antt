-- The reference is on the page on which it belongs, or in a gap there.
use Rattle.std.proofs.Common.{◌≡◌, ◌∙◌, ◌+◌, ◌<◌, ◌≤◌, suc, List, [], Option, length, MatchOption, arith, sym, subst}
use Rattle.std.proofs.lemmas.Option.{slice_get_within}
use Rattle.ssim_held.specs.Entries.{Entry}
use Rattle.ssim_held.specs.clauses.Ordered.{Belongs}
use Rattle.ssim_held.specs.clauses.Pages.{all_of, position_on}
use Rattle.ssim_held.proofs.OnPages.{gap_on, get_on, page_at, page_rising, read_as}
use Rattle.ssim_held.proofs.pages.Pages.search.Goals as goal

pub search-requires : goal.search-requires
search-requires c =
    let ps = c.self.inside.pages.items in
    let lt = subst (λ (xs : List (List Entry)). c.page_of-page.result < length xs) c.deref.ensures.value c.page_of-page.ensures.within in
    page_rising c.args.self.now c.page_of-page.result c.held.result.now
    (page_at ps c.args.self.now c.page_of-page.result c.held.result.now c.self.view_is lt (read_as ps c.page_of-page.result c.index.result.now c.held.result.now lt c.index.ensures c.held.ensures)) c.requires

pub returns-in-Ok-clause-found : goal.returns-in-Ok-clause-found
returns-in-Ok-clause-found c =
    let ps = c.self.inside.pages.items in
    let k = c.page_of-page.result in
    let p = c.held.result.now in
    let lt = subst (λ (xs : List (List Entry)). k < length xs) c.deref.ensures.value c.page_of-page.ensures.within in
    let is = page_at ps c.args.self.now k p c.self.view_is lt (read_as ps k c.index.result.now p lt c.index.ensures c.held.ensures) in
    let (e, there, its) = c.in-Ok.ensures.found in
    let within = slice_get_within p c.in-Ok.at e there in
    record {
      page = p;
      is_page = is;
      within = within;
      entry = e;
      there = get_on c.args.self.now k p c.in-Ok.at is within ∙ there;
      its = its;
    }

pub returns-in-Err-clause-absent : goal.returns-in-Err-clause-absent
returns-in-Err-clause-absent c =
    let ps = c.self.inside.pages.items in
    let k = c.page_of-page.result in
    let p = c.held.result.now in
    let r = c.args.reference.now in
    let lt = subst (λ (xs : List (List Entry)). k < length xs) c.deref.ensures.value c.page_of-page.ensures.within in
    let is = page_at ps c.args.self.now k p c.self.view_is lt (read_as ps k c.index.result.now p lt c.index.ensures c.held.ensures) in
    let inner = c.in-Err.ensures.absent in
    let next : k + 1 ≡ suc k = omega arith in
    let outer = subst (λ (xs : List (List Entry)). Belongs (all_of xs) r (position_on xs k 0) (position_on xs (k + 1) 0)) (c.deref.ensures.value ∙ c.self.view_is) c.page_of-page.ensures.belongs in
    record {
      gap = subst (λ (o : Option (List Entry)). MatchOption o ((c.args.self.now ≡ []) × (k ≡ 0) × (c.in-Err.at ≡ 0)) (λ page. c.in-Err.at ≤ length page)) (sym is) inner.within;
      belongs = gap_on c.args.self.now k p r c.in-Err.at is (subst (λ n. Belongs (all_of c.args.self.now) r (position_on c.args.self.now k 0) (position_on c.args.self.now n 0)) next outer) inner;
    }
