-- The last page has one more message.
use Rattle.std.proofs.Common.{rules, ◌≡◌, ◌∙◌, ◌-◌, List, Some, length, slice_get, slice_set, arith, sym, ap}
use Rattle.std.proofs.lemmas.Result.{on_ok_weaker}
use Rattle.std.specs.List.{insert}
use Rattle.ssim_held.specs.Entries.{Entry}
use Rattle.ssim_held.specs.clauses.Pages.{all_of}
use Rattle.ssim_held.proofs.OnPages.{put_last}
use Rattle.ssim_held.proofs.Searching.{at_index}
use Rattle.ssim_held.proofs.pages.push.Goals as goal

pub returns-then-len-lt-FULL-clause-ok : goal.returns-then-len-lt-FULL-clause-ok
returns-then-len-lt-FULL-clause-ok c =
    let ps = c.args.pages.now.items in
    let p = c.index_mut-last.result.now in
    let len : c.len-count.result ≡ length ps = search rules in
    let some = c.if-count-gt0.true in
    let k = c.len-count.result - 1 in
    let is : slice_get ps k ≡ Some p = at_index ps k p (omega (arith, len, some)) ∙ ap Some (sym c.index_mut-last.ensures.value) in
    on_ok_weaker c.insert.result (λ put. ap (λ (q : List Entry). all_of (slice_set ps k q)) (put ∙ ap (λ n. insert p n c.args.one) c.len-at.ensures)
    ∙ put_last ps k p c.args.one is (omega (arith, len, some))) c.insert.ensures.ok
