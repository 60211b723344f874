-- The message on its page is that of the list.
use Rattle.std.proofs.Common.{◌≡◌, ◌∙◌, ◌<◌, List, Some, length, slice_get, sym, ap, subst}
use Rattle.std.proofs.lemmas.Option.{get_or_from_slice_get}
use Rattle.ssim_held.specs.Entries.{Entry}
use Rattle.ssim_held.proofs.OnPages.{get_on}
use Rattle.ssim_held.proofs.Searching.{at_index}
use Rattle.ssim_held.proofs.pages.Pages.at.Goals as goal

pub returns : goal.returns
returns c =
    let (page, is, lt) = c.requires in
    let k = c.args.place.page in
    let p = c.held.result.now in
    let there = ap (λ (xs : List (List Entry)). slice_get xs k) c.self.view_is ∙ is in
    let same : p ≡ page = c.held.ensures ∙ c.index.ensures ∙ get_or_from_slice_get c.self.inside.pages.items k page c.index.result.now there in
    let within = subst (λ (q : List Entry). c.args.place.at < length q) (sym same) lt in
    get_on c.args.self.now k p c.args.place.at (is ∙ ap Some (sym same)) within ∙ at_index p c.args.place.at c.index-held-place.result within ∙ ap Some (sym c.index-held-place.is)
