-- The page has one message less; without messages it is taken away.
use Rattle.std.proofs.Common.{◌≡◌, ◌∙◌, List, [], slice_set, sym, ap}
use Rattle.std.proofs.lemmas.Option.{get_or_from_slice_get, slice_get_within}
use Rattle.std.specs.List.{remove}
use Rattle.ssim_held.specs.Entries.{Entry}
use Rattle.ssim_held.specs.clauses.Pages.{all_of}
use Rattle.ssim_held.proofs.OnPages.{none_left, taken_from, without_empty}
use Rattle.ssim_held.proofs.pages.remove.Goals as goal

pub returns-then-len-eq0-clause-all : goal.returns-then-len-eq0-clause-all
returns-then-len-eq0-clause-all c =
    let ps = c.args.pages.now.items in
    let k = c.args.place.page in
    let (page, is, lt) = c.requires.on in
    let same = c.index_mut-page.ensures.value ∙ get_or_from_slice_get ps k page c.index_mut-page.result.now is in
    let taken = ap (λ (q : List Entry). all_of (slice_set ps k q)) (c.remove.ensures ∙ ap (λ (q : List Entry). remove q c.args.place.at) same) ∙ taken_from ps k page c.args.place.at is lt in
    let none : c.remove.new.self ≡ [] = none_left c.remove.new.self (sym c.len.ensures ∙ c.if-len-eq0.true) in
    ap all_of c.remove-then-len-eq0.ensures.items ∙ ap (λ (q : List Entry). all_of (remove (slice_set ps k q) k)) none
    ∙ without_empty ps k (slice_get_within ps k page is) ∙ ap (λ (q : List Entry). all_of (slice_set ps k q)) (sym none) ∙ taken

pub returns-else-len-eq0-clause-all : goal.returns-else-len-eq0-clause-all
returns-else-len-eq0-clause-all c =
    let ps = c.args.pages.now.items in
    let k = c.args.place.page in
    let (page, is, lt) = c.requires.on in
    let same = c.index_mut-page.ensures.value ∙ get_or_from_slice_get ps k page c.index_mut-page.result.now is in
    ap (λ (q : List Entry). all_of (slice_set ps k q)) (c.remove.ensures ∙ ap (λ (q : List Entry). remove q c.args.place.at) same) ∙ taken_from ps k page c.args.place.at is lt
