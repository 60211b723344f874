-- The message is put on its page.
use Rattle.std.proofs.Common.{rules, ◌≡◌, ◌∙◌, ◌≤◌, List, Some, All, length, slice_set, vec_len, arith, sym, ap, subst}
use Rattle.std.proofs.lemmas.Option.{get_or_from_slice_get, slice_get_within}
use Rattle.std.proofs.lemmas.Result.{on_ok_weaker}
use Rattle.std.specs.List.{insert}
use Rattle.ssim_held.specs.Entries.{Entry}
use Rattle.ssim_held.specs.clauses.Pages.{IsFilled, all_of, position}
use Rattle.ssim_held.proofs.OnPages.{filled_after, filled_set, gap_page, put_on}
use Rattle.ssim_held.proofs.pages.insert.Goals as goal

pub divided-requires : goal.divided-requires
divided-requires c =
    let len : c.len.result ≡ length c.args.pages.now.items = search rules in
    record { on = gap_page c.args.pages.now.items c.args.place.page c.args.place.at c.requires (λ e. c.if-place-len.false (e ∙ sym len)) }

pub index_mut-requires : goal.index_mut-requires
index_mut-requires c =
    let (page, is, le) = c.in_ok-place.ensures.on in
    let len : vec_len c.divided.new.pages ≡ length c.divided.new.pages.items = search rules in
    let lt = slice_get_within c.divided.new.pages.items c.in_ok-place.place.page page is in
    omega (arith, lt, len)

pub insert-requires : goal.insert-requires
insert-requires c =
    let (page, is, le) = c.in_ok-place.ensures.on in
    let same = c.index_mut.ensures.value ∙ get_or_from_slice_get c.divided.new.pages.items c.in_ok-place.place.page page c.index_mut.result.now is in
    subst (λ (p : List Entry). c.in_ok-place.place.at ≤ length p) (sym same) le

pub returns-clause-ok : goal.returns-clause-ok
returns-clause-ok c =
    let xs = c.divided.new.pages.items in
    let ps = c.args.pages.now.items in
    let place = c.in_ok-place.place in
    let p = c.index_mut.result.now in
    let (page, is, le) = c.in_ok-place.ensures.on in
    let same : p ≡ page = c.index_mut.ensures.value ∙ get_or_from_slice_get xs place.page page p is in
    let le_p = subst (λ (q : List Entry). place.at ≤ length q) (sym same) le in
    on_ok_weaker c.insert.result (λ put. ap (λ (q : List Entry). all_of (slice_set xs place.page q)) put
    ∙ put_on xs place.page p place.at c.args.new (is ∙ ap Some (sym same)) le_p
    ∙ ap (λ (es : List Entry). insert es (position xs place) c.args.new) c.in_ok-place.ensures.all
    ∙ ap (λ n. insert (all_of ps) n c.args.new) c.in_ok-place.ensures.position) c.insert.ensures.ok

pub returns-clause-filled : goal.returns-clause-filled
returns-clause-filled c = λ filled.
    let xs = c.divided.new.pages.items in
    let place = c.in_ok-place.place in
    let p = c.index_mut.result.now in
    let (page, is, le) = c.in_ok-place.ensures.on in
    let all : All IsFilled xs = c.in_ok-place.ensures.filled filled in
    let some : IsFilled p = subst IsFilled (sym c.index_mut.ensures.value) (all place.page p (slice_get_within xs place.page page is)) in
    filled_set xs place.page c.insert.new.self (filled_after c.insert.result p c.insert.new.self place.at c.args.new c.insert.ensures.ok c.insert.ensures.err some) all
