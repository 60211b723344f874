-- The row of the first value that is left.
use Rattle.std.proofs.Common.{◌≡◌, ◌∙◌, ◌+◌, ◌++◌, ◌∷◌, [], ap, sym, drop}
use Rattle.std.proofs.lemmas.List.{drop_all, drop_more}
use Rattle.ssim_sql.specs.Statements.{numbered}
use Rattle.ssim_sql.specs.internal.Tables.{script_with}
use Rattle.ssim_sql.proofs.table.put_numbered.Goals as goal

pub loop-place-preserved : goal.loop-place-preserved
loop-place-preserved g c = λ later.
    let row = g.T.Numbered.text_at c.args.context.now in
    let i = c.loop-place.place in let items = c.args.items.now in
    let item = c.index-items-place.result in
    let rest = drop (i + 1) items in
    let next : drop i items ≡ item ∷ rest =
    drop_more items i item c.loop-place-test.true
    ∙ ap (λ x. x ∷ rest) (sym c.index-items-place.is) in
    c.in_ok-put_at.ensures (numbered row (i + 1 + 1) rest ++ later)
    ∙ ap (λ xs. script_with c.loop-place.table (numbered row (i + 1) xs ++ later))
    (sym next)
    ∙ c.loop-place.invariant later

pub returns : goal.returns
returns g c = λ later.
    let row = g.T.Numbered.text_at c.args.context.now in
    let i = c.loop-place.place in let items = c.args.items.now in
    let none : drop i items ≡ [] = drop_all i items c.loop-place-test.false in
    ap (λ xs. script_with c.loop-place.table (numbered row (i + 1) xs ++ later)) (sym none)
    ∙ c.loop-place.invariant later
