-- The rows of one more value.
use Rattle.std.proofs.Common.{◌≡◌, ◌∙◌, ◌≤◌, ◌+◌, ◌++◌, ℕ, List, length, ap, sym, take, arith}
use Rattle.std.proofs.Common.{append_assoc}
use Rattle.std.specs.List.{flat_map}
use Rattle.std.proofs.lemmas.Grind.{common_steps}
use Rattle.std.proofs.lemmas.List.{take_all}
use Rattle.ssim_sql.specs.internal.Tables.{script_with}
use Rattle.ssim_sql.proofs.table.put_each.Goals as goal

pub loop-item-preserved : goal.loop-item-preserved
loop-item-preserved g c = λ later.
    let rows = g.T.Rowed.rows c.args.context.now in
    let i = c.loop-item.item-index in let items = c.args.items.now in
    let before = flat_map rows (take i items) in
    let own = rows c.item-item.result in
    let more : before ++ own ≡ flat_map rows (take (i + 1) items) = grind (arith, common_steps) in
    c.in_ok-put.ensures later ∙ c.loop-item.invariant (own ++ later)
    ∙ ap (script_with c.args.table.now) (sym (append_assoc before own later)
    ∙ ap (λ (all : List (List ℕ)). all ++ later) more)

pub returns : goal.returns
returns g c = λ later.
    let rows = g.T.Rowed.rows c.args.context.now in
    let i = c.loop-item.item-index in let items = c.args.items.now in
    let all : length items ≤ i = omega arith in
    c.loop-item.invariant later
    ∙ ap (λ xs. script_with c.args.table.now (flat_map rows xs ++ later))
    (take_all i items all)
