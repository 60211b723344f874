-- The rows of the next message are the first of those that were left.
use Rattle.std.proofs.Common.{◌≡◌, ◌∙◌, ◌+◌, ◌++◌, ◌∷◌, List, [], append_assoc, drop}
use Rattle.std.proofs.Common.{length, sym, ap}
use Rattle.std.proofs.lemmas.List.{drop_all, drop_more}
use Rattle.ssim_desk.specs.declared.finding_line.FindingLine.{FindingLine}
use Rattle.ssim_held.specs.Entries.{Entry}
use Rattle.ssim_sql.specs.internal.SubRows.{rows_of_subs, sub_rows}
use Rattle.ssim_sql.specs.internal.Tables.{script_with}
use Rattle.ssim_sql.proofs.held.put_subs_of_all.Goals as goal

pub loop-message-preserved : goal.loop-message-preserved
loop-message-preserved c = λ later.
    let name = c.args.of.now.name.now in
    let i = c.loop-message.message-index in let held = c.args.held.now in
    let e = c.message-item.result in
    let left = c.loop-message.left.now in
    let rest = drop (i + 1) held in
    let next : drop i held ≡ e ∷ rest =
    drop_more held i e c.loop-message-test.true
    ∙ ap (λ (x : Entry). x ∷ rest) (sym c.message-item.is) in
    let left_is =
    c.after-left.ensures ∙ ap (λ (dates : List _). drop (length dates) left)
    c.dates-in-loop-message.ensures.value in
    let others = rows_of_subs name rest (drop (length e.dates) left) in
    let own = sub_rows name e.dates left in
    ap (λ (found : List FindingLine). script_with c.put_subs.new.table
    (rows_of_subs name rest found ++ later)) left_is
    ∙ c.in_ok-put_subs.ensures (others ++ later)
    ∙ ap (λ (dates : List _). script_with c.loop-message.table
    (sub_rows name dates left ++ (others ++ later))) c.dates.ensures.value
    ∙ ap (script_with c.loop-message.table) (sym (append_assoc own others later))
    ∙ ap (λ (es : List Entry). script_with c.loop-message.table
    (rows_of_subs name es left ++ later)) (sym next)
    ∙ c.loop-message.invariant later

pub returns : goal.returns
returns c = λ later.
    let name = c.args.of.now.name.now in
    let none : drop c.loop-message.message-index c.args.held.now ≡ [] =
    drop_all c.loop-message.message-index c.args.held.now c.loop-message-test.false in
    ap (λ (es : List Entry). script_with c.loop-message.table
    (rows_of_subs name es c.loop-message.left.now ++ later)) (sym none)
    ∙ c.loop-message.invariant later
