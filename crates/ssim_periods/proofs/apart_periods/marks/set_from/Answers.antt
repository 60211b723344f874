-- The row of the last cut is replaced if that is the day; else a cut and its row are appended.
use Rattle.std.proofs.Common.{ℕ, ◌-◌, ◌<◌, List, [], ◌∷◌, ◌++◌, length, ap, subst, sym, ◌∙◌, arith, rules}
use Rattle.std.specs.List.{All}
use Rattle.ssim_periods.specs.internal.Rows.{row_on, AreRows}
use Rattle.ssim_periods.proofs.MarkLemmas.{row_on-push, row_on-set, AreRows-push, below-day}
use Rattle.ssim_periods.proofs.RowLemmas.{index-default}
use Rattle.ssim_periods.proofs.apart_periods.marks.set_from.Goals as goal
use Rattle.ssim_periods.proofs.apart_periods.marks.set_from.Goals.{else-count-gt0-via-then-count-gt0+else-index-day, else-count-gt0-via-else-count-gt0}

pub returns-then-index-day-clause-row_on : goal.returns-then-index-day-clause-row_on
returns-then-index-day-clause-row_on c before n =
    let cuts = c.args.cuts.now.items in let k = c.len-count.result - 1 in
    let some = c.if-count-gt0.true in let count = c.len-count.ensures in let ok = c.args.cuts.now.ok in
    let within : k < length cuts = omega arith in
    row_on-set before cuts c.args.rows.now.items k c.args.day c.args.row n c.requires.row_count (omega arith)
    (index-default cuts k 0 c.index.result.now within ∙ sym c.index.ensures ∙ c.if-index-day.true) c.requires.until

pub returns-clause-valid : goal.returns-clause-valid
returns-clause-valid c before v =
    let cuts = c.args.cuts.now.items in let rows = c.args.rows.now.items in let day = c.args.day in
    let count = c.len-count.ensures in let ok = c.args.cuts.now.ok in
    let below : All (λ cut. cut < day) cuts = elim c.else-count-gt0.branch [
      | else-count-gt0-via-then-count-gt0+else-index-day w ↦
          let some = w.if-count-gt0.true in
          below-day cuts day (c.len-count.result - 1) w.index.result.now c.requires.rising c.requires.until (omega arith) w.index.ensures w.if-index-day.false
      | else-count-gt0-via-else-count-gt0 w ↦ λ k d l. let none = w.if-count-gt0.false in absurd (omega arith)
    ] in
    subst (λ (cs : List ℕ). AreRows before cs c.push.new.self.items) (sym (c.in_default.ensures.items ∙ ap (λ cs. cs ++ day ∷ []) c.reserve.ensures.items))
    (subst (λ (rs : List (List ℕ)). AreRows before (cuts ++ day ∷ []) rs) (sym c.in_ok-push.ensures.items)
    (AreRows-push before cuts rows day c.args.row v below c.requires.in_calendar (search rules)))

pub returns-clause-row_on : goal.returns-clause-row_on
returns-clause-row_on c before n =
    let cuts = c.args.cuts.now.items in let rows = c.args.rows.now.items in let day = c.args.day in
    ap (λ (cs : List ℕ). row_on before cs c.push.new.self.items n) (c.in_default.ensures.items ∙ ap (λ cs. cs ++ day ∷ []) c.reserve.ensures.items)
    ∙ ap (λ (rs : List (List ℕ)). row_on before (cuts ++ day ∷ []) rs n) c.in_ok-push.ensures.items
    ∙ row_on-push before cuts rows day c.args.row n c.requires.row_count c.requires.until
