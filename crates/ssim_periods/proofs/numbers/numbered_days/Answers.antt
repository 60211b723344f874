-- The values of the first row keep their numbers when the values of the other rows are added.
use Rattle.std.proofs.Common.{◌≡◌, [], Some, List, ℕ, map, ap, subst, sym, ◌∙◌}
use Rattle.std.specs.List.{flat_map}
use Rattle.ssim_periods.specs.Days.{each_day}
use Rattle.ssim_periods.specs.internal.Gather.{gathered, numbered}
use Rattle.ssim_periods.specs.internal.Rows.{value_on, AreRows}
use Rattle.ssim_periods.proofs.GatherLemmas.{gathered-append}
use Rattle.ssim_periods.proofs.NumberLemmas.{row-gathered, AreRows-numbered, each_day-numbered}
use Rattle.ssim_periods.proofs.numbers.numbered_days.Goals as goal

pub invariant_of-days : goal.invariant_of-days
invariant_of-days g c =
    let alike = g.V.Value.alike in let nothing = g.V.Value.nothing in let before = c.args.before.now in let rows = c.args.rows.now in
    let some = c.number_row.new.values in let all = c.number_rows.new.values in
    let first = c.in_ok-first.first in let later = c.in_ok-later.later.items in let e = c.in_ok-later.ensures in
    let own : map (numbered nothing all) first ≡ map Some before = row-gathered alike nothing some (flat_map (λ row. row) rows) all first before e.values c.in_ok-first.ensures.numbers in
    subst (λ (cuts : List ℕ). AreRows first cuts later) (sym c.in_ok-cuts.ensures.items) (AreRows-numbered (numbered nothing all) first before c.args.cuts.now later rows own e.numbers c.requires)

pub returns-clause-values : goal.returns-clause-values
returns-clause-values g c =
    let alike = g.V.Value.alike in let nothing = g.V.Value.nothing in let before = c.args.before.now in let rest = flat_map (λ row. row) c.args.rows.now in
    c.in_ok-later.ensures.values
    ∙ ap (λ known. gathered alike nothing known rest) (c.in_ok-first.ensures.values ∙ ap (λ known. gathered alike nothing known before) c.new-values.ensures)
    ∙ sym (gathered-append alike nothing [] before rest)

pub returns-clause-days : goal.returns-clause-days
returns-clause-days g c =
    let alike = g.V.Value.alike in let nothing = g.V.Value.nothing in let before = c.args.before.now in let rows = c.args.rows.now in
    let some = c.number_row.new.values in let all = c.number_rows.new.values in
    let first = c.in_ok-first.first in let later = c.in_ok-later.later.items in let e = c.in_ok-later.ensures in
    let own : map (numbered nothing all) first ≡ map Some before = row-gathered alike nothing some (flat_map (λ row. row) rows) all first before e.values c.in_ok-first.ensures.numbers in
    ap (λ (cuts : List ℕ). map (numbered nothing all) (each_day (value_on 0 first cuts later))) c.in_ok-cuts.ensures.items
    ∙ each_day-numbered nothing all first before c.args.cuts.now later rows own e.numbers
