-- The entries are those that were, and what is added; the first of them are cut.
use Rattle.std.proofs.Common.{◌≡◌, ◌+◌, length, ap, subst, sym, ◌∙◌, arith}
use Rattle.std.specs.List.Sorted.{IsStrictlyIncreasing}
use Rattle.ssim_periods.specs.internal.Splits.{with_cut}
use Rattle.ssim_periods.proofs.CutLemmas.{rising-with_cut}
use Rattle.ssim_periods.proofs.apart_periods.within.divide.Goals as goal

pub add-requires-clause-rising : goal.add-requires-clause-rising
add-requires-clause-rising g c = subst IsStrictlyIncreasing (sym c.make_room.ensures.days) c.requires

pub add-requires-2-clause-rising : goal.add-requires-2-clause-rising
add-requires-2-clause-rising g c =
    let first = c.number-first.result in let cuts = c.args.cuts.now.days in
    subst IsStrictlyIncreasing (sym (c.add.ensures.days ∙ ap (λ cs. with_cut cs first) c.make_room.ensures.days)) (rising-with_cut cuts first c.requires)

pub returns-clause-entries : goal.returns-clause-entries
returns-clause-entries g c =
    let count = c.len-count.ensures in let ok = c.args.entries.now.ok in
    let size : length c.args.entries.now.items ≡ c.len-count.result = omega arith in
    c.keep_first_parts.ensures c.args.entries.now.items c.args.added.items c.in_ok-append.ensures.items size

pub returns-clause-cuts : goal.returns-clause-cuts
returns-clause-cuts g c =
    let q = c.args.period.now in let cuts = c.args.cuts.now.days in let first = c.number-first.result in let last = c.number.result in
    c.add-2.ensures.days ∙ ap (λ cs. with_cut cs (last + 1)) (c.add.ensures.days ∙ ap (λ cs. with_cut cs first) c.make_room.ensures.days)
    ∙ ap (λ a. with_cut (with_cut cuts a) (last + 1)) (c.number-first.ensures.value ∙ c.first.ensures.value)
    ∙ ap (λ b. with_cut (with_cut cuts q.first) (b + 1)) (c.number.ensures.value ∙ c.last.ensures.value)
