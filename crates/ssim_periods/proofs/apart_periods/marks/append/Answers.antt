use Rattle.std.proofs.Common.{◌≡◌, [], ◌∷◌, length, slice_index_or, ap, ◌∙◌, arith}
use Rattle.ssim_periods.proofs.MarkLemmas.{values-appended}
use Rattle.ssim_periods.proofs.apart_periods.marks.append.Goals as goal

pub set_from-requires : goal.set_from-requires
set_from-requires c =
    let ordered = c.requires.ordered in let fits = c.requires.in_calendar in
    record { row_count = c.requires.valid.row_count; rising = c.requires.valid.rising; until = c.requires.until; in_calendar = omega arith }

pub set_from-requires-2 : goal.set_from-requires-2
set_from-requires-2 c =
    let valid = c.set_from.ensures.valid c.args.before.now c.requires.valid in let ordered = c.requires.ordered in let fits = c.requires.in_calendar in
    record { row_count = valid.row_count; rising = valid.rising; until = λ k d h. (let low = c.in_ok-set_from.ensures.until k d h in omega arith); in_calendar = omega arith }

pub returns-clause-values : goal.returns-clause-values
returns-clause-values c n =
    let before = c.args.before.now in let cuts = c.args.cuts.now.items in let rows = c.args.rows.now.items in
    let len = c.len.ensures in let ok = c.args.rows.now.ok in let count : c.len.result ≡ length rows = omega arith in
    values-appended before cuts c.set_from.new.cuts.items c.set_from-2.new.cuts.items rows c.set_from.new.rows.items c.set_from-2.new.rows.items c.args.first c.args.last c.args.mask.now
    c.row_at.result.now c.marked.result n c.requires.valid.row_count c.requires.until c.requires.ordered
    (c.row_at.ensures [] ∙ ap (λ rs. slice_index_or (before ∷ rs) c.len.result []) c.deref.ensures.value ∙ ap (λ k. slice_index_or (before ∷ rows) k []) count)
    c.marked.ensures (c.in_ok-set_from.ensures.row_on before n) (c.in_ok-set_from-2.ensures.row_on before n)
