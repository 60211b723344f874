use Rattle.std.proofs.Common.{◌≡◌, ◌+◌, ◌-◌, ◌<◌, ◌≤◌, [], length, unwrap_or, vec_len, vec_capacity, ap, subst, sym, ◌∙◌, arith, rules}
use Rattle.std.specs.List.Sorted.{IsStrictlyIncreasing}
use Rattle.ssim_periods.specs.internal.Rows.{place}
use Rattle.ssim_periods.specs.internal.Splits.{has_cut, with_cut}
use Rattle.ssim_periods.proofs.CutLemmas.{rising-with_cut, place-with_cut-self, length-with_cut, length-with_row, has_cut-with_cut, room-for_period}
use Rattle.ssim_periods.proofs.RowLemmas.{place-le}
use Rattle.ssim_periods.proofs.range_rows.patches.put_period.Goals as goal

pub overflow_sub-from : goal.overflow_sub-from
overflow_sub-from g c =
    let e = c.place_of-from.ensures.place ∙ ap (λ cs. place cs c.args.first) (c.deref.ensures.value ∙ c.add_cut.ensures.cuts) in
    omega (arith, place-with_cut-self c.args.cuts.now.items c.args.first)

pub add_cut-requires-2 : goal.add_cut-requires-2
add_cut-requires-2 g c =
    let cuts = c.args.cuts.now.items in
    let n = length-with_cut cuts c.args.first in
    let rows_len = ap length c.add_cut.ensures.rows ∙ length-with_row cuts c.args.first (unwrap_or c.args.head []) c.args.rows.now.items c.requires.row_count in
    let cuts_len = ap length c.add_cut.ensures.cuts in
    let a = c.args.rows.now.ok in let b = c.add_cut.new.rows.ok in let r = c.requires.room_for_rows in let k = c.add_cut.ensures.row_capacity in let q = c.requires.row_count in
    let a' = c.args.cuts.now.ok in let b' = c.add_cut.new.cuts.ok in let r' = c.requires.room_for_cuts in let k' = c.add_cut.ensures.cut_capacity in
    let room_for_cut : vec_len c.add_cut.new.cuts < vec_capacity c.add_cut.new.cuts = omega arith in
    let room_for_row : vec_len c.add_cut.new.rows < vec_capacity c.add_cut.new.rows = omega arith in (
      search rules,
      (
        subst IsStrictlyIncreasing (sym c.add_cut.ensures.cuts) (rising-with_cut cuts c.args.first c.requires.rising),
        (
          room_for_cut,
          (
            room_for_row,
            (
              rows_len ∙ sym cuts_len,
              c.requires.tail ∙ sym (has_cut-with_cut cuts c.args.first c.args.end c.requires.ordered) ∙ ap (λ cs. has_cut cs c.args.end) (sym c.add_cut.ensures.cuts),
            ),
          ),
        ),
      ),
    )

pub put_rows-requires : goal.put_rows-requires
put_rows-requires g c =
    let cuts = c.args.cuts.now.items in let first = c.args.first in let end = c.args.end in
    let at = c.place_of-from.ensures.place ∙ ap (λ cs. place cs first) (c.deref.ensures.value ∙ c.add_cut.ensures.cuts) in
    let room = room-for_period cuts first end c.requires.ordered in
    let one = place-with_cut-self cuts first in
    let within = place-le (with_cut (with_cut cuts first) end) end in
    let mid_rows = c.add_cut.new.rows.items in
    let mid : length mid_rows ≡ length c.add_cut.new.cuts.items = ap length c.add_cut.ensures.rows ∙ length-with_row cuts first (unwrap_or c.args.head []) c.args.rows.now.items c.requires.row_count ∙ sym (ap length c.add_cut.ensures.cuts) in
    let e = ap length c.add_cut-2.ensures.rows ∙ length-with_row c.add_cut.new.cuts.items end (unwrap_or c.args.tail []) mid_rows mid ∙ ap (λ cs. length (with_cut cs end)) c.add_cut.ensures.cuts in
    let b = c.add_cut-2.new.rows.ok in let q = c.requires.patch_count in
    let fits : c.place_of-from.result - 1 + vec_len c.args.patches ≤ vec_len c.add_cut-2.new.rows = omega arith in
    (search rules, (fits, c.requires.short))

pub place_of-from-requires : goal.place_of-from-requires
place_of-from-requires g c = subst IsStrictlyIncreasing (sym (c.deref.ensures.value ∙ c.add_cut.ensures.cuts)) (rising-with_cut c.args.cuts.now.items c.args.first c.requires.rising)
