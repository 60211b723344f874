-- The letter of one day more.
use Rattle.std.proofs.Common.{◌≡◌, ◌∙◌, ◌++◌, ◌∷◌, [], ℕ, List, Some, map, slice_get, slice_index_or, ap, sym, arith}
use Rattle.std.specs.List.{range_with_len}
use Rattle.std.proofs.lemmas.List.FromFn.{map-range_with_len_more}
use Rattle.ssim_periods.proofs.DayLemmas.{day_count-is, index-get}
use Rattle.ssim_calendar.specs.Letters.{cell}
use Rattle.ssim_calendar.proofs.Ranges.{zero_plus}
use Rattle.ssim_calendar.proofs.letters.cells_of.Goals as goal

pub loop-number-preserved : goal.loop-number-preserved
loop-number-preserved g c =
    let days = c.args.days.now.days in let n = c.loop-number.number in let v = c.at.result.now in
    let nothing = g.V.Value.nothing in
    let of = cell g.V.Value.alike nothing c.args.values.now in
    let f = λ (k : ℕ). of (slice_index_or days k nothing) in
    let at : slice_get days n ≡ Some v = ap (λ (k : ℕ). slice_get days k) (sym c.day_at.ensures) ∙ c.at.ensures in
    c.in_ok-push.ensures.items
    ∙ ap (λ (b : ℕ). c.loop-number.cells.items ++ b ∷ []) (c.cell_of.ensures ∙ ap of (sym (index-get days n v nothing at)))
    ∙ ap (λ (cs : List ℕ). cs ++ f n ∷ []) c.loop-number.invariant
    ∙ sym (map-range_with_len_more f 0 n n (zero_plus n))

pub returns : goal.returns
returns g c =
    let days = c.args.days.now.days in let nothing = g.V.Value.nothing in
    let of = cell g.V.Value.alike nothing c.args.values.now in
    let test = c.loop-number-test.false in let end = c.loop-number.auto.number-end in
    let whole : c.loop-number.number ≡ 36525 = omega arith in
    c.loop-number.invariant ∙ ap (λ (k : ℕ). map (λ (m : ℕ). of (slice_index_or days m nothing)) (range_with_len 0 k)) (whole ∙ sym day_count-is)
