-- The first number that is left is the next.
use Rattle.std.proofs.Common.{◌≡◌, ◌∙◌, ◌+◌, ◌-◌, ◌++◌, List, ℕ, suc, append_assoc, append-nil}
use Rattle.std.proofs.Common.{ap, sym, arith}
use Rattle.std.specs.List.{flat_map, range_with_len}
use Rattle.ssim_listing.proofs.rowed.put_range.Goals as goal

pub loop-number-preserved : goal.loop-number-preserved
loop-number-preserved g c =
    let text = g.T.RowedAt.text c.args.rowed.now in
    let n = c.loop-number.number in let end = c.args.end in
    let before = c.loop-number.rows in
    let left : end - n ≡ suc (end - (n + 1)) = omega arith in
    let later = flat_map text (range_with_len (n + 1) (end - (n + 1))) in
    ap (λ (bs : List ℕ). bs ++ later) c.in_ok-put_at.ensures
    ∙ append_assoc before (text n) later
    ∙ ap (λ (k : ℕ). before ++ flat_map text (range_with_len n k)) (sym left)
    ∙ c.loop-number.invariant

pub returns : goal.returns
returns g c =
    let text = g.T.RowedAt.text c.args.rowed.now in
    let n = c.loop-number.number in
    let before = c.loop-number.rows in
    let none : c.args.end - n ≡ 0 = omega arith in
    sym (append-nil before)
    ∙ ap (λ (k : ℕ). before ++ flat_map text (range_with_len n k)) (sym none)
    ∙ c.loop-number.invariant
