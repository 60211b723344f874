-- The last of the cuts that are not after the day is the day, or no cut is.
use Rattle.std.proofs.Common.{true, ◌≡◌, ◌-◌, ◌&&◌, nat_lt, nat_eq, slice_index_or, ap, sym, ◌∙◌, arith}
use Rattle.std.proofs.lemmas.Bool.Decides.{nat_tests}
use Rattle.ssim_periods.proofs.CutLemmas.{has_cut-place}
use Rattle.ssim_periods.proofs.rows.is_last.Goals as goal

pub returns-then-count-eq0 : goal.returns-then-count-eq0
returns-then-count-eq0 c = let z = c.if-count-eq0.true in let e = has_cut-place c.args.cuts.now c.args.day c.args.count c.requires.rising c.requires.place in sym (e ∙ ap (λ p. nat_lt 0 p && nat_eq (slice_index_or c.args.cuts.now (p - 1) 0) c.args.day) z)

pub returns-else-count-eq0 : goal.returns-else-count-eq0
returns-else-count-eq0 c = let z = c.if-count-eq0.false in let e = has_cut-place c.args.cuts.now c.args.day c.args.count c.requires.rising c.requires.place in let yes : nat_lt 0 c.args.count ≡ true = grind (arith, nat_tests) in sym (e ∙ ap (λ b. b && nat_eq (slice_index_or c.args.cuts.now (c.args.count - 1) 0) c.args.day) yes)
