-- No bit of the days of the range is set.
use Prim.Native.Nat.{◌^◌}
use Rattle.std.proofs.Common.{◌≡◌, ◌-◌, ◌*◌, ◌%◌, ℕ, ap, sym, ◌∙◌, arith}
use Rattle.std.specs.Prelude.{bit_and}
use Rattle.std.proofs.lemmas.Bool.Decides.{nat_tests}
use Rattle.std.proofs.lemmas.Nat.{one_shl}
use Rattle.ssim_periods.proofs.WeekLemmas.{window-none}
use Rattle.ssim_periods.proofs.cover.union.have_no_day.Goals as goal

pub returns : goal.returns
returns c = λ t n from to.
    let k = c.args.to - c.args.from in let x = c.from_day.result in
    let late = c.if-to-from.false in let short = c.if-count-ge7.false in
    let all : bit_and x (1 * 2 ^ k % 4294967296 - 1) ≡ 0 = grind (arith, nat_tests, t) in
    let ones : bit_and x (2 ^ k - 1) ≡ 0 = ap (λ (y : ℕ). bit_and x (y - 1)) (sym (one_shl k 32 (omega arith))) ∙ all in
    window-none c.args.days.days x c.args.from c.args.to k (record { at = c.from_day.ensures.bits }) (omega arith) (omega arith) ones n from to
