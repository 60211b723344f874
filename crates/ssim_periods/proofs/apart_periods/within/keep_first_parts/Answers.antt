-- An entry that meets the period keeps its first part; another one stays as it is.
use Rattle.std.proofs.Common.{◌≡◌, ◌+◌, ◌-◌, sym, ◌∙◌, arith}
use Rattle.ssim_periods.proofs.PartsLemmas.{kept-met}
use Rattle.ssim_periods.proofs.apart_periods.within.keep_first_parts.Goals as goal

pub loop-place-preserved-then-meets : goal.loop-place-preserved-then-meets
loop-place-preserved-then-meets g c =
    let i = c.loop-place.place in let inv = c.loop-place.invariant in let test = c.loop-place-test.true in let range = inv.in_range in
    let next : i - 1 + 1 ≡ i = omega arith in
    record {
      in_range = omega arith;
      within = c.keep_first_part.ensures.len;
      parts = λ first added is size.
          kept-met c.args.period.now c.loop-place.entries.items c.keep_first_part.new.entries.items first added i (i - 1) c.index.result.now next (omega arith) c.index.ensures (sym c.meets.ensures.value ∙ c.if-meets.true) c.keep_first_part.ensures.items (inv.parts first added is size);
    }
