use Rattle.std.proofs.Common.{◌≡◌, [], ◌∷◌, ◌++◌, length, slice_set, ap, sym, ◌∙◌, arith}
use Rattle.std.proofs.Math.ListN.{length-set}
use Rattle.ssim_periods.specs.internal.Splits.{patched}
use Rattle.ssim_periods.proofs.SplitLemmas.{patched-last, patched-none, patched-nil, nil-from-length}
use Rattle.ssim_periods.proofs.range_rows.patches.put.Goals as goal

pub loop-new-preserved-in-Some-new : goal.loop-new-preserved-in-Some-new
loop-new-preserved-in-Some-new g c =
    let e = c.in-Some.ensures in let ok = c.pop.new.self.ok in let i = c.loop-new.invariant in
    let at : c.len.result ≡ length c.pop.new.self.items = omega arith in
    record {
      week = simp length-set i.week;
      short = omega arith;
      same = ap (λ k. patched (slice_set c.loop-new.row k c.in-Some-new.value) c.pop.new.self.items) at ∙ patched-last c.loop-new.row c.pop.new.self.items c.in-Some-new.value (omega arith) ∙ ap (λ n. patched c.loop-new.row (c.pop.new.self.items ++ n ∷ [])) (sym c.in-Some-new.is) ∙ ap (patched c.loop-new.row) (sym e.items) ∙ i.same;
    }

pub loop-new-preserved : goal.loop-new-preserved
loop-new-preserved g c =
    let e = c.in-Some.ensures in let i = c.loop-new.invariant in
    record {
      week = i.week;
      short = omega arith;
      same = patched-none c.loop-new.row c.pop.new.self.items ∙ ap (λ n. patched c.loop-new.row (c.pop.new.self.items ++ n ∷ [])) (sym c.in_default-new.is) ∙ ap (patched c.loop-new.row) (sym e.items) ∙ i.same;
    }

pub returns : goal.returns
returns g c =
    let e = c.in_default.ensures in let ok = c.loop-new.patch.ok in
    sym (patched-nil c.loop-new.row) ∙ ap (patched c.loop-new.row) (sym (nil-from-length c.loop-new.patch.items (omega arith))) ∙ c.loop-new.invariant.same
