use Rattle.std.proofs.Common.{◌+◌, ◌≤◌, List, vec_len, slice_set, map, Option, Vec, Global, ap, sym, ◌∙◌, arith}
use Rattle.ssim_periods.specs.internal.Splits.{patched_from}
use Rattle.ssim_periods.proofs.SplitLemmas.{patched_from-last, patched_from-nil, nil-from-length, length-map-one, map-push, All-front}
use Rattle.ssim_periods.proofs.range_rows.patches.put_rows.Goals as goal

values : {V : Type 0} → Vec (Option V) Global → List (Option V)
values = λ patch. patch.items

pub loop-patch-preserved : goal.loop-patch-preserved
unfolding values
loop-patch-preserved g c =
    let e = c.in-Some.ensures in let i = c.loop-patch.invariant in let rows = c.loop-patch.rows.items in
    let ok = c.pop.new.self.ok in let rok = c.loop-patch.rows.ok in
    let k = c.args.from + c.len.result in
    let many = length-map-one values c.pop.new.self.items in
    record {
      room = omega arith;
      rest = ap (λ r. patched_from c.args.from (map values c.pop.new.self.items) (slice_set rows k r)) c.put.ensures
          ∙ patched_from-last c.args.from (map values c.pop.new.self.items) c.in-Some.patch.items rows k c.index_mut-row.result.now (omega arith) (omega arith) c.index_mut-row.ensures.value
          ∙ ap (λ p. patched_from c.args.from p rows) (sym (map-push values c.pop.new.self.items c.in-Some.patch)) ∙ ap (λ p. patched_from c.args.from (map values p) rows) (sym e.items) ∙ i.rest;
      short = All-front (λ p. vec_len p ≤ 7) _ _ _ e.items i.short;
    }

pub returns : goal.returns
returns g c =
    let e = c.in_default.ensures in let ok = c.loop-patch.patches.ok in
    sym (patched_from-nil c.args.from c.loop-patch.rows.items)
    ∙ ap (λ p. patched_from c.args.from (map (λ patch. patch.items) p) c.loop-patch.rows.items) (sym (nil-from-length c.loop-patch.patches.items (omega arith)))
    ∙ c.loop-patch.invariant.rest
