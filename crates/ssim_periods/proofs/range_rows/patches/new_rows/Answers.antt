-- Each range that is passed adds the patch of its row, which has the new value of each of its days.
use Rattle.std.proofs.Common.{◌≡◌, ◌+◌, ◌-◌, ◌≤◌, false, if◌then◌else◌, List, [], ◌∷◌, ◌++◌, length, map, slice_index_or, vec_len, Option, Some, None, Vec, Global, ap, refl, sym, subst, ◌∙◌, arith, rules, inl, inr}
use Rattle.std.specs.List.{All}
use Rattle.ssim_values.specs.Calendar.{slot}
use Rattle.ssim_periods.specs.internal.Count.{with_days}
use Rattle.ssim_periods.specs.internal.Rows.{place, row_on, value_on}
use Rattle.ssim_periods.proofs.RowLemmas.{place-le, row_on-place, row_on-week, slot-lt}
use Rattle.ssim_periods.proofs.CutLemmas.{place-mono}
use Rattle.ssim_periods.proofs.SplitLemmas.{patch_of-at, patch_of-length, length-map-one, map-push, get_or-front, get_or-last, All-push}
use Rattle.ssim_periods.proofs.CountLemmas.{le_or_lt, length-with_days, longer, reaches}
use Rattle.ssim_periods.proofs.CountLemmas.{with_days-own}
use Rattle.ssim_periods.proofs.range_rows.patches.new_rows.Goals as goal

pub row_at-requires : goal.row_at-requires
row_at-requires g c =
    let at = c.loop-day.invariant.at c.loop-day-test.true in let le = place-le c.args.cuts.now c.loop-day.day in let n = c.requires.rows.row_count in
    (search rules, omega arith)

pub loop-day-smaller : goal.loop-day-smaller
loop-day-smaller g c =
    let i = c.loop-day.invariant in let e = c.range_end-next.ensures in
    let gt = longer c.args.cuts.now c.loop-day.day c.range_end-next.result _ c.loop-day.place
    (i.at c.loop-day-test.true) c.loop-day-test.true e.at_cut e.before_end in
    omega arith

values : {V : Type 0} → Vec (Option V) Global → List (Option V)
values = λ patch. patch.items

pub loop-day-preserved : goal.loop-day-preserved
unfolding values
loop-day-preserved g c =
    let i = c.loop-day.invariant in let e = c.range_end-next.ensures in let at = i.at c.loop-day-test.true in
    let cuts = c.args.cuts.now in let day = c.loop-day.day in let next = c.range_end-next.result in let rows = c.args.rows.now in let before = c.args.before.now in
    let first = c.args.first in let mask = c.args.mask.now in let after = g.C.Change.outcome c.args.change.now in let nothing = g.V.Value.nothing in
    let r = reaches cuts cuts cuts day next (c.args.last + 1) c.loop-day.place
    c.requires.rows.rising refl at refl c.loop-day-test.true e.before_end e.before_cut e.at_cut in
    let gt = r.long in let from = i.from in
    let items = c.loop-day.patches.items in let patch = c.in_ok-patch.patch in
    let more : c.push.new.self.items ≡ items ++ patch ∷ [] = c.in_ok-push.ensures.items in
    let longer_by : vec_len c.push.new.self ≡ vec_len c.loop-day.patches + 1 = c.in_ok-push.ensures.len in
    let old_ok = c.loop-day.patches.ok in let patch_ok = patch.ok in
    let many = length-map-one values items in
    let len = i.len in
    let narrow = with_days 0 mask day next in
    let narrow_len : length narrow ≡ 7 = length-with_days 0 mask day next ∙ c.told-mask in
    let fits : vec_len patch ≤ 7 = omega (arith, patch_of-length narrow after c.row_at.result.now, ap length c.in_ok-patch.ensures) in
    let row = c.row_at.result.now in
    let stays = r.stays in
    record {
      from = omega arith;
      to = e.before_end;
      at = r.next_at;
      passed = λ lt. ap (λ q. q + 1) (at ∙ sym (stays (next - 1) (omega arith) (omega arith)));
      len = omega arith;
      short = subst (All (λ patch. vec_len patch ≤ 7)) (sym more) (All-push (λ patch. vec_len patch ≤ 7) items patch i.short fits);
      patches = λ n l h.
          ap (λ ps. slice_index_or (slice_index_or (map values ps) (place cuts n - place cuts first) []) (slot n) None) more
          ∙ ap (λ ps. slice_index_or (slice_index_or ps (place cuts n - place cuts first) []) (slot n) None) (map-push values items patch)
          ∙ elim (le_or_lt day n) as (λ _. slice_index_or (slice_index_or (map values items ++ patch.items ∷ []) (place cuts n - place cuts first) []) (slot n) None ≡ (if slice_index_or mask (slot n) false then Some (after (value_on nothing before cuts rows n)) else None)) [
            | inr lt ↦
                let passed = i.passed (omega arith) in let mono = place-mono cuts n (day - 1) (omega arith) in let low = place-mono cuts first n l in
                ap (λ r. slice_index_or r (slot n) None) (get_or-front (map values items) patch.items (place cuts n - place cuts first) [] (omega arith)) ∙ i.patches n l lt
            | inl ge ↦
                let here = stays n ge h in
                let index : place cuts n - place cuts first ≡ length (map values items) = omega arith in
                let own : row_on before cuts rows n ≡ row = row_on-place before cuts rows n before c.requires.rows.row_count ∙ ap (λ p. slice_index_or (before ∷ rows) p before) (here ∙ sym at) ∙ sym (c.row_at.ensures before) in
                let week : length row ≡ 7 = sym (ap length own) ∙ row_on-week before cuts rows n c.requires.rows in
                ap (λ r. slice_index_or r (slot n) None) (ap (λ k. slice_index_or (map values items ++ patch.items ∷ []) k []) index ∙ get_or-last (map values items) patch.items [])
                ∙ ap (λ r. slice_index_or r (slot n) None) c.in_ok-patch.ensures
                ∙ patch_of-at narrow after row (slot n) nothing (rw week (slot-lt n))
                ∙ ap (λ b. if b then Some (after (slice_index_or row (slot n) nothing)) else None) (with_days-own mask day n next ge h)
                ∙ ap (λ r. if slice_index_or mask (slot n) false then Some (after (slice_index_or r (slot n) nothing)) else None) (sym own)
          ];
    }
