use Rattle.std.proofs.Common.{length, ◌&&◌, nat_lt, ◌≡◌, ℕ, List, slice_index_or, Option, Some, None, Bool, true, false, if◌then◌else◌, refl, ap, sym, ◌∙◌, arith, subst, IfSome}
use Rattle.ssim_periods.specs.internal.Count.{with_days}
use Rattle.ssim_values.specs.clauses.Weekdays.{below}
use Rattle.ssim_periods.proofs.CountLemmas.{with_days-at, length-with_days}
use Rattle.ssim_periods.proofs.RowLemmas.{index-default}
use Rattle.ssim_periods.proofs.SplitLemmas.{patch_of-told, patch_of-done}
use Rattle.ssim_periods.proofs.range_rows.patches.new_row.Goals as goal
use Rattle.ssim_periods.proofs.range_rows.patches.new_row.Goals.{then-wanted+in_ok-value, else-wanted}

on_mask : {V : Type 0} (mask : List Bool) (w : ℕ) (after : V → V) (x : V) (new : Option V) → slice_index_or mask w false ≡ true → new ≡ Some (after x) → new ≡ (if slice_index_or mask w false then Some (after x) else None)
on_mask mask w after x new h e = e ∙ sym (ap (λ b. if b then Some (after x) else None) h)

off_mask : {V : Type 0} (mask : List Bool) (w : ℕ) (after : V → V) (x : V) (new : Option V) → slice_index_or mask w false ≡ false → new ≡ None → new ≡ (if slice_index_or mask w false then Some (after x) else None)
off_mask mask w after x new h e = e ∙ sym (ap (λ b. if b then Some (after x) else None) h)

wanted_is : (mask : List Bool) (w from to : ℕ) (wanted : Bool) → wanted ≡ (slice_index_or mask w false && nat_lt (below w from) (below w to)) → slice_index_or (with_days 0 mask from to) w false ≡ wanted
wanted_is mask w from to wanted e = with_days-at 0 mask from to w ∙ ap (λ v. slice_index_or mask w false && nat_lt (below v from) (below v to)) (omega arith) ∙ sym e

follows : {T : Type 0} (o : Option T) (P Q : T → Type 0) → ((x : T) → P x → Q x) → IfSome o P → IfSome o Q
follows None P Q h p = tt
follows (Some x) P Q h p = h x p

pub loop-weekday-preserved : goal.loop-weekday-preserved
loop-weekday-preserved g c =
    let row = c.args.row.now in let w = c.loop-weekday.weekday in let i = c.loop-weekday.invariant in
    record {
      week = i.week;
      latest = elim c.if-wanted.branch [
        | then-wanted+in_ok-value k ↦ subst (λ l. IfSome l (λ made. made.1 ≡ g.C.Change.outcome c.args.change.now made.0.now)) (sym k.latest-is) (follows _ _ (λ made. made.1 ≡ g.C.Change.outcome c.args.change.now made.0.now) (λ made e. e.1 ∙ k.in_ok-value.ensures ∙ sym (ap (g.C.Change.outcome c.args.change.now) e.0)) k.made_for-latest.ensures)
        | else-wanted k ↦ subst (λ l. IfSome l (λ made. made.1 ≡ g.C.Change.outcome c.args.change.now made.0.now)) (sym k.latest-is) i.latest
      ];
      told = patch_of-told (with_days 0 c.args.mask.now c.args.from c.args.to) (g.C.Change.outcome c.args.change.now) row w g.V.Value.nothing _ _ c.if-wanted.new _
          (let l = c.told-mask in let n = length-with_days 0 c.args.mask.now c.args.from c.args.to in omega arith) (omega arith)
          refl c.in_ok-push.ensures.items
          (elim c.if-wanted.branch [
            | then-wanted+in_ok-value k ↦ on_mask (with_days 0 c.args.mask.now c.args.from c.args.to) w (g.C.Change.outcome c.args.change.now) _ _ (wanted_is c.args.mask.now w c.args.from c.args.to _ c.has_days-wanted.ensures ∙ k.if-wanted.true) (k.new-is ∙ ap Some (k.in_ok-value.ensures ∙ ap (g.C.Change.outcome c.args.change.now) (index-default row w _ _ (omega arith))))
            | else-wanted k ↦ off_mask (with_days 0 c.args.mask.now c.args.from c.args.to) w (g.C.Change.outcome c.args.change.now) (slice_index_or row w g.V.Value.nothing) _ (wanted_is c.args.mask.now w c.args.from c.args.to _ c.has_days-wanted.ensures ∙ k.if-wanted.false) k.new-is
          ]) i.told;
    }

pub returns : goal.returns
returns g c =
    let mask = with_days 0 c.args.mask.now c.args.from c.args.to in
    let n : length mask ≡ 7 = length-with_days 0 c.args.mask.now c.args.from c.args.to ∙ c.told-mask in
    let done : c.loop-weekday.weekday ≡ 7 = omega arith in
    patch_of-done mask _ c.args.row.now _ _ done n c.loop-weekday.invariant.told
