-- Each element takes the place of the one before it, and the day the place of the last one.
use Rattle.std.proofs.Common.{◌≡◌, ◌+◌, ◌-◌, ◌<◌, ◌∷◌, ◌++◌, length, take, drop, slice_index_or, slice_set, length-drop, ap, sym, ◌∙◌, arith, add-one}
use Rattle.std.proofs.Math.ListN.{length-set}
use Rattle.std.proofs.lemmas.List.{drop_more}
use Rattle.ssim_periods.proofs.SpacedLemmas.{index-drop, drop-set, moved-more, moved-put}
use Rattle.ssim_periods.proofs.apart_periods.spaced_days.put_at.Goals as goal

pub loop-moved-preserved : goal.loop-moved-preserved
loop-moved-preserved c =
    let old = c.args.items.now.items in let items = c.loop-moved.items.items in
    let front = c.args.front in let start = front - 1 in let m = c.loop-moved.moved in
    let days = drop front old in let first = slice_index_or old start 0 in
    let positive = c.requires.front in let within = c.requires.within in let test = c.loop-moved-test.true in
    let next : start + 1 ≡ front = omega arith in
    let whole : drop start old ≡ first ∷ days = drop_more old start 0 (omega arith) ∙ ap (λ k. first ∷ drop k old) next in
    let now : drop start items ≡ take m days ++ drop m (first ∷ days) = c.loop-moved.invariant.moved ∙ ap (λ l. take m days ++ drop m l) whole in
    let v = c.index.result.now in
    let at : start + m + 1 ≡ start + (m + 1) = omega arith in
    let value : v ≡ slice_index_or (take m days ++ drop m (first ∷ days)) (m + 1) v = c.index.ensures ∙ ap (λ j. slice_index_or items j v) at ∙ index-drop items start (m + 1) v ∙ ap (λ l. slice_index_or l (m + 1) v) now in
    let lt : m < length days = omega (arith, length-drop front old) in
    record {
      size = simp length-set c.loop-moved.invariant.size;
      moved = drop-set items start m v ∙ ap (λ l. slice_set l m v) now ∙ moved-more days first v v m lt value
          ∙ ap (λ l. take (m + 1) days ++ l) (sym (ap (drop (m + 1)) whole ∙ ap (λ j. drop j (first ∷ days)) (add-one m)));
    }

pub returns-clause-days : goal.returns-clause-days
returns-clause-days c =
    let old = c.args.items.now.items in let items = c.loop-moved.items.items in
    let front = c.args.front in let start = front - 1 in let place = c.args.place in
    let days = drop front old in let first = slice_index_or old start 0 in
    let positive = c.requires.front in let within = c.requires.within in let test = c.loop-moved-test.false in
    let next : start + 1 ≡ front = omega arith in
    let done : c.loop-moved.moved ≡ place = omega arith in
    let whole : drop start old ≡ first ∷ days = drop_more old start 0 (omega arith) ∙ ap (λ k. first ∷ drop k old) next in
    let now = c.loop-moved.invariant.moved ∙ ap (λ l. take c.loop-moved.moved days ++ drop c.loop-moved.moved l) whole ∙ ap (λ m. take m days ++ drop m (first ∷ days)) done in
    drop-set items start place c.args.day ∙ ap (λ l. slice_set l place c.args.day) now ∙ moved-put days first c.args.day place (omega (arith, length-drop front old))
