-- The ends of the entry before are added.
use Rattle.std.proofs.Common.{◌≡◌, ◌+◌, ◌-◌, ◌<◌, ◌∷◌, length, drop, slice_index_or, ap, subst, sym, ◌∙◌, arith}
use Rattle.std.specs.List.Sorted.{IsStrictlyIncreasing}
use Rattle.std.proofs.lemmas.List.{drop_more}
use Rattle.ssim_periods.specs.internal.Apart.{AreCutsOf}
use Rattle.ssim_periods.specs.internal.Splits.{with_cut}
use Rattle.ssim_periods.proofs.CutLemmas.{rising-with_cut}
use Rattle.ssim_periods.proofs.EachLemmas.{cuts_of-more, no-cuts}
use Rattle.ssim_periods.proofs.GatherLemmas.{drop-all}
use Rattle.ssim_periods.proofs.apart_periods.first_entries.cuts_of.Goals as goal

pub loop-place-init : goal.loop-place-init
loop-place-init g c =
    let xs = c.args.entries.now in
    record {
      within = omega arith;
      cuts = no-cuts (drop (length xs) xs) c.in_ok-cuts.cuts.items (drop-all xs (length xs) (omega arith)) c.in_ok-cuts.ensures.items;
    }

pub add_cut-requires-in-loop-place : goal.add_cut-requires-in-loop-place
add_cut-requires-in-loop-place g c = subst IsStrictlyIncreasing (sym c.in_ok-add_cut.ensures) (rising-with_cut c.loop-place.cuts.items c.number-first.result c.loop-place.invariant.cuts.rising)

pub loop-place-preserved : goal.loop-place-preserved
loop-place-preserved g c =
    let xs = c.args.entries.now in let i = c.loop-place.place in
    let x = slice_index_or xs (i - 1) c.index-entries-place.result in
    let first = c.number-first.result in let last = c.number.result in
    let l = c.number.ensures.value in let l' = c.last.ensures.value in let bound = c.number.ensures.bound in let low = c.number-first.ensures.bound in
    let end : last + 1 ≡ x.0.last + 1 = omega arith in
    let test = c.loop-place-test.true in let within = c.loop-place.invariant.within in
    let next : i - 1 + 1 ≡ i = omega arith in let lt : i - 1 < length xs = omega arith in
    let rest : drop (i - 1) xs ≡ x ∷ drop i xs = drop_more xs (i - 1) c.index-entries-place.result lt ∙ ap (λ k. x ∷ drop k xs) next in
    let cuts = c.add_cut-in-loop-place.new.cuts.items in
    record {
      within = omega arith;
      cuts = subst (λ ys. AreCutsOf ys cuts) (sym rest)
          (cuts_of-more x (drop i xs) c.loop-place.cuts.items cuts first (last + 1) (c.number-first.ensures.value ∙ c.first.ensures.value) end (omega arith) (omega arith)
          (c.in_ok-add_cut-2.ensures ∙ ap (λ cs. with_cut cs (last + 1)) c.in_ok-add_cut.ensures) c.loop-place.invariant.cuts);
    }

pub returns : goal.returns
returns g c =
    let done = c.loop-place-test.false in let zero : c.loop-place.place ≡ 0 = omega arith in
    subst (λ i. AreCutsOf (drop i c.args.entries.now) c.loop-place.cuts.items) zero c.loop-place.invariant.cuts
