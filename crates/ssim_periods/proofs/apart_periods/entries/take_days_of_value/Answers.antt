-- An entry with the value adds its days to the others and becomes done. An entry that is done, or
-- has another value, adds none.
use Rattle.std.proofs.Common.{◌≡◌, ◌+◌, ◌-◌, ◌<◌, ◌||◌, true, false, [], ◌∷◌, ◌++◌, length, drop, slice_index_or, ap, sym, ◌∙◌, arith}
use Rattle.std.proofs.Math.ListN.{length-set}
use Rattle.ssim_periods.specs.internal.Apart.{given_on, is_held}
use Rattle.ssim_periods.proofs.DayLemmas.{get-index}
use Rattle.ssim_periods.proofs.DoneLemmas.{marked-none, marked-kept, marked-set}
use Rattle.ssim_periods.proofs.GatherLemmas.{drop-all}
use Rattle.ssim_periods.proofs.JoinLemmas.{held-same, held-other}
use Rattle.ssim_periods.proofs.ListPieces.{rest-next}
use Rattle.ssim_periods.proofs.PieceLaw.{alike-self}
use Rattle.ssim_periods.proofs.RowLemmas.{index-default}
use Rattle.ssim_periods.proofs.apart_periods.entries.take_days_of_value.Goals as goal

pub loop-place-init : goal.loop-place-init
loop-place-init g c =
    let alike = g.V.Value.alike in let xs = c.args.earlier.now in let entry = c.args.entry.now in let v = entry.1 in
    record {
      within = omega arith;
      size = omega arith;
      days = λ n. held-same alike entry [] v n (is_held c.clear.new.self.items n) (is_held c.join.new.periods.items n) (alike-self alike g.met.V.Value.exact v) (ap (λ ps. is_held ps n) c.clear.ensures.items) (c.in_ok-join.ensures n)
          ∙ ap (λ ys. given_on alike (ys ++ entry ∷ []) v n) (sym (drop-all xs (length xs) (omega arith)));
      done = marked-none alike v xs c.args.done.now.items;
    }

pub loop-place-preserved-then-index : goal.loop-place-preserved-then-index
loop-place-preserved-then-index g c =
    let alike = g.V.Value.alike in let xs = c.args.earlier.now in let entry = c.args.entry.now in let v = entry.1 in
    let old = c.args.done.now.items in let now = c.loop-place.done.items in let i = c.loop-place.place in let j = i - 1 in
    let inv = c.loop-place.invariant in let test = c.loop-place-test.true in let within = inv.within in let fits = c.requires.size in let size = inv.size in
    let up : j + 1 ≡ i = omega arith in let lt : j < length xs = omega arith in let room : j < length now = omega arith in
    let x = slice_index_or xs j entry in
    let is : x ≡ slice_index_or xs j x = index-default xs j entry x lt in
    let on : slice_index_or now j false ≡ true = index-default now j false c.index.result.now room ∙ sym c.index.ensures ∙ c.if-index.true in
    let was = sym (inv.done.kept j (omega arith)) ∙ on in
    let other : alike v x.1 ≡ false = c.requires.others j x (get-index xs j entry lt) was in
    record {
      within = omega arith;
      size = inv.size;
      days = λ n. inv.days n ∙ held-other alike x (drop i xs ++ entry ∷ []) v n other ∙ sym (ap (λ ys. given_on alike ys v n) (rest-next xs i j x (entry ∷ []) up lt is));
      done = marked-kept alike v xs old now i j x up is inv.done (on ∙ sym (ap (λ b. b || alike v x.1) was));
    }

pub loop-place-preserved-then-same : goal.loop-place-preserved-then-same
loop-place-preserved-then-same g c =
    let alike = g.V.Value.alike in let xs = c.args.earlier.now in let entry = c.args.entry.now in let v = entry.1 in
    let old = c.args.done.now.items in let now = c.loop-place.done.items in let i = c.loop-place.place in let j = i - 1 in
    let inv = c.loop-place.invariant in let test = c.loop-place-test.true in let within = inv.within in let fits = c.requires.size in let size = inv.size in
    let up : j + 1 ≡ i = omega arith in let lt : j < length xs = omega arith in let room : j < length now = omega arith in
    let x = c.index-earlier-place.result in let is = c.index-earlier-place.is in
    let same : alike v x.1 ≡ true = sym c.same.ensures ∙ c.if-same.true in
    record {
      within = omega arith;
      size = simp length-set inv.size;
      days = λ n. held-same alike x (drop i xs ++ entry ∷ []) v n (is_held c.loop-place.periods.items n) (is_held c.join-then-same.new.periods.items n) same (inv.days n) (c.in_ok-join-2.ensures n)
          ∙ sym (ap (λ ys. given_on alike ys v n) (rest-next xs i j x (entry ∷ []) up lt is));
      done = marked-set alike v xs old now i j x up room is inv.done same;
    }

pub loop-place-preserved : goal.loop-place-preserved
loop-place-preserved g c =
    let alike = g.V.Value.alike in let xs = c.args.earlier.now in let entry = c.args.entry.now in let v = entry.1 in
    let old = c.args.done.now.items in let now = c.loop-place.done.items in let i = c.loop-place.place in let j = i - 1 in
    let inv = c.loop-place.invariant in let test = c.loop-place-test.true in let within = inv.within in let fits = c.requires.size in let size = inv.size in
    let up : j + 1 ≡ i = omega arith in let lt : j < length xs = omega arith in let room : j < length now = omega arith in
    let x = c.index-earlier-place.result in let is = c.index-earlier-place.is in
    let other : alike v x.1 ≡ false = sym c.same.ensures ∙ c.if-same.false in
    let off : slice_index_or now j false ≡ false = index-default now j false c.index.result.now room ∙ sym c.index.ensures ∙ c.if-index.false in
    let was = sym (inv.done.kept j (omega arith)) ∙ off in
    record {
      within = omega arith;
      size = inv.size;
      days = λ n. inv.days n ∙ held-other alike x (drop i xs ++ entry ∷ []) v n other ∙ sym (ap (λ ys. given_on alike ys v n) (rest-next xs i j x (entry ∷ []) up lt is));
      done = marked-kept alike v xs old now i j x up is inv.done (off ∙ sym (ap (λ b. b || alike v x.1) was ∙ other));
    }
