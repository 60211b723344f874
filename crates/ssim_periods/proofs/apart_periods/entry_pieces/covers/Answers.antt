-- An entry that is done is passed over. Another one gives the cover of the days of its value, and
-- the earlier entries with this value become done.
use Rattle.std.proofs.Common.{◌≡◌, ◌+◌, ◌-◌, ◌<◌, true, false, [], length, drop, slice_index_or, ap, subst, sym, ◌∙◌, arith}
use Rattle.std.specs.List.{flat_map}
use Rattle.ssim_values.specs.Period.{DayRange}
use Rattle.ssim_periods.specs.internal.Apart.{given_cover, last_values}
use Rattle.ssim_periods.proofs.DoneLemmas.{has_later, done-at, done-kept, done-marked, done-others}
use Rattle.ssim_periods.proofs.ListPieces.{covers-more, values-later}
use Rattle.ssim_periods.proofs.RowLemmas.{index-default}
use Rattle.ssim_periods.proofs.apart_periods.entry_pieces.covers.Goals as goal

pub loop-place-preserved-then-index : goal.loop-place-preserved-then-index
loop-place-preserved-then-index g c =
    let alike = g.V.Value.alike in let xs = c.args.entries.now in let done = c.loop-place.done.items in
    let i = c.loop-place.place in let j = i - 1 in
    let inv = c.loop-place.invariant in let test = c.loop-place-test.true in let within = inv.within in let size = inv.size in
    let up : j + 1 ≡ i = omega arith in let lt : j < length xs = omega arith in let room : j < length done = omega arith in
    let any : DayRange × g.row.V.Denot = (record { first = 0; last = 0; days = [] }, g.V.Value.nothing) in
    let x = slice_index_or xs j any in
    let is : x ≡ slice_index_or xs j x = index-default xs j any x lt in
    let some = done-at alike xs done i j x c.index.result.now true up lt is inv.done room c.index.ensures c.if-index.true in
    let f = given_cover alike xs in
    record {
      within = omega arith;
      size = inv.size;
      done = done-kept alike g.met.V.Value.exact xs done i j x up lt is inv.done some;
      pieces = inv.pieces ∙ ap (λ k. flat_map f (last_values alike (drop k xs))) (sym up) ∙ sym (ap (flat_map f) (values-later alike xs j x lt is (ap (λ k. has_later alike xs k x.1) up ∙ some)));
    }

pub push_value-requires-clause-own : goal.push_value-requires-clause-own
push_value-requires-clause-own g c =
    let xs = c.args.entries.now in let x = c.index-entries-place.result in
    let inv = c.loop-place.invariant in let test = c.loop-place-test.true in let within = inv.within in
    subst (λ (entry : DayRange × g.row.V.Denot). entry.0.last < 36525) (sym c.index-entries-place.is) (c.requires (c.loop-place.place - 1) x (omega arith))

pub push_value-requires-clause-others : goal.push_value-requires-clause-others
push_value-requires-clause-others g c k y at on =
    let alike = g.V.Value.alike in let xs = c.args.entries.now in let done = c.loop-place.done.items in
    let i = c.loop-place.place in let j = i - 1 in let x = c.index-entries-place.result in let is = c.index-entries-place.is in
    let inv = c.loop-place.invariant in let test = c.loop-place-test.true in let within = inv.within in let size = inv.size in
    let up : j + 1 ≡ i = omega arith in let lt : j < length xs = omega arith in let room : j < length done = omega arith in
    let none = done-at alike xs done i j x c.index.result.now false up lt is inv.done room c.index.ensures c.if-index.false in
    done-others alike g.met.V.Value.exact xs done i j k x y up inv.done none at on

pub loop-place-preserved : goal.loop-place-preserved
loop-place-preserved g c =
    let alike = g.V.Value.alike in let xs = c.args.entries.now in let done = c.loop-place.done.items in
    let i = c.loop-place.place in let j = i - 1 in let x = c.index-entries-place.result in let is = c.index-entries-place.is in
    let inv = c.loop-place.invariant in let test = c.loop-place-test.true in let within = inv.within in let size = inv.size in
    let up : j + 1 ≡ i = omega arith in let lt : j < length xs = omega arith in let room : j < length done = omega arith in
    let none = done-at alike xs done i j x c.index.result.now false up lt is inv.done room c.index.ensures c.if-index.false in
    let f = given_cover alike xs in
    record {
      within = omega arith;
      size = c.in_ok-push_value.ensures.size ∙ inv.size;
      done = done-marked alike g.met.V.Value.exact xs done c.push_value.new.done.items i j x up lt is inv.done c.in_ok-push_value.ensures.done;
      pieces = covers-more alike xs j x c.loop-place.pieces.items c.push_value.new.pieces.items lt is (ap (λ k. has_later alike xs k x.1) up ∙ none) c.in_ok-push_value.ensures.pieces
          (inv.pieces ∙ ap (λ k. flat_map f (last_values alike (drop k xs))) (sym up));
    }
