-- A block of fill is counted and passed over; any other result is that of the blocks after the
-- fill.
use Rattle.std.proofs.Common.{◌≡◌, ◌+◌, ◌∙◌, Ok, Err, Some, None, true, false, take, length, ap, sym, refl, arith, rules}
use Rattle.std.proofs.lemmas.List.{length-drop}
use Rattle.ssim_records.proofs.Framing.{one_more, came_none, came_twice, fetches_first, fetches_on, gives_other, none_skipped}
use Rattle.ssim_records.proofs.blocks.next_other.Goals as goal

pub loop-more-init : goal.loop-more-init
loop-more-init g c = record {
  came_fits = omega (arith, c.requires.came);
  not_less = omega arith;
  counted = omega (arith, c.requires.counted);
  skipped = none_skipped c.args.limit c.args.number.now c.args.came.now c.args.window.now (g.R.Source.state c.args.reader.now).left;
  fetched = fetches_first _ c.args.number.now c.args.window.now (g.R.Source.state c.args.reader.now).left;
  bytes = came_none (g.R.Source.state c.args.reader.now).left (g.R.Source.state c.args.reader.now).came c.args.came.now;
  no_failure = refl;
}

pub loop-more-preserved : goal.loop-more-preserved
loop-more-preserved g c =
    let e : c.next_block.result ≡ Ok true = search rules in
    let b = rw e at c.next_block.ensures.block in
    let long = c.next_block.ensures.long e in
    let less = ap length c.skip.ensures in
    let fault = rw e at c.next_block.ensures.fault in
    let fetched = rw e at c.next_block.ensures.fetched in
    record {
      came_fits = c.next_block.ensures.came;
      not_less = omega (arith, c.loop-more.invariant.not_less);
      counted = omega (arith, c.next_block.ensures.held, long, less, length-drop 200 c.next_block.new.window, c.loop-more.invariant.counted);
      skipped = rw c.skip.ensures (one_more _ _ _ _ _ _ _ _ _ _ _ _ (take 200 c.next_block.new.window) c.loop-more.invariant.skipped b (rw (← c.front.ensures) (sym c.is_fill.ensures ∙ c.if-not-is_fill.false)));
      fetched = rw c.skip.ensures (fetches_on _ _ (c.loop-more.number + 1) 0 1 _ _ _ _ _ _ c.loop-more.invariant.fetched fetched (omega arith));
      bytes = came_twice _ _ _ _ _ _ _ _ _ c.loop-more.invariant.bytes c.next_block.ensures.bytes;
      no_failure = fault ∙ c.loop-more.invariant.no_failure;
    }

pub returns-in_err-more-clause-block : goal.returns-in_err-more-clause-block
returns-in_err-more-clause-block g c =
    let e : c.next_block.result ≡ Err c.in_err-more.field-0.0 = search rules in
    let k : c.from_residual.result ≡ Err c.in_err-more.field-0.0 = search rules in
    let b = rw e at c.next_block.ensures.block in
    rw k (gives_other _ _ _ _ _ _ _ _ _ _ _ _ _ (Err c.in_err-more.field-0.0) c.loop-more.invariant.skipped b refl)

pub returns-then-not-more-clause-block : goal.returns-then-not-more-clause-block
returns-then-not-more-clause-block g c =
    let e : c.next_block.result ≡ Ok false = search rules in
    let b = rw e at c.next_block.ensures.block in
    gives_other _ _ _ _ _ _ _ _ _ _ _ _ _ (Ok None) c.loop-more.invariant.skipped b refl

pub returns-then-not-is_fill-clause-block : goal.returns-then-not-is_fill-clause-block
returns-then-not-is_fill-clause-block g c =
    let e : c.next_block.result ≡ Ok true = search rules in
    let b = rw e at c.next_block.ensures.block in
    gives_other _ _ _ _ _ _ _ _ _ _ _ _ _ (Ok (Some (take 200 c.next_block.new.window))) c.loop-more.invariant.skipped b (refl, rw (← c.front.ensures) (sym c.is_fill.ensures ∙ c.if-not-is_fill.true))

pub returns-then-not-is_fill-clause-counted : goal.returns-then-not-is_fill-clause-counted
returns-then-not-is_fill-clause-counted g c = omega (arith, c.next_block.ensures.held, c.loop-more.invariant.counted)

pub returns-then-not-is_fill-clause-bytes : goal.returns-then-not-is_fill-clause-bytes
returns-then-not-is_fill-clause-bytes g c = came_twice _ _ _ _ _ _ _ _ _ c.loop-more.invariant.bytes c.next_block.ensures.bytes

pub loop-more-smaller : goal.loop-more-smaller
loop-more-smaller g c =
    let e : c.next_block.result ≡ Ok true = search rules in
    omega (arith, c.next_block.ensures.held, c.next_block.ensures.came, c.next_block.ensures.long e, ap length c.skip.ensures, length-drop 200 c.next_block.new.window, c.loop-more.invariant.came_fits)

-- ---- what was fetched

pub returns-in_err-more-clause-fetched : goal.returns-in_err-more-clause-fetched
returns-in_err-more-clause-fetched g c =
    let e : c.next_block.result ≡ Err c.in_err-more.field-0.0 = search rules in
    let k : c.from_residual.result ≡ Err c.in_err-more.field-0.0 = search rules in
    let fetched = rw e at c.next_block.ensures.fetched in
    rw k (fetches_on _ _ c.loop-more.number 0 0 _ _ _ _ _ _ c.loop-more.invariant.fetched fetched (omega arith))

pub returns-then-not-more-clause-fetched : goal.returns-then-not-more-clause-fetched
returns-then-not-more-clause-fetched g c =
    let e : c.next_block.result ≡ Ok false = search rules in
    let fetched = rw e at c.next_block.ensures.fetched in
    fetches_on _ _ c.loop-more.number 0 0 _ _ _ _ _ _ c.loop-more.invariant.fetched fetched (omega arith)

pub returns-then-not-is_fill-clause-fetched : goal.returns-then-not-is_fill-clause-fetched
returns-then-not-is_fill-clause-fetched g c =
    let e : c.next_block.result ≡ Ok true = search rules in
    let fetched = rw e at c.next_block.ensures.fetched in
    fetches_on _ _ (c.loop-more.number + 1) 0 1 _ _ _ _ _ _ c.loop-more.invariant.fetched fetched (omega arith)
