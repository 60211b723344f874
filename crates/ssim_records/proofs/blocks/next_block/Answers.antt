-- Each exit is a case of what is held once nothing more has to be fetched.
use Rattle.std.proofs.Common.{◌≡◌, ◌+◌, ◌∙◌, length, take, drop, Ok, arith, ap, sym, rules}
use Rattle.std.proofs.lemmas.List.{take-append-drop, length-drop}
use Rattle.ssim_records.proofs.Framing.{took, stays_on, came_failed, came_fetched, came_twice, never_ends, none_taken, none_trimmed, one_taken, faulted, all_held, ends_short}
use Rattle.ssim_columns.proofs.lemmas.Slices.{front_length}
use Rattle.ssim_records.proofs.blocks.next_block.Goals as goal

pub loop-limit-preserved : goal.loop-limit-preserved
loop-limit-preserved g c = record {
  came_fits = omega (arith, c.in-Ok.ensures.ok.0, c.loop-limit.invariant.came_fits);
  stays = stays_on c.args.after_block c.args.came.now c.loop-limit.came c.args.window.now c.loop-limit.window c.trim.new.self c.fetch.new.self _ _ _ c.in-Ok.n c.loop-limit.invariant.stays c.trim.ensures.value c.fetch.ensures.ahead c.in-Ok.ensures.ok.1;
  bytes = came_twice _ _ _ _ _ _ _ _ _ c.loop-limit.invariant.bytes (came_fetched c.trim.new.self c.fetch.new.self _ _ _ _ c.loop-limit.came c.in-Ok.n c.fetch.ensures.ahead c.in-Ok.ensures.ok.1 c.in-Ok.ensures.count);
  no_failure = c.in-Ok.ensures.failures ∙ c.loop-limit.invariant.no_failure;
  few = omega (arith, c.in-Ok.ensures.ok.1, c.loop-limit.invariant.few, c.trim.ensures.less);
}

pub returns-then-len-needed-clause-block : goal.returns-then-len-needed-clause-block
returns-then-len-needed-clause-block g c =
    took c.args.after_block c.args.limit c.args.came.now c.loop-limit.came c.args.window.now c.loop-limit.window c.trim.new.self (take 200 c.trim.new.self) (drop 200 c.trim.new.self) _ _ c.loop-limit.invariant.stays c.trim.ensures.value (omega arith) (sym (take-append-drop 200 c.trim.new.self)) (front_length c.trim.new.self (omega arith))
    (omega (arith, length-drop 200 c.trim.new.self, c.needed.ensures.within))

pub returns-then-came-limit-clause-block : goal.returns-then-came-limit-clause-block
returns-then-came-limit-clause-block g c =
    never_ends c.args.after_block c.args.limit c.args.came.now c.loop-limit.came c.args.window.now c.loop-limit.window c.trim.new.self _ _ c.loop-limit.invariant.stays c.trim.ensures.value (omega arith) (omega arith)

pub returns-in-Err-clause-block : goal.returns-in-Err-clause-block
returns-in-Err-clause-block g c =
    faulted c.args.after_block c.args.limit c.args.came.now c.loop-limit.came c.args.window.now c.loop-limit.window c.trim.new.self c.fetch.new.self _ _ _ c.loop-limit.invariant.stays c.trim.ensures.value c.fetch.ensures.ahead c.in-Err.ensures.err

pub returns-in-Ok-eq0-clause-block : goal.returns-in-Ok-eq0-clause-block
returns-in-Ok-eq0-clause-block g c =
    let zero : c.fetch.result ≡ Ok 0 = search rules in
    let kept : c.fetch.new.self ≡ c.trim.new.self = c.fetch.ensures.none zero in
    let all = all_held c.args.after_block c.args.limit c.args.came.now c.loop-limit.came c.args.window.now c.loop-limit.window c.trim.new.self c.fetch.new.self _ _ _ c.loop-limit.invariant.stays c.trim.ensures.value c.fetch.ensures.ahead (c.fetch.ensures.end zero) kept in
    ends_short c.args.after_block c.args.limit c.args.came.now c.loop-limit.came c.args.window.now c.fetch.new.self _ _ all (omega arith) (omega (arith, ap length kept, c.needed.ensures.inside)) (omega arith)

pub returns-in-Err-clause-bytes : goal.returns-in-Err-clause-bytes
returns-in-Err-clause-bytes g c =
    came_twice _ _ _ _ _ _ _ _ _ c.loop-limit.invariant.bytes (came_failed c.trim.new.self c.fetch.new.self _ _ _ _ c.loop-limit.came _ c.fetch.ensures.ahead c.in-Err.ensures.err c.in-Err.ensures.count)

-- ---- what was fetched

pub returns-then-len-needed-clause-fetched : goal.returns-then-len-needed-clause-fetched
returns-then-len-needed-clause-fetched g c =
    one_taken c.args.after_block c.args.came.now c.loop-limit.came c.args.window.now c.loop-limit.window c.trim.new.self (take 200 c.trim.new.self) (drop 200 c.trim.new.self) _ _ c.loop-limit.invariant.stays c.trim.ensures.value (sym (take-append-drop 200 c.trim.new.self)) (front_length c.trim.new.self (omega arith))

pub returns-then-came-limit-clause-fetched : goal.returns-then-came-limit-clause-fetched
returns-then-came-limit-clause-fetched g c =
    none_trimmed c.args.after_block c.args.came.now c.loop-limit.came c.args.window.now c.loop-limit.window c.trim.new.self _ _ c.loop-limit.invariant.stays c.trim.ensures.value

pub returns-in-Err-clause-fetched : goal.returns-in-Err-clause-fetched
returns-in-Err-clause-fetched g c =
    none_taken c.args.after_block c.args.came.now (c.loop-limit.came + 0) c.args.window.now c.fetch.new.self _ _
    (stays_on c.args.after_block c.args.came.now c.loop-limit.came c.args.window.now c.loop-limit.window c.trim.new.self c.fetch.new.self _ _ _ 0 c.loop-limit.invariant.stays c.trim.ensures.value c.fetch.ensures.ahead (omega (arith, c.in-Err.ensures.err)))

pub returns-then-len-eq0-clause-fetched : goal.returns-then-len-eq0-clause-fetched
returns-then-len-eq0-clause-fetched g c =
    let zero : c.fetch.result ≡ Ok 0 = search rules in
    none_taken c.args.after_block c.args.came.now (c.loop-limit.came + 0) c.args.window.now c.fetch.new.self _ _
    (stays_on c.args.after_block c.args.came.now c.loop-limit.came c.args.window.now c.loop-limit.window c.trim.new.self c.fetch.new.self _ _ _ 0 c.loop-limit.invariant.stays c.trim.ensures.value c.fetch.ensures.ahead (omega (arith, ap length (c.fetch.ensures.none zero))))

pub returns-in-Ok-eq0-clause-fetched : goal.returns-in-Ok-eq0-clause-fetched
returns-in-Ok-eq0-clause-fetched g c =
    let zero : c.fetch.result ≡ Ok 0 = search rules in
    none_taken c.args.after_block c.args.came.now (c.loop-limit.came + 0) c.args.window.now c.fetch.new.self _ _
    (stays_on c.args.after_block c.args.came.now c.loop-limit.came c.args.window.now c.loop-limit.window c.trim.new.self c.fetch.new.self _ _ _ 0 c.loop-limit.invariant.stays c.trim.ensures.value c.fetch.ensures.ahead (omega (arith, ap length (c.fetch.ensures.none zero))))
