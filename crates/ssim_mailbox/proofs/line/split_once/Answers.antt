-- The bytes are divided at the first mark.
use Rattle.ssim_mailbox.proofs.Splitting.{split_here, not_split, none_more}
use Rattle.ssim_mailbox.proofs.line.split_once.Goals as goal

pub returns-then-byte-mark-clause-parts : goal.returns-then-byte-mark-clause-parts
returns-then-byte-mark-clause-parts c = split_here c.args.mark c.args.bytes.now c.loop-at.at c.loop-at-test.true c.loop-at.invariant c.if-byte-mark.true

pub loop-at-preserved : goal.loop-at-preserved
loop-at-preserved c = none_more c.args.mark c.args.bytes.now c.loop-at.at c.loop-at-test.true c.loop-at.invariant c.if-byte-mark.false

pub returns-clause-parts : goal.returns-clause-parts
returns-clause-parts c = not_split c.args.mark c.args.bytes.now c.loop-at.at c.loop-at-test.false c.loop-at.invariant
