-- The text is full at the first sub-message that it cannot take, or after the last one.
use Rattle.std.proofs.Common.{◌≡◌, ◌≤◌, ◌∷◌, ap, arith, length, subst}
use Rattle.ssim_text.specs.Canonical.{written}
use Rattle.ssim_text.specs.Grammar.{Divider, sub_parts}
use Rattle.ssim_outbox.specs.internal.Texts.{IsFullAt}
use Rattle.ssim_outbox.proofs.FullTexts.{bytes_at, first_short, many, more_bytes, none_left}
use Rattle.ssim_outbox.proofs.FullTexts.{too_long}
use Rattle.ssim_outbox.proofs.messages.later_count.Goals as goal
use Rattle.ssim_outbox.proofs.messages.later_count.Goals.{then-at-eq-MOST_SUBS-via-then-at-eq-MOST_SUBS}
use Rattle.ssim_outbox.proofs.messages.later_count.Goals.{then-at-eq-MOST_SUBS-via-else-at-eq-MOST_SUBS+then-bytes-len-gt-MOST_BYTES}

pub loop-at-init : goal.loop-at-init
loop-at-init c =
    let short = first_short c.args.heading.now c.args.group c.args.first.now c.requires in
    record {
      bytes_are = omega (arith, c.len-bytes.ensures, ap length c.in_ok-text.ensures);
      short = omega (arith, short, c.len-bytes.ensures, ap length c.in_ok-text.ensures);
      few = omega arith;
    }

pub returns-then-at-eq-MOST_SUBS : goal.returns-then-at-eq-MOST_SUBS
returns-then-at-eq-MOST_SUBS c =
    let h = c.args.heading.now in
    let l = c.loop-at in
    let lt = c.loop-at-test.true in
    let sub = c.index-later-at.result in
    let is = c.index-later-at.is in
    let within : l.at ≤ length c.args.later.now = omega (arith, lt) in
    let few = l.invariant.few in
    let bytes = l.invariant.bytes_are in
    let most = l.invariant.short in
    let short : bytes_at h c.args.group c.args.first.now c.args.later.now l.at ≤ 65536 =
    omega (arith, bytes, most) in
    let lines : length c.in_ok-lines.lines.items ≡ length (written (Divider ∷ sub_parts sub)) =
    ap length c.in_ok-lines.ensures in
    elim c.then-at-eq-MOST_SUBS.branch [
      | then-at-eq-MOST_SUBS-via-then-at-eq-MOST_SUBS w ↦ many h c.args.group c.args.first.now
          c.args.later.now l.at few within short sub lt is (omega (arith, w.if-at-eq-MOST_SUBS.true))
      | then-at-eq-MOST_SUBS-via-else-at-eq-MOST_SUBS+then-bytes-len-gt-MOST_BYTES w ↦ too_long h
          c.args.group c.args.first.now c.args.later.now l.at few within short sub lt is
          (omega (arith, w.if-bytes-len-gt-MOST_BYTES.true, w.len.ensures, bytes, lines))
    ]

pub loop-at-preserved : goal.loop-at-preserved
loop-at-preserved c =
    let i = c.loop-at.invariant in
    let few = i.few in
    let bytes = i.bytes_are in
    let sub = c.index-later-at.result in
    let more = more_bytes c.args.heading.now c.args.group c.args.first.now c.args.later.now c.loop-at.at
    sub c.loop-at-test.true c.index-later-at.is in
    let lines : length c.in_ok-lines.lines.items ≡ length (written (Divider ∷ sub_parts sub)) =
    ap length c.in_ok-lines.ensures in
    record {
      bytes_are = omega (arith, bytes, more, lines, c.len-bytes-in-loop-at.ensures);
      short = omega (
        arith,
        c.len-bytes-in-loop-at.ensures,
        c.len.ensures,
        c.if-bytes-len-gt-MOST_BYTES.false,
      );
      few = omega (arith, few, c.if-at-eq-MOST_SUBS.false);
    }

pub returns : goal.returns
returns c =
    let l = c.loop-at in
    let i = l.invariant in
    let bytes = i.bytes_are in
    let most = i.short in
    let all : l.at ≡ length c.args.later.now = omega (arith, c.loop-at-test.false, l.auto.at-end) in
    subst (IsFullAt c.args.heading.now c.args.group c.args.first.now c.args.later.now) all
    (none_left c.args.heading.now c.args.group c.args.first.now c.args.later.now l.at i.few
    l.auto.at-end (omega (arith, bytes, most)) c.loop-at-test.false)
