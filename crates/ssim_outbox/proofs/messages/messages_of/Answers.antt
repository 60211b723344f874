-- Each message is the only one that can come next.
use Rattle.ssim_outbox.proofs.Sending.{all_sent, left_alone, less_room, one_more_sent, only_sent, past_last}
use Rattle.ssim_outbox.proofs.messages.messages_of.Goals as goal

pub returns-then-group-gt-LAST_GROUP-clause-err : goal.returns-then-group-gt-LAST_GROUP-clause-err
returns-then-group-gt-LAST_GROUP-clause-err c =
    let l = c.loop-first in
    past_last c.args.heading.now c.args.subs.now l.messages.items l.group l.left.now c.in-Some.first.now
    c.in-Some.later.now l.invariant.sent c.in-Some.ensures.cases.0 c.if-group-gt-LAST_GROUP.true

pub loop-first-preserved : goal.loop-first-preserved
loop-first-preserved c =
    let l = c.loop-first in
    let own = c.subs.result.now in
    record {
      alone = left_alone c.args.heading.now l.left.now own c.after-left.result.now l.invariant.alone c.after-left.ensures;
      sent = one_more_sent c.args.heading.now c.args.subs.now l.messages.items c.push.new.self.items l.group
          l.left.now c.after-left.result.now c.in-Some.first.now c.in-Some.later.now own c.in_ok-message.message
          l.invariant.sent c.in-Some.ensures.cases.0 c.in_ok-message.ensures c.in_ok-push.ensures.items
          c.subs.ensures.value c.after-left.ensures;
      room = less_room c.args.heading.now l.group l.left.now own c.after-left.result.now c.in-Some.first.now
          c.in-Some.later.now c.in_ok-message.message _ c.in_ok-message.ensures c.in-Some.ensures.cases.0
          c.subs.ensures.value l.invariant.room c.after-left.ensures;
    }

pub returns-clause-ok : goal.returns-clause-ok
returns-clause-ok c =
    let l = c.loop-first in
    all_sent c.args.heading.now c.args.subs.now l.messages.items l.group l.left.now l.invariant.sent c.in_default.ensures.cases

pub returns-clause-only : goal.returns-clause-only
returns-clause-only c =
    let l = c.loop-first in
    only_sent c.args.heading.now c.args.subs.now l.messages.items l.group l.left.now l.invariant.sent c.in_default.ensures.cases
