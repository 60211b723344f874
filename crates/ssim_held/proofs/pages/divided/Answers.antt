-- A full page is divided into its halves.
use Rattle.std.proofs.Common.{arith}
use Rattle.ssim_held.proofs.OnPages.{at_first, at_later, both_filled, is_long, on_first, on_later, same_messages}
use Rattle.ssim_held.proofs.pages.divided.Goals as goal

pub divide-requires : goal.divide-requires
divide-requires c =
    let (p, is, at_le) = c.requires.on in
    record { full = (p, is, is_long c.args.pages.now.items c.args.place.page p c.index.result.now c.len.result is c.index.ensures c.len.ensures c.if-len-lt-FULL.false) }

pub returns-then-place-clause-all : goal.returns-then-place-clause-all
returns-then-place-clause-all c =
    let ps = c.args.pages.now.items in
    let k = c.args.place.page in
    let (p, is, at_le) = c.requires.on in
    let full = is_long ps k p c.index.result.now c.len.result is c.index.ensures c.len.ensures c.if-len-lt-FULL.false in
    same_messages ps c.divide.new.pages.items k p 256 is (omega (arith, full)) (c.in_ok-divide.ensures.ok p is)

pub returns-then-place-clause-filled : goal.returns-then-place-clause-filled
returns-then-place-clause-filled c =
    let ps = c.args.pages.now.items in
    let k = c.args.place.page in
    let (p, is, at_le) = c.requires.on in
    let full = is_long ps k p c.index.result.now c.len.result is c.index.ensures c.len.ensures c.if-len-lt-FULL.false in
    both_filled ps c.divide.new.pages.items k p 256 is (omega (arith, full)) (c.in_ok-divide.ensures.ok p is) (omega arith)

pub returns-then-place-clause-on : goal.returns-then-place-clause-on
returns-then-place-clause-on c =
    let ps = c.args.pages.now.items in
    let k = c.args.place.page in
    let (p, is, at_le) = c.requires.on in
    let full = is_long ps k p c.index.result.now c.len.result is c.index.ensures c.len.ensures c.if-len-lt-FULL.false in
    on_first ps c.divide.new.pages.items k p 256 is (omega (arith, full)) (c.in_ok-divide.ensures.ok p is) c.args.place.at c.if-place.true

pub returns-then-place-clause-position : goal.returns-then-place-clause-position
returns-then-place-clause-position c =
    let ps = c.args.pages.now.items in
    let k = c.args.place.page in
    let (p, is, at_le) = c.requires.on in
    let full = is_long ps k p c.index.result.now c.len.result is c.index.ensures c.len.ensures c.if-len-lt-FULL.false in
    at_first ps c.divide.new.pages.items k p 256 is (omega (arith, full)) (c.in_ok-divide.ensures.ok p is) c.args.place.at

pub returns-else-place-clause-all : goal.returns-else-place-clause-all
returns-else-place-clause-all c =
    let ps = c.args.pages.now.items in
    let k = c.args.place.page in
    let (p, is, at_le) = c.requires.on in
    let full = is_long ps k p c.index.result.now c.len.result is c.index.ensures c.len.ensures c.if-len-lt-FULL.false in
    same_messages ps c.divide.new.pages.items k p 256 is (omega (arith, full)) (c.in_ok-divide.ensures.ok p is)

pub returns-else-place-clause-filled : goal.returns-else-place-clause-filled
returns-else-place-clause-filled c =
    let ps = c.args.pages.now.items in
    let k = c.args.place.page in
    let (p, is, at_le) = c.requires.on in
    let full = is_long ps k p c.index.result.now c.len.result is c.index.ensures c.len.ensures c.if-len-lt-FULL.false in
    both_filled ps c.divide.new.pages.items k p 256 is (omega (arith, full)) (c.in_ok-divide.ensures.ok p is) (omega arith)

pub returns-else-place-clause-on : goal.returns-else-place-clause-on
returns-else-place-clause-on c =
    let ps = c.args.pages.now.items in
    let k = c.args.place.page in
    let (p, is, at_le) = c.requires.on in
    let full = is_long ps k p c.index.result.now c.len.result is c.index.ensures c.len.ensures c.if-len-lt-FULL.false in
    on_later ps c.divide.new.pages.items k p 256 is (omega (arith, full)) (c.in_ok-divide.ensures.ok p is) c.args.place.at at_le

pub returns-else-place-clause-position : goal.returns-else-place-clause-position
returns-else-place-clause-position c =
    let ps = c.args.pages.now.items in
    let k = c.args.place.page in
    let (p, is, at_le) = c.requires.on in
    let full = is_long ps k p c.index.result.now c.len.result is c.index.ensures c.len.ensures c.if-len-lt-FULL.false in
    at_later ps c.divide.new.pages.items k p 256 is (omega (arith, full)) (c.in_ok-divide.ensures.ok p is) c.args.place.at c.if-place.false
