-- The columns, one after another.
use Rattle.std.proofs.Common.{◌++◌}
use Rattle.ssim_base.proofs.SinkLemmas.{if_ok}
use Rattle.ssim_listing.specs.LegText.{shown}
use Rattle.ssim_listing.proofs.Joining.{joined}
use Rattle.ssim_listing.proofs.leg_text.push_columns.Goals as goal

pub returns : goal.returns
returns c =
    let d = c.args.leg.now in
    let old = c.args.lines.now.items in
    let t1 = shown 37 39 d in
    let t2 = t1 ++ shown 40 43 d in
    let e2 = joined old t1 (shown 40 43 d) c.in_ok-push_field.ensures c.in_ok-push_field-2.ensures in
    let t3 = t2 ++ shown 44 47 d in
    let e3 = joined old t2 (shown 44 47 d) e2 c.in_ok-push_field-3.ensures in
    let t4 = t3 ++ shown 48 52 d in
    let e4 = joined old t3 (shown 48 52 d) e3 c.in_ok-push_field-4.ensures in
    let t5 = t4 ++ shown 55 57 d in
    let e5 = joined old t4 (shown 55 57 d) e4 c.in_ok-push_field-5.ensures in
    let t6 = t5 ++ shown 58 61 d in
    let e6 = joined old t5 (shown 58 61 d) e5 c.in_ok-push_field-6.ensures in
    let t7 = t6 ++ shown 62 65 d in
    let e7 = joined old t6 (shown 62 65 d) e6 c.in_ok-push_field-7.ensures in
    let t8 = t7 ++ shown 66 70 d in
    let e8 = joined old t7 (shown 66 70 d) e7 c.in_ok-push_field-8.ensures in
    let t9 = t8 ++ shown 193 194 d in
    let e9 = joined old t8 (shown 193 194 d) e8 c.in_ok-push_field-9.ensures in
    let t10 = t9 ++ shown 14 14 d in
    let e10 = joined old t9 (shown 14 14 d) e9 c.in_ok-push_field-10.ensures in
    if_ok c.push_field-11.result (joined old t10 (shown 73 75 d) e10) c.push_field-11.ensures
