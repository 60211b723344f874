-- The tables, one after another.
use Rattle.std.proofs.Common.{codes}
use Rattle.std.proofs.lemmas.Result.{on_ok_weaker}
use Rattle.ssim_sql.specs.Script.{delete}
use Rattle.ssim_sql.proofs.Joining.{seven_joined}
use Rattle.ssim_sql.proofs.script.push_deletes.Goals as goal

pub returns : goal.returns
returns c =
    let of = delete c.args.name.now in
    let old = c.args.script.now.items in
    let first = of (codes "timetable") in let second = of (codes "leg") in
    let third = of (codes "segment") in let fourth = of (codes "station_row") in
    let fifth = of (codes "message") in let sixth = of (codes "sub_message") in
    let last = of (codes "change") in
    on_ok_weaker c.push_delete-7.result
    (λ added. seven_joined old first second third fourth fifth sixth last
    c.in_ok-push_delete.ensures c.in_ok-push_delete-2.ensures c.in_ok-push_delete-3.ensures
    c.in_ok-push_delete-4.ensures c.in_ok-push_delete-5.ensures c.in_ok-push_delete-6.ensures added)
    c.push_delete-7.ensures
