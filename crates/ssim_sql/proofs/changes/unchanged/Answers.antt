-- Without messages no flight differs from the data set.
use Rattle.std.proofs.Common.{◌≡◌, ◌∙◌, List, ap, refl, sym}
use Rattle.ssim_base.specs.Timetable.{days_of}
use Rattle.ssim_held.specs.Entries.{Entry}
use Rattle.ssim_desk.specs.Desk.{days_of_desk}
use Rattle.ssim_difference.specs.Differences.{differences}
use Rattle.ssim_difference.proofs.Listed.{none_differ}
use Rattle.ssim_sql.proofs.changes.unchanged.Goals as goal

pub returns-clause-changes : goal.returns-clause-changes
returns-clause-changes c =
    let desk = c.args.desk in
    let before = days_of desk.base.records in
    let same : days_of_desk desk ≡ before =
    ap (λ (es : List Entry). days_of_desk
    (record { base = desk.base; held = es; applied = desk.applied })) c.requires in
    c.new.ensures.items
    ∙ sym (ap (differences before) same ∙ (none_differ before before).1 (λ flight n is within. refl))
