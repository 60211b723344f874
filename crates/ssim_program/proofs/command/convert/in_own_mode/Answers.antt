-- The schedule has the desk's timetable, which is exported.
use Rattle.std.proofs.Common.{◌≡◌, ◌∙◌, Err, List, ap, inl, refl, rules, subst, sym, ℕ}
use Rattle.ssim_base.specs.Base.{airline_of}
use Rattle.ssim_base.specs.BaseSeen.{BaseSeen}
use Rattle.ssim_base.specs.Export.{Frame}
use Rattle.ssim_base.specs.ReadBack.{HasFrame}
use Rattle.ssim_schedule.specs.clauses.Schedule.{Flown, days_in}
use Rattle.ssim_desk.proofs.Exports.{same_chapter7}
use Rattle.ssim_desk.specs.Desk.{days_of_desk}
use Rattle.ssim_parts.specs.ConversionLines.{unconverted_lines}
use Rattle.ssim_program.proofs.Converting.{no_export, refused_for, same_lines}
use Rattle.ssim_program.proofs.command.convert.in_own_mode.Goals as goal

pub returns-in_err-bytes-clause-err : goal.returns-in_err-bytes-clause-err
returns-in_err-bytes-clause-err c =
    let desk = c.args.desk in
    let base = desk.base.records in
    let old = days_in c.in_ok-schedule.schedule in
    let frame = c.copy-frame.result in
    let fault = c.in_err-bytes.field-0.0 in
    let has : HasFrame frame base =
    subst (λ (f : Frame). HasFrame f base) (sym c.copy-frame.ensures)
    (subst (λ (b : BaseSeen). HasFrame c.frame.result.now b.records) c.base.ensures
    c.frame.ensures) in
    let same = same_chapter7 old (days_of_desk desk) c.in_ok-schedule.ensures frame in
    let is : c.from_residual-in_err-bytes.result ≡ Err fault = search rules in
    rw is (inl (refused_for base (days_of_desk desk) (airline_of base) fault refl
    (no_export frame base old (days_of_desk desk) fault same has c.in_err-bytes.ensures.err)))

pub returns-clause-ok : goal.returns-clause-ok
returns-clause-ok c =
    let desk = c.args.desk in
    let base = desk.base.records in
    let days = days_of_desk desk in
    let old = days_in c.in_ok-schedule.schedule in
    let frame = c.copy-frame.result in
    let has : HasFrame frame base =
    subst (λ (f : Frame). HasFrame f base) (sym c.copy-frame.ensures)
    (subst (λ (b : BaseSeen). HasFrame c.frame.result.now b.records) c.base.ensures
    c.frame.ensures) in
    let same = same_chapter7 old days c.in_ok-schedule.ensures frame in
    let lines = c.in_ok-lines.ensures
    ∙ ap (λ (s : Flown). unconverted_lines (days_in s)) c.in_ok-copy.ensures
    ∙ same_lines old days c.in_ok-schedule.ensures in (
      c.in_ok-bytes.bytes.items,
      (frame, has, sym same ∙ c.in_ok-bytes.ensures.ok),
      ap (λ (l : List ℕ). (c.in_ok-bytes.bytes.items, l)) lines,
    )
