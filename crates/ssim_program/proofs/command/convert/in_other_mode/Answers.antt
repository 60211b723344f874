-- The schedule that was converted has the timetable in the other time mode, which is exported in the
-- frame of that mode.
use Rattle.std.proofs.Common.{◌≡◌, ◌∙◌, Err, List, ap, inl, rules, subst, sym, ℕ}
use Rattle.ssim_values.specs.Flight.{FlightNumber, IsFlight}
use Rattle.ssim_values.specs.declared.time_mode.TimeMode.{TimeMode}
use Rattle.ssim_base.specs.Base.{airline_of}
use Rattle.ssim_base.specs.BaseSeen.{BaseSeen}
use Rattle.ssim_base.specs.Export.{Frame}
use Rattle.ssim_base.specs.ReadBack.{HasFrame}
use Rattle.ssim_base.specs.Stations.{Row}
use Rattle.ssim_schedule.specs.clauses.Schedule.{days_in}
use Rattle.ssim_schedule.specs.declared.export.ExportFault.TheVariants.{Memory}
use Rattle.ssim_held.specs.Entries.{DeskSeen}
use Rattle.ssim_desk.proofs.Exports.{same_chapter7}
use Rattle.ssim_desk.specs.Desk.{days_of_desk}
use Rattle.ssim_parts.specs.Converted.{converted_days}
use Rattle.ssim_parts.specs.ConversionLines.{conversion_lines}
use Rattle.ssim_parts.specs.FlightFates.{fates_of}
use Rattle.ssim_program.specs.Converting.{days_in_mode, in_mode, in_other_mode}
use Rattle.ssim_program.specs.declared.refusal.Refusal.TheVariants as refused
use Rattle.ssim_program.proofs.Converting.{has_framed, no_export, refused_for, same_airline}
use Rattle.ssim_program.proofs.Converting.{same_fates}
use Rattle.ssim_program.proofs.command.convert.in_other_mode.Goals as goal

no_memory : (mode : TimeMode) (desk : DeskSeen) (frame : Frame) → HasFrame frame desk.base.records
    → in_other_mode mode desk (Err (refused.Export (airline_of desk.base.records) Memory))
no_memory mode desk frame has = let base = desk.base.records in
    inl (refused_for (in_mode mode base) (days_in_mode mode desk) (airline_of base) Memory
    (sym (same_airline mode frame base has)) tt)

pub returns-in_err-old-clause-err : goal.returns-in_err-old-clause-err
returns-in_err-old-clause-err c =
    let has = subst (λ (b : BaseSeen). HasFrame c.frame.result.now b.records) c.base.ensures
    c.frame.ensures in
    let is : c.from_residual.result ≡ Err Memory = search rules in
    rw is (no_memory c.args.mode c.args.desk c.frame.result.now has)

pub returns-in_err-none-clause-err : goal.returns-in_err-none-clause-err
returns-in_err-none-clause-err c =
    let has = subst (λ (b : BaseSeen). HasFrame c.frame.result.now b.records) c.base.ensures
    c.frame.ensures in
    let is : c.from_residual-in_err-none.result ≡ Err Memory = search rules in
    rw is (no_memory c.args.mode c.args.desk c.frame.result.now has)

pub returns-in_err-made-clause-err : goal.returns-in_err-made-clause-err
returns-in_err-made-clause-err c =
    let has = subst (λ (b : BaseSeen). HasFrame c.frame.result.now b.records) c.base.ensures
    c.frame.ensures in
    let is : c.from_residual-in_err-made.result ≡ Err Memory = search rules in
    rw is (no_memory c.args.mode c.args.desk c.frame.result.now has)

pub returns-in_err-lines-clause-err : goal.returns-in_err-lines-clause-err
returns-in_err-lines-clause-err c =
    let has = subst (λ (b : BaseSeen). HasFrame c.frame.result.now b.records) c.base.ensures
    c.frame.ensures in
    let is : c.from_residual-in_err-lines.result ≡ Err Memory = search rules in
    rw is (no_memory c.args.mode c.args.desk c.frame.result.now has)

pub returns-in_err-bytes-clause-err : goal.returns-in_err-bytes-clause-err
returns-in_err-bytes-clause-err c =
    let desk = c.args.desk in
    let mode = c.args.mode in
    let base = desk.base.records in
    let frame = c.with_time_mode-frame.result in
    let has = subst (λ (b : BaseSeen). HasFrame c.frame.result.now b.records) c.base.ensures
    c.frame.ensures in
    let framed : HasFrame frame (in_mode mode base) =
    subst (λ (f : Frame). HasFrame f (in_mode mode base)) (sym c.with_time_mode-frame.ensures)
    (has_framed mode c.frame.result.now base has) in
    let rows : c.rows.result.now ≡ desk.base.rows =
    c.rows.ensures ∙ ap (λ (b : BaseSeen). b.rows) c.base-2.ensures in
    let new = days_in c.in_ok-made.made.schedule in
    let shows : (g : FlightNumber) → IsFlight g → new g ≡ days_in_mode mode desk g =
    λ g is. c.in_ok-made.ensures.days g is
    ∙ ap (converted_days c.rows.result.now mode) (c.in_ok-old.ensures g is)
    ∙ ap (λ (r : List Row). converted_days r mode (days_of_desk desk g)) rows in
    let fault = c.in_err-bytes.field-0.0 in
    let is : c.from_residual-in_err-bytes.result ≡ Err fault = search rules in
    rw is (inl (refused_for (in_mode mode base) (days_in_mode mode desk) (airline_of base) fault
    (sym (same_airline mode c.frame.result.now base has))
    (no_export frame (in_mode mode base) new (days_in_mode mode desk) fault
    (same_chapter7 new (days_in_mode mode desk) shows frame) framed c.in_err-bytes.ensures.err)))

pub returns-clause-ok : goal.returns-clause-ok
returns-clause-ok c =
    let desk = c.args.desk in
    let mode = c.args.mode in
    let base = desk.base.records in
    let days = days_of_desk desk in
    let frame = c.with_time_mode-frame.result in
    let has = subst (λ (b : BaseSeen). HasFrame c.frame.result.now b.records) c.base.ensures
    c.frame.ensures in
    let framed : HasFrame frame (in_mode mode base) =
    subst (λ (f : Frame). HasFrame f (in_mode mode base)) (sym c.with_time_mode-frame.ensures)
    (has_framed mode c.frame.result.now base has) in
    let rows : c.rows.result.now ≡ desk.base.rows =
    c.rows.ensures ∙ ap (λ (b : BaseSeen). b.rows) c.base-2.ensures in
    let old = days_in c.in_ok-old.old in
    let new = days_in c.in_ok-made.made.schedule in
    let shows : (g : FlightNumber) → IsFlight g → new g ≡ days_in_mode mode desk g =
    λ g is. c.in_ok-made.ensures.days g is
    ∙ ap (converted_days c.rows.result.now mode) (c.in_ok-old.ensures g is)
    ∙ ap (λ (r : List Row). converted_days r mode (days g)) rows in
    let fates : c.deref.result.now ≡ fates_of desk.base.rows mode days =
    c.deref.ensures.value ∙ c.in_ok-made.ensures.fates
    ∙ ap (λ (r : List Row). fates_of r mode old) rows
    ∙ same_fates old days c.in_ok-old.ensures desk.base.rows mode in
    let airline = c.airline-airline.ensures ∙ ap airline_of c.data_set.ensures in
    let lines = c.in_ok-lines.ensures desk.base.rows mode days fates
    ∙ ap (λ (a : List ℕ). conversion_lines a desk.base.rows mode days) airline in (
      c.in_ok-bytes.bytes.items,
      (
        frame,
        framed,
        sym (same_chapter7 new (days_in_mode mode desk) shows frame) ∙ c.in_ok-bytes.ensures.ok,
      ),
      ap (λ (l : List ℕ). (c.in_ok-bytes.bytes.items, l)) lines,
    )
