-- The division says which rows. The dates are behind references.
use Rattle.std.proofs.Common.{◌≡◌, ◌∙◌, ◌++◌, Bor, List, ℕ, OnOk, sym, ap, subst}
use Rattle.std.specs.List.{flat_map}
use Rattle.std.proofs.lemmas.List.Folds.{flat_map-map}
use Rattle.ssim_base.specs.Timetable.{Legs}
use Rattle.ssim_listing.specs.Dates.{FlightDate}
use Rattle.ssim_listing.specs.Rows.{date_rows}
use Rattle.ssim_listing.specs.internal.Divisions.{divided_rows}
use Rattle.ssim_listing.specs.internal.FlightDates.{seen_dates}
use Rattle.ssim_listing.specs.declared.division.Division.{Division}
use Rattle.ssim_listing.proofs.rows.put_flight.Goals as goal

pub returns-in-Periods : goal.returns-in-Periods
returns-in-Periods c =
    subst (λ (bytes : List ℕ). OnOk c.put_each.result (c.put_each.new.rows ≡ c.args.rows.now ++ bytes))
    (ap (λ (d : Division). divided_rows d c.args.name.now c.args.pieces.now) (sym c.in-Periods.is))
    c.put_each.ensures

pub returns-in_ok-dates-in-Dates : goal.returns-in_ok-dates-in-Dates
returns-in_ok-dates-in-Dates c =
    let rows = date_rows c.args.name.now in
    let seen : ℕ × Bor Legs → FlightDate = λ date. (date.0, date.1.now) in
    subst (λ (bytes : List ℕ). OnOk c.put_each-in-Dates.result
    (c.put_each-in-Dates.new.rows ≡ c.args.rows.now ++ bytes))
    (sym (flat_map-map rows seen c.deref.result.now)
    ∙ (ap (flat_map rows) (ap seen_dates c.deref.ensures.value ∙ c.in_ok-dates-in-Dates.ensures)
    ∙ ap (λ (d : Division). divided_rows d c.args.name.now c.args.pieces.now) (sym c.in-Dates.is)))
    c.put_each-in-Dates.ensures
