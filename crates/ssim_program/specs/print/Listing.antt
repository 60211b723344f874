-- The flights of an airline, as `list` prints them.
use Rattle.std.specs.Prelude.{ℕ, List, if◌then◌else◌}
use Rattle.ssim_schedule.specs.FlightPieces.{Divided}
use Rattle.ssim_listing.specs.Dates.{dated_listing}
use Rattle.ssim_listing.specs.Lines.{listing}
use Rattle.ssim_listing.specs.Rows.{csv_listing, dated_csv_listing}
use Rattle.ssim_command_line.specs.declared.command_line.ListForm.{ListForm}

-- the flights of an airline with their pieces or date by date, as lines or as CSV
abbrev pub printed_list : ListForm → List ℕ → List Divided → List ℕ
printed_list form airline flights =
    if form.csv
    then (if form.dates then dated_csv_listing airline flights else csv_listing airline flights)
    else (if form.dates then dated_listing airline flights else listing airline flights)
