-- The division says which.
use Rattle.std.proofs.Common.{◌≡◌, ◌++◌, List, ℕ, OnOk, sym, ap, subst}
use Rattle.ssim_listing.specs.internal.Divisions.{part_lines}
use Rattle.ssim_listing.specs.declared.division.Division.{Division}
use Rattle.ssim_listing.proofs.lines.push_parts.Goals as goal

pub returns-in-Periods : goal.returns-in-Periods
returns-in-Periods c =
    subst (λ (bytes : List ℕ). OnOk c.push_pieces.result (c.push_pieces.new.lines.items ≡ c.args.lines.now.items ++ bytes))
    (ap (λ (d : Division). part_lines d c.args.name.now c.args.pieces.now) (sym c.in-Periods.is)) c.push_pieces.ensures

pub returns-in-Dates : goal.returns-in-Dates
returns-in-Dates c =
    subst (λ (bytes : List ℕ). OnOk c.push_dates.result (c.push_dates.new.lines.items ≡ c.args.lines.now.items ++ bytes))
    (ap (λ (d : Division). part_lines d c.args.name.now c.args.pieces.now) (sym c.in-Dates.is)) c.push_dates.ensures
