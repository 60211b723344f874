-- The fields so far were added.
use Rattle.std.proofs.Common.{◌≡◌, ◌++◌, map, take}
use Rattle.csv.specs.Records.{trimmed}
use Rattle.ssim_listing.proofs.csv_rows.push_trimmed.Given as goal

abbrev pub invariant-loop-field : goal.invariant-loop-field
invariant-loop-field l =
    map (λ f. f.now) l.row.items
    ≡ map (λ f. f.now) l.initial.row.items
    ++ map trimmed (map (λ f. f.now) (take l.field-index l.fields))
