-- std and the crate `csv` trim alike.
use Rattle.ssim_listing.proofs.Trimming.{same_trim}
use Rattle.ssim_listing.proofs.csv_rows.trimmed.Goals as goal

pub returns : goal.returns
returns c = same_trim c.args.field.now c.trim_ascii.result.now c.trim_ascii.ensures.value
