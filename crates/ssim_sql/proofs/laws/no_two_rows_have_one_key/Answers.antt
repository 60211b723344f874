-- The keys of each table.
use Rattle.ssim_sql.proofs.Keys.{no_key_twice}
use Rattle.ssim_sql.proofs.laws.no_two_rows_have_one_key.Goals as goal

pub returns : goal.returns
returns c = no_key_twice
