-- What is held afterwards is what one of the two holds, and the other too if it was held before.
use Rattle.ssim_program.proofs.MergingSince.{since_commutes, since_is_merging, since_itself}
use Rattle.ssim_program.proofs.laws.merges_since_an_older_desk.Goals as goal

pub returns : goal.returns
returns c = record {
  commutes = since_commutes;
  merges = since_is_merging;
  itself = since_itself;
}
