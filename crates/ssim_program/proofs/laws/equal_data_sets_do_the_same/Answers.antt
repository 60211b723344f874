use Rattle.ssim_program.proofs.EqualDataSets.{check_alike, problems_same, tidy_alike}
use Rattle.ssim_program.proofs.laws.equal_data_sets_do_the_same.Goals as goal

pub returns : goal.returns
returns c =
    let frames = c.frames_are_one.ensures.one in
    let one_base = c.same_bytes_same_base.ensures in
    record {
      check = check_alike frames one_base;
      problems = problems_same c.same_bytes_same_problems.ensures;
      tidy = tidy_alike frames one_base;
    }
