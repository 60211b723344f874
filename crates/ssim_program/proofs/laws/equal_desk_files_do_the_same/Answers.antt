use Rattle.ssim_program.proofs.EqualFiles.{export_alike}
use Rattle.ssim_program.proofs.EqualSpans.{findings_alike, texts_alike}
use Rattle.ssim_program.proofs.CarriedFiles.{carry_same}
use Rattle.ssim_program.proofs.EqualFiles.{withdraw_same}
use Rattle.ssim_program.proofs.laws.equal_desk_files_do_the_same.Goals as goal

pub returns : goal.returns
returns c =
    let no_two = c.no_two_desks_have_one_file.ensures in
    record {
      texts = texts_alike no_two;
      withdraw = withdraw_same no_two c.one_reference.ensures;
      carry = carry_same no_two;
      findings = findings_alike no_two;
      export = export_alike no_two;
    }
