use Rattle.ssim_program.proofs.EqualBlames.{blame_alike}
use Rattle.ssim_program.proofs.EqualChanges.{diff_alike}
use Rattle.ssim_program.proofs.EqualFiles.{board_alike, changed_page_alike}
use Rattle.ssim_program.proofs.EqualFiles.{history_alike, info_alike, page_alike, show_alike}
use Rattle.ssim_program.proofs.EqualFiles.{stations_alike}
use Rattle.ssim_program.proofs.EqualScripts.{sql_alike}
use Rattle.ssim_program.proofs.EqualConversions.{convert_same}
use Rattle.ssim_program.proofs.EqualParts.{calendar_alike, list_alike, select_alike}
use Rattle.ssim_program.proofs.laws.equal_timetables_do_the_same.Goals as goal

pub returns : goal.returns
returns c =
    let frames = c.frames_are_one.ensures.one in
    let one_base = c.same_bytes_same_base.ensures in
    let no_two = c.no_two_desks_have_one_file.ensures in
    record {
      show = show_alike frames one_base no_two;
      history = history_alike frames one_base no_two;
      blame = blame_alike frames one_base no_two;
      board = board_alike frames one_base no_two;
      list = list_alike frames one_base no_two;
      calendar = calendar_alike frames one_base no_two;
      info = info_alike frames one_base no_two;
      stations = stations_alike frames one_base no_two;
      sql = sql_alike frames one_base no_two;
      page = page_alike frames one_base no_two;
      select = select_alike frames one_base no_two;
      convert = convert_same frames one_base no_two;
      diff = diff_alike frames one_base no_two;
      changed_page = changed_page_alike frames one_base no_two;
    }
