use Rattle.ssim_program.proofs.OfficesAgree.{holds_what_was_brought, offices_agree}
use Rattle.ssim_program.proofs.laws.offices_agree.Goals as goal

pub returns : goal.returns
returns c =
    let one = c.one_message.ensures in
    let again = c.canonical_reads_back.ensures in
    let one_each = c.one_reference.ensures in
    let no_two = c.no_two_desks_have_one_file.ensures in
    record {
      agree = offices_agree one again one_each no_two c.same_bytes_same_base.ensures c.same_bytes_same_rows.ensures;
      holds = holds_what_was_brought one again one_each no_two;
    }
