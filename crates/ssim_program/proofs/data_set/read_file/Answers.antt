-- The file was opened, and read to its end.
use Rattle.ssim_program.proofs.Within.{read_within}
use Rattle.ssim_program.proofs.data_set.read_file.Goals as goal

pub returns-clause-within : goal.returns-clause-within
returns-clause-within g c =
    let files = g.S.Store.files c.args.store.now in
    let opened = c.in_ok-file.ensures.opened in
    read_within files c.args.name.now c.read_opened.result (c.read_opened.ensures.read files opened) (c.read_opened.ensures.fault files opened)
