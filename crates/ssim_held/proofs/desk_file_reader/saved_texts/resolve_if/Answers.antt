-- A message that is refused resolves to nothing.
use Rattle.ssim_held.proofs.SavedTexts.{refused_none}
use Rattle.ssim_held.proofs.desk_file_reader.saved_texts.resolve_if.Goals as goal

pub returns-in-Ok-clause-some : goal.returns-in-Ok-clause-some
returns-in-Ok-clause-some c = c.in-Ok.ensures.ok c.args.data_set.now c.frame.ensures.frame

pub returns-in_default-clause-none : goal.returns-in_default-clause-none
returns-in_default-clause-none c =
    let records = c.args.data_set.now in
    refused_none c.resolving_has_one_outcome.ensures records c.args.message.now c.in-Err.fault c.in_default.not-Memory (c.in-Err.ensures.err records c.frame.ensures.frame)
