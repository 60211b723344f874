use Rattle.ssim_program.proofs.RefusedMail.{refused_texts_are_mail}
use Rattle.ssim_program.proofs.laws.refused_texts_are_mail.Goals as goal

pub returns : goal.returns
returns c = refused_texts_are_mail c.texts_read_again.ensures
