-- As many of the texts that contracts see are no message.
use Rattle.std.proofs.Common.{◌∙◌, ap, is_some, nat_lt, sym}
use Rattle.ssim_program.specs.internal.Explain.{tried_of}
use Rattle.ssim_program.proofs.Mailboxes.{count-map}
use Rattle.ssim_program.proofs.explain.mail.any_is_none.Goals as goal

pub returns : goal.returns
returns c = ap (nat_lt 0)
    (c.refused_of.ensures ∙ sym (count-map tried_of (λ t. is_some t.1) c.args.texts.now))
