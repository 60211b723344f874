-- No text so far has a message.
use Rattle.std.proofs.Common.{◌≡◌, drop, map}
use Rattle.std.specs.List.{list_any}
use Rattle.ssim_program.specs.Mailboxes.{has_message}
use Rattle.ssim_program.specs.internal.Explain.{tried_of}
use Rattle.ssim_program.proofs.explain.mail.have_message.Given as goal

abbrev pub invariant-loop-text : goal.invariant-loop-text
invariant-loop-text l =
    list_any has_message (map (λ t. (tried_of t).0) l.texts)
    ≡ list_any has_message (map (λ t. (tried_of t).0) (drop l.text-index l.texts))
